-- The elements that are told, cut as the events hand them over, and their words.
use Rattle.std.proofs.Common.{◌≡◌, ℕ, ◌<◌, ◌≤◌, ◌^◌, true, false, if◌then◌else◌, List, [], ◌∷◌, ◌++◌, length, map, drop, refl, sym}
use Rattle.std.proofs.Common.{Option, Some, None, ap, ◌∙◌, ◌+◌, arith, append_assoc, length-append}
use Rattle.std.specs.Prelude.{Bool, nat_le, nat_lt, ◌-◌, ◌&&◌}
use Rattle.std.proofs.lemmas.Bool.{leb-true, ltb-true}
use Rattle.std.proofs.lemmas.List.{map-append, length-map, take_at, drop_at}
use Rattle.proto_core.proofs.Beginnings.{append-none}
use Rattle.gates.specs.declared.gate.Gate.{Gate}
use Rattle.gates.specs.declared.gate.Gate.TheVariants.{Result}
use Rattle.gates.specs.Clear.{Values, value}
use Rattle.gates.specs.Counts.{made_by}
use Rattle.program_trees.specs.declared.expression.DataType.{DataType}
use Rattle.program_trees.specs.declared.expression.DataType.TheVariants.{Uint64, Int64}
use Rattle.program_trees.specs.declared.expression.DataType.TheVariants as datatype
use Rattle.sc_text.specs.declared.elements.Element.{Element}
use Rattle.sc_text.specs.declared.elements.Element.TheVariants.{Word, Negative}
use Rattle.sc_text.specs.declared.elements.ElementKind.{ElementKind}
use Rattle.sc_text.specs.declared.event.Event.{Event}
use Rattle.sc_text.specs.declared.event.Event.TheVariants.{Open, Publish, Hand}
use Rattle.language_model.specs.Values.{element_as, element_of, printed_kind, signed_element}
use Rattle.language_model.specs.Learned.{element_word, elements_words}
use Rattle.blind_evaluation.specs.Courses.{LikeEvents}
use Rattle.gate_laws.specs.Dealt.{InRange, bound}
use Rattle.gate_laws.specs.Facts as facts
use Rattle.gate_laws.proofs.GateWords.{told_words}
use Rattle.gate_laws.proofs.Meanings.{of_bit}
use Rattle.gate_laws.proofs.Ranges.{below_head, below_tail}
use Rattle.view_model.proofs.Corresponding.{le_true}
use Rattle.handed_shares.specs.Handed.{all_of, handed_values}
use Rattle.client_view.specs.Views.{handed_elements, gate_words_of, published_of, and_then, told_elements, told_events}

-- ---- ELEMENTS OF A KIND

-- elements that words of this kind are told as
abbrev AreOf : ElementKind → List Element → Type 0
AreOf kind elements = map (element_as kind) (map element_word elements) ≡ elements

-- all that events hand over are elements of the kind that is told with them
abbrev pub HaveKinds : List Event → Type 0
HaveKinds [] = Unit {0}
HaveKinds (Open elements ∷ es) = HaveKinds es
HaveKinds (Publish text elements ∷ es) = HaveKinds es
HaveKinds (Hand text kind elements ∷ es) = AreOf kind elements × HaveKinds es

-- a number with a sign has its word
signed_word : (x : ℕ) → element_word (signed_element x) ≡ x
signed_word x = go (nat_le (2 ^ 63) x) (nat_lt x (2 ^ 64)) refl refl
  where
    go : (high low : Bool) → nat_le (2 ^ 63) x ≡ high → nat_lt x (2 ^ 64) ≡ low
        → element_word (if high && low then Negative (2 ^ 64 - x) else Word x) ≡ x
    go true true e f = let at_least = leb-true (2 ^ 63) x e in let below = ltb-true x (2 ^ 64) f in omega (arith, at_least, below)
    go true false e f = refl
    go false low e f = refl

told_back : (e : DataType) (x : ℕ) → x < bound e → element_as (printed_kind e) (element_word (element_of e x)) ≡ element_of e x
told_back Uint64 x h = refl
told_back Int64 x h = ap signed_element (signed_word x)
told_back datatype.Bool x h =
    of_bit (λ x. element_as (printed_kind datatype.Bool) (element_word (element_of datatype.Bool x)) ≡ element_of datatype.Bool x) refl refl x h

all_back : (e : DataType) (words : List ℕ) → InRange e words → AreOf (printed_kind e) (map (element_of e) words)
all_back e [] h = refl
all_back e (x ∷ xs) h =
    ap (λ (y : Element). y ∷ map (element_as (printed_kind e)) (map element_word (map (element_of e) xs))) (told_back e x (below_head (bound e) x xs h))
    ∙ ap (λ (ys : List Element). element_of e x ∷ ys) (all_back e xs (below_tail (bound e) x xs h))

kinds_more : (es fs : List Event) → HaveKinds es → HaveKinds fs → HaveKinds (es ++ fs)
kinds_more [] fs h k = k
kinds_more (Open elements ∷ es) fs h k = kinds_more es fs h k
kinds_more (Publish text elements ∷ es) fs h k = kinds_more es fs h k
kinds_more (Hand text kind elements ∷ es) fs h k = (h.0, kinds_more es fs h.1 k)

pub have_kinds : (es : List Event) (vs : Values) → facts.Handed es vs → HaveKinds es
have_kinds _ _ facts.nothing_handed = tt
have_kinds _ _ (facts.and_opened {es = es} {vs = vs} elements h) = kinds_more es (Open elements ∷ []) (have_kinds es vs h) tt
have_kinds _ _ (facts.and_published {es = es} {vs = vs} text elements h) = kinds_more es (Publish text elements ∷ []) (have_kinds es vs h) tt
have_kinds _ _ (facts.and_handed {es = es} {vs = vs} text e words range h) =
    kinds_more es (Hand text (printed_kind e) (map (element_of e) words) ∷ []) (have_kinds es vs h) (all_back e words range, tt)

-- ---- TOLD EVENTS

abbrev handing : (text : List ℕ) (kind : ElementKind) (events : List Event) (published : List ℕ) → ℕ → Option (List Event)
handing text kind events published n =
    if nat_le n (length published) then and_then (Hand text kind (told_elements kind n published)) (told_events events (drop n published)) else None

-- told its own words first
handing_own :
    (text : List ℕ) (kind : ElementKind) (events rest : List Event) (elements : List Element) (more : List ℕ) → AreOf kind elements
    → told_events events more ≡ Some rest
    → handing text kind events (map element_word elements ++ more) (length elements) ≡ Some (Hand text kind elements ∷ rest)
handing_own text kind events rest elements more are told =
    let words : List ℕ = map element_word elements in
    let many : length words ≡ length elements = length-map elements element_word in
    ap
    (λ b.
    if b then and_then (Hand text kind (told_elements kind (length elements) (words ++ more))) (told_events events (drop (length elements) (words ++ more)))
    else None)
    (le_true (length elements) (length (words ++ more)) (room (length elements) (length more) (length (words ++ more))
    (length-append words more ∙ ap (λ n. n + length more) many)))
    ∙ ap (λ (ws : List ℕ). and_then (Hand text kind (map (element_as kind) ws)) (told_events events (drop (length elements) (words ++ more))))
    (take_at words more (length elements) many)
    ∙ ap (λ (es : List Element). and_then (Hand text kind es) (told_events events (drop (length elements) (words ++ more)))) are
    ∙ ap (λ (ws : List ℕ). and_then (Hand text kind elements) (told_events events ws)) (drop_at words more (length elements) many)
    ∙ ap (and_then (Hand text kind elements)) told
  where
    room : (n m l : ℕ) → l ≡ n + m → n ≤ l
    room n m l e = omega (arith, e)

-- who knows the course, and is told the words of what a run hands over, has the run's events
pub told_exactly : (es fs : List Event) → LikeEvents es fs → HaveKinds es → (more : List ℕ) → told_events fs (published_of es ++ more) ≡ Some es
told_exactly [] [] h kinds more = refl
told_exactly [] (f ∷ fs) h kinds more = absurd h
told_exactly (e ∷ es) [] h kinds more = absurd h
told_exactly (Open elements ∷ es) (Open others ∷ fs) h kinds more =
    ap (and_then (Open others)) (told_exactly es fs h.1 kinds more) ∙ ap (λ (x : List Element). Some (Open x ∷ es)) (sym h.0)
told_exactly (Publish text elements ∷ es) (Publish text' others ∷ fs) h kinds more =
    ap (and_then (Publish text' others)) (told_exactly es fs h.1 kinds more)
    ∙ ap (λ (x : List ℕ). Some (Publish x others ∷ es)) (sym h.0.0)
    ∙ ap (λ (x : List Element). Some (Publish text x ∷ es)) (sym h.0.1)
told_exactly (Hand text kind elements ∷ es) (Hand text' kind' others ∷ fs) h kinds more =
    ap (handing text' kind' fs ((map element_word elements ++ published_of es) ++ more)) (sym h.0.2)
    ∙ ap (λ (x : List ℕ). handing x kind' fs ((map element_word elements ++ published_of es) ++ more) (length elements)) (sym h.0.0)
    ∙ ap (λ (x : ElementKind). handing text x fs ((map element_word elements ++ published_of es) ++ more) (length elements)) (sym h.0.1)
    ∙ ap (λ (x : List ℕ). handing text kind fs x (length elements)) (append_assoc (map element_word elements) (published_of es) more)
    ∙ handing_own text kind fs es elements (published_of es ++ more) kinds.0 (told_exactly es fs h.1 kinds.1 more)
told_exactly (Open elements ∷ es) (Publish text others ∷ fs) h kinds more = absurd h.0
told_exactly (Open elements ∷ es) (Hand text kind others ∷ fs) h kinds more = absurd h.0
told_exactly (Publish text elements ∷ es) (Open others ∷ fs) h kinds more = absurd h.0
told_exactly (Publish text elements ∷ es) (Hand text' kind others ∷ fs) h kinds more = absurd h.0
told_exactly (Hand text kind elements ∷ es) (Open others ∷ fs) h kinds more = absurd h.0
told_exactly (Hand text kind elements ∷ es) (Publish text' others ∷ fs) h kinds more = absurd h.0

-- ---- WORDS

pub handed_append : (es fs : List Event) → handed_elements (es ++ fs) ≡ handed_elements es ++ handed_elements fs
handed_append [] fs = refl
handed_append (Open elements ∷ es) fs = handed_append es fs
handed_append (Publish text elements ∷ es) fs = handed_append es fs
handed_append (Hand text kind elements ∷ es) fs = ap (λ (xs : List (List Element)). elements ∷ xs) (handed_append es fs)

words_append : (es fs : List Event) → gate_words_of (es ++ fs) ≡ gate_words_of es ++ gate_words_of fs
words_append es fs = ap (map elements_words) (handed_append es fs) ∙ map-append elements_words (handed_elements es) (handed_elements fs)

-- the events that hand over have the gates' words of what is handed over
pub handed_words : (es : List Event) (vs : Values) → facts.Handed es vs → gate_words_of es ≡ vs
handed_words _ _ facts.nothing_handed = refl
handed_words _ _ (facts.and_opened {es = es} {vs = vs} elements h) =
    words_append es (Open elements ∷ []) ∙ append-none (gate_words_of es) ∙ handed_words es vs h
handed_words _ _ (facts.and_published {es = es} {vs = vs} text elements h) =
    words_append es (Publish text elements ∷ []) ∙ append-none (gate_words_of es) ∙ handed_words es vs h
handed_words _ _ (facts.and_handed {es = es} {vs = vs} text e words range h) =
    words_append es (Hand text (printed_kind e) (map (element_of e) words) ∷ [])
    ∙ ap (λ (xs : Values). xs ++ elements_words (map (element_of e) words) ∷ []) (handed_words es vs h)
    ∙ ap (λ (xs : List ℕ). vs ++ xs ∷ []) (told_words e words range)

-- ---- WHAT GATES HAND OVER

-- all of it
pub all_handed : (values : Values) (gates : List Gate) (next : ℕ) → handed_values all_of next values gates ≡ facts.handed_values values gates
all_handed values [] next = refl
all_handed values (Result ring u ∷ gates) next = ap (λ (vs : Values). value values u ∷ vs) (all_handed values gates (next + 1))
all_handed values (gate ∷ gates) next = all_handed values gates (next + made_by gate)
