-- The words of a value in the gates, by its elements.
use Rattle.std.proofs.Common.{◌≡◌, ℕ, zero, suc, ◌<◌, ◌^◌, List, [], ◌∷◌, ◌++◌, length, map, not, ◌==◌, refl, sym, ap, ◌∙◌, subst, arith, append_assoc}
use Rattle.std.proofs.Common.{append-nil}
use Rattle.std.specs.Prelude.{Bool, true, false, nat_le, nat_lt, ◌-◌, ◌&&◌, if◌then◌else◌}
use Rattle.sc_text.specs.declared.elements.Element.{Element}
use Rattle.sc_text.specs.declared.elements.Element.TheVariants.{Word, Negative, Truth}
use Rattle.sc_text.specs.declared.event.Event.{Event}
use Rattle.sc_text.specs.declared.event.Event.TheVariants.{Open, Publish, Hand}
use Rattle.program_trees.specs.declared.expression.DataType.{DataType}
use Rattle.program_trees.specs.declared.expression.DataType.TheVariants.{Uint64, Int64}
use Rattle.program_trees.specs.declared.expression.DataType.TheVariants as datatype
use Rattle.proto_core.specs.Lists.{at, AreWords}
use Rattle.std.proofs.lemmas.Bool.{leb-true, ltb-true}
use Rattle.language_model.specs.Values.{element_of, signed_element, gate_words, gate_size}
use Rattle.language_model.specs.Learned.{element_word, elements_words, learned_of}
use Rattle.gates.specs.Bits.{words_for, words_with}
use Rattle.gates.specs.Gathered.{packed}
use Rattle.gates.proofs.Packing.{packed-words, length-packed}
use Rattle.gate_laws.specs.Dealt.{InRange}
use Rattle.gate_laws.proofs.Ranges.{Below, below_head, below_tail}
use Rattle.gate_laws.proofs.Meanings.{of_bit}

pub gate_words_are : (e : DataType) (words : List ℕ) → InRange e words → AreWords (gate_words e words)
gate_words_are Uint64 words h = h
gate_words_are Int64 words h = h
gate_words_are datatype.Bool words h = packed-words words

pub gate_words_size : (e : DataType) (words : List ℕ) → length (gate_words e words) ≡ gate_size e (length words)
gate_words_size Uint64 words = refl
gate_words_size Int64 words = refl
gate_words_size datatype.Bool words = length-packed words

-- equally many elements have equally many words
pub same_gate_size : (e : DataType) (xs ys : List ℕ) → length xs ≡ length ys → length (gate_words e xs) ≡ length (gate_words e ys)
same_gate_size e xs ys same = gate_words_size e xs ∙ ap (gate_size e) same ∙ sym (gate_words_size e ys)

-- a scalar has one word
pub single_word : (e : DataType) (words : List ℕ) → length words ≡ 1 → length (gate_words e words) ≡ 1
single_word Uint64 words h = h
single_word Int64 words h = h
single_word datatype.Bool words h = length-packed words ∙ ap words_for h

-- ---- what is told

words_again : (xs : List ℕ) → map element_word (map (element_of Uint64) xs) ≡ xs
words_again [] = refl
words_again (x ∷ xs) = ap (λ z. x ∷ z) (words_again xs)

-- a number with a sign is printed as it is or below 0
signed_word : (x : ℕ) → element_word (signed_element x) ≡ x
signed_word x = go (nat_le (2 ^ 63) x) (nat_lt x (2 ^ 64)) refl refl
  where
    go : (high low : Bool) → nat_le (2 ^ 63) x ≡ high → nat_lt x (2 ^ 64) ≡ low
        → element_word (if high && low then Negative (2 ^ 64 - x) else Word x) ≡ x
    go true true e f = let at_least = leb-true (2 ^ 63) x e in let below = ltb-true x (2 ^ 64) f in omega (arith, at_least, below)
    go true false e f = refl
    go false low e f = refl

signed_again : (xs : List ℕ) → map element_word (map (element_of Int64) xs) ≡ xs
signed_again [] = refl
signed_again (x ∷ xs) = ap (λ z. z ∷ map element_word (map (element_of Int64) xs)) (signed_word x) ∙ ap (λ z. x ∷ z) (signed_again xs)

signed_first : (x : ℕ) (es : List Element) → elements_words (signed_element x ∷ es) ≡ map element_word (signed_element x ∷ es)
signed_first x es = go (nat_le (2 ^ 63) x && nat_lt x (2 ^ 64))
  where
    go : (t : Bool)
        → elements_words ((if t then Negative (2 ^ 64 - x) else Word x) ∷ es) ≡ map element_word ((if t then Negative (2 ^ 64 - x) else Word x) ∷ es)
    go true = refl
    go false = refl

truths_again : (xs : List ℕ) → Below 2 xs → map element_word (map (element_of datatype.Bool) xs) ≡ xs
truths_again [] p = refl
truths_again (x ∷ xs) p =
    ap (λ z. z ∷ map element_word (map (element_of datatype.Bool) xs))
    (of_bit (λ x. element_word (element_of datatype.Bool x) ≡ x) refl refl x (below_head 2 x xs p))
    ∙ ap (λ z. x ∷ z) (truths_again xs (below_tail 2 x xs p))

none_packed : packed [] ≡ []
unfolding packed words_with
none_packed = refl

pub told_words : (e : DataType) (words : List ℕ) → InRange e words → elements_words (map (element_of e) words) ≡ gate_words e words
told_words Uint64 [] h = refl
told_words Uint64 (x ∷ xs) h = words_again (x ∷ xs)
told_words Int64 [] h = refl
told_words Int64 (x ∷ xs) h = signed_first x (map (element_of Int64) xs) ∙ signed_again (x ∷ xs)
told_words datatype.Bool [] h = sym none_packed
told_words datatype.Bool (x ∷ xs) h = ap packed (truths_again (x ∷ xs) h)

pub learned_then : (es fs : List Event) → learned_of (es ++ fs) ≡ learned_of es ++ learned_of fs
learned_then [] fs = refl
learned_then (Open elements ∷ es) fs =
    ap (λ z. elements_words elements ++ z) (learned_then es fs) ∙ sym (append_assoc (elements_words elements) (learned_of es) (learned_of fs))
learned_then (Publish text elements ∷ es) fs = learned_then es fs
learned_then (Hand text kind elements ∷ es) fs = learned_then es fs

-- what isn't an opening teaches nothing
pub learned_still : (es : List Event) (e : Event) → learned_of (e ∷ []) ≡ [] → learned_of (es ++ e ∷ []) ≡ learned_of es
learned_still es e none = learned_then es (e ∷ []) ∙ ap (λ z. learned_of es ++ z) none ∙ append-nil (learned_of es)

pub learned_opened : (es : List Event) (e : DataType) (words : List ℕ) → InRange e words
    → learned_of (es ++ Open (map (element_of e) words) ∷ []) ≡ learned_of es ++ gate_words e words
learned_opened es e words range =
    learned_then es (Open (map (element_of e) words) ∷ [])
    ∙ ap (λ z. learned_of es ++ z) (append-nil (elements_words (map (element_of e) words)) ∙ told_words e words range)

-- of numbers, whatever they are
pub learned_numbers : (es : List Event) (words : List ℕ) → learned_of (es ++ Open (map (element_of Uint64) words) ∷ []) ≡ learned_of es ++ words
learned_numbers es words =
    learned_then es (Open (map (element_of Uint64) words) ∷ [])
    ∙ ap (λ z. learned_of es ++ z) (append-nil (elements_words (map (element_of Uint64) words)) ∙ told words)
  where
    told : (words : List ℕ) → elements_words (map (element_of Uint64) words) ≡ words
    told [] = refl
    told (x ∷ xs) = words_again (x ∷ xs)

pub learned_signed : (es : List Event) (words : List ℕ) → learned_of (es ++ Open (map (element_of Int64) words) ∷ []) ≡ learned_of es ++ words
learned_signed es words =
    learned_then es (Open (map (element_of Int64) words) ∷ [])
    ∙ ap (λ z. learned_of es ++ z) (append-nil (elements_words (map (element_of Int64) words)) ∙ told words)
  where
    told : (words : List ℕ) → elements_words (map (element_of Int64) words) ≡ words
    told [] = refl
    told (x ∷ xs) = signed_first x (map (element_of Int64) xs) ∙ signed_again (x ∷ xs)
