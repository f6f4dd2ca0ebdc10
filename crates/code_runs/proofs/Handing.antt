-- What a step hands over stands among the values that its gates make for that.
use Rattle.std.proofs.Common.{◌≡◌, ℕ, zero, suc, ◌+◌, ◌<◌, List, [], ◌∷◌, ◌++◌, length, refl, sym, ap, ◌∙◌, subst, arith}
use Rattle.std.proofs.Common.{append_assoc, append-nil, length-append}
use Rattle.std.proofs.lemmas.List.{get_or_append_left}
use Rattle.sc_text.specs.declared.elements.ElementKind.{ElementKind}
use Rattle.sc_text.specs.declared.event.Event.{Event}
use Rattle.sc_text.specs.declared.event.Event.TheVariants.{Open, Publish, Hand}
use Rattle.proto_core.specs.declared.party.Number.{Number}
use Rattle.proto_core.specs.Lists.{AreWords}
use Rattle.proto_core.specs.Strand.{Notice, Shown, Published, Handed}
use Rattle.protocol_model.specs.Gates.{Joined, Local}
use Rattle.protocol_model.specs.Gates as model
use Rattle.protocol_model.specs.Runs.{Shares, Tapes, drawn, left, gate_joint, after, after_local, run_values}
use Rattle.gates.specs.declared.gate.Gate.{Gate}
use Rattle.gates.specs.declared.gate.Gate.TheVariants.{Result}
use Rattle.gates.specs.Clear.{Values, value, FitFrom}
use Rattle.gates.specs.Counts.{made_by, made_by_all}
use Rattle.shared_gates.specs.Shares.{Kind}
use Rattle.shared_gates.specs.Model.{miner_of}
use Rattle.gate_laws.specs.GateRuns.{model_gates, end_shares}
use Rattle.gate_laws.proofs.GateRunLaws.{run-count}
use Rattle.language_model.specs.Effects.{Clear, Stage}
use Rattle.language_model.specs.Reports.{Offered, world_of}
use Rattle.language_model.specs.Tapes.{AtMost}
use Rattle.language_model.specs.Values.{gate_words, printed_kind}
use Rattle.gate_laws.specs.Facts as facts
use Rattle.gate_laws.specs.Facts.{handed_values, none_of, run_at, IsAt}
use Rattle.gate_laws.specs.Dealt.{Dealt, drawn_by}
use Rattle.code_places.specs.Places.{run_dealt}
use Rattle.code_runs.specs.Handing.{handed_in, kept_of_gate, kept_from}
use Rattle.code_runs.proofs.Values.{computed, ready}
use Rattle.code_runs.proofs.Shown.{behind, left_behind, behind_then}

-- ---- NOTICES

pub handed-append : (ns ms : List Notice) → handed_in (ns ++ ms) ≡ handed_in ns ++ handed_in ms
handed-append [] ms = refl
handed-append (Shown form words ∷ ns) ms = handed-append ns ms
handed-append (Published text form words ∷ ns) ms = handed-append ns ms
handed-append (Handed text form count words ∷ ns) ms = ap (λ (vs : Values). words ∷ vs) (handed-append ns ms)

-- ---- HOW MANY

hand : Event → ℕ
hand (Open elements) = 0
hand (Publish text elements) = 0
hand (Hand text kind elements) = 1

pub hands : List Event → ℕ
hands [] = 0
hands (e ∷ es) = hand e + hands es

hands-append : (es fs : List Event) → hands (es ++ fs) ≡ hands es + hands fs
unfolding hands
hands-append [] fs = omega arith
hands-append (e ∷ es) fs = let rest = hands-append es fs in omega (arith, rest)

pub hands-opened : (es : List Event) (elements : List _) → hands (es ++ Open elements ∷ []) ≡ hands es
unfolding hands hand
hands-opened es elements = let a = hands-append es (Open elements ∷ []) in omega (arith, a)

pub hands-published : (es : List Event) (text : List ℕ) (elements : List _) → hands (es ++ Publish text elements ∷ []) ≡ hands es
unfolding hands hand
hands-published es text elements = let a = hands-append es (Publish text elements ∷ []) in omega (arith, a)

hands-handed : (es : List Event) (text : List ℕ) (kind : ElementKind) (elements : List _) → hands (es ++ Hand text kind elements ∷ []) ≡ hands es + 1
unfolding hands hand
hands-handed es text kind elements = let a = hands-append es (Hand text kind elements ∷ []) in omega (arith, a)

-- as many as there are events that hand over
handed-count : (es : List Event) (vs : Values) → facts.Handed es vs → length vs ≡ hands es
unfolding hands hand
handed-count _ _ facts.nothing_handed = refl
handed-count _ _ (facts.and_opened {es = es} {vs = vs} elements h) =
    let e = handed-count es vs h in let a = hands-append es (Open elements ∷ []) in omega (arith, e, a)
handed-count _ _ (facts.and_published {es = es} {vs = vs} text elements h) =
    let e = handed-count es vs h in let a = hands-append es (Publish text elements ∷ []) in omega (arith, e, a)
handed-count _ _ (facts.and_handed {es = es} {vs = vs} text d words range h) =
    length-append vs (gate_words d words ∷ []) ∙ ap (λ n. n + 1) (handed-count es vs h) ∙ sym (hands-handed es text (printed_kind d) _)

-- ---- GATES

kept_count : Gate → ℕ
kept_count (Result ring u) = 1
kept_count gate = 0

results : List Gate → ℕ
results [] = 0
results (gate ∷ gates) = kept_count gate + results gates

results-append : (xs ys : List Gate) → results (xs ++ ys) ≡ results xs + results ys
unfolding results
results-append [] ys = omega arith
results-append (g ∷ xs) ys = let rest = results-append xs ys in omega (arith, rest)

one_handed : (values : Values) (g : Gate) → length (facts.handed_by_gate values g) ≡ kept_count g
unfolding kept_count
one_handed values (Result ring u) = refl
one_handed values g = refl

handed-results : (values : Values) (gates : List Gate) → length (handed_values values gates) ≡ results gates
unfolding results
handed-results values [] = refl
handed-results values (g ∷ gates) =
    length-append (facts.handed_by_gate values g) (handed_values values gates)
    ∙ ap (λ n. n + length (handed_values values gates)) (one_handed values g)
    ∙ ap (λ n. kept_count g + n) (handed-results values gates)

not_one : (n : ℕ) → 1 + n ≡ 0 → ⊥
not_one n e = omega (arith, e)

rest_none : (n : ℕ) → 0 + n ≡ 0 → n ≡ 0
rest_none n e = omega (arith, e)

none-kept : (next : ℕ) (own : Values) (gates : List Gate) → results gates ≡ 0 → kept_from next own gates ≡ []
unfolding results kept_count
none-kept next own [] e = refl
none-kept next own (Result ring u ∷ gates) e = absurd (not_one (results gates) e)
none-kept next own (g ∷ gates) e = none-kept (next + made_by g) own gates (rest_none (results gates) e)

pub kept-append :
    (next : ℕ) (own : Values) (xs ys : List Gate) → kept_from next own (xs ++ ys) ≡ kept_from next own xs ++ kept_from (next + made_by_all xs) own ys
kept-append next own [] ys = ap (λ n. kept_from n own ys) (omega arith)
kept-append next own (g ∷ xs) ys =
    ap (λ vs. kept_of_gate next own g ++ vs) (kept-append (next + made_by g) own xs ys)
    ∙ sym (append_assoc (kept_of_gate next own g) (kept_from (next + made_by g) own xs) (kept_from (next + made_by g + made_by_all xs) own ys))
    ∙ ap (λ n. kept_from next own (g ∷ xs) ++ kept_from n own ys) (omega arith)

-- values of the same words
abbrev AreSame : (next : ℕ) → (own other : Values) → List Gate → Type 0
AreSame next own other gates = (k : ℕ) → k < next + made_by_all gates → value own k ≡ value other k

first_below : (next made rest : ℕ) → 0 < made → next < next + (made + rest)
first_below next made rest h = omega (arith, h)

kept-same : (next : ℕ) (own other : Values) (gates : List Gate) → AreSame next own other gates → kept_from next own gates ≡ kept_from next other gates
kept-same next own other [] h = refl
kept-same next own other (Result ring u ∷ gates) h =
    ap (λ (v : List ℕ). v ∷ kept_from (next + 1) own gates) (h next (omega arith))
    ∙ ap (λ (vs : Values). value other next ∷ vs) (kept-same (next + 1) own other gates (λ k l. h k (omega (arith, l))))
kept-same next own other (g ∷ gates) h = kept-same (next + made_by g) own other gates (λ k l. h k (omega (arith, l)))

-- ---- VALUES STAY WHERE THEY ARE MADE

longer : (k : ℕ) (xs ys : Values) → k < length xs → k < length (xs ++ ys)
longer k xs ys lt = let l = length-append xs ys in omega (arith, lt, l)

run-keeps : (gates : List model.Gate) (values : Shares) (tapes : Tapes) (i : Number) (k : ℕ) → k < length (values i)
    → value (run_values gates values tapes i) k ≡ value (values i) k
run-keeps [] values tapes i k lt = refl
run-keeps (Joined p n u v ∷ gates) values tapes i k lt =
    let out = p.output n (gate_joint u v values (drawn p n tapes)) i in
    run-keeps gates (after p n u v values (drawn p n tapes)) (left p n tapes) i k (longer k (values i) out lt)
    ∙ get_or_append_left (values i) out [] k lt
run-keeps (Local n f ∷ gates) values tapes i k lt =
    run-keeps gates (after_local f values) tapes i k (longer k (values i) (f i (values i) ∷ []) lt)
    ∙ get_or_append_left (values i) (f i (values i) ∷ []) [] k lt

-- ---- FROM ONE STAGE TO A LATER ONE

module _ (o : Offered) (d : Dealt) (tapes : Tapes) (words : (i : Number) → AreWords (tapes i))
    (long : (i : Number) → length (tapes i) ≡ drawn_by o.lengths (miner_of i)) where
  -- as many values are handed over as events say
  hands-are : (kinds : List Kind) (s : Stage) → IsAt (world_of Clear o) d kinds none_of s → AtMost s.drawn o.lengths → results s.gates ≡ hands s.events
  hands-are kinds s at fit =
      let all = computed o d tapes words long kinds s at fit in
      sym (handed-results all.more s.gates) ∙ handed-count s.events (handed_values all.more s.gates) (at.handed all.more all.fit)

  -- what each miner has made for the client up to a stage
  abbrev pub kept_at : Stage → Number → Values
  kept_at s i = kept_from 0 (behind d tapes s.gates i) s.gates

  module _ (s u : Stage) (before after : List Kind) (at : IsAt (world_of Clear o) d before none_of s) (fit : AtMost s.drawn o.lengths)
      (at_later : IsAt (world_of Clear o) d after none_of u) (fit_later : AtMost u.drawn o.lengths) (more : List Gate) (gates : u.gates ≡ s.gates ++ more) where
    count : (i : Number) → length (behind d tapes s.gates i) ≡ made_by_all s.gates
    count i = run-count (run_at (world_of Clear o) d before s) at.formed tapes (ready o d tapes words long before s at fit) i

    stays : (i : Number) (k : ℕ) → k < 0 + made_by_all s.gates → value (behind d tapes u.gates i) k ≡ value (behind d tapes s.gates i) k
    stays i k lt =
        let c = count i in
        ap (λ (vs : Shares). value (vs i) k) (ap (behind d tapes) gates ∙ sym (behind_then d tapes s.gates more))
        ∙ run-keeps (run_dealt d s.gates more) (behind d tapes s.gates) (left_behind d tapes s.gates) i k (omega (arith, lt, c))

    -- those from before, and those that the new gates make
    pub kept-grown : (i : Number) → kept_at u i ≡ kept_at s i ++ kept_from (0 + made_by_all s.gates) (behind d tapes u.gates i) more
    kept-grown i =
        ap (kept_from 0 (behind d tapes u.gates i)) gates
        ∙ kept-append 0 (behind d tapes u.gates i) s.gates more
        ∙ ap (λ vs. vs ++ kept_from (0 + made_by_all s.gates) (behind d tapes u.gates i) more)
        (kept-same 0 (behind d tapes u.gates i) (behind d tapes s.gates i) s.gates (stays i))

    nothing_more : (a b m : ℕ) → a ≡ b → a ≡ b + m → m ≡ 0
    nothing_more a b m e f = omega (arith, e, f)

    -- where no event hands over, no gate does
    pub kept-still : hands u.events ≡ hands s.events → (i : Number) → kept_at u i ≡ kept_at s i
    kept-still same i =
        let none : results more ≡ 0 =
        nothing_more (results u.gates) (results s.gates) (results more)
        (hands-are after u at_later fit_later ∙ same ∙ sym (hands-are before s at fit)) (ap results gates ∙ results-append s.gates more) in
        kept-grown i
        ∙ ap (λ vs. kept_at s i ++ vs) (none-kept (0 + made_by_all s.gates) (behind d tapes u.gates i) more none)
        ∙ append-nil (kept_at s i)
