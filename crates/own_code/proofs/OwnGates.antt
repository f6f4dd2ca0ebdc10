-- Gates are run alike on two lists of values that have the same of those that they take.
use Rattle.std.proofs.Common.{◌≡◌, ℕ, Bool, true, false, List, [], ◌∷◌, ◌++◌, length, drop, refl, sym, ◌∙◌, ap}
use Rattle.std.proofs.Common.{append_assoc, append-nil}
use Rattle.std.proofs.lemmas.List.{drop_at}
use Rattle.proto_core.specs.declared.party.Number.{Number}
use Rattle.proto_core.specs.Strand.{Strand, Ends, then_do}
use Rattle.gates.specs.declared.gate.Gate.{Gate}
use Rattle.gates.specs.Clear.{Values}
use Rattle.gate_node.specs.OwnGates.{GatesEnd, Whole, own_draws, can_run, own_gates}
use Rattle.gate_node.proofs.Always.{then-all, then-assoc}
use Rattle.gate_node.proofs.Holding.{all_among, as_many_behind, same_behind}
use Rattle.gate_node.proofs.OneGate.{first_then, made_by_gate, gate_first, same_draws, same_can, same_made}
use Rattle.named_values.specs.Named.{Numbers, or_from, operands, Takes, AllTake}
use Rattle.named_values.specs.Laws.{HaveSame}
use Rattle.own_code.specs.LettingGo.{with_before}

module _ (i : Number) (dealt : Values) where
  module _ (values held : Values) (as_many : length held ≡ length values) where
    abbrev Taken : Numbers
    Taken = or_from (HaveSame values held) (length values)

    abbrev whole : GatesEnd → Strand GatesEnd
    whole h = Ends (with_before values h)

    abbrev Alike : List Gate → Type 0
    Alike gates =
        (made : Values) (tape : List ℕ) → AllTake Taken gates →
        own_gates i dealt gates (values ++ made) tape ≡ then_do (own_gates i dealt gates (held ++ made) tape) whole

    by_test :
        (gates : List Gate) → Alike gates → AllTake Taken gates → (made : Values) (rest : List ℕ) (b : Bool) (first : Strand Values) →
        first_then b first (λ more. own_gates i dealt gates ((values ++ made) ++ more) rest)
        ≡ then_do (first_then b first (λ more. own_gates i dealt gates ((held ++ made) ++ more) rest)) whole
    by_test gates alike h made rest true first =
        then-all first (λ more. own_gates i dealt gates ((values ++ made) ++ more) rest)
        (λ more. then_do (own_gates i dealt gates ((held ++ made) ++ more) rest) whole)
        (λ more.
        ap (λ all. own_gates i dealt gates all rest) (append_assoc values made more)
        ∙ alike (made ++ more) rest h
        ∙ ap (λ all. then_do (own_gates i dealt gates all rest) whole) (sym (append_assoc held made more)))
        ∙ sym (then-assoc first (λ more. own_gates i dealt gates ((held ++ made) ++ more) rest) whole)
    by_test gates alike h made rest false first = refl

    run_alike : (gates : List Gate) → Alike gates
    run_alike [] made tape h = ap (λ all. Ends (Whole (values ++ all) tape)) (sym (drop_at held made (length values) as_many))
    run_alike (gate ∷ gates) made tape h =
        let take : Takes (HaveSame (values ++ made) (held ++ made)) gate =
        all_among Taken (HaveSame (values ++ made) (held ++ made)) (same_behind values held as_many made) (operands gate) h.0 in
        let more : length (held ++ made) ≡ length (values ++ made) = as_many_behind values held as_many made in
        let can = same_can i dealt (values ++ made) (held ++ made) more tape gate take in
        let first = same_made i dealt (values ++ made) (held ++ made) more tape gate take in
        let draws = same_draws i dealt (values ++ made) (held ++ made) more gate take in
        gate_first i dealt gate gates (values ++ made) tape
        ∙ (λ d. first_then (can d) (first d) (λ more. own_gates i dealt gates ((values ++ made) ++ more) (drop (draws d) tape)))
        ∙ by_test gates (run_alike gates) h.1 made (drop (own_draws i dealt (held ++ made) gate) tape)
        (can_run i dealt (held ++ made) tape gate) (made_by_gate i dealt gate (held ++ made) tape)
        ∙ ap (λ s. then_do s whole) (sym (gate_first i dealt gate gates (held ++ made) tape))

    pub gates_need : (gates : List Gate) (tape : List ℕ) → AllTake Taken gates
        → own_gates i dealt gates values tape ≡ then_do (own_gates i dealt gates held tape) whole
    gates_need gates tape h =
        ap (λ all. own_gates i dealt gates all tape) (sym (append-nil values))
        ∙ run_alike gates [] tape h
        ∙ ap (λ all. then_do (own_gates i dealt gates all tape) whole) (append-nil held)
