-- What a miner does by its own values is its part in the run of the gates.
use Rattle.std.proofs.Common.{◌≡◌, ℕ, ◌+◌, ◌-◌, ◌≤◌, Bool, true, false, ◌&&◌, nat_le, if◌then◌else◌, List, [], ◌∷◌, ◌++◌, length, take, drop, refl}
use Rattle.std.proofs.Common.{sym, ◌∙◌, ap, subst, arith, length-drop, Some, None}
use Rattle.std.specs.Prelude.{Option}
use Rattle.std.proofs.lemmas.Bool.{le-leb}
use Rattle.std.proofs.lemmas.List.{drop-drop}
use Rattle.proto_core.specs.declared.party.Number.{Number}
use Rattle.proto_core.specs.Strand.{Strand, Ends, then_do}
use Rattle.protocol_model.specs.Gates as model
use Rattle.protocol_model.specs.Gates.{Joined, Local, nth_value, operand, sizes_of, needed, gates_strand}
use Rattle.protocol_model.proofs.Sizes.{sizes-append}
use Rattle.gates.specs.Blocks.{block_sizes}
use Rattle.gates.specs.declared.ring_kind.RingKind.TheVariants.{Arithmetic, Boolean}
use Rattle.gates.specs.declared.gate.Gate.{Gate}
use Rattle.gates.specs.declared.gate.Gate.TheVariants.{Mul, And, Split, Conv, Open, Result}
use Rattle.gates.specs.Counts.{size_of}
use Rattle.gates.specs.Clear.{Values}
use Rattle.blocked_protocol.specs.Blocked.{blocked, blocks_strand}
use Rattle.gate_exchanges.specs.LocalGates.{local_share}
use Rattle.gate_exchanges.specs.Model.{sizes_made, SizesSuit, AllSizesSuit, run_gate, run_gates}
use Rattle.gate_exchanges.proofs.Models.{local-size}
use Rattle.gate_exchanges.specs.declared.exchange.Exchange.{Exchange}
use Rattle.gate_exchanges.specs.declared.exchange.Exchange.TheVariants.{Product, Splitting, Conversion, Opening, Resharing}
use Rattle.gate_exchanges.specs.Exchanges.{protocol_of}
use Rattle.gate_node.specs.OwnGates.{GatesEnd, Whole, Stuck, own_gate, own_draws, can_run, own_gates, then_gates}
use Rattle.gate_node.proofs.Always.{EndsAlways, HaveSizes, always-then, then-same, then-all, then-assoc, gate-sized}
use Rattle.gate_node.proofs.Suiting.{test-is}

-- ---- one gate, and those after it

nothing-more : (n : ℕ) → n + 0 ≡ n
nothing-more n = omega arith

needed-apart : (i : Number) (g : model.Gate) (gates : List model.Gate) → needed (g ∷ []) i + needed gates i ≡ needed (g ∷ gates) i
needed-apart i (Joined p n u v) gates = ap (λ k. k + needed gates i) (nothing-more (p.draws n i))
needed-apart i (Local n f) gates = omega arith

gates-apart :
    (i : Number) (g : model.Gate) (gates : List model.Gate) (values : Values) (tape : List ℕ) →
    gates_strand i (g ∷ gates) values tape ≡ then_do (gates_strand i (g ∷ []) values tape) (λ all. gates_strand i gates all (drop (needed (g ∷ []) i) tape))
gates-apart i (Joined p n u v) gates values tape =
    ap (λ k. then_do (p.strand n i (nth_value values u) (operand values v) (take (p.draws n i) tape))
    (λ made. gates_strand i gates (values ++ made) (drop k tape)))
    (sym (nothing-more (p.draws n i)))
    ∙ sym (then-assoc (p.strand n i (nth_value values u) (operand values v) (take (p.draws n i) tape)) (λ made. Ends (values ++ made))
    (λ all. gates_strand i gates all (drop (needed (Joined p n u v ∷ []) i) tape)))
gates-apart i (Local n f) gates values tape = refl

-- ---- the sizes of what a gate makes

module _ (i : Number) (dealt values : Values) (tape : List ℕ) where
  abbrev MakesSizes : List ℕ → model.Gate → Type 0
  MakesSizes sizes g = EndsAlways (HaveSizes (sizes_of values ++ sizes)) (gates_strand i (g ∷ []) values tape)

  joined-makes : (e : Exchange) (n u : ℕ) (v : Option ℕ) → MakesSizes ((protocol_of e).made n) (Joined (blocked (protocol_of e)) n u v)
  joined-makes e n u v =
      always-then (HaveSizes ((protocol_of e).made n)) (HaveSizes (sizes_of values ++ (protocol_of e).made n))
      (blocks_strand (protocol_of e) (block_sizes n) i (nth_value values u) (operand values v) (take ((blocked (protocol_of e)).draws n i) tape))
      (λ made. Ends (values ++ made)) (gate-sized e n i _ _ _)
      (λ made same. sizes-append values made ∙ ap (λ s. sizes_of values ++ s) same)

  gate-makes :
      (gate : Gate) → SizesSuit (sizes_of dealt) (sizes_of values) gate →
      MakesSizes (sizes_made (sizes_of dealt) (sizes_of values) gate) (own_gate i dealt values gate)
  gate-makes (Mul u v) suit = joined-makes (Product Arithmetic) (size_of (sizes_of values) u) u (Some v)
  gate-makes (And u v) suit = joined-makes (Product Boolean) (size_of (sizes_of values) u) u (Some v)
  gate-makes (Split u negated) suit = joined-makes (Splitting negated) (size_of (sizes_of values) u) u None
  gate-makes (Conv u) suit = joined-makes Conversion (size_of (sizes_of values) u) u None
  gate-makes (Open ring u) suit = joined-makes (Opening ring) (size_of (sizes_of values) u) u None
  gate-makes (Result ring u) suit = joined-makes (Resharing ring) (size_of (sizes_of values) u) u None
  gate-makes gate suit =
      sizes-append values (local_share i dealt values gate ∷ [])
      ∙ ap (λ k. sizes_of values ++ k ∷ []) (local-size (sizes_of dealt) (sizes_of values) dealt values refl refl i gate tt suit)

-- ---- what the others were dealt makes no difference

module _ (i : Number) (dealt : Values) (all_dealt : Number → Values) (own : all_dealt i ≡ dealt) where
  same-gate :
      (ds sizes : List ℕ) (gate : Gate) (values : Values) (tape : List ℕ) →
      gates_strand i (run_gate all_dealt ds sizes gate ∷ []) values tape ≡ gates_strand i (run_gate (λ k. dealt) ds sizes gate ∷ []) values tape
  same-gate ds sizes (Mul u v) values tape = refl
  same-gate ds sizes (And u v) values tape = refl
  same-gate ds sizes (Split u negated) values tape = refl
  same-gate ds sizes (Conv u) values tape = refl
  same-gate ds sizes (Open ring u) values tape = refl
  same-gate ds sizes (Result ring u) values tape = refl
  same-gate ds sizes gate values tape = ap (λ d. Ends (values ++ local_share i d values gate ∷ [])) own

  same-draws : (ds sizes : List ℕ) (gate : Gate) → needed (run_gate all_dealt ds sizes gate ∷ []) i ≡ needed (run_gate (λ k. dealt) ds sizes gate ∷ []) i
  same-draws ds sizes (Mul u v) = refl
  same-draws ds sizes (And u v) = refl
  same-draws ds sizes (Split u negated) = refl
  same-draws ds sizes (Conv u) = refl
  same-draws ds sizes (Open ring u) = refl
  same-draws ds sizes (Result ring u) = refl
  same-draws ds sizes gate = refl

  -- ---- its part in the run

  abbrev ds : List ℕ
  ds = sizes_of dealt

  abbrev run : List ℕ → List Gate → List model.Gate
  run sizes gates = run_gates all_dealt ds sizes gates

  abbrev ends_whole : List model.Gate → List ℕ → Values → Strand GatesEnd
  ends_whole gates tape all = Ends (Whole all (drop (needed gates i) tape))

  abbrev ItsPart : List Gate → (values : Values) → (tape : List ℕ) → (sizes : List ℕ) → Type 0
  ItsPart gates values tape sizes =
      AllSizesSuit ds sizes gates → needed (run sizes gates) i ≤ length tape →
      own_gates i dealt gates values tape ≡ then_do (gates_strand i (run sizes gates) values tape) (ends_whole (run sizes gates) tape)

  first-can :
      (values : Values) (tape : List ℕ) (gate : Gate) → SizesSuit ds (sizes_of values) gate → own_draws i dealt values gate ≤ length tape →
      can_run i dealt values tape gate ≡ true
  first-can values tape gate suit reach =
      ap (λ b. b && nat_le (own_draws i dealt values gate) (length tape)) ((test-is ds (sizes_of values) gate).1 suit)
      ∙ le-leb (own_draws i dealt values gate) (length tape) reach

  pub its-part : (gates : List Gate) (values : Values) (tape : List ℕ) → ItsPart gates values tape (sizes_of values)
  its-part [] values tape suit reach = refl
  its-part (gate ∷ gates) values tape suit reach =
      let sizes : List ℕ = sizes_of values in
      let later : List ℕ = sizes ++ sizes_made ds sizes gate in
      let n : ℕ = own_draws i dealt values gate in
      let first : Strand Values = gates_strand i (own_gate i dealt values gate ∷ []) values tape in
      let rest : List model.Gate = run later gates in
      let g : model.Gate = run_gate all_dealt ds sizes gate in
      let draws : needed (g ∷ []) i ≡ n = same-draws ds sizes gate in
      let count : n + needed rest i ≡ needed (g ∷ rest) i = ap (λ k. k + needed rest i) (sym draws) ∙ needed-apart i g rest in
      let now : n ≤ length tape = omega (arith, count, reach) in
      let l : length (drop n tape) ≡ length tape - n = length-drop n tape in
      let behind : needed rest i ≤ length (drop n tape) = omega (arith, count, reach, l) in
      ap (λ b. if b then then_do first (λ all. own_gates i dealt gates all (drop n tape)) else Ends Stuck) (first-can values tape gate suit.0 now)
      ∙ then-same (HaveSizes later) first (λ all. own_gates i dealt gates all (drop n tape))
      (λ all. then_do (gates_strand i rest all (drop n tape)) (ends_whole (g ∷ rest) tape)) (gate-makes i dealt values tape gate suit.0)
      (λ all same.
      subst (ItsPart gates all (drop n tape)) same (its-part gates all (drop n tape)) suit.1 behind
      ∙ then-all (gates_strand i rest all (drop n tape)) (ends_whole rest (drop n tape)) (ends_whole (g ∷ rest) tape)
      (λ values. ap (λ t. Ends (Whole values t)) (drop-drop (needed rest i) n tape ∙ ap (λ k. drop k tape) count)))
      ∙ sym (then-assoc first (λ all. gates_strand i rest all (drop n tape)) (ends_whole (g ∷ rest) tape))
      ∙ ap (λ s. then_do s (ends_whole (g ∷ rest) tape))
      (ap (λ s. then_do s (λ all. gates_strand i rest all (drop n tape))) (sym (same-gate ds sizes gate values tape))
      ∙ ap (λ k. then_do (gates_strand i (g ∷ []) values tape) (λ all. gates_strand i rest all (drop k tape))) (sym draws)
      ∙ sym (gates-apart i g rest values tape))

-- ---- gates after gates

module _ (i : Number) (dealt : Values) (behind : List Gate) where
  pub run-behind :
      (before : List Gate) (values : Values) (tape : List ℕ) →
      own_gates i dealt (before ++ behind) values tape ≡ then_do (own_gates i dealt before values tape) (then_gates i dealt behind)
  run-behind [] values tape = refl
  run-behind (gate ∷ gates) values tape = by_test (can_run i dealt values tape gate) (λ all. run-behind gates all (drop (own_draws i dealt values gate) tape))
    where
      first : Strand Values
      first = gates_strand i (own_gate i dealt values gate ∷ []) values tape

      rest : List ℕ
      rest = drop (own_draws i dealt values gate) tape

      by_test :
          (b : Bool) → ((all : Values)
          → own_gates i dealt (gates ++ behind) all rest ≡ then_do (own_gates i dealt gates all rest) (then_gates i dealt behind)) →
          (if b then then_do first (λ all. own_gates i dealt (gates ++ behind) all rest) else Ends Stuck)
          ≡ then_do (if b then then_do first (λ all. own_gates i dealt gates all rest) else Ends Stuck) (then_gates i dealt behind)
      by_test true more =
          then-all first (λ all. own_gates i dealt (gates ++ behind) all rest) (λ all. then_do (own_gates i dealt gates all rest) (then_gates i dealt behind))
          more
          ∙ sym (then-assoc first (λ all. own_gates i dealt gates all rest) (then_gates i dealt behind))
      by_test false more = refl
