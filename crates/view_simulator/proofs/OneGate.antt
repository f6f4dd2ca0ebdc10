-- One gate of the simulator, whichever it is.
use Rattle.std.proofs.Common.{◌≡◌, ℕ, ◌≤◌, List, [], ◌∷◌, ◌++◌, length, drop, refl, sym, ◌∙◌, ap, subst, arith, Some, None}
use Rattle.std.specs.Prelude.{Option}
use Rattle.proto_core.specs.declared.party.Number.{Number}
use Rattle.protocol_model.specs.Gates.{Joined, Local, needed, sizes_of, gates_strand}
use Rattle.protocol_model.specs.Gates as model
use Rattle.protocol_model.specs.Runs.{Tapes}
use Rattle.protocol_model.specs.Views.{made_messages, made_values}
use Rattle.protocol_model.proofs.Sizes.{sizes-append}
use Rattle.gates.specs.declared.ring_kind.RingKind.TheVariants.{Arithmetic, Boolean}
use Rattle.gates.specs.declared.gate.Gate.{Gate}
use Rattle.gates.specs.declared.gate.Gate.TheVariants.{Mul, And, Split, Conv, Open, Result}
use Rattle.gates.specs.Clear.{Values}
use Rattle.gates.specs.Counts.{size_of}
use Rattle.blocked_protocol.specs.Blocked.{blocked}
use Rattle.shared_gates.specs.LocalGates.{local_share}
use Rattle.shared_gates.specs.Model.{SizesSuit, sizes_made, size_made}
use Rattle.shared_gates.proofs.Models.{local-size}
use Rattle.gate_exchanges.specs.declared.exchange.Exchange.{Exchange}
use Rattle.gate_exchanges.specs.declared.exchange.Exchange.TheVariants.{Product, Splitting, Conversion, Opening, Resharing}
use Rattle.joint_run.specs.Exchanges.{protocol_of}
use Rattle.gate_node.specs.OwnGates.{GatesEnd, Whole, own_gate, own_draws, own_gates}
use Rattle.gate_node.proofs.OwnGates.{its-part}
use Rattle.view_simulator.specs.Simulators.{EndsOn}
use Rattle.view_simulator.proofs.Taking.{ends-map}
use Rattle.view_simulator.proofs.WholeGates.{on_both, joined-ends, joined-makes, local-ends}

module _ (i : Number) (dealt own : Values) (opened : List ℕ) (tapes : Tapes) where
  abbrev Reaches : model.Gate → Type 0
  Reaches g = (k : Number) → needed (g ∷ []) k ≤ length (tapes k)

  abbrev EndsAs : model.Gate → Type 0
  EndsAs g =
      EndsOn (gates_strand i (g ∷ []) own (tapes i)) (on_both i (made_messages i (g ∷ []) own opened tapes)) (made_values i (g ∷ []) own opened tapes)

  by-protocol : (e : Exchange) (n u : ℕ) (v : Option ℕ) → Reaches (Joined (blocked (protocol_of e)) n u v) → EndsAs (Joined (blocked (protocol_of e)) n u v)
  by-protocol e n u v reach = joined-ends i own opened tapes e n u v (λ k. let h = reach k in omega arith)

  strand-ends : (gate : Gate) → Reaches (own_gate i dealt own gate) → EndsAs (own_gate i dealt own gate)
  strand-ends (Mul u v) reach = by-protocol (Product Arithmetic) (size_of (sizes_of own) u) u (Some v) reach
  strand-ends (And u v) reach = by-protocol (Product Boolean) (size_of (sizes_of own) u) u (Some v) reach
  strand-ends (Split u negated) reach = by-protocol (Splitting negated) (size_of (sizes_of own) u) u None reach
  strand-ends (Conv u) reach = by-protocol Conversion (size_of (sizes_of own) u) u None reach
  strand-ends (Open ring u) reach = by-protocol (Opening ring) (size_of (sizes_of own) u) u None reach
  strand-ends (Result ring u) reach = by-protocol (Resharing ring) (size_of (sizes_of own) u) u None reach
  strand-ends gate reach = local-ends i own opened tapes (size_made (sizes_of dealt) (sizes_of own) gate) (λ k values. local_share k dealt values gate)

  -- a gate that suits is run to its end by the messages that are made for it
  pub gate-ends :
      (gate : Gate) → SizesSuit (sizes_of dealt) (sizes_of own) gate → Reaches (own_gate i dealt own gate) →
      EndsOn (own_gates i dealt (gate ∷ []) own (tapes i)) (on_both i (made_messages i (own_gate i dealt own gate ∷ []) own opened tapes))
      (Whole (made_values i (own_gate i dealt own gate ∷ []) own opened tapes) (drop (own_draws i dealt own gate) (tapes i)))
  gate-ends gate suits reach =
      let g : model.Gate = own_gate i dealt own gate in
      let mail = on_both i (made_messages i (g ∷ []) own opened tapes) in
      let whole : Values → GatesEnd = λ all. Whole all (drop (own_draws i dealt own gate) (tapes i)) in
      subst (λ s. EndsOn s mail (whole (made_values i (g ∷ []) own opened tapes)))
      (sym (its-part i dealt (λ k. dealt) refl (gate ∷ []) own (tapes i) (suits, tt) (reach i)))
      (ends-map (gates_strand i (g ∷ []) own (tapes i)) whole mail (made_values i (g ∷ []) own opened tapes) (strand-ends gate reach))

  -- ---- the sizes of what it makes

  abbrev MakesSizes : List ℕ → model.Gate → Type 0
  MakesSizes sizes g = sizes_of (made_values i (g ∷ []) own opened tapes) ≡ sizes_of own ++ sizes

  sizes-made :
      (e : Exchange) (n u : ℕ) (v : Option ℕ) → Reaches (Joined (blocked (protocol_of e)) n u v) →
      MakesSizes ((protocol_of e).made n) (Joined (blocked (protocol_of e)) n u v)
  sizes-made e n u v reach = joined-makes i own opened tapes e n u v (λ k. let h = reach k in omega arith)

  pub gate-makes :
      (gate : Gate) → SizesSuit (sizes_of dealt) (sizes_of own) gate → Reaches (own_gate i dealt own gate) →
      MakesSizes (sizes_made (sizes_of dealt) (sizes_of own) gate) (own_gate i dealt own gate)
  gate-makes (Mul u v) suit reach = sizes-made (Product Arithmetic) (size_of (sizes_of own) u) u (Some v) reach
  gate-makes (And u v) suit reach = sizes-made (Product Boolean) (size_of (sizes_of own) u) u (Some v) reach
  gate-makes (Split u negated) suit reach = sizes-made (Splitting negated) (size_of (sizes_of own) u) u None reach
  gate-makes (Conv u) suit reach = sizes-made Conversion (size_of (sizes_of own) u) u None reach
  gate-makes (Open ring u) suit reach = sizes-made (Opening ring) (size_of (sizes_of own) u) u None reach
  gate-makes (Result ring u) suit reach = sizes-made (Resharing ring) (size_of (sizes_of own) u) u None reach
  gate-makes gate suit reach =
      sizes-append own (local_share i dealt own gate ∷ [])
      ∙ ap (λ k. sizes_of own ++ k ∷ []) (local-size (sizes_of dealt) (sizes_of own) dealt own refl refl i gate tt suit)
