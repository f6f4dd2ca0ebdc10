-- One miner runs gates, one after another, by what it was dealt and its own values.
use Rattle.std.specs.Prelude.{ℕ, Bool, ◌&&◌, nat_le, if◌then◌else◌, List, [], ◌∷◌, length, drop}
use Rattle.proto_core.specs.declared.party.Number.{Number}
use Rattle.proto_core.specs.Strand.{Strand, Ends, then_do}
use Rattle.protocol_model.specs.Gates.{sizes_of, needed, gates_strand}
use Rattle.protocol_model.specs.Gates as model
use Rattle.gates.specs.declared.gate.Gate.{Gate}
use Rattle.gates.specs.Clear.{Values}
use Rattle.gate_exchanges.specs.Model.{run_gate}
use Rattle.gate_node.specs.Suiting.{suits}

-- all gates are through, with these values and this tape left; or a gate doesn't suit, or the tape is too short for it
pub data GatesEnd : Type 0 where
  Whole : (values : List (List ℕ)) (tape : List ℕ) → GatesEnd
  Stuck : GatesEnd

module _ (i : Number) (dealt : Values) where
  -- a gate as the miner runs it where it has these values, and how many words it draws for it
  abbrev pub own_gate : Values → Gate → model.Gate
  own_gate values gate = run_gate (λ k. dealt) (sizes_of dealt) (sizes_of values) gate

  abbrev pub own_draws : Values → Gate → ℕ
  own_draws values gate = needed (own_gate values gate ∷ []) i

  abbrev pub can_run : Values → (tape : List ℕ) → Gate → Bool
  can_run values tape gate = suits (sizes_of dealt) (sizes_of values) gate && nat_le (own_draws values gate) (length tape)

  abbrev pub own_gates : List Gate → Values → (tape : List ℕ) → Strand GatesEnd
  own_gates [] values tape = Ends (Whole values tape)
  own_gates (gate ∷ gates) values tape =
      if can_run values tape gate
      then then_do (gates_strand i (own_gate values gate ∷ []) values tape) (λ all. own_gates gates all (drop (own_draws values gate) tape))
      else Ends Stuck

  -- further gates, after those that came to this end
  abbrev pub then_gates : List Gate → GatesEnd → Strand GatesEnd
  then_gates gates (Whole values tape) = own_gates gates values tape
  then_gates gates Stuck = Ends Stuck
