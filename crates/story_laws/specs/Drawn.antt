-- How many words of its tape a miner has drawn: all those of a gate, as the gate begins.
use Rattle.std.specs.Prelude.{ℕ, zero, suc, ◌+◌, if◌then◌else◌, List, [], ◌∷◌, drop}
use Rattle.proto_core.specs.declared.party.Number.{Number}
use Rattle.proto_core.specs.Strand.{Mail, Strand, Ends, Acts, Waits, Ran, run}
use Rattle.protocol_model.specs.Gates.{gates_strand}
use Rattle.gates.specs.declared.gate.Gate.{Gate}
use Rattle.gates.specs.Clear.{Values}
use Rattle.language_model.specs.Effects.{World}
use Rattle.verified_code.specs.Steps.{Function}
use Rattle.driven_nodes.specs.Steps.{Stand, Running, Stopped, Short, place_of, stand_of}
use Rattle.code_places.specs.Places.{Place, step_told}
use Rattle.gate_node.specs.OwnGates.{own_gate, own_draws, can_run}
use Rattle.own_code.specs.OwnCode.{gates_between, led_by}

-- ---- after a run

abbrev pub at_end : {A : Type 0} → Strand A → (A → ℕ) → ℕ
at_end (Ends a) behind = behind a
at_end (Acts act s) behind = 0
at_end (Waits l shape k) behind = 0

-- what is drawn after a run that has come to its end, by what it ends with and the messages that it leaves
abbrev pub drawn_behind : {A : Type 0} → Ran A → (A → Mail → ℕ) → ℕ
drawn_behind r behind = at_end r.left (λ a. behind a r.unread)

-- ---- a miner

-- how many words are drawn by one that has these values, this tape and these messages
abbrev pub Count : Type 0
Count = (values : Values) (tape : List ℕ) → Mail → ℕ

module _ (i : Number) (dealt : Values) where
  abbrev pub own_part : Gate → Values → (tape : List ℕ) → Strand Values
  own_part gate values tape = gates_strand i (own_gate i dealt values gate ∷ []) values tape

  -- by gates, and then by what is done after them
  abbrev pub drawn_by_gates : List Gate → Count → Count
  drawn_by_gates [] later values tape mail = later values tape mail
  drawn_by_gates (gate ∷ gates) later values tape mail =
      if can_run i dealt values tape gate
      then
      own_draws i dealt values gate
      + drawn_behind (run (own_part gate values tape) mail) (λ all unread. drawn_by_gates gates later all (drop (own_draws i dealt values gate) tape) unread)
      else 0

-- where a run goes on
abbrev pub drawn_from : (Place → Count) → Stand Place → Count
drawn_from on (Running p) values tape mail = on p values tape mail
drawn_from on (Stopped p) values tape mail = 0
drawn_from on (Short p) values tape mail = 0

module _ (w : World) (c : List Function) (i : Number) (dealt : Values) where
  abbrev pub drawn_by_code : (fuel : ℕ) → Place → Count
  drawn_by_code zero p values tape mail = 0
  drawn_by_code (suc fuel) p values tape mail =
      drawn_by_gates i dealt (gates_between p (place_of (step_told w c p [])))
      (λ all. drawn_from (drawn_by_code fuel) (stand_of (led_by w c all p (step_told w c p []))) all) values tape mail
