-- Where the simulator of a miner's view stands between gates.
use Rattle.std.specs.Prelude.{ℕ, ◌+◌, List, [], ◌∷◌, ◌++◌, drop}
use Rattle.proto_core.specs.declared.party.Number.{Number}
use Rattle.proto_core.specs.Parties.{from_previous, from_next}
use Rattle.protocol_model.specs.Gates.{Gate, Joined, Local, needed}
use Rattle.protocol_model.specs.Runs.{Tapes}
use Rattle.protocol_model.specs.Views.{made_messages, made_values}

-- the miner's own shares of the values so far, what is left of the opened words and of the tapes, and the messages that came
-- from the previous miner and from the next one
pub record Standing : Type 0 where
  pub own : List (List ℕ)
  pub opened : List ℕ
  pub tapes : Tapes
  pub previous : List (List ℕ)
  pub next : List (List ℕ)

-- before the first gate
abbrev pub begun : (opened : List ℕ) → Tapes → Standing
begun opened tapes = record { own = []; opened = opened; tapes = tapes; previous = []; next = [] }

-- how many words are opened
abbrev pub opens_in : List Gate → ℕ
opens_in [] = 0
opens_in (Joined p n u v ∷ gates) = p.opens n + opens_in gates
opens_in (Local n f ∷ gates) = opens_in gates

-- after these gates
abbrev pub past : Number → List Gate → Standing → Standing
past i gates s =
    record {
      own = made_values i gates s.own s.opened s.tapes;
      opened = drop (opens_in gates) s.opened;
      tapes = λ k. drop (needed gates k) (s.tapes k);
      previous = s.previous ++ made_messages i gates s.own s.opened s.tapes (from_previous i);
      next = s.next ++ made_messages i gates s.own s.opened s.tapes (from_next i);
    }
