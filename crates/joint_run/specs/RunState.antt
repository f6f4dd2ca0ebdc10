-- The joint run of a list of gates, from what the miners have and have said before.
use Rattle.std.specs.Prelude.{ℕ, List, [], ◌++◌, drop}
use Rattle.proto_core.specs.declared.party.Number.{Number}
use Rattle.proto_core.specs.Strand.{Mail}
use Rattle.protocol_model.specs.Gates.{Gate, needed}
use Rattle.protocol_model.specs.Runs.{run_messages, run_values, run_opened}

-- the miners' shares of all values, what is left of their tapes, the messages of each link and the opened words
pub record RunState : Type 0 where
  pub shares : Number → List (List ℕ)
  pub tapes : Number → List ℕ
  pub messages : Mail
  pub opened : List ℕ

abbrev pub begun : (Number → List ℕ) → RunState
begun tapes = record { shares = λ i. []; tapes = tapes; messages = λ l. []; opened = [] }

-- after these gates
abbrev pub behind : List Gate → RunState → RunState
behind gates s =
    record {
      shares = run_values gates s.shares s.tapes;
      tapes = λ i. drop (needed gates i) (s.tapes i);
      messages = λ l. s.messages l ++ run_messages gates s.shares s.tapes l;
      opened = s.opened ++ run_opened gates s.shares s.tapes;
    }
