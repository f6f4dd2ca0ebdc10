-- What the simulator makes for a miner of its own shares of what was dealt.
use Rattle.std.specs.Prelude.{◌≡◌, ℕ, List, [], drop}
use Rattle.proto_core.specs.declared.party.Number.{Number}
use Rattle.proto_core.specs.Parties.{from_previous, from_next}
use Rattle.protocol_model.specs.Gates as model
use Rattle.protocol_model.specs.Gates.{needed, sizes_of}
use Rattle.protocol_model.specs.Runs.{Tapes}
use Rattle.protocol_model.specs.Views.{made_messages}
use Rattle.gates.specs.declared.gate.Gate.{Gate}
use Rattle.gates.specs.Clear.{Values}
use Rattle.shared_gates.specs.Model.{run_gates}
use Rattle.joint_run.specs.Three.{each_of}
use Rattle.view_simulator.specs.declared.made_gates.MadeRun.{MadeRun}

-- the gates as they run where every miner has these shares: a miner's own part reads its own alone
abbrev pub own_run : Values → List Gate → List model.Gate
own_run own gates = run_gates (λ k. own) (sizes_of own) [] gates

pub record IsMade (i : Number) (run : List model.Gate) (opened : List ℕ) (tapes : Tapes) (made : MadeRun) : Type 0 where
  pub previous : made.mails.previous ≡ made_messages i run [] opened tapes (from_previous i)
  pub next : made.mails.next ≡ made_messages i run [] opened tapes (from_next i)
  -- each miner has drawn the words that the gates need
  pub left : (k : Number) → each_of made.left k ≡ drop (needed run k) (tapes k)
