-- What a miner has, without where it lies in memory.
use Rattle.std.specs.Prelude.{ℕ, List}
use Rattle.node_run.specs.Nodes.{Own}
use Rattle.node_run.specs.declared.running.OwnPart.{OwnPart}

-- with this tape
abbrev pub own_seen : OwnPart → (tape : List ℕ) → Own
own_seen own tape = record { digest = own.digest; code = own.code; share = own.share; tape = tape; budget = own.budget }
