use Rattle.std.proofs.Common.{length}
use Rattle.joint_run.specs.Exchanges.{protocol_of}
use Rattle.view_simulator.proofs.BlockMails.{Left}
use Rattle.view_simulator.proofs.blocks.add_blocks.Given as goal

abbrev pub invariant-loop-rest : goal.invariant-loop-rest
invariant-loop-rest l = Left (protocol_of l.exchange) l.miner l.fn.sources l.fn.mails l.mails l.rest

abbrev pub decreases-loop-rest : goal.decreases-loop-rest
decreases-loop-rest l = length l.rest.u
