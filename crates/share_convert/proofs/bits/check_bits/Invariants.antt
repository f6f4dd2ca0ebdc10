use Rattle.proto_core.specs.Refusals.{AreBits}
use Rattle.share_convert.proofs.bits.check_bits.Given as goal

abbrev pub invariant-loop-at : goal.invariant-loop-at
invariant-loop-at l = AreBits l.words l.from l.at
