use Rattle.counted_net.proofs.Walks.{AtEntry}
use Rattle.counted_net.proofs.answer.scheduled.Given as goal

abbrev pub invariant-loop-link : goal.invariant-loop-link
invariant-loop-link l = AtEntry l.scripts l.links l.link-index l.net
