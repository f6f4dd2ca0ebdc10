use Rattle.miner_node.proofs.SentFrames.{SendsUpTo}
use Rattle.miner_node.proofs.sending.send_from.Given as goal

abbrev pub invariant-loop-at : goal.invariant-loop-at
invariant-loop-at g l = SendsUpTo (g.L.Links.state l.fn.links) (g.L.Links.state l.links) l.peer l.messages l.sent l.at
