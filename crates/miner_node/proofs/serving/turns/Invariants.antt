use Rattle.std.specs.Prelude.{Result, Ok}
use Rattle.miner_core.specs.Miners.{held}
use Rattle.miner_core.specs.Streams.{with_tape}
use Rattle.miner_node.specs.declared.node_err.NodeErr.{NodeErr}
use Rattle.miner_node.specs.Tapes.{Along}
use Rattle.miner_node.specs.Turns.{IsServing}
use Rattle.miner_node.proofs.serving.turns.Given as goal

abbrev pub invariant-loop : goal.invariant-loop
invariant-loop g l =
    let well : Result (Unit {0}) NodeErr = Ok tt in
    Along g.P.Party.me (held l.fn.miner) (held l.miner) (g.T.TapeSource.state l.fn.tapes) (g.T.TapeSource.state l.tapes) well
    (λ tape. IsServing g.P.Party.me (g.L.Links.state l.fn.links) (g.L.Links.state l.links) (with_tape (held l.fn.miner) tape) (with_tape (held l.miner) tape) l.counts)
