use Rattle.std.proofs.Common.{sym, subst}
use Rattle.miner_core.specs.Miners.{held}
use Rattle.miner_core.specs.Streams.{with_tape}
use Rattle.miner_node.specs.Serves.{DeliversOne}
use Rattle.miner_node.specs.Tapes.{Along}
use Rattle.miner_node.proofs.Along.{delivered}
use Rattle.miner_node.proofs.serving.deliver.Goals as goal

pub returns : goal.returns
returns g c =
    let i = g.P.Party.me in
    let m = held c.args.miner.now in
    let n = held c.deliver.new.self in
    let s = g.T.TapeSource.state c.args.tapes.now in
    let t = g.T.TapeSource.state c.deliver.new.tapes in
    let l = c.args.link in
    let w = c.args.message.now in
    subst (λ r. Along i m n s t r (λ tape. DeliversOne i (with_tape m tape) (with_tape n tape) l w r)) (sym c.as_node.ensures)
    (delivered i l w m n s t c.deliver.ensures.still c.deliver.result c.requires.going (c.deliver.ensures.answers c.requires.kept c.requires.going))
