use Rattle.std.proofs.lemmas.Result.{err_from_is_err_and}
use Rattle.miner_core.specs.Miners.{held}
use Rattle.miner_core.specs.Streams.{with_tape}
use Rattle.miner_node.proofs.Along.{along_here, along_as}
use Rattle.miner_node.proofs.Rounds.{ungreeted, exchanged}
use Rattle.miner_node.proofs.serving.exchange.Goals as goal

pub returns-in_err-greet : goal.returns-in_err-greet
returns-in_err-greet g c =
    let i = g.P.Party.me in
    let m = held c.args.miner.now in
    let a = g.L.Links.state c.args.links.now in
    let b = g.L.Links.state c.greet.new.links in
    let greets = rw c.number.ensures at c.in_err-greet.ensures in
    let e = c.in_err-greet.field-0.0 in
    let p = err_from_is_err_and c.from_residual.result c.from_residual.ensures.1 in
    rw (p.1, p.2)
    (along_here i m (g.T.TapeSource.state c.args.tapes.now) _ _ c.requires.going c.requires.left
    (λ tape of. ungreeted i c.args.hello.now a b (with_tape m tape) (with_tape m tape) e greets))

pub returns : goal.returns
returns g c =
    let i = g.P.Party.me in
    let m = held c.args.miner.now in
    let n = held c.turns.new.miner in
    let a = g.L.Links.state c.args.links.now in
    let b = g.L.Links.state c.greet.new.links in
    along_as i m n (g.T.TapeSource.state c.args.tapes.now) (g.T.TapeSource.state c.turns.new.tapes) c.turns.result c.turns.result _ _ c.turns.ensures
    c.requires.left
    (λ tape of q. exchanged i c.args.hello.now a b (with_tape m tape) (with_tape n tape) c.in_ok-greet.field-0 (rw c.number.ensures at c.in_ok-greet.ensures)
    (g.L.Links.state c.turns.new.links) c.turns.result q)
    (λ taken k. k)
