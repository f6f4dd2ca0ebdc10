use Rattle.std.proofs.Common.{refl}
use Rattle.std.proofs.lemmas.Result.{err_from_is_err_and}
use Rattle.miner_core.specs.Miners.{held}
use Rattle.miner_core.specs.Streams.{with_tape}
use Rattle.miner_node.proofs.SentFrames.{new_stops_first, new_stops_second, new_all}
use Rattle.miner_node.proofs.sending.send_new.Goals as goal

pub returns-in_err-next : goal.returns-in_err-next
returns-in_err-next g c = λ going tape of.
    let state = g.L.Links.state in
    let p = err_from_is_err_and c.from_residual.result c.from_residual.ensures.1 in
    rw (p.1, p.2)
    (new_stops_first g.P.Party.me (with_tape (held c.args.miner.now) tape) c.args.counts.now (state c.args.links.now) (state c.send_next.new.links) c.args.counts.now
    c.in_err-next.field-0.0 (c.in_err-next.ensures going tape of))

pub returns-in_err-previous : goal.returns-in_err-previous
returns-in_err-previous g c = λ going tape of.
    let state = g.L.Links.state in
    let p = err_from_is_err_and c.from_residual-in_err-previous.result c.from_residual-in_err-previous.ensures.1 in
    rw (p.1, p.2)
    (new_stops_second g.P.Party.me (with_tape (held c.args.miner.now) tape) c.args.counts.now (state c.args.links.now) (state c.send_next.new.links)
    (state c.send_previous.new.links) c.in_ok-next.next (c.in_ok-next.ensures going tape of) (record c.args.counts.now { to_next = c.in_ok-next.next })
    c.in_err-previous.field-0.0 (c.in_err-previous.ensures going tape of))

pub returns : goal.returns
returns g c = λ going tape of.
    let state = g.L.Links.state in
    new_all g.P.Party.me (with_tape (held c.args.miner.now) tape) c.args.counts.now (state c.args.links.now) (state c.send_next.new.links)
    (state c.send_previous.new.links) c.in_ok-next.next (c.in_ok-next.ensures going tape of) _
    (record { to_next = c.in_ok-next.next; to_previous = c.in_ok-previous.previous }) c.in_ok-previous.previous (c.in_ok-previous.ensures going
    tape of) refl refl
