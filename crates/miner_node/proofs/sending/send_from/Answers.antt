use Rattle.std.proofs.Common.{arith}
use Rattle.std.proofs.lemmas.Result.{err_from_is_err_and}
use Rattle.miner_node.proofs.SentFrames.{up_to_itself, up_to_next, stops_within, sends_all}
use Rattle.miner_node.proofs.sending.send_from.Goals as goal

pub returns-in_err-send_message : goal.returns-in_err-send_message
returns-in_err-send_message g c =
    let state = g.L.Links.state in
    let p = err_from_is_err_and c.from_residual.result c.from_residual.ensures.1 in
    let h = c.in_err-send_message.ensures in
    rw (p.1, p.2)
    (stops_within (state c.args.links.now) (state c.loop-at.links) c.args.peer c.args.messages.now c.args.sent c.loop-at.at c.loop-at.invariant
    (state c.send_message.new.links) (omega (arith, c.loop-at-test.true, c.len-at-end.ensures)) h.front.0 h.front.1
    c.in_err-send_message.field-0.0 h.err h.did h.later)

pub returns : goal.returns
returns g c =
    let state = g.L.Links.state in
    sends_all (state c.args.links.now) (state c.loop-at.links) c.args.peer c.args.messages.now c.args.sent c.loop-at.at c.loop-at.invariant
    (omega (arith, c.loop-at-test.false, c.len-at-end.ensures)) c.len.result c.len.ensures

pub loop-at-preserved : goal.loop-at-preserved
loop-at-preserved g c =
    let state = g.L.Links.state in
    let h = c.in_ok-send_message.ensures in
    up_to_next (state c.args.links.now) (state c.loop-at.links) c.args.peer c.args.messages.now c.args.sent c.loop-at.at c.loop-at.invariant
    (state c.send_message.new.links) (omega (arith, c.loop-at-test.true, c.len-at-end.ensures)) h.ok h.did h.later

pub loop-at-init : goal.loop-at-init
loop-at-init g c = up_to_itself (g.L.Links.state c.args.links.now) c.args.peer c.args.messages.now c.args.sent
