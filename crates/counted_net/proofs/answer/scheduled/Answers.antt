use Rattle.std.proofs.Common.{arith}
use Rattle.protocol_model.specs.Network.{Listed}
use Rattle.counted_net.specs.Scripts.{plain_of}
use Rattle.counted_net.specs.Answers.{IsNetAnswer}
use Rattle.counted_net.proofs.Walks.{at_end, at_first, at_next, at_refused, passed_on}
use Rattle.counted_net.proofs.answer.scheduled.Goals as goal

pub loop-link-init : goal.loop-link-init
loop-link-init c = at_first c.args.scripts.now c.args.links.now c.new-net.result c.new-net.ensures

pub loop-link-preserved : goal.loop-link-preserved
loop-link-preserved c =
    let a = c.in_ok-deliver.ensures in
    at_next c.args.scripts.now c.args.links.now c.loop-link.link-index c.loop-link.net c.loop-link.invariant _ c.deliver.new.self (omega arith) a.0 a.1

pub returns-in_err-deliver : goal.returns-in_err-deliver
returns-in_err-deliver c =
    passed_on (IsNetAnswer (plain_of c.args.scripts.now) (Listed c.args.links.now)) _
    (at_refused c.args.scripts.now c.args.links.now c.loop-link.link-index c.loop-link.net c.loop-link.invariant _ c.deliver.new.self _ (omega arith)
    c.in_err-deliver.ensures)
    c.from_residual.result c.from_residual.ensures.1

pub returns : goal.returns
returns c =
    at_end c.args.scripts.now c.args.links.now c.loop-link.link-index c.loop-link.net c.loop-link.invariant c.into_delivered.result (omega arith)
    c.into_delivered.ensures
