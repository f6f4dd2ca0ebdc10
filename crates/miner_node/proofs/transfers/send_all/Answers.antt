use Rattle.std.proofs.Common.{◌∙◌, arith}
use Rattle.miner_node.proofs.Pieces.{sent_none, sent_more, gave_none, gave_more}
use Rattle.miner_node.proofs.Faulting.{later_self}
use Rattle.miner_node.proofs.transfers.send_all.Goals as goal

pub loop-done-preserved : goal.loop-done-preserved
loop-done-preserved g c =
    let held = c.loop-done.invariant in
    record {
      within = omega (arith, c.in_ok-done.ensures.most);
      sent = sent_more c.args.peer c.loop-done.done c.in_ok-done.field-0 c.args.bytes.now held.sent c.in_ok-done.ensures.ok;
      did = λ t. gave_more c.args.peer c.loop-done.done c.in_ok-done.field-0 c.args.bytes.now (held.later.told ∙ t) (held.did t) c.in_ok-done.ensures.ok
          c.in_ok-done.ensures.called;
      later =
          record {
            told = c.in_ok-done.ensures.ok.told ∙ held.later.told;
            faults = omega (arith, c.send.ensures.cause.later, held.later.faults);
            still = λ t. c.send.ensures.still (held.later.still t);
          };
    }

pub loop-done-init : goal.loop-done-init
loop-done-init g c =
    let s = g.L.Links.state c.args.links.now in
    record {
      within = omega arith;
      sent = sent_none s c.args.peer c.args.bytes.now;
      did = λ t. gave_none s c.args.peer c.args.bytes.now;
      later = later_self s;
    }
