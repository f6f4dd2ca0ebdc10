use Rattle.std.proofs.Common.{arith}
use Rattle.input_share.proofs.Steps.{need_of-take}
use Rattle.input_share.proofs.dealing.need.Goals as goal

pub overflow_add-need : goal.overflow_add-need
overflow_add-need c = omega arith

pub loop-entry-preserved : goal.loop-entry-preserved
loop-entry-preserved c =
    let next = need_of-take c.args.entries.now c.loop-entry.entry-index c.entry-item.result c.loop-entry-test.true c.entry-item.is in
    record {
      sum = omega arith;
      bounded = omega arith;
    }
