use Rattle.std.proofs.Common.{arith}
use Rattle.plans.proofs.CompareLaws.{comparing_more}
use Rattle.plans.proofs.compare.gates_of.Goals as goal

pub loop-width-preserved : goal.loop-width-preserved
loop-width-preserved c =
    record {
      planned = comparing_more _ _ _ c.args.n c.loop-width.next c.loop-width.less c.loop-width.same c.loop-width.width-index _
          (omega arith) c.loop-width.invariant.planned c.in_ok-push_step.ensures;
      number = omega arith;
      within = omega arith;
    }
