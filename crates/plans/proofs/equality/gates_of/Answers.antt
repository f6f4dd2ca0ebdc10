use Rattle.std.proofs.Common.{arith}
use Rattle.plans.proofs.EqualityLaws.{joining_more}
use Rattle.plans.proofs.equality.gates_of.Goals as goal

pub loop-count-preserved : goal.loop-count-preserved
loop-count-preserved c =
    record {
      planned = joining_more _ _ _ _ c.loop-count.same c.loop-count.count-index _
          (omega arith) c.loop-count.invariant.planned c.in_ok-push-4.ensures.items c.in_ok-push-5.ensures.items;
      number = omega arith;
      within = omega arith;
    }
