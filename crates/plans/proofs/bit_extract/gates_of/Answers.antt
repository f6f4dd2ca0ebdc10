use Rattle.std.proofs.Common.{◌+◌, arith}
use Rattle.plans.proofs.BitExtractLaws.{carrying_more}
use Rattle.plans.proofs.bit_extract.gates_of.Goals as goal

pub loop-width-preserved : goal.loop-width-preserved
loop-width-preserved c =
    record {
      planned = carrying_more _ _ _ c.args.n (c.args.first + 3) c.loop-width.next c.loop-width.generate c.loop-width.propagate
          c.loop-width.width-index _ (omega arith) c.loop-width.invariant.planned c.in_ok-push_step.ensures;
      number = omega arith;
      within = omega arith;
    }
