use Rattle.std.proofs.Common.{arith}
use Rattle.std.proofs.lemmas.Grind.{common_steps}
use Rattle.domain_types.proofs.Returning.{one_more_returns}
use Rattle.domain_types.proofs.functions.+returns.Goals as goal

pub one_returns-loop-each-preserved : goal.one_returns-loop-each-preserved
one_returns-loop-each-preserved t c =
    let more = one_more_returns c.deref-each-items.result.now c.loop-each.each-index c.each-item.result c.loop-each-test.true c.each-item.is in
    let i = c.loop-each.invariant in
    grind (arith, common_steps, more, i)
