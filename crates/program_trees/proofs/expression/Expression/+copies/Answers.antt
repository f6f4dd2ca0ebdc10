use Rattle.std.proofs.Common.{ap, ◌∙◌, sym}
use Rattle.std.specs.Prelude.{map}
use Rattle.std.proofs.lemmas.List.{take_all}
use Rattle.program_trees.specs.Tree.{expression, call, trees_of}
use Rattle.program_trees.specs.Equations.{call_is}
use Rattle.program_trees.proofs.Copies.{one_more}
use Rattle.program_trees.proofs.expression.Expression.+copies.Goals as goal

pub copy-loop-argument-preserved : goal.copy-loop-argument-preserved
copy-loop-argument-preserved t c =
    rw c.in_ok-push-in-Call.ensures.items
    (one_more expression c.deref-argument-items.result.now c.loop-argument.copies.items c.loop-argument.argument-index
    c.in_ok-copy-in-Call.field-0 c.argument-item.result c.loop-argument-test.true c.argument-item.is c.in_ok-copy-in-Call.ensures c.loop-argument.invariant)

pub copy-returns-in_ok-copy-in-Call-2 : goal.copy-returns-in_ok-copy-in-Call-2
copy-returns-in_ok-copy-in-Call-2 t c =
    let all = take_all c.loop-argument.argument-index c.deref-argument-items.result.now c.loop-argument-test.false in
    call_is _ _ _
    ∙ ap (λ b. call c.in-Call.place b (trees_of (map expression c.loop-argument.copies.items))) c.in_ok-copy-in-Call-2.ensures
    ∙ ap (λ l. call c.in-Call.place c.in-Call.name (trees_of l)) (c.loop-argument.invariant ∙ ap (map expression) (all ∙ c.deref-argument-items.ensures.value))
    ∙ sym (ap expression c.in-Call.is ∙ call_is _ _ _)
