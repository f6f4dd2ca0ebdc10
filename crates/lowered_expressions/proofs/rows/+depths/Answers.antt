use Rattle.std.proofs.Common.{◌≡◌, ℕ, ◌+◌, ◌*◌, ◌<◌, ◌≤◌, [], ◌∷◌, ◌++◌, length, take, get_or, sym, ap, ap₂, ◌∙◌, subst, arith, rules}
use Rattle.std.specs.Prelude.{map, max}
use Rattle.std.proofs.lemmas.List.{take_more, map-append}
use Rattle.program_trees.specs.declared.typed_expression.TypedExpression.{TypedExpression}
use Rattle.program_trees.specs.TypedTree.{typed_tree, typed_trees_of}
use Rattle.code_model.specs.Kinds.{depth, depths}
use Rattle.code_model.proofs.Widths.{width, widths, depths_more}
use Rattle.lowered_expressions.proofs.Arguments as several
use Rattle.lowered_expressions.proofs.rows.+depths.Goals as goal

pub depths-depth-requires : goal.depths-depth-requires
depths-depth-requires t c =
    let es = c.deref-e-items.result.now in
    let i = c.loop-e.e-index in
    let x = c.e-item.result in
    let within : width (typed_tree x) + 1 ≤ widths (typed_trees_of (map typed_tree c.args.list.now.items)) =
    subst (λ ys. width (typed_tree x) + 1 ≤ widths (typed_trees_of (map typed_tree ys))) c.deref-e-items.ensures.value
    (subst (λ (y : TypedExpression). width (typed_tree y) + 1 ≤ widths (typed_trees_of (map typed_tree es))) (sym c.e-item.is)
    (several.widths_item es i x c.loop-e-test.true)) in
    let smaller : 4 * width (typed_tree x) < 4 * widths (typed_trees_of (map typed_tree c.args.list.now.items)) + 1 = omega arith in
    search rules

pub depths-loop-e-preserved : goal.depths-loop-e-preserved
depths-loop-e-preserved t c =
    let xs = c.deref-e-items.result.now in
    let i = c.loop-e.e-index in
    let x = c.e-item.result in
    let ts = map typed_tree (take i xs) in
    let e = typed_tree x in
    let more : map typed_tree (take (i + 1) xs) ≡ ts ++ e ∷ [] =
    ap (map typed_tree) (take_more xs i x c.loop-e-test.true) ∙ map-append typed_tree (take i xs) (get_or xs i x ∷ [])
    ∙ ap (λ z. ts ++ typed_tree z ∷ []) (sym c.e-item.is) in
    let taken : length ts ≡ i = several.length_taken xs i c.loop-e-test.true in
    let until : c.in_ok-sum.field-0 ≡ length ts + depth e =
    c.in_ok-sum.ensures ∙ ap₂ (λ (n k : ℕ). n + k) (c.loop-e.invariant.before ∙ sym taken) c.in_ok-own.ensures in
    record {
      before = c.in_ok-before.ensures ∙ ap (λ (n : ℕ). n + 1) c.loop-e.invariant.before;
      rows =
          c.greater-rows.ensures
          ∙ ap₂ max c.loop-e.invariant.rows until
          ∙ sym (depths_more ts e)
          ∙ ap (λ l. depths (typed_trees_of l)) (sym more);
    }
