use Rattle.std.proofs.Common.{◌≡◌, ◌+◌, ◌<◌, [], ◌∷◌, ◌++◌, take, get_or, sym, ap, ap₂, ◌∙◌, subst, rules}
use Rattle.std.specs.Prelude.{map, max}
use Rattle.std.proofs.lemmas.List.{take_more, map-append}
use Rattle.program_trees.specs.declared.typed_statement.TypedStatement.{TypedStatement}
use Rattle.program_trees.specs.TypedStatements.{typed_statement, typed_statements_of}
use Rattle.code_model.specs.Statements.{statements_depth}
use Rattle.lowering.proofs.Weights.{weight, weights, weights_item}
use Rattle.lowering.proofs.Sequences.{depth_more}
use Rattle.lowering.proofs.rows.+depths.Goals as goal

pub statements_depth-statement_depth-requires : goal.statements_depth-statement_depth-requires
statements_depth-statement_depth-requires t c =
    let es = c.deref-each-items.result.now in
    let i = c.loop-each.each-index in
    let x = c.each-item.result in
    let smaller : weight (typed_statement x) < weights (typed_statements_of (map typed_statement c.args.list.now.items)) + 1 =
    subst (λ ys. weight (typed_statement x) < weights (typed_statements_of (map typed_statement ys)) + 1) c.deref-each-items.ensures.value
    (subst (λ (y : TypedStatement). weight (typed_statement y) < weights (typed_statements_of (map typed_statement es)) + 1) (sym c.each-item.is)
    (weights_item es i x c.loop-each-test.true)) in
    search rules

pub statements_depth-loop-each-preserved : goal.statements_depth-loop-each-preserved
statements_depth-loop-each-preserved t c =
    let xs = c.deref-each-items.result.now in
    let i = c.loop-each.each-index in
    let x = c.each-item.result in
    let cs = map typed_statement (take i xs) in
    let more : map typed_statement (take (i + 1) xs) ≡ cs ++ typed_statement x ∷ [] =
    ap (map typed_statement) (take_more xs i x c.loop-each-test.true) ∙ map-append typed_statement (take i xs) (get_or xs i x ∷ [])
    ∙ ap (λ z. cs ++ typed_statement z ∷ []) (sym c.each-item.is) in
    c.greater-rows.ensures
    ∙ ap₂ max c.loop-each.invariant c.in_ok-own.ensures
    ∙ sym (depth_more cs (typed_statement x))
    ∙ ap (λ l. statements_depth (typed_statements_of l)) (sym more)
