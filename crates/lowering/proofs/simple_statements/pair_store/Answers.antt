use Rattle.std.proofs.Common.{ℕ, Bool, ap, ◌∙◌}
use Rattle.std.proofs.lemmas.Result.{on_ok_weaker}
use Rattle.program_trees.specs.TypedTree.{typed_tree}
use Rattle.language_model.specs.Evaluation.{gives_private}
use Rattle.code_model.specs.Expressions.{classified_at, stands_at, next_row, expression_code, lacks, picked}
use Rattle.code_model.specs.Statements.{first_free}
use Rattle.lowered_expressions.specs.Built.{with_step, with_steps}
use Rattle.lowered_expressions.specs.Parts.{with_expression, with_operand}
use Rattle.lowered_expressions.specs.Views.{built, here_of, numbers_of}
use Rattle.lowering.specs.inner.Leaves.{pair_step}
use Rattle.lowering.proofs.Ends.{pair_made, pair_code, pair_is}
use Rattle.lowering.proofs.simple_statements.pair_store.Goals as goal

pub returns : goal.returns
returns c =
    let number = numbers_of c.args.around.now in
    let here = here_of c.args.around.now in
    let n = typed_tree c.args.number.now in
    let e = typed_tree c.args.e.now in
    let b = built c.args.body.now in
    let f = built c.expression.new.body in
    let last = pair_step c.args.store.pair c.args.store.line c.args.store.slot in
    let w = c.slot_is_private-private.result in
    let l = lacks w (gives_private here e) in
    let t = first_free here.slots in
    let u = next_row t in
    let behind = c.in_ok-behind.ensures ∙ ap next_row c.first_row-row.ensures in
    on_ok_weaker c.push.result
    (λ p. pair_made b f (built c.operand.new.body) (built c.push.new.self)
    (λ q. expression_code number here t q n) (λ q. expression_code number here u q e) l
    c.in_ok-first.first c.in_ok-second.second (stands_at here n t) (classified_at here e u) (stands_at here e u) last
    (c.in_ok-first.ensures.built ∙ ap (λ (r : ℕ). with_expression number here b r n) c.first_row-row.ensures)
    (c.in_ok-second.ensures.built ∙ ap (λ (r : ℕ). with_operand number here f r w e) behind)
    (p ∙ ap (with_step (built c.operand.new.body)) c.pair_step.ensures)
    (c.in_ok-first.ensures.register ∙ ap (stands_at here n) c.first_row-row.ensures)
    (c.in_ok-second.ensures.register ∙ ap (λ (r : ℕ). picked l (classified_at here e r) (stands_at here e r)) behind)
    ∙ ap (λ (g : Bool). with_steps b (pair_code number here b n e g last)) c.slot_is_private-private.ensures
    ∙ pair_is number here b c.args.store.pair c.args.store.line c.args.store.slot n e)
    c.push.ensures
