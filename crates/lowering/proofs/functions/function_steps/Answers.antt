use Rattle.std.proofs.Common.{◌≡◌, ℕ, Bool, List, [], ◌++◌, ap, ap₂, ◌∙◌}
use Rattle.std.specs.Prelude.{map, Option}
use Rattle.program_trees.specs.declared.kinds.Slot.{Slot}
use Rattle.program_trees.specs.TypedStatements.{typed_statement, typed_statements_of}
use Rattle.program_trees.specs.TypedPrograms.{typed_function_tree}
use Rattle.reached_instances.specs.Domains.{given_domain}
use Rattle.language_model.specs.Evaluation.{is_private}
use Rattle.bytecode.specs.declared.kind.Kind.{Kind}
use Rattle.code_model.specs.Kinds.{slot_kind, rows_kinds}
use Rattle.code_model.specs.Statements.{defaults_behind}
use Rattle.lowered_expressions.specs.Built.{BodyPiece}
use Rattle.lowered_expressions.specs.Views.{built, here_of, numbers_of, piece_seen, step_seen}
use Rattle.lowered_expressions.proofs.Building.{body_of}
use Rattle.lowering.specs.inner.Pieces.{with_statements}
use Rattle.lowering.specs.inner.Views.{place_seen}
use Rattle.lowering.proofs.Bodies.{function_made, function_of}
use Rattle.lowering.proofs.functions.function_steps.Goals as goal

pub returns : goal.returns
returns c =
    let number = numbers_of c.args.around.now in
    let fs = (here_of c.args.around.now).functions in
    let b = c.args.around.now.here.binding.now in
    let f = typed_function_tree c.args.function.now in
    let first = c.in_ok-registers.registers.items in
    let steps = map step_seen c.in_ok-steps.steps.items in
    let kinds = c.push_last.new.registers.items in
    let private : c.is_private.result ≡ is_private (given_domain b f.given) = c.is_private.ensures ∙ ap is_private c.given_domain.ensures in
    let cs = typed_statements_of (map typed_statement c.args.function.now.body.items) in
    ap (λ (g : Option Kind). function_of f.parameters g kinds steps) c.given_kind.ensures
    ∙ function_made number fs f b first c.push_rows.new.registers.items kinds (built c.statements.new.body) (built c.push_last.new.body)
    c.next_place-end.result steps
    (c.in_ok-registers.ensures ∙ ap (λ (ss : List Slot). map (slot_kind b) ss ++ defaults_behind ss) c.deref.ensures.value)
    (c.in_ok-push_rows.ensures ∙ ap (λ (n : ℕ). first ++ rows_kinds n) c.in_ok-rows.ensures)
    (c.in_ok-statements.ensures
    ∙ ap (λ (ps : List BodyPiece). with_statements number (place_seen (record { around = c.args.around.now; secret_result = c.is_private.result }))
    (body_of ps) cs)
    (ap (map piece_seen) c.new.ensures.items)
    ∙ ap₂ (λ (ss : List Slot) (secret : Bool). with_statements number
    (record { here = record { functions = fs; slots = ss; binding = b }; secret_result = secret })
    (body_of []) cs) c.requires private)
    c.next_place-end.ensures c.in_ok-push_last.ensures.body c.in_ok-push_last.ensures.registers c.in_ok-steps.ensures
