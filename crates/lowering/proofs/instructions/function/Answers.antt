use Rattle.std.proofs.Common.{◌++◌, subst}
use Rattle.std.specs.Prelude.{map}
use Rattle.std.specs.List.{flat_map}
use Rattle.std.proofs.lemmas.Result.{err_from_is_err_and}
use Rattle.bytecode.specs.Written.{body_numbers, head_numbers, instruction_numbers}
use Rattle.code_model.specs.Instructions.{instruction, raw_function}
use Rattle.lowered_expressions.specs.Views.{step_seen}
use Rattle.lowering.specs.inner.Naming.{texts}
use Rattle.lowering.specs.Narrow.{IsJust}
use Rattle.lowering.specs.inner.Views.{function_seen}
use Rattle.lowering.proofs.Short.{just_behind, handed}
use Rattle.lowering.proofs.instructions.function.Goals as goal

pub returns-in_err-body-clause-refused : goal.returns-in_err-body-clause-refused
returns-in_err-body-clause-refused c =
    let own = raw_function (texts c.args.names.now) (function_seen c.args.steps.now) in
    let from = c.from_residual-in_err-body.ensures in
    let e = c.in_err-body.field-0.0 in
    handed (λ e. IsJust e (head_numbers own ++ body_numbers own)) e c.from_residual-in_err-body.result
    (err_from_is_err_and c.from_residual-in_err-body.result from.1)
    (just_behind e (head_numbers own) (body_numbers own)
    (subst (λ steps. IsJust e (flat_map instruction_numbers (map (instruction (texts c.args.names.now)) (map step_seen steps)))) c.deref-2.ensures.value
    c.in_err-body.ensures.refused))
