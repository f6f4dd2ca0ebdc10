use Rattle.std.proofs.Common.{ap, ◌∙◌}
use Rattle.std.specs.Prelude.{map}
use Rattle.std.specs.List.{flat_map}
use Rattle.std.proofs.lemmas.Result.{err_from_is_err_and}
use Rattle.bytecode.specs.InMemory.{raw_instruction}
use Rattle.bytecode.specs.Written.{instruction_numbers}
use Rattle.code_model.specs.Instructions.{instruction}
use Rattle.lowered_expressions.specs.Views.{step_seen}
use Rattle.lowering.specs.inner.Naming.{texts}
use Rattle.lowering.specs.Narrow.{IsJust}
use Rattle.lowering.proofs.Short.{just_seen, handed}
use Rattle.lowering.proofs.Pushed.{pushed}
use Rattle.lowering.proofs.instructions.instructions.Goals as goal

pub returns-in_err-next-clause-refused : goal.returns-in_err-next-clause-refused
returns-in_err-next-clause-refused c =
    let xs = c.args.steps.now in
    let seen = instruction (texts c.args.names.now) in
    let from = c.from_residual-in_err-next.ensures in
    handed (λ e. IsJust e (flat_map instruction_numbers (map seen (map step_seen xs)))) c.in_err-next.field-0.0 c.from_residual-in_err-next.result
    (err_from_is_err_and c.from_residual-in_err-next.result from.1)
    (just_seen c.in_err-next.field-0.0 instruction_numbers seen step_seen xs c.loop-step.step-index c.step-item.result c.loop-step-test.true c.step-item.is
    c.in_err-next.ensures.refused)

pub loop-step-preserved : goal.loop-step-preserved
loop-step-preserved c =
    let loop = c.loop-step in
    ap (map raw_instruction) c.in_ok-push.ensures
    ∙ pushed raw_instruction (instruction (texts c.args.names.now)) step_seen loop.body.items c.args.steps.now loop.step-index c.step-item.result _
    c.loop-step-test.true c.step-item.is loop.invariant c.in_ok-next.ensures.code
