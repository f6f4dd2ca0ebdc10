use Rattle.std.proofs.Common.{sym, ◌∙◌}
use Rattle.code_model.specs.Instructions.{instruction}
use Rattle.lowered_expressions.specs.Views.{step_seen}
use Rattle.lowering.specs.inner.Naming.{texts}
use Rattle.lowering.proofs.Short.{capped_is, refused}
use Rattle.lowering.proofs.instructions.instruction.Goals as goal

pub returns-then-not-are_short-clause-refused : goal.returns-then-not-are_short-clause-refused
returns-then-not-are_short-clause-refused c =
    refused (instruction (texts c.args.names.now) (step_seen c.args.step.now)) (sym c.are_short.ensures ∙ c.if-not-are_short.true)

pub returns-clause-code : goal.returns-clause-code
returns-clause-code c =
    c.in_ok-capped_instruction.ensures
    ∙ capped_is (instruction (texts c.args.names.now) (step_seen c.args.step.now)) (sym c.are_short.ensures ∙ c.if-not-are_short.false)
