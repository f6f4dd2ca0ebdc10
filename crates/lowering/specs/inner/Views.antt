-- Cited by private functions alone: no contract of another crate rests on it.
-- What the types of this crate stand for.
use Rattle.std.specs.Prelude.{map}
use Rattle.language_model.specs.Evaluation.{StatementContext}
use Rattle.code_model.specs.Expressions.{Numbers}
use Rattle.verified_code.specs.Steps.{Function}
use Rattle.lowered_expressions.specs.Views.{here_of, numbers_of, step_seen}
use Rattle.lowering.specs.declared.place.LoweringContext as places
use Rattle.lowering.specs.declared.functions.FunctionSteps as functions

abbrev pub place_seen : places.LoweringContext → StatementContext
place_seen at = record { here = here_of at.around; secret_result = at.secret_result }

abbrev pub numbers_at : places.LoweringContext → Numbers
numbers_at at = numbers_of at.around

abbrev pub function_seen : functions.FunctionSteps → Function
function_seen f = record { parameters = f.parameters; gives = f.gives; kinds = f.registers.items; steps = map step_seen f.steps.items }
