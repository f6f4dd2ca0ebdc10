-- Worked values of the forms.
use Rattle.std.specs.Prelude.{◌≡◌, [], codes, refl}
use Rattle.std.specs.Fmt.{digits}
use Rattle.sc_text.specs.Elements.{elements_text, element_text}
use Rattle.sc_text.specs.Fault.{fault_line, fault_text, counted_code}
use Rattle.reached_instances.specs.declared.limit_err.LimitErr.TheVariants.{FunctionTooLarge}
use Rattle.language_model.specs.Effects.{Ended}
use Rattle.language_model.specs.Reports.{Report}
use Rattle.sc_text.specs.declared.end.Ending.TheVariants.{Done}
use Rattle.program_commands.specs.Compile.{functions_text}
use Rattle.program_commands.specs.Eval.{need_text}
use Rattle.program_commands.specs.Programs.{too_large}

pub function_too_large : (too_large (FunctionTooLarge 4097)).line ≡ codes "error: X3 4097\n"
unfolding too_large fault_line fault_text counted_code digits
function_too_large = refl

-- an equality that is opened
abbrev equality_told : Report
equality_told = record { stop = Ended Done; cost = 8; dealt = 4; drawn = record { first = 20; second = 19; third = 19 }; events = []; opened = []; gates = [] }

pub words_for_equality : need_text equality_told ≡ codes "need 4 20 19 19\n"
unfolding need_text elements_text element_text digits
words_for_equality = refl

pub two_functions : functions_text 2 ≡ codes "functions 2\n"
unfolding functions_text digits
two_functions = refl
