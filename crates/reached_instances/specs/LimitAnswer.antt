-- What `check_limits` answers.
use Rattle.std.specs.Prelude.{◌≡◌, Option, Some, None, Result, Ok, Err}
use Rattle.program_trees.specs.TypedPrograms.{TypedProgramTree}
use Rattle.reached_instances.specs.declared.limit_err.LimitErr.{LimitErr}
use Rattle.reached_instances.specs.declared.limit_err.LimitErr.TheVariants.{TooManyInstances, ProgramTooLarge, FunctionTooLarge, Memory}
use Rattle.reached_instances.specs.Limits.{IsVerdict}

-- the verdict on the program, unless memory ran out
abbrev pub IsAnswer : TypedProgramTree → Result (Unit {0}) LimitErr → Type 0
IsAnswer p (Ok done) = IsVerdict p None
IsAnswer p (Err (TooManyInstances count)) = IsVerdict p (Some (TooManyInstances count))
IsAnswer p (Err (ProgramTooLarge size)) = IsVerdict p (Some (ProgramTooLarge size))
IsAnswer p (Err (FunctionTooLarge size)) = IsVerdict p (Some (FunctionTooLarge size))
IsAnswer p (Err Memory) = Unit {0}

-- this one, unless memory ran out
abbrev pub IsJust : Result (Unit {0}) LimitErr → Option LimitErr → Type 0
IsJust (Ok done) refused = refused ≡ None
IsJust (Err (TooManyInstances count)) refused = refused ≡ Some (TooManyInstances count)
IsJust (Err (ProgramTooLarge size)) refused = refused ≡ Some (ProgramTooLarge size)
IsJust (Err (FunctionTooLarge size)) refused = refused ≡ Some (FunctionTooLarge size)
IsJust (Err Memory) refused = Unit {0}
