-- Which programs are too large.
use Rattle.std.specs.Prelude.{◌≡◌, ℕ, nat_lt, if◌then◌else◌, min, List, map, sum, count_by, Option, Some, None, option_map}
use Rattle.std.specs.Option.{option_map_or}
use Rattle.std.specs.List.{slice_get, find}
use Rattle.program_trees.specs.TypedPrograms.{TypedProgramTree}
use Rattle.reached_instances.specs.Instances.{Instance}
use Rattle.reached_instances.specs.Reached.{IsReachedList}
use Rattle.reached_instances.specs.Templates.{is_of_template}
use Rattle.reached_instances.specs.declared.limit_err.LimitErr.{LimitErr}
use Rattle.reached_instances.specs.declared.limit_err.LimitErr.TheVariants.{TooManyInstances, ProgramTooLarge, FunctionTooLarge}

-- the size of an instance is its function's
abbrev pub size_of : TypedProgramTree → Instance → ℕ
size_of p i = option_map_or (λ f. f.size) (slice_get p.functions i.function) 0

abbrev pub sizes : TypedProgramTree → List Instance → List ℕ
sizes p list = map (size_of p) list

-- so many instances of templates and these sizes: what there is too much of, the first of three. All sizes together are told up to the
-- largest number of 64 bits
abbrev pub refusal_for : (templates : ℕ) → (sizes : List ℕ) → Option LimitErr
refusal_for templates sizes =
    if nat_lt 1024 templates then Some (TooManyInstances templates)
    else if nat_lt 65535 (sum sizes) then Some (ProgramTooLarge (min (sum sizes) 18446744073709551615))
    else option_map (λ size. FunctionTooLarge size) (find (nat_lt 4095) sizes)

abbrev pub refusal : TypedProgramTree → List Instance → Option LimitErr
refusal p list = refusal_for (count_by (is_of_template p) list) (sizes p list)

-- THE VERDICT on a program: the refusal of the instances that it reaches, if there is one
pub record IsVerdict (p : TypedProgramTree) (refused : Option LimitErr) : Type 0 where
  pub list : List Instance
  pub reached : IsReachedList p list
  pub is : refusal p list ≡ refused

-- it can be run
abbrev pub IsWithinLimits : TypedProgramTree → Type 0
IsWithinLimits p = IsVerdict p None
