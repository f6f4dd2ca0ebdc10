-- A program has one list of reached instances, and so one verdict.
use Rattle.std.proofs.Common.{◌≡◌, List, Option, Some, Err, sym, ap, ◌∙◌}
use Rattle.program_trees.specs.TypedPrograms.{TypedProgramTree}
use Rattle.reached_instances.specs.Instances.{Instance}
use Rattle.reached_instances.specs.Reached.{IsReachedList}
use Rattle.reached_instances.proofs.ReachedLists.{is_the_only_list}
use Rattle.reached_instances.specs.declared.limit_err.LimitErr.{LimitErr}
use Rattle.reached_instances.specs.declared.limit_err.LimitErr.TheVariants.{TooManyInstances, ProgramTooLarge, FunctionTooLarge, Memory}
use Rattle.reached_instances.specs.Limits.{refusal, IsVerdict}
use Rattle.reached_instances.specs.LimitAnswer.{IsJust}

pub verdict_known : (p : TypedProgramTree) (list : List Instance) (known refused : Option LimitErr) → IsReachedList p list → known ≡ refusal p list
    → IsVerdict p refused → refused ≡ known
verdict_known p list known refused reached is v =
    sym v.is ∙ ap (refusal p) (is_the_only_list p v.list list v.reached reached) ∙ sym is

pub just_this : (error : LimitErr) (refused : Option LimitErr) → refused ≡ Some error → IsJust (Err error) refused
just_this (TooManyInstances count) refused is = is
just_this (ProgramTooLarge size) refused is = is
just_this (FunctionTooLarge size) refused is = is
just_this Memory refused is = tt
