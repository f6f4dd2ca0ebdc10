use Rattle.std.proofs.Common.{Some, None}
use Rattle.program_trees.specs.TypedPrograms.{typed_program_tree}
use Rattle.reached_instances.specs.Views.{instances_seen}
use Rattle.reached_instances.proofs.Verdicts.{verdict_known, just_this}
use Rattle.reached_instances.proofs.limits.check_limits.Goals as goal

pub returns-in-None-clause-only : goal.returns-in-None-clause-only
returns-in-None-clause-only c = λ refused v.
    verdict_known (typed_program_tree c.args.program.now) (instances_seen c.as_slice.result.now) None refused
    (rw c.as_slice.ensures c.in_ok-instances.ensures.list) c.in-None.ensures v

pub returns-clause-only : goal.returns-clause-only
returns-clause-only c = λ refused v.
    just_this c.in-Some.error refused
    (verdict_known (typed_program_tree c.args.program.now) (instances_seen c.as_slice.result.now) (Some c.in-Some.error) refused
    (rw c.as_slice.ensures c.in_ok-instances.ensures.list) c.in-Some.ensures v)
