use Rattle.std.proofs.Common.{◌≡◌, drop}
use Rattle.std.specs.Prelude.{nat_lt}
use Rattle.std.specs.List.{find}
use Rattle.program_trees.specs.TypedPrograms.{typed_program_tree}
use Rattle.reached_instances.specs.Views.{instances_seen}
use Rattle.reached_instances.specs.Limits.{sizes}
use Rattle.reached_instances.proofs.sizes.first_too_large.Given as goal

abbrev pub invariant-loop-instance : goal.invariant-loop-instance
invariant-loop-instance l =
    find (nat_lt 4095) (sizes (typed_program_tree l.program) (instances_seen (drop l.instance-index l.instances)))
    ≡ find (nat_lt 4095) (sizes (typed_program_tree l.program) (instances_seen l.instances))
