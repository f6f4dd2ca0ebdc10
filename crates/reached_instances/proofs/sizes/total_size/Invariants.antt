use Rattle.std.proofs.Common.{◌≡◌, take}
use Rattle.std.specs.Prelude.{min, sum}
use Rattle.program_trees.specs.TypedPrograms.{typed_program_tree}
use Rattle.reached_instances.specs.Views.{instances_seen}
use Rattle.reached_instances.specs.Limits.{sizes}
use Rattle.reached_instances.proofs.sizes.total_size.Given as goal

abbrev pub invariant-loop-instance : goal.invariant-loop-instance
invariant-loop-instance l =
    l.total ≡ min (sum (sizes (typed_program_tree l.program) (instances_seen (take l.instance-index l.instances)))) 18446744073709551615
