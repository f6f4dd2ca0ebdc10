use Rattle.std.proofs.Common.{◌-◌, ◌^◌}
use Rattle.program_trees.specs.TypedPrograms.{typed_program_tree}
use Rattle.reached_instances.proofs.ReachedLists.{IsReadTo}
use Rattle.reached_instances.proofs.reaching.reached_instances.Given as goal

abbrev pub invariant-loop-instance : goal.invariant-loop-instance
invariant-loop-instance l = IsReadTo (typed_program_tree l.program) l.next l.reached

abbrev pub decreases-loop-instance : goal.decreases-loop-instance
decreases-loop-instance l = 2 ^ 64 - l.next
