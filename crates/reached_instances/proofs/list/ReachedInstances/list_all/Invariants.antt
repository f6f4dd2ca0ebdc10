use Rattle.std.proofs.Common.{◌≡◌}
use Rattle.std.specs.Prelude.{fold}
use Rattle.reached_instances.specs.Instances.{listing}
use Rattle.reached_instances.specs.Views.{instances_seen}
use Rattle.reached_instances.proofs.list.ReachedInstances.list_all.Given as goal

abbrev pub invariant-loop-instance : goal.invariant-loop-instance
invariant-loop-instance l = instances_seen l.self-inside.list.keys ≡ fold listing l.fn.self (instances_seen l.yielded)
