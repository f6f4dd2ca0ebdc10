use Rattle.std.proofs.Common.{◌≡◌, ℕ, ◌-◌, ◌^◌, take}
use Rattle.std.specs.BTreeSet.{contains}
use Rattle.std.specs.Ordering.{nat_cmp}
use Rattle.declarations.specs.Views.{declared}
use Rattle.domain_types.specs.inner.WorkList.{plain_instances, instance_faults, instance_calls, gathered, is_called, AreVisited}
use Rattle.domain_types.specs.inner.LeastFault.{least}
use Rattle.domain_types.proofs.visiting.visit_all.Given as goal

abbrev pub invariant-loop-next : goal.invariant-loop-next
invariant-loop-next l = record {
  least_fault : l.least_fault ≡ least l.fn.least_fault (gathered (instance_faults (declared l.declarations)) (take l.next l.list));
  visited : AreVisited (declared l.declarations) (plain_instances (declared l.declarations)) (take l.next l.list) l.list;
  called : (k : ℕ) → contains nat_cmp l.called k ≡ is_called k (gathered (instance_calls (declared l.declarations)) (take l.next l.list));
}

abbrev pub decreases-loop-next : goal.decreases-loop-next
decreases-loop-next l = 2 ^ 64 - l.next
