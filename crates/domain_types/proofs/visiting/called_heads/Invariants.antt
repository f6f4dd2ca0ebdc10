use Rattle.std.proofs.Common.{◌≡◌, drop}
use Rattle.std.specs.Prelude.{map}
use Rattle.std.specs.BTreeSet.{contains}
use Rattle.std.specs.Ordering.{nat_cmp}
use Rattle.declarations.specs.Views.{declared, tree_at}
use Rattle.domain_types.specs.inner.WorkList.{heads_faults}
use Rattle.domain_types.specs.inner.LeastFault.{least}
use Rattle.domain_types.proofs.visiting.called_heads.Given as goal

abbrev pub invariant-loop-number : goal.invariant-loop-number
invariant-loop-number l =
    least l.initial.least_fault (heads_faults (declared l.declarations) l.protections (contains nat_cmp l.called) 0
    (map tree_at l.declarations.functions.items))
    ≡ least l.least_fault (heads_faults (declared l.declarations) l.protections (contains nat_cmp l.called) l.number-counter
    (map tree_at (drop l.number-counter l.declarations.functions.items)))
