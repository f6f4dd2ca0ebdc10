use Rattle.std.proofs.Common.{◌≡◌, [], drop}
use Rattle.std.specs.Prelude.{map}
use Rattle.declarations.specs.Views.{tree_at}
use Rattle.domain_types.specs.inner.WorkList.{with_plain}
use Rattle.domain_types.proofs.visiting.plain.Given as goal

abbrev pub invariant-loop-number : goal.invariant-loop-number
invariant-loop-number l =
    with_plain [] 0 (map tree_at l.functions) ≡ with_plain l.list l.number (map tree_at (drop l.number l.functions))
