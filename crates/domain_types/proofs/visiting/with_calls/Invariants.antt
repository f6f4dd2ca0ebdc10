use Rattle.std.proofs.Common.{◌≡◌, ℕ, drop}
use Rattle.std.specs.Prelude.{◌||◌}
use Rattle.std.specs.BTreeSet.{contains}
use Rattle.std.specs.Ordering.{nat_cmp}
use Rattle.domain_types.specs.Views.{calls_seen}
use Rattle.domain_types.specs.inner.WorkList.{with_calls, is_called}
use Rattle.domain_types.proofs.visiting.with_calls.Given as goal

abbrev pub invariant-loop-call : goal.invariant-loop-call
invariant-loop-call l = record {
  list : with_calls l.fn.list (calls_seen l.calls) ≡ with_calls l.list (calls_seen (drop l.call-index l.calls));
  called : (k : ℕ) → contains nat_cmp l.fn.called k || is_called k (calls_seen l.calls)
      ≡ contains nat_cmp l.called k || is_called k (calls_seen (drop l.call-index l.calls));
}
