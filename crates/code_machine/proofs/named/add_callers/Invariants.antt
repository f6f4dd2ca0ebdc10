use Rattle.std.proofs.Common.{◌≡◌, ℕ, drop}
use Rattle.std.specs.Prelude.{◌||◌}
use Rattle.std.specs.BTreeSet.{contains}
use Rattle.std.specs.Ordering.{nat_cmp}
use Rattle.code_machine.specs.Named.{is_in_any}
use Rattle.code_machine.proofs.named.add_callers.Given as goal

abbrev pub invariant-loop-caller : goal.invariant-loop-caller
invariant-loop-caller l =
    (k : ℕ) → contains nat_cmp l.fn.numbers k || is_in_any l.callers k ≡ contains nat_cmp l.numbers k || is_in_any (drop l.caller-index l.callers) k
