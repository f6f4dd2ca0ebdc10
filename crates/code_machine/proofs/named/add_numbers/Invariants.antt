use Rattle.std.proofs.Common.{◌≡◌, ℕ, drop}
use Rattle.std.specs.Prelude.{◌||◌}
use Rattle.std.specs.BTreeSet.{contains}
use Rattle.std.specs.Ordering.{nat_cmp}
use Rattle.code_machine.specs.Named.{is_in}
use Rattle.code_machine.proofs.named.add_numbers.Given as goal

abbrev pub invariant-loop-value : goal.invariant-loop-value
invariant-loop-value l =
    (k : ℕ) → contains nat_cmp l.fn.numbers k || is_in l.registers k ≡ contains nat_cmp l.numbers k || is_in (drop l.value-index l.registers) k
