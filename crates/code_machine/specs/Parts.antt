-- What the parts of a step do to a run.
use Rattle.std.specs.Prelude.{ℕ, ◌+◌, Bool, List, map, sum, nat_lt}
use Rattle.sc_text.specs.declared.end.TrapKind.TheVariants as trap
use Rattle.language_model.specs.Effects.{Effect, ◌>>=◌, done, charge, test}
use Rattle.language_model.specs.Values.{Value, size}
use Rattle.language_model.specs.Operations as row
use Rattle.language_model.specs.Evaluation.{array_elements, either}
use Rattle.named_values.specs.Machine.{Machine, at, next, limit, same_truth}

-- a value is stored in the register of a variable: this is charged
abbrev pub stored : ℕ → Value → Machine → Effect Machine
stored d v m = do
  _ ← row.charged row.no_traps (size v)
  done (next d v m)

-- a call, where so many calls stand in one another
abbrev pub call_charged : (depth line : ℕ) → (arguments : List Value) → Effect (Unit {0})
call_charged depth line xs = do
  _ ← charge 1
  _ ← test (nat_lt depth limit) trap.Depth line
  charge (sum (map array_elements xs))

-- a value that is made goes to a register
abbrev pub into : ℕ → Machine → Effect Value → Effect Machine
into d m made = do
  v ← made
  done (next d v m)

abbrev pub branched : (condition : Value) → Bool → (target : ℕ) → Machine → Effect Machine
branched v b target m = do
  t ← row.tested v
  done (at (either (same_truth t b) target (m.pc + 1)) m)
