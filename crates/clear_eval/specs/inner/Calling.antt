-- Cited by private functions alone: no contract of another crate rests on it.
-- What a call is charged.
use Rattle.std.specs.Prelude.{ℕ, zero, suc, List, map, sum}
use Rattle.sc_text.specs.declared.end.Ending.TheVariants as ending
use Rattle.sc_text.specs.declared.end.TrapKind.TheVariants as trap
use Rattle.language_model.specs.Effects.{Effect, ◌>>=◌, end, charge}
use Rattle.language_model.specs.Values.{Value}
use Rattle.language_model.specs.Evaluation.{array_elements}

-- where there is room for so many calls inside one another: 1, and then the elements of its arrays
abbrev pub call_charged : (depth line : ℕ) → List Value → Effect (Unit {0})
call_charged zero line xs = do
  _ ← charge 1
  end (ending.Trap trap.Depth line)
call_charged (suc d) line xs = do
  _ ← charge 1
  charge (sum (map array_elements xs))
