-- The operators' bytes, as the signs of the language.
use Rattle.std.specs.Prelude.{◌≡◌, ℕ, ◌<◌, ◌==◌, Some, None, if◌then◌else◌}
use Rattle.program_trees.specs.declared.expression.Operator.{Operator}
use Rattle.program_trees.specs.declared.expression.Operator.TheVariants as sign
use Rattle.program_trees.specs.Operators.{word_operator, int_operator, bool_operator}
use Rattle.verified_code.specs.Fitting.{word_operator_at, has_ints, has_bools, bool_operator_at}

abbrev pub sign_at : ℕ → Operator
sign_at o =
    if o == 0 then sign.Add else if o == 1 then sign.Subtract else if o == 2 then sign.Multiply else if o == 3 then sign.Divide else
    if o == 4 then sign.Remainder else if o == 5 then sign.Equal else if o == 6 then sign.NotEqual else if o == 7 then sign.Less else
    if o == 8 then sign.LessOrEqual else if o == 9 then sign.Greater else if o == 10 then sign.GreaterOrEqual else
    if o == 11 then sign.And else if o == 12 then sign.Or else sign.Xor

abbrev pub WordsAreSigned : Type 0
WordsAreSigned = (o : ℕ) → o < 14 → word_operator (sign_at o) ≡ Some (word_operator_at o)

abbrev pub IntsAreSigned : Type 0
IntsAreSigned = (o : ℕ) → o < 14 → int_operator (sign_at o) ≡ (if has_ints o then Some (word_operator_at o) else None)

abbrev pub BoolsAreSigned : Type 0
BoolsAreSigned = (o : ℕ) → o < 14 → bool_operator (sign_at o) ≡ (if has_bools o then Some (bool_operator_at o) else None)
