use Rattle.std.proofs.Common.{arith, sym, ◌∙◌}
use Rattle.view_reader.proofs.Limits.{below_some, below_far, below_none}
use Rattle.view_reader.proofs.elements.below_in.Goals as goal

pub returns-in_default : goal.returns-in_default
returns-in_default c = below_none c.args.digits.now (sym c.in_default.is ∙ c.in_ok-number.ensures)

pub returns-then-number-eq0 : goal.returns-then-number-eq0
returns-then-number-eq0 c =
    let none = c.if-number-eq0.true in
    below_far c.args.digits.now c.in-Some.number (sym c.in-Some.is ∙ c.in_ok-number.ensures) (λ some low. omega (arith, none, some))

pub returns-then-number-le-FURTHEST_BELOW : goal.returns-then-number-le-FURTHEST_BELOW
returns-then-number-le-FURTHEST_BELOW c =
    let some = c.if-number-eq0.false in
    let low = c.if-number-le-FURTHEST_BELOW.true in
    below_some c.args.digits.now c.in-Some.number (sym c.in-Some.is ∙ c.in_ok-number.ensures) (omega (arith, some)) (omega (arith, low))

pub returns-else-number-le-FURTHEST_BELOW : goal.returns-else-number-le-FURTHEST_BELOW
returns-else-number-le-FURTHEST_BELOW c =
    let high = c.if-number-le-FURTHEST_BELOW.false in
    below_far c.args.digits.now c.in-Some.number (sym c.in-Some.is ∙ c.in_ok-number.ensures) (λ some low. omega (arith, high, low))
