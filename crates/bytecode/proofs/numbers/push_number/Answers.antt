use Rattle.std.proofs.Common.{◌≡◌, ◌∙◌, ◌++◌, ◌-◌, ◌+◌, ◌/◌, ap, sym, arith}
use Rattle.bytecode.specs.Written.{little}
use Rattle.bytecode.proofs.Little.{little_begins, little_more, little_ends}
use Rattle.bytecode.proofs.numbers.push_number.Goals as goal

pub loop-place-init : goal.loop-place-init
loop-place-init c = little_begins c.args.text.now.items c.args.number.0 c.args.number.1

pub loop-place-preserved : goal.loop-place-preserved
loop-place-preserved c =
    ap (λ z. z ++ little (c.args.number.0 - (c.loop-place.place + 1)) (c.loop-place.left / 256)) c.in_ok-push.ensures.items
    ∙ little_more c.loop-place.text.items c.args.number.0 c.loop-place.place c.loop-place.left c.loop-place-test.true ∙ c.loop-place.invariant

pub returns : goal.returns
returns c =
    let e : c.loop-place.place ≡ c.args.number.0 = omega arith in
    sym (little_ends c.loop-place.text.items c.args.number.0 c.loop-place.left)
    ∙ ap (λ p. c.loop-place.text.items ++ little (c.args.number.0 - p) c.loop-place.left) (sym e) ∙ c.loop-place.invariant
