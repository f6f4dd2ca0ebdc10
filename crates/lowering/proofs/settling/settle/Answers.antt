use Rattle.std.proofs.Common.{◌≡◌, ◌+◌, ◌-◌, length, refl, ap, ◌∙◌, arith}
use Rattle.lowered_expressions.specs.Built.{Built}
use Rattle.lowered_expressions.specs.Views.{built}
use Rattle.lowered_expressions.proofs.Building.{body_of}
use Rattle.lowering.specs.inner.Pieces.{with_settled}
use Rattle.lowering.proofs.SettledParts.{part_begins, part_next, part_length}
use Rattle.lowering.proofs.settling.settle.Goals as goal

pub loop-place-init : goal.loop-place-init
loop-place-init c =
    let b = built c.args.body.now in
    let none : c.args.from - c.args.from ≡ 0 = omega arith in
    record {
      code = ap body_of (part_begins c.args.break_to c.args.continue_to c.args.from (c.args.from - c.args.from) b.pieces none);
      many = refl;
    }

pub loop-place-preserved : goal.loop-place-preserved
loop-place-preserved c =
    let b = built c.args.body.now in
    let x = c.args.break_to in
    let y = c.args.continue_to in
    let k = c.loop-place.place in
    let n = k - c.args.from in
    let there : k ≡ c.args.from + n = omega arith in
    let next : k + 1 - c.args.from ≡ n + 1 = omega arith in
    record {
      code =
          c.settle_one.ensures
          ∙ ap (λ (z : Built). with_settled z k 1 x y) c.loop-place.invariant.code
          ∙ ap body_of (part_next x y c.args.from k n (k + 1 - c.args.from) b.pieces there next);
      many =
          ap (λ (z : Built). length z.pieces) c.settle_one.ensures ∙ part_length x y k 1 (built c.loop-place.body).pieces ∙ c.loop-place.invariant.many;
    }
