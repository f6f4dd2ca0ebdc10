use Rattle.std.proofs.Common.{◌≡◌, ◌<◌, ◌∙◌, ℕ, length, refl, sym, ap, arith}
use Rattle.proto_core.specs.Lists.{at}
use Rattle.proto_core.proofs.Edits.{edited_none, at-edited, edited_more, edited_done}
use Rattle.lane_kernel.proofs.Several.{lanes_more}
use Rattle.lane_kernel.proofs.over.over.Goals as goal

pub loop-at-init : goal.loop-at-init
loop-at-init g c = (omega arith, sym (edited_none (λ k. g.O.LaneOp.op (at c.args.acc.now k) (at c.args.x.now k)) c.args.acc.now))

pub loop-at-preserved : goal.loop-at-preserved
loop-at-preserved g c = (
  omega arith,
  lanes_more g.O.LaneOp.op c.loop-at.at c.args.acc.now c.args.x.now c.loop-at.acc c.some_lanes.new.acc (omega arith) c.requires
      c.loop-at.invariant.1 c.some_lanes.ensures,
)

pub loop-at-2-preserved : goal.loop-at-2-preserved
loop-at-2-preserved g c =
    let op = g.O.LaneOp.op in
    let xs = c.args.acc.now in
    let i = c.loop-at-2.at in
    let f : ℕ → ℕ = λ k. op (at xs k) (at c.args.x.now k) in
    let within : i < length xs = omega arith in
    let made : c.one.result ≡ f i =
    c.one.ensures ∙ ap (λ w. op w (at c.args.x.now i)) (ap (λ ys. at ys i) c.loop-at-2.invariant.1 ∙ at-edited i f xs) in (
      omega arith,
      edited_more i f xs c.loop-at-2.acc _ c.one.result within c.loop-at-2.invariant.1 made refl,
    )

pub returns : goal.returns
returns g c =
    let xs = c.args.acc.now in
    edited_done (length xs) c.loop-at-2.at (λ k. g.O.LaneOp.op (at xs k) (at c.args.x.now k)) xs c.loop-at-2.acc (omega arith) refl
    c.loop-at-2.invariant.1
