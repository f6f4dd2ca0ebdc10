use Rattle.std.proofs.Common.{◌≡◌, ◌<◌, ◌∙◌, length, refl, sym, ap₂, arith}
use Rattle.lane_kernel.specs.Lanewise.{crossed}
use Rattle.proto_core.proofs.Edits.{edited_none, edited_more, edited_done}
use Rattle.lane_kernel.proofs.Crosses.{crossed_more}
use Rattle.lane_kernel.proofs.cross.cross.Goals as goal

pub loop-at-init : goal.loop-at-init
loop-at-init g c = (omega arith, sym (edited_none (crossed g.R.ShareRing.ring c.args.u.now c.args.v.now c.args.up.now c.args.vp.now) c.args.w.now))

pub loop-at-preserved : goal.loop-at-preserved
loop-at-preserved g c = (
  omega arith,
  crossed_more g.R.ShareRing.ring c.loop-at.at c.args.u.now c.args.v.now c.args.up.now c.args.vp.now
      (omega (arith, c.requires.u)) (omega (arith, c.requires.v)) (omega (arith, c.requires.up)) (omega (arith, c.requires.vp))
      c.args.w.now c.loop-at.w c.some_lanes.new.w (omega arith) c.loop-at.invariant.1 c.some_lanes.ensures,
)

pub loop-at-2-preserved : goal.loop-at-2-preserved
loop-at-2-preserved g c =
    let r = g.R.ShareRing.ring in
    let f = crossed r c.args.u.now c.args.v.now c.args.up.now c.args.vp.now in
    let i = c.loop-at-2.at in
    let within : i < length c.args.w.now = omega arith in
    let made : c.add.result ≡ f i =
    c.add.ensures ∙ ap₂ r.add (c.add-both.ensures ∙ ap₂ r.add c.mul-own.ensures c.mul.ensures) c.mul-in-loop-at-2.ensures in (
      omega arith,
      edited_more i f c.args.w.now c.loop-at-2.w _ c.add.result within c.loop-at-2.invariant.1 made refl,
    )

pub returns : goal.returns
returns g c =
    edited_done (length c.args.w.now) c.loop-at-2.at (crossed g.R.ShareRing.ring c.args.u.now c.args.v.now c.args.up.now c.args.vp.now) c.args.w.now
    c.loop-at-2.w (omega arith) refl c.loop-at-2.invariant.1
