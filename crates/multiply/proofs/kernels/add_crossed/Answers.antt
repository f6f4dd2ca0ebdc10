use Rattle.std.proofs.Common.{◌≤◌, ◌∙◌, length, refl, sym, arith}
use Rattle.proto_core.proofs.Edits.{edited_none, edited_done}
use Rattle.multiply.specs.ProductLaws.{cross-fields}
use Rattle.multiply.proofs.Crossings.{crossed_at, crossed_more, length-some}
use Rattle.multiply.proofs.kernels.add_crossed.Goals as goal

pub loop-at-init : goal.loop-at-init
loop-at-init g c =
    let mask = c.args.share.now in (
      omega arith,
      sym (edited_none (crossed_at g.R.ShareRing.ring c.args.u.now c.args.v.now c.args.previous.now mask (length mask)) mask),
    )

pub loop-at-preserved : goal.loop-at-preserved
loop-at-preserved g c =
    let mask = c.args.share.now in
    let i = c.loop-at.at in
    let e = c.min-end.result in
    let forward : i ≤ e = omega (arith, c.min-end.ensures) in
    let within : e ≤ length mask = omega (arith, c.min-end.ensures) in (
      within,
      crossed_more g.R.ShareRing.ring i e _ c.args.u.now c.args.v.now c.args.previous.now mask c.loop-at.share
          (length-some i _ c.loop-at.share (omega arith)) forward within _ c.add_some_crossed.new.share (omega arith) c.loop-at.invariant.1
          c.add_some_crossed.ensures,
    )

pub returns : goal.returns
returns g c =
    let r = g.R.ShareRing.ring in
    let mask = c.args.share.now in
    let n = length mask in
    edited_done n c.loop-at.at (crossed_at r c.args.u.now c.args.v.now c.args.previous.now mask n) mask c.loop-at.share (omega arith) refl
    c.loop-at.invariant.1
    ∙ cross-fields r n c.args.u.now c.args.v.now mask c.args.previous.now
