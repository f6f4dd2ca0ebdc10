use Rattle.std.proofs.Common.{◌≡◌, ◌<◌, ◌∙◌, ℕ, length, refl, sym, ap, arith}
use Rattle.proto_core.specs.Lists.{at}
use Rattle.proto_core.specs.Resharing.{reshared}
use Rattle.proto_core.proofs.Edits.{edited_none, at-edited, edited_more, edited_done}
use Rattle.reshare.proofs.kernels.add_masks.Goals as goal

pub loop-at-init : goal.loop-at-init
loop-at-init g c =
    let r = g.R.ShareRing.ring in (
      omega arith,
      sym (edited_none (λ k. r.sub (r.add (at c.args.share.now k) (at c.args.mask.now k)) (at c.args.got.now k)) c.args.share.now),
    )

pub loop-at-preserved : goal.loop-at-preserved
loop-at-preserved g c =
    let r = g.R.ShareRing.ring in
    let xs = c.args.share.now in
    let i = c.loop-at.at in
    let f : ℕ → ℕ = λ k. r.sub (r.add (at xs k) (at c.args.mask.now k)) (at c.args.got.now k) in
    let within : i < length xs = omega arith in
    let word : at c.loop-at.share i ≡ at xs i = ap (λ ys. at ys i) c.loop-at.invariant.1 ∙ at-edited i f xs in
    let made : c.sub.result ≡ f i =
    c.sub.ensures ∙ ap (λ w. r.sub w (at c.args.got.now i)) (c.add.ensures ∙ ap (λ w. r.add w (at c.args.mask.now i)) word) in (
      omega arith,
      edited_more i f xs c.loop-at.share _ c.sub.result within c.loop-at.invariant.1 made refl,
    )

pub returns : goal.returns
unfolding reshared
returns g c =
    let r = g.R.ShareRing.ring in
    let xs = c.args.share.now in
    edited_done (length xs) c.loop-at.at (λ k. r.sub (r.add (at xs k) (at c.args.mask.now k)) (at c.args.got.now k)) xs c.loop-at.share (omega arith) refl
    c.loop-at.invariant.1
