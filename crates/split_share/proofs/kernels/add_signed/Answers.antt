use Rattle.std.proofs.Common.{◌≡◌, ◌<◌, ◌∙◌, ℕ, length, refl, sym, ap, arith}
use Rattle.proto_core.specs.Rings.{add_ring}
use Rattle.proto_core.specs.Lists.{at}
use Rattle.proto_core.proofs.Edits.{edited_none, at-edited, edited_more, edited_done}
use Rattle.split_share.specs.SplitStrand.{signed, signed_sum}
use Rattle.split_share.proofs.kernels.add_signed.Goals as goal

pub loop-at-init : goal.loop-at-init
loop-at-init c =
    let xs = c.args.x.now in
    let got = c.args.got.now in
    (omega arith, sym (edited_none (λ k. signed c.args.negated (add_ring.add (at xs k) (at got k))) xs))

pub loop-at-preserved : goal.loop-at-preserved
loop-at-preserved c =
    let xs = c.args.x.now in
    let got = c.args.got.now in
    let f : ℕ → ℕ = λ k. signed c.args.negated (add_ring.add (at xs k) (at got k)) in
    let i = c.loop-at.at in
    let within : i < length xs = omega arith in
    let word : at c.loop-at.x i ≡ at xs i = ap (λ ys. at ys i) c.loop-at.invariant.1 ∙ at-edited i f xs in
    let made : c.with_sign.result ≡ f i = c.with_sign.ensures ∙ ap (signed c.args.negated) (c.add.ensures ∙ ap (λ w. add_ring.add w (at got i)) word) in
    (omega arith, edited_more i f xs c.loop-at.x _ (c.with_sign.result) within c.loop-at.invariant.1 made refl)

pub returns : goal.returns
unfolding signed_sum
returns c =
    let xs = c.args.x.now in
    let got = c.args.got.now in
    edited_done (length xs) c.loop-at.at (λ k. signed c.args.negated (add_ring.add (at xs k) (at got k))) xs c.loop-at.x (omega arith) refl
    c.loop-at.invariant.1
