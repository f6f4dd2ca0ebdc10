use Rattle.std.proofs.Common.{◌≡◌, ◌<◌, ◌∙◌, ℕ, [], length, refl, sym, ap, ap₂, arith}
use Rattle.proto_core.specs.Lists.{at}
use Rattle.proto_core.proofs.Edits.{edited_none, at-edited, edited_more, edited_done}
use Rattle.proto_core.specs.Rings.{add_ring}
use Rattle.share_convert.proofs.Fields.{one_at, one-is}
use Rattle.share_convert.proofs.kernels.first_share.Goals as goal

pub loop-at-init : goal.loop-at-init
loop-at-init c =
    let xs = c.args.mask.now in
    let got = c.args.got.now in
    (omega arith, sym (edited_none (one_at xs got) xs))

pub loop-at-preserved : goal.loop-at-preserved
loop-at-preserved c =
    let xs = c.args.mask.now in
    let got = c.args.got.now in
    let f : ℕ → ℕ = one_at xs got in
    let i = c.loop-at.at in
    let within : i < length xs = omega arith in
    let word : at c.loop-at.mask i ≡ at xs i = ap (λ ys. at ys i) c.loop-at.invariant.1 ∙ at-edited i f xs in
    let made : c.sub.result ≡ f i = c.sub.ensures ∙ ap (λ w. add_ring.sub w (at got i)) (c.add.ensures ∙ ap₂ add_ring.add c.zero.ensures word) in
    (omega arith, edited_more i f xs c.loop-at.mask _ (c.sub.result) within c.loop-at.invariant.1 made refl)

pub returns : goal.returns
returns c =
    let xs = c.args.mask.now in
    let n = length xs in
    let got = c.args.got.now in
    edited_done n c.loop-at.at (one_at xs got) xs c.loop-at.mask (omega arith) refl c.loop-at.invariant.1
    ∙ one-is n (record { bits = []; word = []; mask = xs }) got
