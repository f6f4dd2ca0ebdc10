use Rattle.std.proofs.Common.{◌≡◌, ◌<◌, ◌∙◌, ℕ, length, refl, sym, ap, ap₂, arith, bit_xor}
use Rattle.proto_core.specs.Lists.{at}
use Rattle.proto_core.proofs.Edits.{edited_none, at-edited, edited_more, edited_done}
use Rattle.proto_core.specs.Rings.{add_ring}
use Rattle.share_convert.specs.Bits.{bit, chosen}
use Rattle.share_convert.specs.ConvStrand.{Held}
use Rattle.share_convert.proofs.Fields.{two_at, two-is}
use Rattle.share_convert.proofs.kernels.second_share.Goals as goal

pub loop-at-init : goal.loop-at-init
loop-at-init c =
    let xs = c.args.mask.now in
    let got = c.args.got.now in
    let h : Held = record { bits = c.args.bits.now; word = c.args.word.now; mask = xs } in
    (omega arith, sym (edited_none (two_at h got) xs))

pub loop-at-preserved : goal.loop-at-preserved
loop-at-preserved c =
    let xs = c.args.mask.now in
    let got = c.args.got.now in
    let h : Held = record { bits = c.args.bits.now; word = c.args.word.now; mask = xs } in
    let f : ℕ → ℕ = two_at h got in
    let i = c.loop-at.at in
    let within : i < length xs = omega arith in
    let word : at c.loop-at.mask i ≡ at xs i = ap (λ ys. at ys i) c.loop-at.invariant.1 ∙ at-edited i f xs in
    let summand = c.choose-summand.ensures ∙ ap (chosen (bit (bit_xor (at h.bits i) (at got i))) (at h.word i)) c.sub.ensures in
    let made : c.add.result ≡ f i = c.add.ensures ∙ ap₂ add_ring.add summand word in
    (omega arith, edited_more i f xs c.loop-at.mask _ (c.add.result) within c.loop-at.invariant.1 made refl)

pub returns : goal.returns
returns c =
    let xs = c.args.mask.now in
    let n = length xs in
    let got = c.args.got.now in
    let h : Held = record { bits = c.args.bits.now; word = c.args.word.now; mask = xs } in
    edited_done n c.loop-at.at (two_at h got) xs c.loop-at.mask (omega arith) refl c.loop-at.invariant.1
    ∙ two-is n h got
