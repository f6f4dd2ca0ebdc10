use Rattle.std.proofs.Common.{◌≡◌, ◌+◌, ◌*◌, ◌<◌, ◌∙◌, ℕ, length, refl, sym, ap, arith}
use Rattle.proto_core.specs.Lists.{at}
use Rattle.proto_core.proofs.Edits.{edited_none, at-edited, edited_more, edited_done}
use Rattle.proto_core.specs.Rings.{add_ring}
use Rattle.share_convert.proofs.Fields.{minus-field}
use Rattle.share_convert.proofs.kernels.take_field.Goals as goal

pub loop-at-init : goal.loop-at-init
loop-at-init c =
    let xs = c.args.x.now in
    let from = c.args.number * length xs in
    let words = c.args.words.now in
    (omega arith, sym (edited_none (λ k. add_ring.sub (at xs k) (at words (from + k))) xs))

pub loop-at-preserved : goal.loop-at-preserved
loop-at-preserved c =
    let xs = c.args.x.now in
    let from = c.args.number * length xs in
    let words = c.args.words.now in
    let f : ℕ → ℕ = λ k. add_ring.sub (at xs k) (at words (from + k)) in
    let i = c.loop-at.at in
    let within : i < length xs = omega arith in
    let word : at c.loop-at.x i ≡ at xs i = ap (λ ys. at ys i) c.loop-at.invariant.1 ∙ at-edited i f xs in
    let made : c.sub.result ≡ f i = c.sub.ensures ∙ ap (λ w. add_ring.sub w (at words (from + i))) word in
    (omega arith, edited_more i f xs c.loop-at.x _ (c.sub.result) within c.loop-at.invariant.1 made refl)

pub returns : goal.returns
returns c =
    let xs = c.args.x.now in
    let n = length xs in
    let from = c.args.number * length xs in
    let words = c.args.words.now in
    edited_done n c.loop-at.at (λ k. add_ring.sub (at xs k) (at words (from + k))) xs c.loop-at.x (omega arith) refl c.loop-at.invariant.1
    ∙ minus-field n c.args.number from xs words refl
