use Rattle.std.proofs.Common.{◌≡◌, ◌+◌, ◌*◌, ◌%◌, ◌<◌, ◌∙◌, ℕ, length, refl, sym, ap, arith, bit_xor}
use Rattle.proto_core.specs.Lists.{at}
use Rattle.proto_core.proofs.Edits.{edited_none, at-edited, edited_more, edited_done}
use Rattle.share_convert.proofs.Fields.{xor-field}
use Rattle.share_convert.proofs.kernels.xor_field.Goals as goal

pub loop-at-init : goal.loop-at-init
loop-at-init c =
    let xs = c.args.x.now in
    let from = c.args.number * length xs in
    let words = c.args.words.now in
    (omega arith, sym (edited_none (λ k. bit_xor (at words (from + k)) (at xs k) % 2) xs))

pub loop-at-preserved : goal.loop-at-preserved
loop-at-preserved c =
    let xs = c.args.x.now in
    let from = c.args.number * length xs in
    let words = c.args.words.now in
    let f : ℕ → ℕ = λ k. bit_xor (at words (from + k)) (at xs k) % 2 in
    let i = c.loop-at.at in
    let within : i < length xs = omega arith in
    let word : at c.loop-at.x i ≡ at xs i = ap (λ ys. at ys i) c.loop-at.invariant.1 ∙ at-edited i f xs in
    let made : bit_xor (at words (from + i)) (at c.loop-at.x i) % 2 ≡ f i = ap (λ w. bit_xor (at words (from + i)) w % 2) word in
    (omega arith, edited_more i f xs c.loop-at.x _ (bit_xor (at words (from + i)) (at c.loop-at.x i) % 2) within c.loop-at.invariant.1 made refl)

pub returns : goal.returns
returns c =
    let xs = c.args.x.now in
    let n = length xs in
    let from = c.args.number * length xs in
    let words = c.args.words.now in
    edited_done n c.loop-at.at (λ k. bit_xor (at words (from + k)) (at xs k) % 2) xs c.loop-at.x (omega arith) refl c.loop-at.invariant.1
    ∙ xor-field n c.args.number from xs words refl
