use Rattle.std.proofs.Common.{◌≡◌, ℕ, ◌+◌, ◌*◌, ◌%◌, ◌<◌, ap, sym, ◌∙◌, arith, refl}
use Rattle.bit_words.specs.Bits.{number_with, cut_at}
use Rattle.bit_words.proofs.Numbers.{number_more, bit_shifted, fits_more}
use Rattle.bit_words.proofs.BitLists.{cut_below, cut_past}
use Rattle.bit_words.proofs.bits.word_with.Goals.{then-place-n, else-place-n}
use Rattle.bit_words.proofs.bits.word_with.Goals as goal

pub loop-k-init : goal.loop-k-init
unfolding number_with
loop-k-init g c = record { so_far = refl; within = omega arith }

pub overflow_add-word : goal.overflow_add-word
overflow_add-word g c =
    let f = λ (i : ℕ). cut_at c.args.n (g.B.Bits.bits c.args.bits.now) (64 * c.args.j + i) in
    let bit : c.if-place-n.bit ≡ f c.loop-k.k % 2 =
    elim c.if-place-n.branch as (λ _. c.if-place-n.bit ≡ f c.loop-k.k % 2) [
      | then-place-n w ↦ w.bit-is ∙ w.bit-bit.ensures ∙ ap (λ x. x % 2) (sym (cut_below c.args.n (g.B.Bits.bits c.args.bits.now) (64 * c.args.j + c.loop-k.k) w.if-place-n.true))
      | else-place-n w ↦ w.bit-is ∙ sym (ap (λ x. x % 2) (cut_past c.args.n (g.B.Bits.bits c.args.bits.now) (64 * c.args.j + c.loop-k.k) w.if-place-n.false))
    ] in
    record { fits = fits_more f c.loop-k.k c.if-place-n.bit c.loop-k.word c.loop-k-test.true c.loop-k.invariant.so_far bit }

pub loop-k-preserved : goal.loop-k-preserved
loop-k-preserved g c =
    let f = λ (i : ℕ). cut_at c.args.n (g.B.Bits.bits c.args.bits.now) (64 * c.args.j + i) in
    let bit : c.if-place-n.bit ≡ f c.loop-k.k % 2 =
    elim c.if-place-n.branch as (λ _. c.if-place-n.bit ≡ f c.loop-k.k % 2) [
      | then-place-n w ↦ w.bit-is ∙ w.bit-bit.ensures ∙ ap (λ x. x % 2) (sym (cut_below c.args.n (g.B.Bits.bits c.args.bits.now) (64 * c.args.j + c.loop-k.k) w.if-place-n.true))
      | else-place-n w ↦ w.bit-is ∙ sym (ap (λ x. x % 2) (cut_past c.args.n (g.B.Bits.bits c.args.bits.now) (64 * c.args.j + c.loop-k.k) w.if-place-n.false))
    ] in
    let low : c.if-place-n.bit < 2 = omega (arith, bit) in
    record {
      so_far = ap (λ y. c.loop-k.word + y) (bit_shifted c.if-place-n.bit c.loop-k.k low c.loop-k-test.true)
          ∙ number_more f c.loop-k.k (c.loop-k.k + 1) c.if-place-n.bit c.loop-k.word refl c.loop-k.invariant.so_far bit;
      within = omega (arith, c.loop-k-test.true);
    }
