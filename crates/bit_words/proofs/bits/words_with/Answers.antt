use Rattle.std.proofs.Common.{◌≡◌, ◌++◌, [], ◌∷◌, map, ap, sym, ◌∙◌, arith}
use Rattle.std.specs.List.{range_with_len}
use Rattle.std.proofs.lemmas.List.FromFn.{map-range_with_len_more}
use Rattle.bit_words.specs.Bits.{word_with, words_for, words_with}
use Rattle.bit_words.proofs.bits.words_with.Goals as goal

pub loop-j-preserved : goal.loop-j-preserved
loop-j-preserved g c =
    let f = word_with c.args.n (g.B.Bits.bits c.args.bits.now) in
    record {
      so_far = c.in_ok-push.ensures.items ∙ ap (λ l. l ++ c.word_with.result ∷ []) c.loop-j.invariant.so_far
          ∙ ap (λ b. map f (range_with_len 0 c.loop-j.j) ++ b ∷ []) c.word_with.ensures
          ∙ sym (map-range_with_len_more f 0 c.loop-j.j c.loop-j.j (omega arith));
      within = omega (arith, c.loop-j-test.true);
    }

pub returns : goal.returns
unfolding words_with
returns g c =
    let f = word_with c.args.n (g.B.Bits.bits c.args.bits.now) in
    let is : c.loop-j.j ≡ words_for c.args.n = omega (arith, c.loop-j-test.false, c.loop-j.invariant.within) in
    c.loop-j.invariant.so_far ∙ ap (λ m. map f (range_with_len 0 m)) is
