use Rattle.std.proofs.Common.{◌≡◌, ◌++◌, [], ◌∷◌, map, ap, sym, ◌∙◌, arith}
use Rattle.std.specs.List.{range_with_len}
use Rattle.std.proofs.lemmas.List.FromFn.{map-range_with_len_more}
use Rattle.bit_words.specs.Bits.{bit_of}
use Rattle.bit_words.specs.Gathered.{unpacked}
use Rattle.bit_words.proofs.operations.unpacked.Goals as goal

pub loop-k-preserved : goal.loop-k-preserved
loop-k-preserved c =
    record {
      so_far = c.in_ok-push.ensures.items ∙ ap (λ l. l ++ c.bit_of.result ∷ []) c.loop-k.invariant.so_far
          ∙ ap (λ b. map (bit_of c.args.words.now) (range_with_len 0 c.loop-k.k) ++ b ∷ []) c.bit_of.ensures
          ∙ sym (map-range_with_len_more (bit_of c.args.words.now) 0 c.loop-k.k c.loop-k.k (omega arith));
      within = omega (arith, c.loop-k-test.true);
    }

pub returns : goal.returns
unfolding unpacked
returns c =
    let is : c.loop-k.k ≡ c.args.n = omega (arith, c.loop-k-test.false, c.loop-k.invariant.within) in
    c.loop-k.invariant.so_far ∙ ap (λ m. map (bit_of c.args.words.now) (range_with_len 0 m)) is
