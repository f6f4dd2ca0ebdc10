use Rattle.std.proofs.Common.{rules, ◌≡◌, ◌-◌, ◌*◌, [], ◌∷◌, ◌++◌, ◌∙◌, take, drop, length, refl, ap, arith}
use Rattle.std.proofs.lemmas.List.{with_items_is}
use Rattle.proto_core.specs.Lists.{part}
use Rattle.proto_core.proofs.Parts.{length-part, part_slice}
use Rattle.share_convert.specs.Bits.{xor_bits, bits_less}
use Rattle.share_convert.specs.ConvStrand.{to_two}
use Rattle.share_convert.specs.ConvertingLaws.{fits12}
use Rattle.share_convert.proofs.BitFields.{accepted12}
use Rattle.share_convert.proofs.Tails.{same_held}
use Rattle.share_convert.proofs.words.ConvWords+Sent.deal.Goals as goal

pub push_words-requires : goal.push_words-requires
push_words-requires c =
    let n = length c.args.u.now in
    let is : c.deref.result.now ≡ to_two n c.args.words.now = c.deref.ensures.value ∙ c.in_ok-dealt.ensures in
    let same : length c.deref.result.now ≡ length (to_two n c.args.words.now) = ap length is in
    let size : length (to_two n c.args.words.now) ≡ 3 * n = (accepted12 n (to_two n c.args.words.now) (fits12 n c.args.words.now)).len in
    omega (arith, c.requires.short)

pub returns-clause-state : goal.returns-clause-state
returns-clause-state c =
    let n = length c.args.u.now in
    let words = c.args.words.now in
    let size : 4 * n - 3 * n ≡ n = omega arith in
    let mask : c.in_ok-mask.mask.items ≡ part n 3 words =
    c.in_ok-mask.ensures.items ∙ ap (λ k. take k (drop (3 * n) words)) size ∙ part_slice n 3 (3 * n) words refl (omega (arith, c.requires.drawn)) in
    same_held _ _ c.new.ensures.items c.new-2.ensures.items mask

pub returns-clause-to_three : goal.returns-clause-to_three
returns-clause-to_three c =
    let u = c.args.u.now in
    let n = length u in
    let words = c.args.words.now in
    let size : 2 * n - n ≡ n = omega arith in
    let from : n ≡ 1 * n = omega arith in
    let e : take (2 * n - n) (drop n words) ≡ part n 1 words =
    ap (λ k. take k (drop n words)) size ∙ part_slice n 1 n words from (omega (arith, c.requires.drawn)) in
    let first : c.deref-2.result.now ≡ bits_less n (part n 0 words) u (part n 2 words) =
    c.deref-2.ensures.value ∙ with_items_is c.in_ok-masked.masked c.mask_field.new.x (search rules) ∙ c.mask_field.ensures
    ∙ ap (λ w. bits_less (length w) (part (length w) 0 words) w (part (length w) 2 words)) (c.deref_mut.ensures.value ∙ c.in_ok-masked.ensures.items) in
    let second : c.deref-3.result.now ≡ xor_bits n (part n 0 words) (part n 1 words) =
    c.deref-3.ensures.value ∙ with_items_is c.in_ok-flipped.flipped c.xor_field.new.x (search rules) ∙ c.xor_field.ensures
    ∙ ap (λ w. xor_bits (length w) (part (length w) 0 words) w) (c.deref_mut-2.ensures.value ∙ c.in_ok-flipped.ensures.items ∙ e)
    ∙ ap (λ k. xor_bits k (part k 0 words) (part n 1 words)) (length-part n 1 words) in
    c.in_ok-push_two.ensures.ok ∙ ap (λ w. c.args.third.now ++ (w ++ c.deref-3.result.now) ∷ []) first
    ∙ ap (λ w. c.args.third.now ++ (bits_less n (part n 0 words) u (part n 2 words) ++ w) ∷ []) second
