use Rattle.std.proofs.Common.{rules, ◌≡◌, ◌-◌, ◌*◌, ◌++◌, ◌∙◌, take, drop, length, refl, ap, arith}
use Rattle.std.proofs.lemmas.List.{with_items_is}
use Rattle.proto_core.specs.Lists.{part}
use Rattle.proto_core.proofs.Parts.{length-part, part_slice}
use Rattle.share_convert.specs.Bits.{bits}
use Rattle.share_convert.proofs.words.words_for_two.Goals as goal

pub returns : goal.returns
returns c =
    let n = c.args.n in
    let words = c.args.words.now in
    let second : 2 * n - n ≡ n = omega arith in
    let third : 3 * n - 2 * n ≡ n = omega arith in
    let fourth : 4 * n - 3 * n ≡ n = omega arith in
    let from : n ≡ 1 * n = omega arith in
    let e : take (2 * n - n) (drop n words) ≡ part n 1 words =
    ap (λ k. take k (drop n words)) second ∙ part_slice n 1 n words from (omega (arith, c.requires.drawn)) in
    let m : take (3 * n - 2 * n) (drop (2 * n) words) ≡ part n 2 words =
    ap (λ k. take k (drop (2 * n) words)) third ∙ part_slice n 2 (2 * n) words refl (omega (arith, c.requires.drawn)) in
    let a : take (4 * n - 3 * n) (drop (3 * n) words) ≡ part n 3 words =
    ap (λ k. take k (drop (3 * n) words)) fourth ∙ part_slice n 3 (3 * n) words refl (omega (arith, c.requires.drawn)) in
    let low : c.deref.result.now ≡ bits n (part n 1 words) =
    c.deref.ensures.value ∙ with_items_is c.in_ok-low.low c.keep_lowest.new.x (search rules) ∙ c.keep_lowest.ensures
    ∙ ap (λ w. bits (length w) w) (c.deref_mut.ensures.value ∙ c.in_ok-low.ensures.items ∙ e) ∙ ap (λ k. bits k (part n 1 words)) (length-part n 1 words) in
    let one : c.extend_from_slice.new.self.items ≡ part n 2 words =
    c.in_ok-extend_from_slice.ensures.items ∙ ap (λ w. w ++ take (3 * n - 2 * n) (drop (2 * n) words)) c.in_ok-dealt.ensures.items ∙ m in
    let two : c.extend_from_slice-2.new.self.items ≡ part n 2 words ++ bits n (part n 1 words) =
    c.in_ok-extend_from_slice-2.ensures.items ∙ ap (λ w. w ++ c.deref.result.now) one ∙ ap (λ w. part n 2 words ++ w) low in
    c.in_ok-extend_from_slice-3.ensures.items ∙ ap (λ w. w ++ take (4 * n - 3 * n) (drop (3 * n) words)) two
    ∙ ap (λ w. (part n 2 words ++ bits n (part n 1 words)) ++ w) a
