use Rattle.std.proofs.Common.{rules, ◌≡◌, ◌+◌, ◌-◌, ◌*◌, ◌≤◌, ◌∙◌, take, drop, length, refl, ap, arith}
use Rattle.std.proofs.lemmas.List.{with_items_is}
use Rattle.proto_core.specs.Lists.{part}
use Rattle.proto_core.specs.Elementwise.{plus}
use Rattle.proto_core.proofs.Parts.{part_slice}
use Rattle.multiply.proofs.Tails.{same_held}
use Rattle.multiply.proofs.words.MulWords.masked.Goals as goal

pub returns : goal.returns
returns g c =
    let r = g.R.ShareRing.ring in
    let n = length c.args.u.now in
    let v = c.args.v.now in
    let words = c.args.words.now in
    let size : 3 * n - 2 * n ≡ n = omega arith in
    let within : 2 * n + n ≤ length words = omega (arith, c.requires.drawn) in
    let masked_u : c.add_part.new.x ≡ plus r n c.args.u.now (part n 0 words) =
    c.add_part.ensures ∙ ap (λ w. plus r (length w) w (part (length w) 0 words)) (c.deref_mut.ensures.value ∙ c.in_ok-masked_u.ensures.items) in
    let masked_v : c.add_part-2.new.x ≡ plus r n v (part n 1 words) =
    c.add_part-2.ensures ∙ ap (λ w. plus r (length w) w (part (length w) 1 words)) (c.deref_mut-2.ensures.value ∙ c.in_ok-masked_v.ensures.items)
    ∙ ap (λ k. plus r k v (part k 1 words)) c.requires.second in
    let mask : c.in_ok-mask.mask.items ≡ part n 2 words =
    c.in_ok-mask.ensures.items ∙ ap (λ k. take k (drop (2 * n) words)) size ∙ part_slice n 2 (2 * n) words refl within in
    same_held _ _ (with_items_is c.in_ok-masked_u.masked_u c.add_part.new.x (search rules) ∙ masked_u)
    (with_items_is c.in_ok-masked_v.masked_v c.add_part-2.new.x (search rules) ∙ masked_v) mask
