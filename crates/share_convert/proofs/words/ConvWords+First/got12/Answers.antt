use Rattle.std.proofs.Common.{rules, ◌≡◌, ◌*◌, ◌≤◌, ◌∙◌, take, length, vec_len, sym, ap, arith}
use Rattle.std.proofs.lemmas.List.{with_items_is}
use Rattle.proto_core.specs.Rings.{add_ring}
use Rattle.proto_core.specs.Lists.{part}
use Rattle.proto_core.specs.Elementwise.{minus}
use Rattle.proto_core.proofs.Parts.{part-take}
use Rattle.share_convert.specs.Bits.{xor_bits}
use Rattle.share_convert.specs.ConvStrand.{Held}
use Rattle.share_convert.proofs.Tails.{same_held}
use Rattle.share_convert.proofs.words.ConvWords+First.got12.Goals as goal

pub returns-clause-state : goal.returns-clause-state
returns-clause-state c =
    let h = c.args.self in
    let n = length h.mask in
    let got = c.args.got.now in
    let within : n ≤ length got = omega (arith, c.requires) in
    let size : length c.self.inside.mask.items ≡ n = ap (λ (w : Held). length w.mask) c.self.view_is in
    let held : length c.self.inside.bits.items ≡ 1 * length c.self.inside.mask.items = c.self.invariant.1 in
    let same : length c.self.inside.bits.items ≡ length h.bits = ap (λ (w : Held). length w.bits) c.self.view_is in
    let many : length h.bits ≡ n = omega arith in
    let bits : c.xor_field.new.x ≡ xor_bits n (part n 1 got) h.bits =
    c.xor_field.ensures
    ∙ ap (λ w. xor_bits (length w) (part (length w) 1 got) w) (c.deref_mut.ensures.value ∙ ap (λ (w : Held). w.bits) c.self.view_is)
    ∙ ap (λ k. xor_bits k (part k 1 got) h.bits) many in
    let mask : c.take_field.new.x ≡ minus add_ring n h.mask (part n 2 got) =
    c.take_field.ensures
    ∙ ap (λ w. minus add_ring (length w) w (part (length w) 2 got)) (c.deref_mut-2.ensures.value ∙ ap (λ (w : Held). w.mask) c.self.view_is) in
    let counted : vec_len c.self.inside.mask ≡ length c.self.inside.mask.items = search rules in
    let word : c.in_ok-word.word.items ≡ part n 0 got =
    c.in_ok-word.ensures.items ∙ ap (λ k. take k got) (c.len-n.ensures ∙ counted ∙ size) ∙ sym (part-take n got within) in
    same_held _ _ (with_items_is c.self.inside.bits c.xor_field.new.x (search rules) ∙ bits) word
    (with_items_is c.self.inside.mask c.take_field.new.x (search rules) ∙ mask)
