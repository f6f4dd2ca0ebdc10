use Rattle.std.proofs.Common.{◌≡◌, ◌+◌, ◌-◌, ◌*◌, ◌∙◌, ℕ, take, drop, refl, ap, arith}
use Rattle.proto_core.proofs.Parts.{part_slice}
use Rattle.multiply.proofs.held_words.HeldWords.from_field.Goals as goal

pub returns : goal.returns
returns c =
    let from : ℕ = c.args.number * c.args.n in
    let size : from + c.args.n - from ≡ c.args.n = omega arith in
    c.from_words.ensures ∙ ap (λ k. take k (drop from c.args.words.now)) size ∙ part_slice c.args.n c.args.number from c.args.words.now refl c.requires.within
