use Rattle.std.proofs.Common.{◌≡◌, ◌+◌, ◌-◌, ◌*◌, ◌∙◌, ℕ, take, drop, refl, ap, arith}
use Rattle.proto_core.proofs.Parts.{part_slice}
use Rattle.proto_core.proofs.msg.Msg.field.Goals as goal

pub returns : goal.returns
returns g c =
    let from : ℕ = c.args.number * c.args.n in
    let size : from + c.args.n - from ≡ c.args.n = omega arith in
    c.from_words.ensures
    ∙ ap (λ w. take (from + c.args.n - from) (drop from w)) c.words-words.ensures.words
    ∙ ap (λ k. take k (drop from c.args.self.now)) size
    ∙ part_slice c.args.n c.args.number from c.args.self.now refl c.requires.within
