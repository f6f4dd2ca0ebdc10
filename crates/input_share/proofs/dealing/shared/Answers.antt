use Rattle.std.proofs.Common.{◌≡◌, length, ap, ◌∙◌, arith}
use Rattle.value_file.specs.Values.{type_of, count_of}
use Rattle.input_share.specs.Values.{shared_size}
use Rattle.input_share.proofs.Elements.{length-shared_words}
use Rattle.input_share.proofs.dealing.shared.Goals as goal

pub share-requires : goal.share-requires
share-requires c =
    let v = c.args.value.now in
    let many : length c.deref.result.now ≡ shared_size (type_of v) (count_of v) =
    ap length (c.deref.ensures.value ∙ c.in_ok-shared.ensures) ∙ length-shared_words v in
    omega (arith, many, c.requires)
