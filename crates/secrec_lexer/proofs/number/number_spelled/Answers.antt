use Rattle.std.proofs.Common.{◌∙◌, List, ℕ, subst}
use Rattle.std.specs.Str.Parse.{ParsesUnsigned}
use Rattle.secrec_lexer.proofs.Numbers.{number_read}
use Rattle.secrec_lexer.proofs.number.number_spelled.Goals as goal

pub returns : goal.returns
returns c =
    let P : List ℕ → Type 0 = λ digits. ParsesUnsigned 64 c.args.radix digits c.from_str_radix.result in
    c.ok.ensures.value
    ∙ number_read c.args.radix c.args.digits.now c.from_str_radix.result c.requires.names (subst P c.as_text.ensures c.from_str_radix.ensures.value)
