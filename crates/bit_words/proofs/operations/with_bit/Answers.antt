use Rattle.std.proofs.Common.{ℕ, ◌+◌, ◌/◌, ◌%◌, ◌^◌, ap, bit_xor}
use Rattle.bit_words.proofs.Numbers.{bit_shifted}
use Rattle.bit_words.proofs.Putting.{parity-below}
use Rattle.bit_words.proofs.operations.with_bit.Goals as goal

pub returns : goal.returns
returns c =
    let turned = (c.args.word / 2 ^ c.args.place % 2 + c.args.bit) % 2 in
    ap (λ (x : ℕ). bit_xor c.args.word x) (bit_shifted turned c.args.place (parity-below (c.args.word / 2 ^ c.args.place % 2 + c.args.bit)) c.requires.place)
