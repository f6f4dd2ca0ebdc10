use Rattle.input_share.proofs.Bits.{bits_small}
use Rattle.input_share.proofs.words.see_value.Goals as goal

pub returns-in-Truths : goal.returns-in-Truths
returns-in-Truths c = rw c.in-Truths.is (bits_small _)
