use Rattle.std.proofs.Common.{◌≡◌, ◌+◌, drop}
use Rattle.std.specs.Prelude.{option_map}
use Rattle.secrec_lexer.specs.Bytes.{size_to_close}
use Rattle.secrec_lexer.proofs.bytes.size_to_close.Given as goal

abbrev pub invariant-loop-at : goal.invariant-loop-at
invariant-loop-at l = size_to_close l.bytes ≡ option_map (λ size. size + l.at) (size_to_close (drop l.at l.bytes))
