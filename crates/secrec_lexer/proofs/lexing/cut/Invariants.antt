use Rattle.std.proofs.Common.{◌-◌, length}
use Rattle.secrec_lexer.proofs.Turns.{IsCut}
use Rattle.secrec_lexer.proofs.lexing.cut.Given as goal

abbrev pub invariant-loop-tokens : goal.invariant-loop-tokens
invariant-loop-tokens l = IsCut l.text l.at l.place l.tokens.items

abbrev pub decreases-loop-tokens : goal.decreases-loop-tokens
decreases-loop-tokens l = length l.text - l.at
