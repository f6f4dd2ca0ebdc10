use Rattle.secrec_lexer.proofs.Signs.{tag_of-number}
use Rattle.secrec_lexer.proofs.token.Token.is.Goals as goal

pub returns-in-Sign : goal.returns-in-Sign
returns-in-Sign c = rw (tag_of-number c.args.sign, tag_of-number c.in-Sign.other, c.in-Sign.is)
