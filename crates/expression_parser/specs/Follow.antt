-- Which tokens an expression goes on with: no other phrase of the language lets them stand after an expression.
use Rattle.std.specs.Prelude.{◌≡◌, ℕ, Bool, true, false, Option, Some, None, nat_le}
use Rattle.secrec_lexer.specs.declared.sign.Sign.{Sign}
use Rattle.secrec_lexer.specs.declared.sign.Sign.TheVariants as signs
use Rattle.secrec_lexer.specs.declared.token.TokenKind.{TokenKind}
use Rattle.secrec_lexer.specs.declared.token.TokenKind.TheVariants as kinds
use Rattle.secrec_lexer.specs.declared.token.Token.{Token}
use Rattle.program_trees.specs.declared.expression.Operator.{Operator}
use Rattle.program_trees.specs.Tree.{Tree}
use Rattle.expression_parser.specs.Grammar.{level, operator_of}

abbrev pub operator_goes_on : ℕ → Option Operator → Bool
operator_goes_on k None = false
operator_goes_on k (Some op) = nat_le (level op) k

abbrev pub sign_goes_on : ℕ → Sign → Bool
sign_goes_on k signs.LeftParenthesis = true
sign_goes_on k signs.LeftBracket = true
sign_goes_on k s = operator_goes_on k (operator_of s)

-- an opening parenthesis or bracket, or an operator of this level or a tighter one
abbrev pub goes_on : ℕ → TokenKind → Bool
goes_on k (kinds.Sign s) = sign_goes_on k s
goes_on k (kinds.Name bytes) = false
goes_on k (kinds.Number n) = false
goes_on k (kinds.Text bytes) = false
goes_on k kinds.End = false

-- such a token may stand after an expression of this level
abbrev pub Free : ℕ → Tree → Token → Type 0
Free k e x = goes_on k x.kind ≡ false
