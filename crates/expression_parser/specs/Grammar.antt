-- The grammar of expressions, by cases on the tree: which tokens spell it.
use Rattle.std.specs.Prelude.{◌≡◌, ℕ, ◌-◌, ◌≤◌, true, false, Option, Some, None, ◌⊎◌}
use Rattle.secrec_lexer.specs.declared.sign.Sign.{Sign}
use Rattle.secrec_lexer.specs.declared.sign.Sign.TheVariants as signs
use Rattle.secrec_lexer.specs.declared.token.TokenKind.TheVariants as kinds
use Rattle.program_trees.specs.declared.expression.DataType.{DataType}
use Rattle.program_trees.specs.declared.expression.DataType.TheVariants as types
use Rattle.program_trees.specs.declared.expression.Operator.{Operator}
use Rattle.program_trees.specs.declared.expression.Operator.TheVariants as operators
use Rattle.program_trees.specs.Tree.{Tree, Trees, number, truth, variable, call, index, parentheses, negation, cast, binary, declassify, argument}
use Rattle.program_trees.specs.Tree.{publish, none, also}
use Rattle.program_trees.specs.Heights.{place_of}
use Rattle.expression_parser.specs.Phrases.{Phrase, nothing, one_at, one, sign_at, sign, ◌then◌}

-- the sign of an operator
abbrev pub sign_of : Operator → Sign
sign_of operators.Add = signs.Plus
sign_of operators.Subtract = signs.Minus
sign_of operators.Multiply = signs.Star
sign_of operators.Divide = signs.Slash
sign_of operators.Remainder = signs.Percent
sign_of operators.Equal = signs.Equal
sign_of operators.NotEqual = signs.NotEqual
sign_of operators.Less = signs.Less
sign_of operators.LessOrEqual = signs.LessOrEqual
sign_of operators.Greater = signs.Greater
sign_of operators.GreaterOrEqual = signs.GreaterOrEqual
sign_of operators.And = signs.Ampersand
sign_of operators.Or = signs.Bar
sign_of operators.Xor = signs.Caret
sign_of operators.AndAlso = signs.DoubleAmpersand
sign_of operators.OrElse = signs.DoubleBar

-- the operator that a sign is
abbrev pub operator_of : Sign → Option Operator
operator_of signs.Plus = Some operators.Add
operator_of signs.Minus = Some operators.Subtract
operator_of signs.Star = Some operators.Multiply
operator_of signs.Slash = Some operators.Divide
operator_of signs.Percent = Some operators.Remainder
operator_of signs.Equal = Some operators.Equal
operator_of signs.NotEqual = Some operators.NotEqual
operator_of signs.Less = Some operators.Less
operator_of signs.LessOrEqual = Some operators.LessOrEqual
operator_of signs.Greater = Some operators.Greater
operator_of signs.GreaterOrEqual = Some operators.GreaterOrEqual
operator_of signs.Ampersand = Some operators.And
operator_of signs.Bar = Some operators.Or
operator_of signs.Caret = Some operators.Xor
operator_of signs.DoubleAmpersand = Some operators.AndAlso
operator_of signs.DoubleBar = Some operators.OrElse
operator_of other = None

-- how loosely an operator binds: 1 is the tightest
abbrev pub level : Operator → ℕ
level operators.Multiply = 1
level operators.Divide = 1
level operators.Remainder = 1
level operators.Add = 2
level operators.Subtract = 2
level operators.Less = 3
level operators.LessOrEqual = 3
level operators.Greater = 3
level operators.GreaterOrEqual = 3
level operators.Equal = 4
level operators.NotEqual = 4
level operators.And = 5
level operators.Xor = 6
level operators.Or = 7
level operators.AndAlso = 8
level operators.OrElse = 9

abbrev pub loosest : ℕ
loosest = 9

-- no operator between two operands stands outside brackets
abbrev pub unary : ℕ
unary = 0

-- what an index may stand after: no operator, cast or index is outside brackets
abbrev pub IsPrimary : Tree → Type 0
IsPrimary (index p a i) = ⊥
IsPrimary (negation p e) = ⊥
IsPrimary (cast p t e) = ⊥
IsPrimary (binary p op a b) = ⊥
IsPrimary _ = Unit {0}

-- the type of an element: `uint` is `uint64`, and `int` is `int64`
abbrev pub IsDataType : DataType → Phrase
IsDataType types.Uint64 ts = sign signs.Uint64 ts ⊎ sign signs.Uint ts
IsDataType types.Int64 ts = sign signs.Int64 ts ⊎ sign signs.Int ts
IsDataType types.Bool ts = sign signs.Bool ts

-- The tokens spell the tree as an expression whose operators outside brackets bind at this level or tighter.
abbrev mutual
  pub IsExpression : ℕ → Tree → Phrase
  IsExpression k (number p n) ts = one_at p (kinds.Number n) ts
  IsExpression k (truth p true) ts = sign_at p signs.True ts
  IsExpression k (truth p false) ts = sign_at p signs.False ts
  IsExpression k (variable p x) ts = one_at p (kinds.Name x) ts
  IsExpression k (call p x es) ts =
      (one_at p (kinds.Name x) then sign signs.LeftParenthesis then AreArguments es then sign signs.RightParenthesis) ts
  IsExpression k (index p a i) ts =
      IsPrimary a × (p ≡ place_of a) × (IsExpression unary a then sign signs.LeftBracket then IsExpression loosest i then sign signs.RightBracket) ts
  IsExpression k (parentheses p e) ts =
      (sign_at p signs.LeftParenthesis then IsExpression loosest e then sign signs.RightParenthesis) ts
  IsExpression k (negation p e) ts = (sign_at p signs.Exclamation then IsExpression unary e) ts
  IsExpression k (cast p t e) ts =
      (sign_at p signs.LeftParenthesis then IsDataType t then sign signs.RightParenthesis then IsExpression unary e) ts
  IsExpression k (binary p op a b) ts =
      (level op ≤ k) × (p ≡ place_of a) × (IsExpression (level op) a then sign (sign_of op) then IsExpression (level op - 1) b) ts
  IsExpression k (declassify p e) ts =
      (sign_at p signs.Declassify then sign signs.LeftParenthesis then IsExpression loosest e then sign signs.RightParenthesis) ts
  IsExpression k (argument p x) ts =
      (sign_at p signs.Argument then sign signs.LeftParenthesis then one (kinds.Text x) then sign signs.RightParenthesis) ts
  IsExpression k (publish p x e) ts =
      (sign_at p signs.Publish then sign signs.LeftParenthesis then one (kinds.Text x) then sign signs.Comma then IsExpression loosest e then sign
      signs.RightParenthesis) ts

  -- the arguments of a call
  pub AreArguments : Trees → Phrase
  AreArguments none ts = nothing ts
  AreArguments (also e es) ts = (IsExpression loosest e then AreMore es) ts

  -- the arguments after the first
  pub AreMore : Trees → Phrase
  AreMore none ts = nothing ts
  AreMore (also e es) ts = (sign signs.Comma then IsExpression loosest e then AreMore es) ts
