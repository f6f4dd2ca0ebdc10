-- Operators, their signs and their levels.
use Rattle.std.proofs.Common.{◌≡◌, ℕ, suc, ◌<◌, ◌≤◌, refl, sym, ap, ◌∙◌, Option, Some, None, arith, Bool, true, false, cond}
use Rattle.std.specs.Prelude.{nat_eq, nat_le}
use Rattle.std.proofs.lemmas.Bool.{eqb-true, leb-true, leb-false, le-leb}
use Rattle.secrec_lexer.specs.declared.sign.Sign.{Sign}
use Rattle.secrec_lexer.specs.declared.sign.Sign.TheVariants as signs
use Rattle.secrec_lexer.specs.declared.token.TokenKind.{TokenKind}
use Rattle.secrec_lexer.specs.declared.token.TokenKind.TheVariants as kinds
use Rattle.program_trees.specs.declared.expression.Operator.{Operator}
use Rattle.program_trees.specs.declared.expression.Operator.TheVariants as operators
use Rattle.expression_parser.specs.Grammar.{sign_of, operator_of, level}
use Rattle.expression_parser.specs.Follow.{operator_goes_on, sign_goes_on, goes_on}
use Rattle.expression_parser.specs.Steps.{operator_at, at_level}

pub level_positive : (op : Operator) → 1 ≤ level op
level_positive operators.Add = omega arith
level_positive operators.Subtract = omega arith
level_positive operators.Multiply = omega arith
level_positive operators.Divide = omega arith
level_positive operators.Remainder = omega arith
level_positive operators.Equal = omega arith
level_positive operators.NotEqual = omega arith
level_positive operators.Less = omega arith
level_positive operators.LessOrEqual = omega arith
level_positive operators.Greater = omega arith
level_positive operators.GreaterOrEqual = omega arith
level_positive operators.And = omega arith
level_positive operators.Or = omega arith
level_positive operators.Xor = omega arith
level_positive operators.AndAlso = omega arith
level_positive operators.OrElse = omega arith

-- each operator is told from its sign
pub operator_of-sign_of : (op : Operator) → operator_of (sign_of op) ≡ Some op
operator_of-sign_of operators.Add = refl
operator_of-sign_of operators.Subtract = refl
operator_of-sign_of operators.Multiply = refl
operator_of-sign_of operators.Divide = refl
operator_of-sign_of operators.Remainder = refl
operator_of-sign_of operators.Equal = refl
operator_of-sign_of operators.NotEqual = refl
operator_of-sign_of operators.Less = refl
operator_of-sign_of operators.LessOrEqual = refl
operator_of-sign_of operators.Greater = refl
operator_of-sign_of operators.GreaterOrEqual = refl
operator_of-sign_of operators.And = refl
operator_of-sign_of operators.Or = refl
operator_of-sign_of operators.Xor = refl
operator_of-sign_of operators.AndAlso = refl
operator_of-sign_of operators.OrElse = refl

-- a sign that is told to be an operator is its sign
pub operator_of-some : (s : Sign) (op : Operator) → operator_of s ≡ Some op → s ≡ sign_of op
operator_of-some signs.Plus op e = let f : operators.Add ≡ op = cc in ap sign_of f
operator_of-some signs.Minus op e = let f : operators.Subtract ≡ op = cc in ap sign_of f
operator_of-some signs.Star op e = let f : operators.Multiply ≡ op = cc in ap sign_of f
operator_of-some signs.Slash op e = let f : operators.Divide ≡ op = cc in ap sign_of f
operator_of-some signs.Percent op e = let f : operators.Remainder ≡ op = cc in ap sign_of f
operator_of-some signs.Equal op e = let f : operators.Equal ≡ op = cc in ap sign_of f
operator_of-some signs.NotEqual op e = let f : operators.NotEqual ≡ op = cc in ap sign_of f
operator_of-some signs.Less op e = let f : operators.Less ≡ op = cc in ap sign_of f
operator_of-some signs.LessOrEqual op e = let f : operators.LessOrEqual ≡ op = cc in ap sign_of f
operator_of-some signs.Greater op e = let f : operators.Greater ≡ op = cc in ap sign_of f
operator_of-some signs.GreaterOrEqual op e = let f : operators.GreaterOrEqual ≡ op = cc in ap sign_of f
operator_of-some signs.Ampersand op e = let f : operators.And ≡ op = cc in ap sign_of f
operator_of-some signs.Bar op e = let f : operators.Or ≡ op = cc in ap sign_of f
operator_of-some signs.Caret op e = let f : operators.Xor ≡ op = cc in ap sign_of f
operator_of-some signs.DoubleAmpersand op e = let f : operators.AndAlso ≡ op = cc in ap sign_of f
operator_of-some signs.DoubleBar op e = let f : operators.OrElse ≡ op = cc in ap sign_of f
operator_of-some other op e = cc

-- an operator's sign is what an expression of its level goes on with, and nothing else stands in for it
pub goes_on-operator : (k : ℕ) (op : Operator) → goes_on k (kinds.Sign (sign_of op)) ≡ nat_le (level op) k
goes_on-operator k operators.Add = refl
goes_on-operator k operators.Subtract = refl
goes_on-operator k operators.Multiply = refl
goes_on-operator k operators.Divide = refl
goes_on-operator k operators.Remainder = refl
goes_on-operator k operators.Equal = refl
goes_on-operator k operators.NotEqual = refl
goes_on-operator k operators.Less = refl
goes_on-operator k operators.LessOrEqual = refl
goes_on-operator k operators.Greater = refl
goes_on-operator k operators.GreaterOrEqual = refl
goes_on-operator k operators.And = refl
goes_on-operator k operators.Or = refl
goes_on-operator k operators.Xor = refl
goes_on-operator k operators.AndAlso = refl
goes_on-operator k operators.OrElse = refl

-- each operator is of its level
pub at_level-own : (op : Operator) → at_level (level op) (operator_of (sign_of op)) ≡ Some op
at_level-own operators.Add = refl
at_level-own operators.Subtract = refl
at_level-own operators.Multiply = refl
at_level-own operators.Divide = refl
at_level-own operators.Remainder = refl
at_level-own operators.Equal = refl
at_level-own operators.NotEqual = refl
at_level-own operators.Less = refl
at_level-own operators.LessOrEqual = refl
at_level-own operators.Greater = refl
at_level-own operators.GreaterOrEqual = refl
at_level-own operators.And = refl
at_level-own operators.Or = refl
at_level-own operators.Xor = refl
at_level-own operators.AndAlso = refl
at_level-own operators.OrElse = refl

pub same_sign : (a b : Operator) → sign_of a ≡ sign_of b → a ≡ b
same_sign a b e =
    let f : Some a ≡ Some b = sym (operator_of-sign_of a) ∙ ap operator_of e ∙ operator_of-sign_of b in
    cc

operator_at-some : (kind : TokenKind) (op : Operator) → operator_at kind ≡ Some op → kind ≡ kinds.Sign (sign_of op)
operator_at-some (kinds.Sign s) op e = ap kinds.Sign (operator_of-some s op e)
operator_at-some (kinds.Name bytes) op e = cc
operator_at-some (kinds.Number n) op e = cc
operator_at-some (kinds.Text bytes) op e = cc
operator_at-some kinds.End op e = cc

at_level-some : (k : ℕ) (o : Option Operator) (op : Operator) → at_level k o ≡ Some op → (o ≡ Some op) × (level op ≡ k)
at_level-some k None op e = cc
at_level-some k (Some op2) op e = go (nat_eq (level op2) k) refl e
  where
    go : (b : Bool) → nat_eq (level op2) k ≡ b → cond b (Some op2) None ≡ Some op → (Some op2 ≡ Some op) × (level op ≡ k)
    go true t e = let f : op2 ≡ op = cc in (e, ap level (sym f) ∙ eqb-true (level op2) k t)
    go false t e = cc

-- what is told to be an operator of a level is one
pub operator_is : (k : ℕ) (kind : TokenKind) (op : Operator) → at_level k (operator_at kind) ≡ Some op → (kind ≡ kinds.Sign (sign_of op)) × (level op ≡ k)
operator_is k kind op e =
    let f = at_level-some k (operator_at kind) op e in
    (operator_at-some kind op f.0, f.1)

-- an operator of the level is what the level goes on with
pub not_free : (op : Operator) (k : ℕ) → level op ≤ k → goes_on k (kinds.Sign (sign_of op)) ≡ false → ⊥
not_free op k l f =
    let g : true ≡ false = sym (le-leb (level op) k l) ∙ sym (goes_on-operator k op) ∙ f in
    cc

above : (n k : ℕ) → k < n → nat_le n k ≡ false
above n k l = go (nat_le n k) refl
  where
    go : (b : Bool) → nat_le n k ≡ b → nat_le n k ≡ false
    go true t = let f = leb-true n k t in absurd (omega arith)
    go false t = t

pub free_below : (op : Operator) (k : ℕ) → k < level op → goes_on k (kinds.Sign (sign_of op)) ≡ false
free_below op k l = goes_on-operator k op ∙ above (level op) k l

operator_tighter : (k : ℕ) (o : Option Operator) → operator_goes_on (suc k) o ≡ false → operator_goes_on k o ≡ false
operator_tighter k None f = refl
operator_tighter k (Some op) f = let l = leb-false (level op) (suc k) f in above (level op) k (omega arith)

sign_tighter : (k : ℕ) (s : Sign) → sign_goes_on (suc k) s ≡ false → sign_goes_on k s ≡ false
sign_tighter k signs.LeftParenthesis f = f
sign_tighter k signs.LeftBracket f = f
sign_tighter k s f = operator_tighter k (operator_of s) f

-- what may stand after a level may stand after a tighter one
pub tighter : (k : ℕ) (kind : TokenKind) → goes_on (suc k) kind ≡ false → goes_on k kind ≡ false
tighter k (kinds.Sign s) f = sign_tighter k s f
tighter k (kinds.Name bytes) f = refl
tighter k (kinds.Number n) f = refl
tighter k (kinds.Text bytes) f = refl
tighter k kinds.End f = refl
