-- The steps of the parser as functions on lists of tokens.
use Rattle.std.specs.Prelude.{ℕ, zero, suc, Bool, true, false, ◌||◌, ◌&&◌, List, [], ◌∷◌, length, Result, Ok, Err, Option, Some, None, nat_eq, nat_le}
use Rattle.std.specs.Prelude.{nat_lt, if◌then◌else◌}
use Rattle.sc_text.specs.declared.span.Span.{Span}
use Rattle.secrec_lexer.specs.Tokens.{is_sign}
use Rattle.secrec_lexer.specs.declared.sign.Sign.{Sign}
use Rattle.secrec_lexer.specs.declared.sign.Sign.TheVariants as signs
use Rattle.secrec_lexer.specs.declared.token.TokenKind.{TokenKind}
use Rattle.secrec_lexer.specs.declared.token.TokenKind.TheVariants as kinds
use Rattle.secrec_lexer.specs.declared.token.Token.{Token}
use Rattle.program_trees.specs.declared.expression.DataType.{DataType}
use Rattle.program_trees.specs.declared.expression.DataType.TheVariants as types
use Rattle.program_trees.specs.declared.expression.Operator.{Operator}
use Rattle.program_trees.specs.declared.statement.Identifier.{Identifier}
use Rattle.program_trees.specs.Tree.{Tree, Trees, number, truth, variable, call, index, parentheses, negation, cast, binary, declassify, argument}
use Rattle.program_trees.specs.Tree.{publish, none, also}
use Rattle.program_trees.specs.Heights.{height, place_of}
use Rattle.expression_parser.specs.declared.problem.ParseProblem.{ParseProblem}
use Rattle.expression_parser.specs.declared.problem.ParseProblem.TheVariants.{Unexpected, TooHigh}
use Rattle.expression_parser.specs.Grammar.{operator_of, level, loosest, unary}

-- what was read and the tokens after it, or what is wrong and the tokens from there on
abbrev pub Outcome : Type 0 → Type 0
Outcome A = Result (A × List Token) (ParseProblem × List Token)

infixl 10 ◌>>=◌
abbrev pub ◌>>=◌ : {A C : Type 0} → Outcome A → (A × List Token → Outcome C) → Outcome C
(Ok o) >>= f = f o
(Err e) >>= f = Err e

-- a sign: its place
abbrev pub expect : Sign → List Token → Outcome Span
expect s [] = Err (Unexpected, [])
expect s (x ∷ m) = if is_sign s x then Ok (x.place, m) else Err (Unexpected, x ∷ m)

-- a string
abbrev pub text_of : TokenKind → Token → List Token → Outcome (List ℕ)
text_of (kinds.Text bytes) x m = Ok (bytes, m)
text_of (kinds.Name bytes) x m = Err (Unexpected, x ∷ m)
text_of (kinds.Number n) x m = Err (Unexpected, x ∷ m)
text_of (kinds.Sign s) x m = Err (Unexpected, x ∷ m)
text_of kinds.End x m = Err (Unexpected, x ∷ m)

abbrev pub text : List Token → Outcome (List ℕ)
text [] = Err (Unexpected, [])
text (x ∷ m) = text_of x.kind x m

-- a name
abbrev pub identifier_of : TokenKind → Token → List Token → Outcome Identifier
identifier_of (kinds.Name bytes) x m = Ok (record { place = x.place; text = bytes }, m)
identifier_of (kinds.Text bytes) x m = Err (Unexpected, x ∷ m)
identifier_of (kinds.Number n) x m = Err (Unexpected, x ∷ m)
identifier_of (kinds.Sign s) x m = Err (Unexpected, x ∷ m)
identifier_of kinds.End x m = Err (Unexpected, x ∷ m)

abbrev pub identifier : List Token → Outcome Identifier
identifier [] = Err (Unexpected, [])
identifier (x ∷ m) = identifier_of x.kind x m

-- the type of an element
abbrev pub data_type_of : Token → Option DataType
data_type_of x =
    if is_sign signs.Uint64 x || is_sign signs.Uint x then Some types.Uint64
    else if is_sign signs.Int64 x || is_sign signs.Int x then Some types.Int64
    else if is_sign signs.Bool x then Some types.Bool
    else None

abbrev pub data_type_at : Option DataType → Token → List Token → Outcome DataType
data_type_at (Some t) x m = Ok (t, m)
data_type_at None x m = Err (Unexpected, x ∷ m)

abbrev pub data_type : List Token → Outcome DataType
data_type [] = Err (Unexpected, [])
data_type (x ∷ m) = data_type_at (data_type_of x) x m

-- whether a type of an element begins so
abbrev pub begins_data_type : List Token → Bool
begins_data_type [] = false
begins_data_type (x ∷ m) =
    is_sign signs.Uint64 x || is_sign signs.Uint x || is_sign signs.Int64 x || is_sign signs.Int x || is_sign signs.Bool x

-- the least height of an expression that begins with such a token, where one does
abbrev pub least_of_sign : Sign → Option ℕ
least_of_sign signs.True = Some 1
least_of_sign signs.False = Some 1
least_of_sign signs.Argument = Some 1
least_of_sign signs.LeftParenthesis = Some 2
least_of_sign signs.Exclamation = Some 2
least_of_sign signs.Declassify = Some 2
least_of_sign signs.Publish = Some 2
least_of_sign other = None

abbrev pub least : TokenKind → Option ℕ
least (kinds.Name bytes) = Some 1
least (kinds.Number n) = Some 1
least (kinds.Text bytes) = None
least (kinds.Sign s) = least_of_sign s
least kinds.End = None

-- why no expression of at most this height begins with a token of which that is the least height
abbrev pub why_not : ℕ → Option ℕ → Option ParseProblem
why_not max_height None = Some Unexpected
why_not max_height (Some n) = if nat_lt max_height n then Some TooHigh else None

abbrev pub unless : Option ParseProblem → List Token → Outcome Tree → Outcome Tree
unless (Some problem) w o = Err (problem, w)
unless None w o = o

-- the arguments after a first one
abbrev pub more_at : (List Token → Outcome Tree) → (List Token → Outcome Trees) → Token → List Token → Outcome Trees
more_at inner again x m =
    if is_sign signs.Comma x then (inner m >>= λ e. again e.1 >>= λ es. Ok (also e.0 es.0, es.1)) else Ok (none, x ∷ m)

unfoldable pub more : (List Token → Outcome Tree) → ℕ → List Token → Outcome Trees
more inner zero w = Ok (none, w)
more inner (suc n) [] = Ok (none, [])
more inner (suc n) (x ∷ m) = more_at inner (more inner n) x m

abbrev pub some_arguments : (List Token → Outcome Tree) → List Token → Outcome Trees
some_arguments inner w = inner w >>= λ e. more inner (length e.1) e.1 >>= λ es. Ok (also e.0 es.0, es.1)

unfoldable pub arguments : (List Token → Outcome Tree) → List Token → Outcome Trees
arguments inner [] = Err (Unexpected, [])
arguments inner (x ∷ m) = if is_sign signs.RightParenthesis x then Ok (none, x ∷ m) else some_arguments inner (x ∷ m)

-- what stands after a name
abbrev pub call_behind : (List Token → Outcome Tree) → Span → List ℕ → List Token → Outcome Tree
call_behind inner p bytes w = arguments inner w >>= λ es. expect signs.RightParenthesis es.1 >>= λ q. Ok (call p bytes es.0, q.1)

unfoldable pub after_name : (List Token → Outcome Tree) → Span → List ℕ → List Token → Outcome Tree
after_name inner p bytes [] = Err (Unexpected, [])
after_name inner p bytes (y ∷ m) =
    if is_sign signs.LeftParenthesis y then call_behind inner p bytes m else Ok (variable p bytes, y ∷ m)

-- what stands after the sign or keyword that a primary begins with
abbrev pub parentheses_behind : (List Token → Outcome Tree) → Span → List Token → Outcome Tree
parentheses_behind inner p w = inner w >>= λ e. expect signs.RightParenthesis e.1 >>= λ q. Ok (parentheses p e.0, q.1)

abbrev pub declassify_behind : (List Token → Outcome Tree) → Span → List Token → Outcome Tree
declassify_behind inner p w =
    expect signs.LeftParenthesis w >>= λ o. inner o.1 >>= λ e. expect signs.RightParenthesis e.1 >>= λ q. Ok (declassify p e.0, q.1)

abbrev pub argument_behind : Span → List Token → Outcome Tree
argument_behind p w =
    expect signs.LeftParenthesis w >>= λ o. text o.1 >>= λ t. expect signs.RightParenthesis t.1 >>= λ q. Ok (argument p t.0, q.1)

abbrev pub publish_behind : (List Token → Outcome Tree) → Span → List Token → Outcome Tree
publish_behind inner p w =
    expect signs.LeftParenthesis w
    >>= λ o. text o.1 >>= λ t. expect signs.Comma t.1 >>= λ c. inner c.1 >>= λ e. expect signs.RightParenthesis e.1 >>= λ q. Ok (publish p t.0 e.0, q.1)

-- a primary that begins with a sign or keyword
unfoldable pub signed : (List Token → Outcome Tree) → Token → List Token → Outcome Tree
signed inner x m =
    if is_sign signs.True x then Ok (truth x.place true, m)
    else if is_sign signs.False x then Ok (truth x.place false, m)
    else if is_sign signs.LeftParenthesis x then parentheses_behind inner x.place m
    else if is_sign signs.Declassify x then declassify_behind inner x.place m
    else if is_sign signs.Argument x then argument_behind x.place m
    else if is_sign signs.Publish x then publish_behind inner x.place m
    else Err (Unexpected, x ∷ m)

abbrev pub primary_at : (List Token → Outcome Tree) → TokenKind → Token → List Token → Outcome Tree
primary_at inner (kinds.Number n) x m = Ok (number x.place n, m)
primary_at inner (kinds.Name bytes) x m = after_name inner x.place bytes m
primary_at inner (kinds.Text bytes) x m = Err (Unexpected, x ∷ m)
primary_at inner (kinds.Sign s) x m = signed inner x m
primary_at inner kinds.End x m = Err (Unexpected, x ∷ m)

unfoldable pub primary : (List Token → Outcome Tree) → List Token → Outcome Tree
primary inner [] = Err (Unexpected, [])
primary inner (x ∷ m) = primary_at inner x.kind x m

-- an index after a primary, if there is one, where the whole may be of this height
abbrev pub index_behind : (List Token → Outcome Tree) → Tree → List Token → Outcome Tree
index_behind inner a w = inner w >>= λ i. expect signs.RightBracket i.1 >>= λ q. Ok (index (place_of a) a i.0, q.1)

unfoldable pub indexed : ℕ → (List Token → Outcome Tree) → Tree → List Token → Outcome Tree
indexed max_height inner a [] = Ok (a, [])
indexed max_height inner a (x ∷ m) =
    if is_sign signs.LeftBracket x then (if nat_le max_height (height a) then Err (TooHigh, x ∷ m) else index_behind inner a m) else Ok (a, x ∷ m)

abbrev pub postfix : ℕ → (List Token → Outcome Tree) → List Token → Outcome Tree
postfix max_height inner w = primary inner w >>= λ a. indexed max_height inner a.0 a.1

-- an expression with no operator between two operands outside brackets
abbrev pub negation_behind : (List Token → Outcome Tree) → Span → List Token → Outcome Tree
negation_behind operand p w = operand w >>= λ e. Ok (negation p e.0, e.1)

abbrev pub cast_behind : (List Token → Outcome Tree) → Span → List Token → Outcome Tree
cast_behind operand p w = data_type w >>= λ t. expect signs.RightParenthesis t.1 >>= λ q. operand q.1 >>= λ e. Ok (cast p t.0 e.0, e.1)

abbrev pub unary_at : ℕ → (inner operand : List Token → Outcome Tree) → Token → List Token → Outcome Tree
unary_at max_height inner operand x m =
    if is_sign signs.Exclamation x then negation_behind operand x.place m
    else if is_sign signs.LeftParenthesis x && begins_data_type m then cast_behind operand x.place m
    else postfix max_height inner (x ∷ m)

unfoldable pub unary_of : ℕ → (inner operand : List Token → Outcome Tree) → List Token → Outcome Tree
unary_of max_height inner operand [] = Err (Unexpected, [])
unary_of max_height inner operand (x ∷ m) = unless (why_not max_height (least x.kind)) (x ∷ m) (unary_at max_height inner operand x m)

-- the operator that a token is
abbrev pub operator_at : TokenKind → Option Operator
operator_at (kinds.Sign s) = operator_of s
operator_at (kinds.Name bytes) = None
operator_at (kinds.Number n) = None
operator_at (kinds.Text bytes) = None
operator_at kinds.End = None

-- an operator, if it is of this level
abbrev pub at_level : ℕ → Option Operator → Option Operator
at_level k None = None
at_level k (Some op) = if nat_eq (level op) k then Some op else None

-- a left operand, and the operators of a level after it, where the whole may be of this height
abbrev pub grow_at : ℕ → (List Token → Outcome Tree) → (Tree → List Token → Outcome Tree) → Tree → Option Operator → Token → List Token → Outcome Tree
grow_at max_height operand again a None x m = Ok (a, x ∷ m)
grow_at max_height operand again a (Some op) x m =
    if nat_le max_height (height a) then Err (TooHigh, x ∷ m) else (operand m >>= λ b. again (binary (place_of a) op a b.0) b.1)

unfoldable pub grow : ℕ → ℕ → (List Token → Outcome Tree) → ℕ → Tree → List Token → Outcome Tree
grow k max_height operand zero a w = Ok (a, w)
grow k max_height operand (suc n) a [] = Ok (a, [])
grow k max_height operand (suc n) a (x ∷ m) =
    grow_at max_height operand (grow k max_height operand n) a (at_level k (operator_at x.kind)) x m

-- the levels, where what lies a node below is read by `lower`
unfoldable pub climb : ℕ → (ℕ → List Token → Outcome Tree) → ℕ → List Token → Outcome Tree
climb max_height lower zero w = unary_of max_height (lower loosest) (lower unary) w
climb max_height lower (suc k) w = climb max_height lower k w >>= λ a. grow (suc k) max_height (lower k) (length a.1) a.0 a.1

-- an expression of at most this height, whose operators outside brackets bind at this level or tighter
unfoldable pub at_most : ℕ → ℕ → List Token → Outcome Tree
at_most zero k w = climb 0 (λ j v. Err (TooHigh, v)) k w
at_most (suc h) k w = climb (suc h) (at_most h) k w

-- these trees, and then those
abbrev pub join : List Tree → Trees → Trees
join [] es = es
join (t ∷ ts) es = also t (join ts es)

abbrev pub front : List Tree → Outcome Trees → Outcome Trees
front ts o = o >>= λ es. Ok (join ts es.0, es.1)
