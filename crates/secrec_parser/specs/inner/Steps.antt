-- Cited by private functions alone: no contract of another crate rests on it.
-- The steps of the parser as functions on lists of tokens.
use Rattle.std.specs.Prelude.{ℕ, zero, suc, ◌+◌, ◌-◌, nat_eq, nat_lt, Bool, true, false, ◌||◌, ◌&&◌, not, if◌then◌else◌, List, [], ◌∷◌, ◌++◌, length}
use Rattle.std.specs.Prelude.{Option, Some, None, Ok, Err}
use Rattle.sc_text.specs.declared.span.Span.{Span}
use Rattle.secrec_lexer.specs.declared.sign.Sign.{Sign}
use Rattle.secrec_lexer.specs.declared.sign.Sign.TheVariants as signs
use Rattle.secrec_lexer.specs.declared.token.TokenKind.{TokenKind}
use Rattle.secrec_lexer.specs.declared.token.TokenKind.TheVariants as kinds
use Rattle.secrec_lexer.specs.declared.token.Token.{Token}
use Rattle.secrec_lexer.specs.Tokens.{is_sign, is_end}
use Rattle.program_trees.specs.declared.expression.Operator.{Operator}
use Rattle.program_trees.specs.declared.expression.Operator.TheVariants as operators
use Rattle.program_trees.specs.declared.statement.Identifier.{Identifier}
use Rattle.program_trees.specs.declared.statement.Domain.{Domain}
use Rattle.program_trees.specs.declared.statement.Domain.TheVariants as domains
use Rattle.program_trees.specs.declared.statement.DeclaredType.{DeclaredType}
use Rattle.program_trees.specs.declared.function.DomainVariable.{DomainVariable}
use Rattle.program_trees.specs.declared.function.Parameter.{Parameter}
use Rattle.program_trees.specs.declared.function.ResultType.{ResultType}
use Rattle.program_trees.specs.declared.function.ResultType.TheVariants as results
use Rattle.program_trees.specs.Tree.{Tree, number}
use Rattle.program_trees.specs.Statements.{DeclarationTree, TargetTree, target_of, AssignmentTree, StartTree, starts_with_nothing}
use Rattle.program_trees.specs.Statements.{starts_with_declaration, starts_with_assignment, StepTree, steps_by_nothing, steps_by_assignment}
use Rattle.program_trees.specs.Statements.{steps_by_expression, StatementTree, statements_of, block, empty, branch, choice, while_loop, do_loop}
use Rattle.program_trees.specs.Statements.{for_loop, breaks, continues, returns, assertion, declaration, assignment, evaluation}
use Rattle.program_trees.specs.Programs.{BlockTree, FunctionTree, ItemTree, imports, kind, domain, defines, ProgramTree}
use Rattle.program_trees.specs.Heights.{target_height}
use Rattle.expression_parser.specs.declared.problem.ParseProblem.TheVariants.{Unexpected, TooHigh}
use Rattle.secrec_parser.specs.declared.leader.Leader.{Leader}
use Rattle.secrec_parser.specs.declared.leader.Leader.TheVariants as leaders
use Rattle.secrec_parser.specs.declared.assignment.Update.{Update}
use Rattle.secrec_parser.specs.declared.assignment.Update.TheVariants as updates
use Rattle.expression_parser.specs.Steps.{Outcome, ◌>>=◌, expect, identifier, data_type, operator_at, at_most}
use Rattle.expression_parser.specs.Grammar.{loosest}
use Rattle.secrec_parser.specs.Sugar.{updated}

-- Single tokens

-- whether the next token is this sign
abbrev pub at_sign : Sign → List Token → Bool
at_sign s [] = false
at_sign s (x ∷ m) = is_sign s x

-- Lists

-- Reads one after another until they stop: what was found so far, and at most n more.
unfoldable pub list_from : {A : Type 0} → (List A → List Token → Bool) → (List Token → Outcome A) → ℕ → List A → List Token → Outcome (List A)
list_from stop inner zero found w = Ok (found, w)
list_from stop inner (suc n) found w =
    if stop found w then Ok (found, w) else (inner w >>= λ a. list_from stop inner n (found ++ a.0 ∷ []) a.1)

abbrev pub listed : {A : Type 0} → (List A → List Token → Bool) → (List Token → Outcome A) → List A → List Token → Outcome (List A)
listed stop inner found w = list_from stop inner (suc (length w)) found w

-- Types

abbrev pub domain_of : TokenKind → Token → List Token → Outcome Domain
domain_of (kinds.Name text) x m = Ok (domains.Named (record { place = x.place; text = text }), m)
domain_of other x m = if is_sign signs.Public x then Ok (domains.Public, m) else Ok (domains.Public, x ∷ m)

-- public, a name, or nothing
abbrev pub optional_domain : List Token → Outcome Domain
optional_domain [] = Err (Unexpected, [])
optional_domain (x ∷ m) = domain_of x.kind x m

abbrev pub zero_or_one_of : TokenKind → Token → List Token → Outcome Bool
zero_or_one_of (kinds.Number n) x m =
    if nat_eq n 0 then Ok (false, m) else if nat_eq n 1 then Ok (true, m) else Err (Unexpected, x ∷ m)
zero_or_one_of other x m = Err (Unexpected, x ∷ m)

abbrev pub zero_or_one : List Token → Outcome Bool
zero_or_one [] = Err (Unexpected, [])
zero_or_one (x ∷ m) = zero_or_one_of x.kind x m

abbrev pub brackets : List Token → Outcome Bool
brackets w = do
  a ← expect signs.LeftBracket w
  b ← expect signs.LeftBracket a.1
  n ← zero_or_one b.1
  c ← expect signs.RightBracket n.1
  d ← expect signs.RightBracket c.1
  Ok (n.0, d.1)

abbrev pub dimension : List Token → Outcome Bool
dimension w = if at_sign signs.LeftBracket w then brackets w else Ok (false, w)

abbrev pub place_at : List Token → Outcome Span
place_at [] = Err (Unexpected, [])
place_at (x ∷ m) = Ok (x.place, x ∷ m)

unfoldable pub declared_type : List Token → Outcome DeclaredType
declared_type w = do
  p ← place_at w
  d ← optional_domain p.1
  e ← data_type d.1
  n ← dimension e.1
  Ok (record { place = p.0; domain = d.0; element = e.0; array = n.0 }, n.1)

-- Expressions in their places

abbrev pub operand : ℕ → List Token → Outcome Tree
operand h w = at_most h loosest w

abbrev pub parenthesised : ℕ → List Token → Outcome Tree
parenthesised h w = do
  a ← expect signs.LeftParenthesis w
  e ← operand h a.1
  b ← expect signs.RightParenthesis e.1
  Ok (e.0, b.1)

-- an expression, or nothing before a semicolon
abbrev pub optional_operand : ℕ → List Token → Outcome (Option Tree)
optional_operand h w =
    if at_sign signs.Semicolon w then Ok (None, w) else (operand h w >>= λ e. Ok (Some e.0, e.1))

-- Declarations

abbrev pub size : ℕ → List Token → Outcome (Option Tree)
size h w =
    if at_sign signs.LeftParenthesis w
    then (if nat_eq h 0 then Err (TooHigh, w) else (parenthesised h w >>= λ e. Ok (Some e.0, e.1)))
    else Ok (None, w)

abbrev pub initialiser : ℕ → List Token → Outcome (Option Tree)
initialiser h w =
    if at_sign signs.Assign w
    then (if nat_eq h 0 then Err (TooHigh, w) else (expect signs.Assign w >>= λ a. operand h a.1 >>= λ e. Ok (Some e.0, e.1)))
    else Ok (None, w)

-- with room for h below it
unfoldable pub declaration_step : ℕ → List Token → Outcome DeclarationTree
declaration_step h w = do
  t ← declared_type w
  x ← identifier t.1
  s ← size h x.1
  v ← initialiser h s.1
  Ok (record { declared = t.0; variable = x.0; size = s.0; value = v.0 }, v.1)

-- Assignments

abbrev pub update_of : Token → Option Update
update_of x =
    if is_sign signs.Assign x then Some updates.Plain
    else if is_sign signs.PlusAssign x then Some (updates.Compound operators.Add)
    else if is_sign signs.MinusAssign x then Some (updates.Compound operators.Subtract)
    else if is_sign signs.StarAssign x then Some (updates.Compound operators.Multiply)
    else if is_sign signs.AmpersandAssign x then Some (updates.Compound operators.And)
    else if is_sign signs.BarAssign x then Some (updates.Compound operators.Or)
    else if is_sign signs.CaretAssign x then Some (updates.Compound operators.Xor)
    else if is_sign signs.Increment x then Some (updates.Step operators.Add)
    else if is_sign signs.Decrement x then Some (updates.Step operators.Subtract)
    else None

-- how high the tree of an assignment to a target of this height is at least
abbrev pub least_height : ℕ → Update → ℕ
least_height t updates.Plain = t + 1
least_height t (updates.Compound op) = t + 2
least_height t (updates.Step op) = t + 2

abbrev pub value_by : ℕ → TargetTree → Update → List Token → Outcome Tree
value_by max_height t updates.Plain m = operand (max_height - 1) m
value_by max_height t (updates.Compound op) m = operand (max_height - 2) m >>= λ e. Ok (updated t op e.0, e.1)
value_by max_height t (updates.Step op) m = Ok (updated t op (number t.variable.place 1), m)

abbrev pub assigned_by : ℕ → TargetTree → Option Update → Token → List Token → Outcome AssignmentTree
assigned_by max_height t None x m = Err (Unexpected, x ∷ m)
assigned_by max_height t (Some u) x m =
    if nat_lt max_height (least_height (target_height t) u) then Err (TooHigh, x ∷ m)
    else (value_by max_height t u m >>= λ v. Ok (record { target = t; value = v.0 }, v.1))

-- what a target gets, in an assignment of at most this height
abbrev pub assigned : ℕ → TargetTree → List Token → Outcome AssignmentTree
assigned max_height t [] = Err (Unexpected, [])
assigned max_height t (x ∷ m) = assigned_by max_height t (update_of x) x m

abbrev pub bracketed : ℕ → List Token → Outcome Tree
bracketed h w = do
  a ← expect signs.LeftBracket w
  e ← operand h a.1
  b ← expect signs.RightBracket e.1
  Ok (e.0, b.1)

-- the index of a target, in an assignment of at most this height
abbrev pub target_index : ℕ → List Token → Outcome (Option Tree)
target_index max_height w =
    if at_sign signs.LeftBracket w
    then (if nat_lt max_height 3 then Err (TooHigh, w) else (bracketed (max_height - 2) w >>= λ e. Ok (Some e.0, e.1)))
    else Ok (None, w)

unfoldable pub assignment_step : ℕ → List Token → Outcome AssignmentTree
assignment_step max_height w = do
  x ← identifier w
  i ← target_index max_height x.1
  assigned max_height (record { variable = x.0; index = i.0 }) i.1

-- an assignment or an expression
pub data ActionTree : Type 0 where
  assigns : AssignmentTree → ActionTree
  evaluates : Tree → ActionTree

abbrev pub assigns_to : ℕ → Option TargetTree → List Token → Outcome ActionTree
assigns_to max_height None w = Err (Unexpected, w)
assigns_to max_height (Some t) w = assigned max_height t w >>= λ a. Ok (assigns a.0, a.1)

abbrev pub updates_by : Option Update → Bool
updates_by None = false
updates_by (Some u) = true

abbrev pub is_update : List Token → Bool
is_update [] = false
is_update (x ∷ m) = updates_by (update_of x)

-- an expression of at most the first height, or an assignment of at most the second
unfoldable pub action : ℕ → ℕ → List Token → Outcome ActionTree
action h max_height w =
    operand h w >>= λ e.
    if is_update e.1 then assigns_to max_height (target_of e.0) e.1 else Ok (evaluates e.0, e.1)

-- Statements

abbrev pub name_leader : TokenKind → Leader
name_leader (kinds.Name text) = leaders.Name
name_leader other = leaders.Expression

-- whether a token is the type of elements
abbrev pub is_type : Token → Bool
is_type x = is_sign signs.Uint64 x || is_sign signs.Uint x || is_sign signs.Int64 x || is_sign signs.Int x || is_sign signs.Bool x

-- what a statement that begins with a token is, as far as the token tells
abbrev pub leader_of : Bool → Token → Leader
leader_of in_loop x =
    if is_sign signs.LeftBrace x then leaders.Block
    else if is_sign signs.Semicolon x then leaders.Empty
    else if is_sign signs.If x then leaders.If
    else if is_sign signs.While x then leaders.While
    else if is_sign signs.Do x then leaders.DoWhile
    else if is_sign signs.For x then leaders.For
    else if is_sign signs.Break x && in_loop then leaders.Break
    else if is_sign signs.Continue x && in_loop then leaders.Continue
    else if is_sign signs.Return x then leaders.Return
    else if is_sign signs.Assert x then leaders.Assert
    else if is_sign signs.Public x || is_type x then leaders.Declaration
    else name_leader x.kind

-- how high such a statement is at least; an expression sees to that itself
abbrev pub least : Leader → ℕ
least leaders.Block = 1
least leaders.Empty = 1
least leaders.If = 2
least leaders.While = 2
least leaders.DoWhile = 2
least leaders.For = 2
least leaders.Break = 1
least leaders.Continue = 1
least leaders.Return = 1
least leaders.Assert = 2
least leaders.Declaration = 1
least leaders.Name = 1
least leaders.Expression = 0

abbrev pub Inner : Type 0
Inner = List Token → Outcome StatementTree

abbrev pub braced : Inner → List Token → Outcome (List StatementTree)
braced inner w = do
  ss ← listed (λ found w. at_sign signs.RightBrace w) inner [] w
  b ← expect signs.RightBrace ss.1
  Ok (ss.0, b.1)

abbrev pub else_step : Inner → Span → Tree → StatementTree → List Token → Outcome StatementTree
else_step inner p e s w =
    if at_sign signs.Else w then (expect signs.Else w >>= λ a. inner a.1 >>= λ t. Ok (choice p e s t.0, t.1))
    else Ok (branch p e s, w)

unfoldable pub if_step : ℕ → Inner → Span → List Token → Outcome StatementTree
if_step h inner p w = do
  e ← parenthesised h w
  s ← inner e.1
  else_step inner p e.0 s.0 s.1

unfoldable pub while_step : ℕ → Inner → Span → List Token → Outcome StatementTree
while_step h inner p w = do
  e ← parenthesised h w
  s ← inner e.1
  Ok (while_loop p e.0 s.0, s.1)

-- the test of a `do` with this body, and the signs around it
unfoldable pub do_behind : ℕ → Span → StatementTree → List Token → Outcome StatementTree
do_behind h p s w = do
  a ← expect signs.While w
  e ← parenthesised h a.1
  b ← expect signs.Semicolon e.1
  Ok (do_loop p s e.0, b.1)

unfoldable pub do_step : ℕ → Inner → Span → List Token → Outcome StatementTree
do_step h inner p w = do
  s ← inner w
  do_behind h p s.0 s.1

-- whether a declaration begins here: with a type, or with a name and a type
abbrev pub is_named_type : TokenKind → List Token → Bool
is_named_type (kinds.Name text) [] = false
is_named_type (kinds.Name text) (y ∷ m) = is_type y
is_named_type other m = false

abbrev pub declares : List Token → Bool
declares [] = false
declares (x ∷ m) = is_sign signs.Public x || is_type x || is_named_type x.kind m

unfoldable pub start_step : ℕ → List Token → Outcome StartTree
start_step h w =
    if at_sign signs.Semicolon w then Ok (starts_with_nothing, w)
    else if declares w then (declaration_step (h - 1) w >>= λ d. Ok (starts_with_declaration d.0, d.1))
    else (assignment_step h w >>= λ a. Ok (starts_with_assignment a.0, a.1))

abbrev pub step_of : ActionTree → StepTree
step_of (assigns a) = steps_by_assignment a
step_of (evaluates e) = steps_by_expression e

unfoldable pub last_step : ℕ → List Token → Outcome StepTree
last_step h w =
    if at_sign signs.RightParenthesis w then Ok (steps_by_nothing, w)
    else (action h h w >>= λ a. Ok (step_of a.0, a.1))

-- the three parts of a `for`, each with the signs around it
unfoldable pub start_part : ℕ → List Token → Outcome StartTree
start_part h w = do
  a ← expect signs.LeftParenthesis w
  s ← start_step h a.1
  b ← expect signs.Semicolon s.1
  Ok (s.0, b.1)

unfoldable pub test_part : ℕ → List Token → Outcome (Option Tree)
test_part h w = do
  e ← optional_operand h w
  b ← expect signs.Semicolon e.1
  Ok (e.0, b.1)

unfoldable pub last_part : ℕ → List Token → Outcome StepTree
last_part h w = do
  t ← last_step h w
  b ← expect signs.RightParenthesis t.1
  Ok (t.0, b.1)

unfoldable pub heading : ℕ → List Token → Outcome (StartTree × Option Tree × StepTree)
heading h w = do
  s ← start_part h w
  e ← test_part h s.1
  t ← last_part h e.1
  Ok ((s.0, e.0, t.0), t.1)

abbrev pub headed : Span → StartTree × Option Tree × StepTree → StatementTree → StatementTree
headed p f s = for_loop p f.0 f.1 f.2 s

unfoldable pub for_step : ℕ → Inner → Span → List Token → Outcome StatementTree
for_step h inner p w = do
  f ← heading h w
  s ← inner f.1
  Ok (headed p f.0 s.0, s.1)

unfoldable pub return_step : ℕ → Span → List Token → Outcome StatementTree
return_step h p w = test_part h w >>= λ e. Ok (returns p e.0, e.1)

unfoldable pub assert_step : ℕ → Span → List Token → Outcome StatementTree
assert_step h p w = do
  e ← parenthesised h w
  b ← expect signs.Semicolon e.1
  Ok (assertion p e.0, b.1)

unfoldable pub declaration_statement : ℕ → List Token → Outcome StatementTree
declaration_statement h w = do
  d ← declaration_step h w
  b ← expect signs.Semicolon d.1
  Ok (declaration d.0, b.1)

abbrev pub statement_of : ActionTree → StatementTree
statement_of (assigns a) = assignment a
statement_of (evaluates e) = evaluation e

unfoldable pub action_statement : ℕ → List Token → Outcome StatementTree
action_statement max_height w = do
  a ← action (max_height - 1) max_height w
  b ← expect signs.Semicolon a.1
  Ok (statement_of a.0, b.1)

-- what goes on with an assignment or an expression after a name
abbrev pub is_operator : Option Operator → Bool
is_operator None = false
is_operator (Some op) = true

abbrev pub follows_name : Token → Bool
follows_name x =
    is_sign signs.LeftParenthesis x || is_sign signs.LeftBracket x || is_sign signs.Semicolon x
    || updates_by (update_of x) || is_operator (operator_at x.kind)

-- after a name where a declaration alone has room
abbrev pub only_declares : List Token → Outcome StatementTree
only_declares [] = Err (Unexpected, [])
only_declares (y ∷ m) = if follows_name y then Err (TooHigh, y ∷ m) else Err (Unexpected, y ∷ m)

-- a statement that begins with a name, which stands before m
unfoldable pub name_statement : ℕ → List Token → List Token → Outcome StatementTree
name_statement max_height w m =
    if declares w then declaration_statement (max_height - 1) w
    else if nat_eq max_height 1 then only_declares m
    else action_statement max_height w

-- a statement that holds none and that a keyword or a semicolon leads, which stands at this place before the tokens
abbrev pub short : Leader → ℕ → Span → List Token → Outcome StatementTree
short leaders.Break max_height p m = expect signs.Semicolon m >>= λ b. Ok (breaks p, b.1)
short leaders.Continue max_height p m = expect signs.Semicolon m >>= λ b. Ok (continues p, b.1)
short leaders.Return max_height p m = return_step (max_height - 1) p m
short leaders.Assert max_height p m = assert_step (max_height - 1) p m
short other max_height p m = Ok (empty p, m)

-- what a keyword, a brace or a semicolon leads, which stands at this place before the tokens
unfoldable pub led : Leader → ℕ → (Bool → Inner) → Bool → Span → List Token → Outcome StatementTree
led leaders.Block max_height lower in_loop p m = braced (lower in_loop) m >>= λ ss. Ok (block p (statements_of ss.0), ss.1)
led leaders.If max_height lower in_loop p m = if_step (max_height - 1) (lower in_loop) p m
led leaders.While max_height lower in_loop p m = while_step (max_height - 1) (lower true) p m
led leaders.DoWhile max_height lower in_loop p m = do_step (max_height - 1) (lower true) p m
led leaders.For max_height lower in_loop p m = for_step (max_height - 1) (lower true) p m
led other max_height lower in_loop p m = short other max_height p m

abbrev pub statement_by : Leader → ℕ → (Bool → Inner) → Bool → Token → List Token → Outcome StatementTree
statement_by leaders.Declaration max_height lower in_loop x m = declaration_statement (max_height - 1) (x ∷ m)
statement_by leaders.Name max_height lower in_loop x m = name_statement max_height (x ∷ m) m
statement_by leaders.Expression max_height lower in_loop x m = action_statement max_height (x ∷ m)
statement_by other max_height lower in_loop x m = led other max_height lower in_loop x.place m

-- one statement, where `lower` reads the statements in it
unfoldable pub statement_step : ℕ → (Bool → Inner) → Bool → List Token → Outcome StatementTree
statement_step max_height lower in_loop [] = Err (Unexpected, [])
statement_step max_height lower in_loop (x ∷ m) =
    if nat_lt max_height (least (leader_of in_loop x)) then Err (TooHigh, x ∷ m)
    else statement_by (leader_of in_loop x) max_height lower in_loop x m

-- a statement of at most this height
unfoldable pub statement_at_most : ℕ → Bool → List Token → Outcome StatementTree
statement_at_most zero in_loop w = statement_step zero (λ i m. Err (TooHigh, m)) in_loop w
statement_at_most (suc h) in_loop w = statement_step (suc h) (statement_at_most h) in_loop w

-- Functions

abbrev pub constraint : List Token → Outcome (Option Identifier)
constraint w =
    if at_sign signs.Colon w then (expect signs.Colon w >>= λ a. identifier a.1 >>= λ x. Ok (Some x.0, x.1)) else Ok (None, w)

unfoldable pub domain_variable : List Token → Outcome DomainVariable
domain_variable w = do
  a ← expect signs.Domain w
  x ← identifier a.1
  k ← constraint x.1
  Ok (record { variable = x.0; kind = k.0 }, k.1)

-- after a comma
abbrev pub comma_then : {A : Type 0} → (List Token → Outcome A) → List Token → Outcome A
comma_then inner w = expect signs.Comma w >>= λ a. inner a.1

-- a template has up to four domain variables
abbrev pub no_more_variables : List DomainVariable → List Token → Bool
no_more_variables found w = not (at_sign signs.Comma w && nat_lt (length found) 4)

unfoldable pub template : List Token → Outcome (List DomainVariable)
template w =
    if at_sign signs.Template w
    then (do
      a ← expect signs.Template w
      b ← expect signs.Less a.1
      v ← domain_variable b.1
      vs ← listed no_more_variables (comma_then domain_variable) (v.0 ∷ []) v.1
      c ← expect signs.Greater vs.1
      Ok (vs.0, c.1))
    else Ok ([], w)

unfoldable pub result_type : List Token → Outcome ResultType
result_type w =
    if at_sign signs.Void w then (expect signs.Void w >>= λ a. Ok (results.Void, a.1))
    else (declared_type w >>= λ t. Ok (results.Value t.0, t.1))

unfoldable pub parameter : List Token → Outcome Parameter
parameter w = do
  t ← declared_type w
  x ← identifier t.1
  Ok (record { declared = t.0; variable = x.0 }, x.1)

abbrev pub no_comma : List Parameter → List Token → Bool
no_comma found w = not (at_sign signs.Comma w)

unfoldable pub parameters : List Token → Outcome (List Parameter)
parameters w =
    if at_sign signs.RightParenthesis w then Ok ([], w)
    else (parameter w >>= λ p. listed no_comma (comma_then parameter) (p.0 ∷ []) p.1)

-- a function's body; `max_height` is that for its statements
unfoldable pub body : ℕ → List Token → Outcome BlockTree
body max_height w = do
  a ← expect signs.LeftBrace w
  ss ← braced (statement_at_most max_height false) a.1
  Ok (record { place = a.0; statements = statements_of ss.0 }, ss.1)

unfoldable pub parameter_list : List Token → Outcome (List Parameter)
parameter_list w = do
  a ← expect signs.LeftParenthesis w
  ps ← parameters a.1
  b ← expect signs.RightParenthesis ps.1
  Ok (ps.0, b.1)

unfoldable pub function_step : ℕ → List Token → Outcome FunctionTree
function_step max_height w = do
  vs ← template w
  t ← result_type vs.1
  x ← identifier t.1
  ps ← parameter_list x.1
  c ← body max_height ps.1
  Ok (record { variables = vs.0; returned = t.0; function = x.0; parameters = ps.0; body = c.0 }, c.1)

-- Programs

-- a name and a semicolon
abbrev pub named : List Token → Outcome Identifier
named w = do
  x ← identifier w
  b ← expect signs.Semicolon x.1
  Ok (x.0, b.1)

unfoldable pub domain_item : List Token → Outcome ItemTree
domain_item w = do
  x ← identifier w
  k ← identifier x.1
  b ← expect signs.Semicolon k.1
  Ok (domain x.0 k.0, b.1)

abbrev pub item_step : ℕ → Token → List Token → Outcome ItemTree
item_step max_height x m =
    if is_sign signs.Import x then (named m >>= λ x. Ok (imports x.0, x.1))
    else if is_sign signs.Kind x then (named m >>= λ x. Ok (kind x.0, x.1))
    else if is_sign signs.Domain x then domain_item m
    else (function_step max_height (x ∷ m) >>= λ f. Ok (defines f.0, f.1))

unfoldable pub item : ℕ → List Token → Outcome ItemTree
item max_height [] = Err (Unexpected, [])
item max_height (x ∷ m) = item_step max_height x m

abbrev pub at_end : List Token → Bool
at_end [] = false
at_end (x ∷ m) = is_end x.kind

-- a whole program, up to the end of the text
unfoldable pub program : ℕ → List Token → Outcome ProgramTree
program max_height w = do
  is ← listed (λ found w. at_end w) (item max_height) [] w
  p ← place_at is.1
  Ok (record { items = is.0; end = p.0 }, p.1)
