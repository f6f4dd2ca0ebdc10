-- The grammar above expressions: types, declarations, assignments, statements, functions and programs. For each tree it
-- says which tokens spell it.
use Rattle.std.specs.Prelude.{◌≡◌, ℕ, ◌<◌, Bool, true, false, ◌⊎◌, List, [], ◌∷◌, length, Option, Some, None}
use Rattle.sc_text.specs.declared.span.Span.{Span}
use Rattle.secrec_lexer.specs.declared.sign.Sign.TheVariants.{LeftParenthesis, RightParenthesis, LeftBracket, RightBracket, LeftBrace, RightBrace}
use Rattle.secrec_lexer.specs.declared.sign.Sign.TheVariants.{Less, Greater, Comma, Semicolon, Colon, Assign, PlusAssign, MinusAssign, StarAssign}
use Rattle.secrec_lexer.specs.declared.sign.Sign.TheVariants.{AmpersandAssign, BarAssign, CaretAssign, Increment, Decrement, Import, Kind as KindWord}
use Rattle.secrec_lexer.specs.declared.sign.Sign.TheVariants.{Domain as DomainWord, Template, Public, Void, If, Else, While, Do, For, Break, Continue}
use Rattle.secrec_lexer.specs.declared.sign.Sign.TheVariants.{Return, Assert}
use Rattle.secrec_lexer.specs.declared.token.TokenKind.TheVariants.{Name, Number, End}
use Rattle.program_trees.specs.declared.expression.Operator.{Operator}
use Rattle.program_trees.specs.declared.expression.Operator.TheVariants.{Add, Subtract, Multiply, And, Or, Xor}
use Rattle.program_trees.specs.declared.statement.Identifier.{Identifier}
use Rattle.program_trees.specs.declared.statement.Domain.{Domain}
use Rattle.program_trees.specs.declared.statement.Domain.TheVariants as domains
use Rattle.program_trees.specs.declared.statement.DeclaredType.{DeclaredType}
use Rattle.program_trees.specs.declared.function.DomainVariable.{DomainVariable}
use Rattle.program_trees.specs.declared.function.Parameter.{Parameter}
use Rattle.program_trees.specs.declared.function.ResultType.{ResultType}
use Rattle.program_trees.specs.declared.function.ResultType.TheVariants as results
use Rattle.program_trees.specs.Tree.{Tree, number}
use Rattle.program_trees.specs.Statements.{DeclarationTree, TargetTree, AssignmentTree, StartTree, starts_with_nothing, starts_with_declaration}
use Rattle.program_trees.specs.Statements.{starts_with_assignment, StepTree, steps_by_nothing, steps_by_assignment, steps_by_expression, StatementTree}
use Rattle.program_trees.specs.Statements.{StatementTrees, block, empty, branch, choice, while_loop, do_loop, for_loop, breaks, continues, returns}
use Rattle.program_trees.specs.Statements.{assertion, declaration, assignment, evaluation, none, also}
use Rattle.program_trees.specs.Programs.{BlockTree, FunctionTree, ItemTree, imports, kind, domain, defines, ProgramTree}
use Rattle.secrec_parser.specs.Sugar.{updated}
use Rattle.expression_parser.specs.Phrases.{Phrase, nothing, one_at, one, sign_at, sign, ◌then◌}
use Rattle.expression_parser.specs.Grammar.{IsDataType, IsExpression, loosest}

abbrev pub identifier : Identifier → Phrase
identifier x ts = one_at x.place (Name x.text) ts

abbrev pub parenthesised : Tree → Phrase
parenthesised e ts = (sign LeftParenthesis then IsExpression loosest e then sign RightParenthesis) ts

-- a phrase that may be left out
abbrev pub optional : {A : Type 0} → (A → Phrase) → Option A → Phrase
optional P None ts = nothing ts
optional P (Some a) ts = P a ts

-- one after another
abbrev pub AreAll : {A : Type 0} → (A → Phrase) → List A → Phrase
AreAll P [] ts = nothing ts
AreAll P (a ∷ more) ts = (P a then AreAll P more) ts

-- with a comma in front
abbrev pub comma_and : {A : Type 0} → (A → Phrase) → A → Phrase
comma_and P a ts = (sign Comma then P a) ts

-- Types

abbrev pub BeginsAt : Span → Phrase
BeginsAt place [] = ⊥
BeginsAt place (x ∷ more) = x.place ≡ place

-- `public` may be left out
abbrev pub IsDomain : Domain → Phrase
IsDomain domains.Public ts = nothing ts ⊎ sign Public ts
IsDomain (domains.Named x) ts = identifier x ts

abbrev pub dimension : ℕ → Phrase
dimension n ts = (sign LeftBracket then sign LeftBracket then one (Number n) then sign RightBracket then sign RightBracket) ts

-- whether it is an array
abbrev pub IsDimension : Bool → Phrase
IsDimension false ts = nothing ts ⊎ dimension 0 ts
IsDimension true ts = dimension 1 ts

abbrev pub IsType : DeclaredType → Phrase
IsType t ts = BeginsAt t.place ts × (IsDomain t.domain then IsDataType t.element then IsDimension t.array) ts

-- Declarations

abbrev pub initialiser : Tree → Phrase
initialiser e ts = (sign Assign then IsExpression loosest e) ts

abbrev pub IsDeclaration : DeclarationTree → Phrase
IsDeclaration d ts =
    (IsType d.declared then identifier d.variable then optional parenthesised d.size then optional initialiser d.value) ts

-- Assignments

abbrev pub bracketed : Tree → Phrase
bracketed e ts = (sign LeftBracket then IsExpression loosest e then sign RightBracket) ts

abbrev pub IsTarget : TargetTree → Phrase
IsTarget t ts = (identifier t.variable then optional bracketed t.index) ts

-- the signs that join an operator and an assignment
abbrev pub compound : Operator → Phrase
compound Add ts = sign PlusAssign ts
compound Subtract ts = sign MinusAssign ts
compound Multiply ts = sign StarAssign ts
compound And ts = sign AmpersandAssign ts
compound Or ts = sign BarAssign ts
compound Xor ts = sign CaretAssign ts
compound other ts = ⊥

abbrev pub stepping : Operator → Phrase
stepping Add ts = sign Increment ts
stepping Subtract ts = sign Decrement ts
stepping other ts = ⊥

-- What a target gets. `x op= y` is the tree of `x = x op y`, y being the whole right operand; `x++` is that of
-- `x = x + 1` and `x--` that of `x = x - 1`, the 1 at the place of the x.
abbrev pub IsAssigned : TargetTree → Tree → Phrase
IsAssigned t v ts =
    (sign Assign then IsExpression loosest v) ts
    ⊎ (((op : Operator) × (e : Tree) × (v ≡ updated t op e) × (compound op then IsExpression loosest e) ts)
    ⊎ ((op : Operator) × (v ≡ updated t op (number t.variable.place 1)) × stepping op ts))

abbrev pub IsAssignment : AssignmentTree → Phrase
IsAssignment a ts = (IsTarget a.target then IsAssigned a.target a.value) ts

-- Statements

abbrev pub IsStart : StartTree → Phrase
IsStart starts_with_nothing ts = nothing ts
IsStart (starts_with_declaration d) ts = IsDeclaration d ts
IsStart (starts_with_assignment a) ts = IsAssignment a ts

abbrev pub IsStep : StepTree → Phrase
IsStep steps_by_nothing ts = nothing ts
IsStep (steps_by_assignment a) ts = IsAssignment a ts
IsStep (steps_by_expression e) ts = IsExpression loosest e ts

-- the parentheses of a `for`
abbrev pub heading : StartTree → Option Tree → StepTree → Phrase
heading a e b ts =
    (sign LeftParenthesis then IsStart a then sign Semicolon then optional (IsExpression loosest) e then sign Semicolon then IsStep b then sign
    RightParenthesis) ts

-- no `if` at its end waits for an `else`
abbrev pub Closed : StatementTree → Type 0
Closed (branch p e s) = ⊥
Closed (choice p e s t) = Closed t
Closed (while_loop p e s) = Closed s
Closed (for_loop p a e b s) = Closed s
Closed other = Unit {0}

-- The tokens spell the statement, inside a loop or not: `else` belongs to the nearest `if`, and `break` and `continue`
-- stand inside a loop.
abbrev mutual
  pub IsStatement : Bool → StatementTree → Phrase
  IsStatement in_loop (block p ss) ts = (sign_at p LeftBrace then AreStatements in_loop ss then sign RightBrace) ts
  IsStatement in_loop (empty p) ts = sign_at p Semicolon ts
  IsStatement in_loop (branch p e s) ts = (sign_at p If then parenthesised e then IsStatement in_loop s) ts
  IsStatement in_loop (choice p e s t) ts =
      Closed s × (sign_at p If then parenthesised e then IsStatement in_loop s then sign Else then IsStatement in_loop t) ts
  IsStatement in_loop (while_loop p e s) ts = (sign_at p While then parenthesised e then IsStatement true s) ts
  IsStatement in_loop (do_loop p s e) ts =
      (sign_at p Do then IsStatement true s then sign While then parenthesised e then sign Semicolon) ts
  IsStatement in_loop (for_loop p a e b s) ts = (sign_at p For then heading a e b then IsStatement true s) ts
  IsStatement in_loop (breaks p) ts = (in_loop ≡ true) × (sign_at p Break then sign Semicolon) ts
  IsStatement in_loop (continues p) ts = (in_loop ≡ true) × (sign_at p Continue then sign Semicolon) ts
  IsStatement in_loop (returns p e) ts = (sign_at p Return then optional (IsExpression loosest) e then sign Semicolon) ts
  IsStatement in_loop (assertion p e) ts = (sign_at p Assert then parenthesised e then sign Semicolon) ts
  IsStatement in_loop (declaration d) ts = (IsDeclaration d then sign Semicolon) ts
  IsStatement in_loop (assignment a) ts = (IsAssignment a then sign Semicolon) ts
  IsStatement in_loop (evaluation e) ts = (IsExpression loosest e then sign Semicolon) ts

  pub AreStatements : Bool → StatementTrees → Phrase
  AreStatements in_loop none ts = nothing ts
  AreStatements in_loop (also s ss) ts = (IsStatement in_loop s then AreStatements in_loop ss) ts

-- Functions

abbrev pub constraint : Identifier → Phrase
constraint x ts = (sign Colon then identifier x) ts

abbrev pub IsDomainVariable : DomainVariable → Phrase
IsDomainVariable v ts = (sign DomainWord then identifier v.variable then optional constraint v.kind) ts

-- a template has one to four domain variables
abbrev pub IsTemplate : List DomainVariable → Phrase
IsTemplate [] ts = nothing ts
IsTemplate (v ∷ more) ts =
    (length more < 4) × (sign Template then sign Less then IsDomainVariable v then AreAll (comma_and IsDomainVariable) more then sign Greater) ts

abbrev pub IsResult : ResultType → Phrase
IsResult results.Void ts = sign Void ts
IsResult (results.Value t) ts = IsType t ts

abbrev pub IsParameter : Parameter → Phrase
IsParameter p ts = (IsType p.declared then identifier p.variable) ts

abbrev pub AreParameters : List Parameter → Phrase
AreParameters [] ts = nothing ts
AreParameters (p ∷ more) ts = (IsParameter p then AreAll (comma_and IsParameter) more) ts

abbrev pub IsBlock : BlockTree → Phrase
IsBlock b ts = (sign_at b.place LeftBrace then AreStatements false b.statements then sign RightBrace) ts

abbrev pub IsFunction : FunctionTree → Phrase
IsFunction f ts =
    (IsTemplate f.variables then IsResult f.returned then identifier f.function then sign LeftParenthesis then AreParameters f.parameters then sign
    RightParenthesis then IsBlock f.body) ts

-- Programs

abbrev pub IsItem : ItemTree → Phrase
IsItem (imports x) ts = (sign Import then identifier x then sign Semicolon) ts
IsItem (kind x) ts = (sign KindWord then identifier x then sign Semicolon) ts
IsItem (domain x k) ts = (sign DomainWord then identifier x then identifier k then sign Semicolon) ts
IsItem (defines f) ts = IsFunction f ts

-- a program's end is the place of the end of its text, which is a token
abbrev pub IsProgram : ProgramTree → Phrase
IsProgram p ts = (AreAll IsItem p.items then one_at p.end End) ts
