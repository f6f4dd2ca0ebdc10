-- A tree that tokens spell whose numbers are words is well written.
use Rattle.std.proofs.Common.{◌≡◌, ℕ, ◌-◌, List, [], ◌∷◌, inl, inr, sym, subst, Option, Some, None, Bool, true, false, arith}
use Rattle.secrec_lexer.specs.declared.token.TokenKind.TheVariants as kinds
use Rattle.secrec_lexer.specs.declared.token.Token.{Token}
use Rattle.secrec_lexer.specs.declared.sign.Sign.TheVariants as signs
use Rattle.program_trees.specs.Tree.{Tree, Trees, number, truth, variable, call, index, parentheses, negation, cast, binary, declassify, argument, publish}
use Rattle.program_trees.specs.declared.expression.Operator.{Operator}
use Rattle.program_trees.specs.Tree as Tree'
use Rattle.program_trees.specs.Statements.{DeclarationTree, TargetTree, AssignmentTree, StartTree, starts_with_nothing, starts_with_declaration}
use Rattle.program_trees.specs.Statements.{starts_with_assignment, StepTree, steps_by_nothing, steps_by_assignment, steps_by_expression, StatementTree}
use Rattle.program_trees.specs.Statements.{block, empty, branch, choice, while_loop, do_loop, for_loop, breaks, continues, returns, assertion}
use Rattle.program_trees.specs.Statements.{declaration, assignment, evaluation, StatementTrees}
use Rattle.program_trees.specs.Statements as Statements'
use Rattle.program_trees.specs.Programs.{FunctionTree, ItemTree, imports, kind, domain, defines, ProgramTree}
use Rattle.domain_types.specs.Declarations.{functions_of}
use Rattle.expression_parser.specs.Phrases.{Phrase, sign_at, sign, one_at, one, token, ◌then◌}
use Rattle.expression_parser.specs.Grammar.{IsExpression, AreArguments, AreMore, IsDataType, loosest, unary, level, sign_of}
use Rattle.secrec_parser.specs.Sugar.{held_in, updated}
use Rattle.secrec_parser.specs.Grammar.{identifier, parenthesised, optional, AreAll, IsType, initialiser, IsDeclaration, bracketed, IsTarget}
use Rattle.secrec_parser.specs.Grammar.{compound, IsAssigned, IsAssignment, IsStart, IsStep, heading, IsStatement, AreStatements}
use Rattle.secrec_parser.specs.Grammar.{IsTemplate, IsResult, AreParameters, IsBlock, IsFunction, IsItem}
use Rattle.well_typed.specs.Sources.{HasWords, HaveWords, HasWordsIf, DeclaresWords, AssignsWords, StartsWithWords, StepsByWords, MayStand}
use Rattle.well_typed.specs.Sources.{MayStandAll, AreWellWritten}
use Rattle.well_written.specs.Laws.{IsWellWrittenWhereSpelled}
use Rattle.well_written.proofs.Words.{AreWords, words_parts, words_lexed}

-- PHRASES

-- what tokens spell whose numbers are words
pub record Spelled (P : Phrase) : Type 0 where
  pub tokens : List Token
  pub phrase : P tokens
  pub words : AreWords tokens

abbrev spelled : (P : Phrase) (ts : List Token) → P ts → AreWords ts → Spelled P
spelled P ts h w = record { tokens = ts; phrase = h; words = w }

-- the two parts of a phrase
parts : (P Q : Phrase) (ts : List Token) → (P then Q) ts → AreWords ts → Spelled P × Spelled Q
parts P Q ts h w =
    let r = words_parts h.0 h.1 (subst AreWords h.2 w) in
    (spelled P h.0 h.3 r.0, spelled Q h.1 h.4 r.1)

-- EXPRESSIONS

mutual
  words_in : (k : ℕ) (e : Tree) (ts : List Token) → IsExpression k e ts → AreWords ts → HasWords e
  words_in k (number p n) ts h w = (subst AreWords h w).0
  words_in k (truth p b) ts h w = tt
  words_in k (variable p x) ts h w = tt
  words_in k (call p x es) ts h w =
      let a = (parts (one_at p (kinds.Name x)) (sign signs.LeftParenthesis then AreArguments es then sign signs.RightParenthesis) ts h w).1 in
      let b = (parts (sign signs.LeftParenthesis) (AreArguments es then sign signs.RightParenthesis) a.tokens a.phrase a.words).1 in
      let c = (parts (AreArguments es) (sign signs.RightParenthesis) b.tokens b.phrase b.words).0 in
      words_in_arguments es c.tokens c.phrase c.words
  words_in k (index p a i) ts h w =
      let x = parts (IsExpression unary a) (sign signs.LeftBracket then IsExpression loosest i then sign signs.RightBracket) ts h.2 w in
      let y = (parts (sign signs.LeftBracket) (IsExpression loosest i then sign signs.RightBracket) x.1.tokens x.1.phrase x.1.words).1 in
      let z = (parts (IsExpression loosest i) (sign signs.RightBracket) y.tokens y.phrase y.words).0 in
      (words_in unary a x.0.tokens x.0.phrase x.0.words, words_in loosest i z.tokens z.phrase z.words)
  words_in k (parentheses p e) ts h w =
      let a = (parts (sign_at p signs.LeftParenthesis) (IsExpression loosest e then sign signs.RightParenthesis) ts h w).1 in
      let b = (parts (IsExpression loosest e) (sign signs.RightParenthesis) a.tokens a.phrase a.words).0 in
      words_in loosest e b.tokens b.phrase b.words
  words_in k (negation p e) ts h w =
      let a = (parts (sign_at p signs.Exclamation) (IsExpression unary e) ts h w).1 in
      words_in unary e a.tokens a.phrase a.words
  words_in k (cast p t e) ts h w =
      let a = (parts (sign_at p signs.LeftParenthesis) (IsDataType t then sign signs.RightParenthesis then IsExpression unary e) ts h w).1 in
      let b = (parts (IsDataType t) (sign signs.RightParenthesis then IsExpression unary e) a.tokens a.phrase a.words).1 in
      let c = (parts (sign signs.RightParenthesis) (IsExpression unary e) b.tokens b.phrase b.words).1 in
      words_in unary e c.tokens c.phrase c.words
  words_in k (binary p op a b) ts h w =
      let x = parts (IsExpression (level op) a) (sign (sign_of op) then IsExpression (level op - 1) b) ts h.2 w in
      let y = (parts (sign (sign_of op)) (IsExpression (level op - 1) b) x.1.tokens x.1.phrase x.1.words).1 in
      (words_in (level op) a x.0.tokens x.0.phrase x.0.words, words_in (level op - 1) b y.tokens y.phrase y.words)
  words_in k (declassify p e) ts h w =
      let a = (parts (sign_at p signs.Declassify) (sign signs.LeftParenthesis then IsExpression loosest e then sign signs.RightParenthesis) ts h w).1 in
      let b = (parts (sign signs.LeftParenthesis) (IsExpression loosest e then sign signs.RightParenthesis) a.tokens a.phrase a.words).1 in
      let c = (parts (IsExpression loosest e) (sign signs.RightParenthesis) b.tokens b.phrase b.words).0 in
      words_in loosest e c.tokens c.phrase c.words
  words_in k (argument p x) ts h w = tt
  words_in k (publish p x e) ts h w =
      let a = (parts (sign_at p signs.Publish)
      (sign signs.LeftParenthesis then one (kinds.Text x) then sign signs.Comma then IsExpression loosest e then sign signs.RightParenthesis)
      ts h w).1 in
      let b = (parts (sign signs.LeftParenthesis)
      (one (kinds.Text x) then sign signs.Comma then IsExpression loosest e then sign signs.RightParenthesis) a.tokens a.phrase a.words).1 in
      let c = (parts (one (kinds.Text x)) (sign signs.Comma then IsExpression loosest e then sign signs.RightParenthesis) b.tokens b.phrase b.words).1 in
      let d = (parts (sign signs.Comma) (IsExpression loosest e then sign signs.RightParenthesis) c.tokens c.phrase c.words).1 in
      let f = (parts (IsExpression loosest e) (sign signs.RightParenthesis) d.tokens d.phrase d.words).0 in
      words_in loosest e f.tokens f.phrase f.words

  words_in_arguments : (es : Trees) (ts : List Token) → AreArguments es ts → AreWords ts → HaveWords es
  words_in_arguments Tree'.none ts h w = tt
  words_in_arguments (Tree'.also e es) ts h w =
      let a = parts (IsExpression loosest e) (AreMore es) ts h w in
      (words_in loosest e a.0.tokens a.0.phrase a.0.words, words_in_more es a.1.tokens a.1.phrase a.1.words)

  words_in_more : (es : Trees) (ts : List Token) → AreMore es ts → AreWords ts → HaveWords es
  words_in_more Tree'.none ts h w = tt
  words_in_more (Tree'.also e es) ts h w =
      let a = (parts (sign signs.Comma) (IsExpression loosest e then AreMore es) ts h w).1 in
      let b = parts (IsExpression loosest e) (AreMore es) a.tokens a.phrase a.words in
      (words_in loosest e b.0.tokens b.0.phrase b.0.words, words_in_more es b.1.tokens b.1.phrase b.1.words)

in_parentheses : (e : Tree) (ts : List Token) → parenthesised e ts → AreWords ts → HasWords e
in_parentheses e ts h w =
    let a = (parts (sign signs.LeftParenthesis) (IsExpression loosest e then sign signs.RightParenthesis) ts h w).1 in
    let b = (parts (IsExpression loosest e) (sign signs.RightParenthesis) a.tokens a.phrase a.words).0 in
    words_in loosest e b.tokens b.phrase b.words

-- a phrase around an expression that may be left out
in_optional : (P : Tree → Phrase) → ((e : Tree) (ts : List Token) → P e ts → AreWords ts → HasWords e) → (e : Option Tree) (ts : List Token)
    → optional P e ts → AreWords ts → HasWordsIf e
in_optional P f None ts h w = tt
in_optional P f (Some e) ts h w = f e ts h w

in_initialiser : (e : Tree) (ts : List Token) → initialiser e ts → AreWords ts → HasWords e
in_initialiser e ts h w = let a = (parts (sign signs.Assign) (IsExpression loosest e) ts h w).1 in words_in loosest e a.tokens a.phrase a.words

in_brackets : (e : Tree) (ts : List Token) → bracketed e ts → AreWords ts → HasWords e
in_brackets e ts h w =
    let a = (parts (sign signs.LeftBracket) (IsExpression loosest e then sign signs.RightBracket) ts h w).1 in
    let b = (parts (IsExpression loosest e) (sign signs.RightBracket) a.tokens a.phrase a.words).0 in
    words_in loosest e b.tokens b.phrase b.words

-- THE PARTS OF STATEMENTS

in_declaration : (d : DeclarationTree) (ts : List Token) → IsDeclaration d ts → AreWords ts → DeclaresWords d
in_declaration d ts h w =
    let a = (parts (IsType d.declared) (identifier d.variable then optional parenthesised d.size then optional initialiser d.value) ts h w).1 in
    let b = (parts (identifier d.variable) (optional parenthesised d.size then optional initialiser d.value) a.tokens a.phrase a.words).1 in
    let c = parts (optional parenthesised d.size) (optional initialiser d.value) b.tokens b.phrase b.words in (
      in_optional parenthesised in_parentheses d.size c.0.tokens c.0.phrase c.0.words,
      in_optional initialiser in_initialiser d.value c.1.tokens c.1.phrase c.1.words,
    )

in_held : (t : TargetTree) (i : Option Tree) → HasWordsIf i → HasWords (held_in t.variable i)
in_held t None w = tt
in_held t (Some i) w = (tt, w)

in_updated : (t : TargetTree) (v e : Tree) → HasWordsIf t.index → HasWords e → (op : Operator) → v ≡ updated t op e → HasWords v
in_updated t v e i w op q = subst HasWords (sym q) (in_held t t.index i, w)

in_assigned : (t : TargetTree) (v : Tree) (ts : List Token) → HasWordsIf t.index → IsAssigned t v ts → AreWords ts → HasWords v
in_assigned t v ts i (inl h) w = let a = (parts (sign signs.Assign) (IsExpression loosest v) ts h w).1 in words_in loosest v a.tokens a.phrase a.words
in_assigned t v ts i (inr (inl h)) w =
    let a = (parts (compound h.0) (IsExpression loosest h.1) ts h.3 w).1 in
    in_updated t v h.1 i (words_in loosest h.1 a.tokens a.phrase a.words) h.0 h.2
in_assigned t v ts i (inr (inr h)) w = in_updated t v (number t.variable.place 1) i (omega arith) h.0 h.1

in_assignment : (a : AssignmentTree) (ts : List Token) → IsAssignment a ts → AreWords ts → AssignsWords a
in_assignment a ts h w =
    let x = parts (IsTarget a.target) (IsAssigned a.target a.value) ts h w in
    let y = (parts (identifier a.target.variable) (optional bracketed a.target.index) x.0.tokens x.0.phrase x.0.words).1 in
    let i = in_optional bracketed in_brackets a.target.index y.tokens y.phrase y.words in
    (i, in_assigned a.target a.value x.1.tokens i x.1.phrase x.1.words)

in_start : (t : StartTree) (ts : List Token) → IsStart t ts → AreWords ts → StartsWithWords t
in_start starts_with_nothing ts h w = tt
in_start (starts_with_declaration d) ts h w = in_declaration d ts h w
in_start (starts_with_assignment a) ts h w = in_assignment a ts h w

in_step : (t : StepTree) (ts : List Token) → IsStep t ts → AreWords ts → StepsByWords t
in_step steps_by_nothing ts h w = tt
in_step (steps_by_assignment a) ts h w = in_assignment a ts h w
in_step (steps_by_expression e) ts h w = words_in loosest e ts h w

in_heading : (a : StartTree) (e : Option Tree) (b : StepTree) (ts : List Token) → heading a e b ts → AreWords ts
    → StartsWithWords a × HasWordsIf e × StepsByWords b
in_heading a e b ts h w =
    let one = (parts (sign signs.LeftParenthesis)
    (IsStart a then sign signs.Semicolon then optional (IsExpression loosest) e then sign signs.Semicolon then IsStep b then sign
    signs.RightParenthesis) ts h w).1 in
    let two = parts (IsStart a) (sign signs.Semicolon then optional (IsExpression loosest) e then sign signs.Semicolon then IsStep b then sign
    signs.RightParenthesis) one.tokens one.phrase one.words in
    let three = (parts (sign signs.Semicolon)
    (optional (IsExpression loosest) e then sign signs.Semicolon then IsStep b then sign signs.RightParenthesis) two.1.tokens two.1.phrase
    two.1.words).1 in
    let four = parts (optional (IsExpression loosest) e) (sign signs.Semicolon then IsStep b then sign signs.RightParenthesis) three.tokens
    three.phrase three.words in
    let five = (parts (sign signs.Semicolon) (IsStep b then sign signs.RightParenthesis) four.1.tokens four.1.phrase four.1.words).1 in
    let six = (parts (IsStep b) (sign signs.RightParenthesis) five.tokens five.phrase five.words).0 in (
      in_start a two.0.tokens two.0.phrase two.0.words,
      in_optional (IsExpression loosest) (words_in loosest) e four.0.tokens four.0.phrase four.0.words,
      in_step b six.tokens six.phrase six.words,
    )

-- STATEMENTS

mutual
  stands : (inside : Bool) (t : StatementTree) (ts : List Token) → IsStatement inside t ts → AreWords ts → MayStand inside t
  stands inside (block p ss) ts h w =
      let a = (parts (sign_at p signs.LeftBrace) (AreStatements inside ss then sign signs.RightBrace) ts h w).1 in
      let b = (parts (AreStatements inside ss) (sign signs.RightBrace) a.tokens a.phrase a.words).0 in
      all_stand inside ss b.tokens b.phrase b.words
  stands inside (empty p) ts h w = tt
  stands inside (branch p e s) ts h w =
      let a = (parts (sign_at p signs.If) (parenthesised e then IsStatement inside s) ts h w).1 in
      let b = parts (parenthesised e) (IsStatement inside s) a.tokens a.phrase a.words in
      (in_parentheses e b.0.tokens b.0.phrase b.0.words, stands inside s b.1.tokens b.1.phrase b.1.words)
  stands inside (choice p e s t) ts h w =
      let a = (parts (sign_at p signs.If) (parenthesised e then IsStatement inside s then sign signs.Else then IsStatement inside t) ts h.1 w).1 in
      let b = parts (parenthesised e) (IsStatement inside s then sign signs.Else then IsStatement inside t) a.tokens a.phrase a.words in
      let c = parts (IsStatement inside s) (sign signs.Else then IsStatement inside t) b.1.tokens b.1.phrase b.1.words in
      let d = (parts (sign signs.Else) (IsStatement inside t) c.1.tokens c.1.phrase c.1.words).1 in
      (in_parentheses e b.0.tokens b.0.phrase b.0.words, stands inside s c.0.tokens c.0.phrase c.0.words, stands inside t d.tokens d.phrase d.words)
  stands inside (while_loop p e s) ts h w =
      let a = (parts (sign_at p signs.While) (parenthesised e then IsStatement true s) ts h w).1 in
      let b = parts (parenthesised e) (IsStatement true s) a.tokens a.phrase a.words in
      (in_parentheses e b.0.tokens b.0.phrase b.0.words, stands true s b.1.tokens b.1.phrase b.1.words)
  stands inside (do_loop p s e) ts h w =
      let a = (parts (sign_at p signs.Do) (IsStatement true s then sign signs.While then parenthesised e then sign signs.Semicolon) ts h w).1 in
      let b = parts (IsStatement true s) (sign signs.While then parenthesised e then sign signs.Semicolon) a.tokens a.phrase a.words in
      let c = (parts (sign signs.While) (parenthesised e then sign signs.Semicolon) b.1.tokens b.1.phrase b.1.words).1 in
      let d = (parts (parenthesised e) (sign signs.Semicolon) c.tokens c.phrase c.words).0 in
      (stands true s b.0.tokens b.0.phrase b.0.words, in_parentheses e d.tokens d.phrase d.words)
  stands inside (for_loop p a e b s) ts h w =
      let x = (parts (sign_at p signs.For) (heading a e b then IsStatement true s) ts h w).1 in
      let y = parts (heading a e b) (IsStatement true s) x.tokens x.phrase x.words in
      let z = in_heading a e b y.0.tokens y.0.phrase y.0.words in
      (z.0, z.1, z.2, stands true s y.1.tokens y.1.phrase y.1.words)
  stands inside (breaks p) ts h w = h.0
  stands inside (continues p) ts h w = h.0
  stands inside (returns p e) ts h w =
      let a = (parts (sign_at p signs.Return) (optional (IsExpression loosest) e then sign signs.Semicolon) ts h w).1 in
      let b = (parts (optional (IsExpression loosest) e) (sign signs.Semicolon) a.tokens a.phrase a.words).0 in
      in_optional (IsExpression loosest) (words_in loosest) e b.tokens b.phrase b.words
  stands inside (assertion p e) ts h w =
      let a = (parts (sign_at p signs.Assert) (parenthesised e then sign signs.Semicolon) ts h w).1 in
      let b = (parts (parenthesised e) (sign signs.Semicolon) a.tokens a.phrase a.words).0 in
      in_parentheses e b.tokens b.phrase b.words
  stands inside (declaration d) ts h w =
      let a = (parts (IsDeclaration d) (sign signs.Semicolon) ts h w).0 in
      in_declaration d a.tokens a.phrase a.words
  stands inside (assignment t) ts h w =
      let a = (parts (IsAssignment t) (sign signs.Semicolon) ts h w).0 in
      in_assignment t a.tokens a.phrase a.words
  stands inside (evaluation e) ts h w =
      let a = (parts (IsExpression loosest e) (sign signs.Semicolon) ts h w).0 in
      words_in loosest e a.tokens a.phrase a.words

  all_stand : (inside : Bool) (ss : StatementTrees) (ts : List Token) → AreStatements inside ss ts → AreWords ts → MayStandAll inside ss
  all_stand inside Statements'.none ts h w = tt
  all_stand inside (Statements'.also s ss) ts h w =
      let a = parts (IsStatement inside s) (AreStatements inside ss) ts h w in
      (stands inside s a.0.tokens a.0.phrase a.0.words, all_stand inside ss a.1.tokens a.1.phrase a.1.words)

-- PROGRAMS

function_stands : (f : FunctionTree) (ts : List Token) → IsFunction f ts → AreWords ts → MayStandAll false f.body.statements
function_stands f ts h w =
    let a = (parts (IsTemplate f.variables)
    (IsResult f.returned then identifier f.function then sign signs.LeftParenthesis then AreParameters f.parameters then sign
    signs.RightParenthesis then IsBlock f.body) ts h w).1 in
    let b = (parts (IsResult f.returned)
    (identifier f.function then sign signs.LeftParenthesis then AreParameters f.parameters then sign signs.RightParenthesis then IsBlock
    f.body) a.tokens a.phrase a.words).1 in
    let c = (parts (identifier f.function)
    (sign signs.LeftParenthesis then AreParameters f.parameters then sign signs.RightParenthesis then IsBlock f.body) b.tokens b.phrase b.words).1 in
    let d = (parts (sign signs.LeftParenthesis) (AreParameters f.parameters then sign signs.RightParenthesis then IsBlock f.body) c.tokens c.phrase
    c.words).1 in
    let e = (parts (AreParameters f.parameters) (sign signs.RightParenthesis then IsBlock f.body) d.tokens d.phrase d.words).1 in
    let g = (parts (sign signs.RightParenthesis) (IsBlock f.body) e.tokens e.phrase e.words).1 in
    let i = (parts (sign_at f.body.place signs.LeftBrace) (AreStatements false f.body.statements then sign signs.RightBrace) g.tokens g.phrase g.words).1 in
    let j = (parts (AreStatements false f.body.statements) (sign signs.RightBrace) i.tokens i.phrase i.words).0 in
    all_stand false f.body.statements j.tokens j.phrase j.words

items_stand : (items : List ItemTree) (ts : List Token) → AreAll IsItem items ts → AreWords ts → AreWellWritten (functions_of items)
items_stand [] ts h w = tt
items_stand (imports x ∷ items) ts h w = let a = (parts (IsItem (imports x)) (AreAll IsItem items) ts h w).1 in items_stand items a.tokens a.phrase a.words
items_stand (kind x ∷ items) ts h w = let a = (parts (IsItem (kind x)) (AreAll IsItem items) ts h w).1 in items_stand items a.tokens a.phrase a.words
items_stand (domain x k ∷ items) ts h w = let a = (parts (IsItem (domain x k)) (AreAll IsItem items) ts h w).1 in items_stand items a.tokens a.phrase a.words
items_stand (defines f ∷ items) ts h w =
    let a = parts (IsItem (defines f)) (AreAll IsItem items) ts h w in
    (function_stands f a.0.tokens a.0.phrase a.0.words, items_stand items a.1.tokens a.1.phrase a.1.words)

pub well_written : (bytes : List ℕ) (tree : ProgramTree) → IsWellWrittenWhereSpelled bytes tree
well_written bytes tree tokens lexed spelt =
    let w = words_lexed bytes 0 tokens lexed.1 in
    let a = (parts (AreAll IsItem tree.items) (one_at tree.end kinds.End) tokens spelt w).0 in
    items_stand tree.items a.tokens a.phrase a.words
