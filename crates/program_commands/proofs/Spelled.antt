-- The tree that the tokens of a text spell has lines of 32 bits, and names of inputs and results.
use Rattle.std.proofs.Common.{◌≡◌, ℕ, ◌-◌, List, [], ◌∷◌, inl, inr, sym, subst, Option, Some, None, Bool, true, false}
use Rattle.sc_text.specs.declared.span.Span.{Span}
use Rattle.sc_text.specs.Name.{IsName}
use Rattle.secrec_lexer.specs.declared.token.TokenKind.{TokenKind}
use Rattle.secrec_lexer.specs.declared.token.TokenKind.TheVariants as kinds
use Rattle.secrec_lexer.specs.declared.token.Token.{Token}
use Rattle.secrec_lexer.specs.declared.sign.Sign.TheVariants as signs
use Rattle.program_trees.specs.Tree.{Tree, Trees, number, truth, variable, call, index, parentheses, negation, cast, binary, declassify, argument, publish}
use Rattle.program_trees.specs.declared.expression.Operator.{Operator}
use Rattle.program_trees.specs.declared.statement.Identifier.{Identifier}
use Rattle.program_trees.specs.Heights.{place_of}
use Rattle.program_trees.specs.Tree as Tree'
use Rattle.program_trees.specs.Statements.{DeclarationTree, TargetTree, AssignmentTree, StartTree, starts_with_nothing, starts_with_declaration}
use Rattle.program_trees.specs.Statements.{starts_with_assignment, StepTree, steps_by_nothing, steps_by_assignment, steps_by_expression, StatementTree}
use Rattle.program_trees.specs.Statements.{block, empty}
use Rattle.program_trees.specs.Statements.{branch, choice, while_loop, do_loop, for_loop, breaks, continues, returns, assertion, declaration, assignment}
use Rattle.program_trees.specs.Statements.{evaluation, StatementTrees}
use Rattle.program_trees.specs.Statements as Statements'
use Rattle.program_trees.specs.Programs.{FunctionTree, ItemTree, imports, kind, domain, defines, ProgramTree}
use Rattle.domain_types.specs.Declarations.{functions_of}
use Rattle.expression_parser.specs.Phrases.{Phrase, sign_at, sign, one_at, one, ◌then◌}
use Rattle.expression_parser.specs.Grammar.{IsExpression, AreArguments, AreMore, IsDataType, loosest, unary, level, sign_of}
use Rattle.secrec_parser.specs.Sugar.{held_in, updated}
use Rattle.secrec_parser.specs.Grammar.{identifier, parenthesised, optional, AreAll, BeginsAt, IsType, initialiser, IsDeclaration, bracketed}
use Rattle.secrec_parser.specs.Grammar.{IsTarget, compound, IsAssigned, IsAssignment, IsStart, IsStep, heading, IsStatement, AreStatements, IsTemplate}
use Rattle.secrec_parser.specs.Grammar.{IsResult, AreParameters, IsBlock, IsFunction, IsItem}
use Rattle.program_run.specs.WrittenSources.{IsPlace, IsPlaced, ArePlaced, IsPlacedIf, DeclaresPlaced, AssignsPlaced, StartsPlaced, StepsPlaced, StandsPlaced}
use Rattle.program_run.specs.WrittenSources.{StandPlaced, AreAllPlaced}
use Rattle.program_commands.specs.PlacedText.{IsPlacedWhereSpelled}
use Rattle.program_commands.proofs.Lexed.{AreSaid, said_parts, said_lexed}

-- PHRASES

pub record Spelled (P : Phrase) : Type 0 where
  pub tokens : List Token
  pub phrase : P tokens
  pub said : AreSaid tokens

abbrev spelled : (P : Phrase) (ts : List Token) → P ts → AreSaid ts → Spelled P
spelled P ts h w = record { tokens = ts; phrase = h; said = w }

-- the two parts of a phrase
parts : (P Q : Phrase) (ts : List Token) → (P then Q) ts → AreSaid ts → Spelled P × Spelled Q
parts P Q ts h w =
    let r = said_parts h.0 h.1 (subst AreSaid h.2 w) in
    (spelled P h.0 h.3 r.0, spelled Q h.1 h.4 r.1)

first_of : (P Q : Phrase) (ts : List Token) → (P then Q) ts → AreSaid ts → Spelled P
first_of P Q ts h w = (parts P Q ts h w).0

rest_of : (P Q : Phrase) (ts : List Token) → (P then Q) ts → AreSaid ts → Spelled Q
rest_of P Q ts h w = (parts P Q ts h w).1

placed_at : (p : Span) (k : TokenKind) (ts : List Token) → one_at p k ts → AreSaid ts → IsPlace p
placed_at p k ts h w = (subst AreSaid h w).0.0

name_in : (x : List ℕ) (ts : List Token) → one (kinds.Text x) ts → AreSaid ts → IsName x
name_in x ts h w = (subst AreSaid h.1 w).0.1

-- the place of the token with which a phrase begins
begins_at : (p : Span) (k : TokenKind) (Q : Phrase) (ts : List Token) → (one_at p k then Q) ts → AreSaid ts → IsPlace p
begins_at p k Q ts h w = let a = first_of (one_at p k) Q ts h w in placed_at p k a.tokens a.phrase a.said

-- EXPRESSIONS

place_placed : (e : Tree) → IsPlaced e → IsPlace (place_of e)
place_placed (number p n) h = h
place_placed (truth p b) h = h
place_placed (variable p x) h = h
place_placed (call p x es) h = h.0
place_placed (index p a i) h = h.0
place_placed (parentheses p e) h = h.0
place_placed (negation p e) h = h.0
place_placed (cast p t e) h = h.0
place_placed (binary p op a b) h = h.0
place_placed (declassify p e) h = h.0
place_placed (argument p x) h = h.0
place_placed (publish p x e) h = h.0

mutual
  placed_in : (k : ℕ) (e : Tree) (ts : List Token) → IsExpression k e ts → AreSaid ts → IsPlaced e
  placed_in k (number p n) ts h w = placed_at p (kinds.Number n) ts h w
  placed_in k (truth p true) ts h w = placed_at p (kinds.Sign signs.True) ts h w
  placed_in k (truth p false) ts h w = placed_at p (kinds.Sign signs.False) ts h w
  placed_in k (variable p x) ts h w = placed_at p (kinds.Name x) ts h w
  placed_in k (call p x es) ts h w =
      let q = sign signs.LeftParenthesis then AreArguments es then sign signs.RightParenthesis in
      let a = rest_of (one_at p (kinds.Name x)) q ts h w in
      let b = rest_of (sign signs.LeftParenthesis) (AreArguments es then sign signs.RightParenthesis) a.tokens a.phrase a.said in
      let c = first_of (AreArguments es) (sign signs.RightParenthesis) b.tokens b.phrase b.said in
      (begins_at p (kinds.Name x) q ts h w, placed_in_arguments es c.tokens c.phrase c.said)
  placed_in k (index p a i) ts h w =
      let x = parts (IsExpression unary a) (sign signs.LeftBracket then IsExpression loosest i then sign signs.RightBracket) ts h.2 w in
      let y = rest_of (sign signs.LeftBracket) (IsExpression loosest i then sign signs.RightBracket) x.1.tokens x.1.phrase x.1.said in
      let z = first_of (IsExpression loosest i) (sign signs.RightBracket) y.tokens y.phrase y.said in
      let first = placed_in unary a x.0.tokens x.0.phrase x.0.said in
      (subst IsPlace (sym h.1) (place_placed a first), first, placed_in loosest i z.tokens z.phrase z.said)
  placed_in k (parentheses p e) ts h w =
      let q = IsExpression loosest e then sign signs.RightParenthesis in
      let a = rest_of (sign_at p signs.LeftParenthesis) q ts h w in
      let b = first_of (IsExpression loosest e) (sign signs.RightParenthesis) a.tokens a.phrase a.said in
      (begins_at p (kinds.Sign signs.LeftParenthesis) q ts h w, placed_in loosest e b.tokens b.phrase b.said)
  placed_in k (negation p e) ts h w =
      let a = rest_of (sign_at p signs.Exclamation) (IsExpression unary e) ts h w in
      (begins_at p (kinds.Sign signs.Exclamation) (IsExpression unary e) ts h w, placed_in unary e a.tokens a.phrase a.said)
  placed_in k (cast p t e) ts h w =
      let q = IsDataType t then sign signs.RightParenthesis then IsExpression unary e in
      let a = rest_of (sign_at p signs.LeftParenthesis) q ts h w in
      let b = rest_of (IsDataType t) (sign signs.RightParenthesis then IsExpression unary e) a.tokens a.phrase a.said in
      let c = rest_of (sign signs.RightParenthesis) (IsExpression unary e) b.tokens b.phrase b.said in
      (begins_at p (kinds.Sign signs.LeftParenthesis) q ts h w, placed_in unary e c.tokens c.phrase c.said)
  placed_in k (binary p op a b) ts h w =
      let x = parts (IsExpression (level op) a) (sign (sign_of op) then IsExpression (level op - 1) b) ts h.2 w in
      let y = rest_of (sign (sign_of op)) (IsExpression (level op - 1) b) x.1.tokens x.1.phrase x.1.said in
      let first = placed_in (level op) a x.0.tokens x.0.phrase x.0.said in
      (subst IsPlace (sym h.1) (place_placed a first), first, placed_in (level op - 1) b y.tokens y.phrase y.said)
  placed_in k (declassify p e) ts h w =
      let q = sign signs.LeftParenthesis then IsExpression loosest e then sign signs.RightParenthesis in
      let a = rest_of (sign_at p signs.Declassify) q ts h w in
      let b = rest_of (sign signs.LeftParenthesis) (IsExpression loosest e then sign signs.RightParenthesis) a.tokens a.phrase a.said in
      let c = first_of (IsExpression loosest e) (sign signs.RightParenthesis) b.tokens b.phrase b.said in
      (begins_at p (kinds.Sign signs.Declassify) q ts h w, placed_in loosest e c.tokens c.phrase c.said)
  placed_in k (argument p x) ts h w =
      let q = sign signs.LeftParenthesis then one (kinds.Text x) then sign signs.RightParenthesis in
      let a = rest_of (sign_at p signs.Argument) q ts h w in
      let b = rest_of (sign signs.LeftParenthesis) (one (kinds.Text x) then sign signs.RightParenthesis) a.tokens a.phrase a.said in
      let c = first_of (one (kinds.Text x)) (sign signs.RightParenthesis) b.tokens b.phrase b.said in
      (begins_at p (kinds.Sign signs.Argument) q ts h w, name_in x c.tokens c.phrase c.said)
  placed_in k (publish p x e) ts h w =
      let q = sign signs.LeftParenthesis then one (kinds.Text x) then sign signs.Comma then IsExpression loosest e then sign signs.RightParenthesis in
      let r = one (kinds.Text x) then sign signs.Comma then IsExpression loosest e then sign signs.RightParenthesis in
      let s = sign signs.Comma then IsExpression loosest e then sign signs.RightParenthesis in
      let a = rest_of (sign_at p signs.Publish) q ts h w in
      let b = rest_of (sign signs.LeftParenthesis) r a.tokens a.phrase a.said in
      let t = first_of (one (kinds.Text x)) s b.tokens b.phrase b.said in
      let c = rest_of (one (kinds.Text x)) s b.tokens b.phrase b.said in
      let d = rest_of (sign signs.Comma) (IsExpression loosest e then sign signs.RightParenthesis) c.tokens c.phrase c.said in
      let f = first_of (IsExpression loosest e) (sign signs.RightParenthesis) d.tokens d.phrase d.said in
      (begins_at p (kinds.Sign signs.Publish) q ts h w, name_in x t.tokens t.phrase t.said, placed_in loosest e f.tokens f.phrase f.said)

  placed_in_arguments : (es : Trees) (ts : List Token) → AreArguments es ts → AreSaid ts → ArePlaced es
  placed_in_arguments Tree'.none ts h w = tt
  placed_in_arguments (Tree'.also e es) ts h w =
      let a = parts (IsExpression loosest e) (AreMore es) ts h w in
      (placed_in loosest e a.0.tokens a.0.phrase a.0.said, placed_in_more es a.1.tokens a.1.phrase a.1.said)

  placed_in_more : (es : Trees) (ts : List Token) → AreMore es ts → AreSaid ts → ArePlaced es
  placed_in_more Tree'.none ts h w = tt
  placed_in_more (Tree'.also e es) ts h w =
      let a = rest_of (sign signs.Comma) (IsExpression loosest e then AreMore es) ts h w in
      let b = parts (IsExpression loosest e) (AreMore es) a.tokens a.phrase a.said in
      (placed_in loosest e b.0.tokens b.0.phrase b.0.said, placed_in_more es b.1.tokens b.1.phrase b.1.said)

in_parentheses : (e : Tree) (ts : List Token) → parenthesised e ts → AreSaid ts → IsPlaced e
in_parentheses e ts h w =
    let a = rest_of (sign signs.LeftParenthesis) (IsExpression loosest e then sign signs.RightParenthesis) ts h w in
    let b = first_of (IsExpression loosest e) (sign signs.RightParenthesis) a.tokens a.phrase a.said in
    placed_in loosest e b.tokens b.phrase b.said

-- a phrase around an expression that may be left out
in_optional : (P : Tree → Phrase) → ((e : Tree) (ts : List Token) → P e ts → AreSaid ts → IsPlaced e) → (e : Option Tree) (ts : List Token)
    → optional P e ts → AreSaid ts → IsPlacedIf e
in_optional P f None ts h w = tt
in_optional P f (Some e) ts h w = f e ts h w

in_initialiser : (e : Tree) (ts : List Token) → initialiser e ts → AreSaid ts → IsPlaced e
in_initialiser e ts h w = let a = rest_of (sign signs.Assign) (IsExpression loosest e) ts h w in placed_in loosest e a.tokens a.phrase a.said

in_brackets : (e : Tree) (ts : List Token) → bracketed e ts → AreSaid ts → IsPlaced e
in_brackets e ts h w =
    let a = rest_of (sign signs.LeftBracket) (IsExpression loosest e then sign signs.RightBracket) ts h w in
    let b = first_of (IsExpression loosest e) (sign signs.RightBracket) a.tokens a.phrase a.said in
    placed_in loosest e b.tokens b.phrase b.said

-- THE PARTS OF STATEMENTS

first_token : (p : Span) (ts : List Token) → BeginsAt p ts → AreSaid ts → IsPlace p
first_token p [] h w = absurd h
first_token p (t ∷ ts) h w = subst IsPlace h w.0.0

in_declaration : (d : DeclarationTree) (ts : List Token) → IsDeclaration d ts → AreSaid ts → DeclaresPlaced d
in_declaration d ts h w =
    let q = identifier d.variable then optional parenthesised d.size then optional initialiser d.value in
    let t = first_of (IsType d.declared) q ts h w in
    let a = rest_of (IsType d.declared) q ts h w in
    let b = rest_of (identifier d.variable) (optional parenthesised d.size then optional initialiser d.value) a.tokens a.phrase a.said in
    let c = parts (optional parenthesised d.size) (optional initialiser d.value) b.tokens b.phrase b.said in (
      first_token d.declared.place t.tokens t.phrase.0 t.said,
      in_optional parenthesised in_parentheses d.size c.0.tokens c.0.phrase c.0.said,
      in_optional initialiser in_initialiser d.value c.1.tokens c.1.phrase c.1.said,
    )

in_held : (x : Identifier) (i : Option Tree) → IsPlace x.place → IsPlacedIf i → IsPlaced (held_in x i)
in_held x None p w = p
in_held x (Some i) p w = (p, p, w)

in_updated : (t : TargetTree) (v e : Tree) → IsPlace t.variable.place → IsPlacedIf t.index → IsPlaced e → (op : Operator) → v ≡ updated t op e → IsPlaced v
in_updated t v e p i w op q = subst IsPlaced (sym q) (p, in_held t.variable t.index p i, w)

in_assigned : (t : TargetTree) (v : Tree) (ts : List Token) → IsPlace t.variable.place → IsPlacedIf t.index → IsAssigned t v ts → AreSaid ts → IsPlaced v
in_assigned t v ts p i (inl h) w = let a = rest_of (sign signs.Assign) (IsExpression loosest v) ts h w in placed_in loosest v a.tokens a.phrase a.said
in_assigned t v ts p i (inr (inl h)) w =
    let a = rest_of (compound h.0) (IsExpression loosest h.1) ts h.3 w in
    in_updated t v h.1 p i (placed_in loosest h.1 a.tokens a.phrase a.said) h.0 h.2
in_assigned t v ts p i (inr (inr h)) w = in_updated t v (number t.variable.place 1) p i p h.0 h.1

in_assignment : (a : AssignmentTree) (ts : List Token) → IsAssignment a ts → AreSaid ts → AssignsPlaced a
in_assignment a ts h w =
    let x = parts (IsTarget a.target) (IsAssigned a.target a.value) ts h w in
    let q = optional bracketed a.target.index in
    let y = rest_of (identifier a.target.variable) q x.0.tokens x.0.phrase x.0.said in
    let p = begins_at a.target.variable.place (kinds.Name a.target.variable.text) q x.0.tokens x.0.phrase x.0.said in
    let i = in_optional bracketed in_brackets a.target.index y.tokens y.phrase y.said in
    (p, i, in_assigned a.target a.value x.1.tokens p i x.1.phrase x.1.said)

in_start : (t : StartTree) (ts : List Token) → IsStart t ts → AreSaid ts → StartsPlaced t
in_start starts_with_nothing ts h w = tt
in_start (starts_with_declaration d) ts h w = in_declaration d ts h w
in_start (starts_with_assignment a) ts h w = in_assignment a ts h w

in_step : (t : StepTree) (ts : List Token) → IsStep t ts → AreSaid ts → StepsPlaced t
in_step steps_by_nothing ts h w = tt
in_step (steps_by_assignment a) ts h w = in_assignment a ts h w
in_step (steps_by_expression e) ts h w = placed_in loosest e ts h w

in_heading : (a : StartTree) (e : Option Tree) (b : StepTree) (ts : List Token) → heading a e b ts → AreSaid ts
    → StartsPlaced a × IsPlacedIf e × StepsPlaced b
in_heading a e b ts h w =
    let end = IsStep b then sign signs.RightParenthesis in
    let middle = optional (IsExpression loosest) e then sign signs.Semicolon then end in
    let one = rest_of (sign signs.LeftParenthesis) (IsStart a then sign signs.Semicolon then middle) ts h w in
    let start = first_of (IsStart a) (sign signs.Semicolon then middle) one.tokens one.phrase one.said in
    let two = rest_of (IsStart a) (sign signs.Semicolon then middle) one.tokens one.phrase one.said in
    let three = rest_of (sign signs.Semicolon) middle two.tokens two.phrase two.said in
    let test = first_of (optional (IsExpression loosest) e) (sign signs.Semicolon then end) three.tokens three.phrase three.said in
    let four = rest_of (optional (IsExpression loosest) e) (sign signs.Semicolon then end) three.tokens three.phrase three.said in
    let five = rest_of (sign signs.Semicolon) end four.tokens four.phrase four.said in
    let six = first_of (IsStep b) (sign signs.RightParenthesis) five.tokens five.phrase five.said in (
      in_start a start.tokens start.phrase start.said,
      in_optional (IsExpression loosest) (placed_in loosest) e test.tokens test.phrase test.said,
      in_step b six.tokens six.phrase six.said,
    )

-- STATEMENTS

mutual
  stands : (inside : Bool) (t : StatementTree) (ts : List Token) → IsStatement inside t ts → AreSaid ts → StandsPlaced t
  stands inside (block p ss) ts h w =
      let a = rest_of (sign_at p signs.LeftBrace) (AreStatements inside ss then sign signs.RightBrace) ts h w in
      let b = first_of (AreStatements inside ss) (sign signs.RightBrace) a.tokens a.phrase a.said in
      all_stand inside ss b.tokens b.phrase b.said
  stands inside (empty p) ts h w = tt
  stands inside (branch p e s) ts h w =
      let a = rest_of (sign_at p signs.If) (parenthesised e then IsStatement inside s) ts h w in
      let b = parts (parenthesised e) (IsStatement inside s) a.tokens a.phrase a.said in
      (in_parentheses e b.0.tokens b.0.phrase b.0.said, stands inside s b.1.tokens b.1.phrase b.1.said)
  stands inside (choice p e s t) ts h w =
      let q = IsStatement inside s then sign signs.Else then IsStatement inside t in
      let a = rest_of (sign_at p signs.If) (parenthesised e then q) ts h.1 w in
      let b = parts (parenthesised e) q a.tokens a.phrase a.said in
      let c = parts (IsStatement inside s) (sign signs.Else then IsStatement inside t) b.1.tokens b.1.phrase b.1.said in
      let d = rest_of (sign signs.Else) (IsStatement inside t) c.1.tokens c.1.phrase c.1.said in (
        in_parentheses e b.0.tokens b.0.phrase b.0.said,
        stands inside s c.0.tokens c.0.phrase c.0.said,
        stands inside t d.tokens d.phrase d.said,
      )
  stands inside (while_loop p e s) ts h w =
      let a = rest_of (sign_at p signs.While) (parenthesised e then IsStatement true s) ts h w in
      let b = parts (parenthesised e) (IsStatement true s) a.tokens a.phrase a.said in
      (in_parentheses e b.0.tokens b.0.phrase b.0.said, stands true s b.1.tokens b.1.phrase b.1.said)
  stands inside (do_loop p s e) ts h w =
      let q = sign signs.While then parenthesised e then sign signs.Semicolon in
      let a = rest_of (sign_at p signs.Do) (IsStatement true s then q) ts h w in
      let b = parts (IsStatement true s) q a.tokens a.phrase a.said in
      let c = rest_of (sign signs.While) (parenthesised e then sign signs.Semicolon) b.1.tokens b.1.phrase b.1.said in
      let d = first_of (parenthesised e) (sign signs.Semicolon) c.tokens c.phrase c.said in
      (stands true s b.0.tokens b.0.phrase b.0.said, in_parentheses e d.tokens d.phrase d.said)
  stands inside (for_loop p a e b s) ts h w =
      let x = rest_of (sign_at p signs.For) (heading a e b then IsStatement true s) ts h w in
      let y = parts (heading a e b) (IsStatement true s) x.tokens x.phrase x.said in
      let z = in_heading a e b y.0.tokens y.0.phrase y.0.said in
      (z.0, z.1, z.2, stands true s y.1.tokens y.1.phrase y.1.said)
  stands inside (breaks p) ts h w = tt
  stands inside (continues p) ts h w = tt
  stands inside (returns p e) ts h w =
      let a = rest_of (sign_at p signs.Return) (optional (IsExpression loosest) e then sign signs.Semicolon) ts h w in
      let b = first_of (optional (IsExpression loosest) e) (sign signs.Semicolon) a.tokens a.phrase a.said in
      in_optional (IsExpression loosest) (placed_in loosest) e b.tokens b.phrase b.said
  stands inside (assertion p e) ts h w =
      let q = parenthesised e then sign signs.Semicolon in
      let a = rest_of (sign_at p signs.Assert) q ts h w in
      let b = first_of (parenthesised e) (sign signs.Semicolon) a.tokens a.phrase a.said in
      (begins_at p (kinds.Sign signs.Assert) q ts h w, in_parentheses e b.tokens b.phrase b.said)
  stands inside (declaration d) ts h w =
      let a = first_of (IsDeclaration d) (sign signs.Semicolon) ts h w in
      in_declaration d a.tokens a.phrase a.said
  stands inside (assignment t) ts h w =
      let a = first_of (IsAssignment t) (sign signs.Semicolon) ts h w in
      in_assignment t a.tokens a.phrase a.said
  stands inside (evaluation e) ts h w =
      let a = first_of (IsExpression loosest e) (sign signs.Semicolon) ts h w in
      placed_in loosest e a.tokens a.phrase a.said

  all_stand : (inside : Bool) (ss : StatementTrees) (ts : List Token) → AreStatements inside ss ts → AreSaid ts → StandPlaced ss
  all_stand inside Statements'.none ts h w = tt
  all_stand inside (Statements'.also s ss) ts h w =
      let a = parts (IsStatement inside s) (AreStatements inside ss) ts h w in
      (stands inside s a.0.tokens a.0.phrase a.0.said, all_stand inside ss a.1.tokens a.1.phrase a.1.said)

-- PROGRAMS

function_stands : (f : FunctionTree) (ts : List Token) → IsFunction f ts → AreSaid ts → StandPlaced f.body.statements
function_stands f ts h w =
    let q1 = sign signs.RightParenthesis then IsBlock f.body in
    let q2 = AreParameters f.parameters then q1 in
    let q3 = sign signs.LeftParenthesis then q2 in
    let q4 = identifier f.function then q3 in
    let a = rest_of (IsTemplate f.variables) (IsResult f.returned then q4) ts h w in
    let b = rest_of (IsResult f.returned) q4 a.tokens a.phrase a.said in
    let c = rest_of (identifier f.function) q3 b.tokens b.phrase b.said in
    let d = rest_of (sign signs.LeftParenthesis) q2 c.tokens c.phrase c.said in
    let e = rest_of (AreParameters f.parameters) q1 d.tokens d.phrase d.said in
    let g = rest_of (sign signs.RightParenthesis) (IsBlock f.body) e.tokens e.phrase e.said in
    let i = rest_of (sign_at f.body.place signs.LeftBrace) (AreStatements false f.body.statements then sign signs.RightBrace) g.tokens g.phrase g.said in
    let j = first_of (AreStatements false f.body.statements) (sign signs.RightBrace) i.tokens i.phrase i.said in
    all_stand false f.body.statements j.tokens j.phrase j.said

items_stand : (items : List ItemTree) (ts : List Token) → AreAll IsItem items ts → AreSaid ts → AreAllPlaced (functions_of items)
items_stand [] ts h w = tt
items_stand (imports x ∷ items) ts h w =
    let a = rest_of (IsItem (imports x)) (AreAll IsItem items) ts h w in items_stand items a.tokens a.phrase a.said
items_stand (kind x ∷ items) ts h w = let a = rest_of (IsItem (kind x)) (AreAll IsItem items) ts h w in items_stand items a.tokens a.phrase a.said
items_stand (domain x k ∷ items) ts h w =
    let a = rest_of (IsItem (domain x k)) (AreAll IsItem items) ts h w in items_stand items a.tokens a.phrase a.said
items_stand (defines f ∷ items) ts h w =
    let a = parts (IsItem (defines f)) (AreAll IsItem items) ts h w in
    (function_stands f a.0.tokens a.0.phrase a.0.said, items_stand items a.1.tokens a.1.phrase a.1.said)

pub placed_where_spelled : (bytes : List ℕ) (tree : ProgramTree) → IsPlacedWhereSpelled bytes tree
placed_where_spelled bytes tree tokens lexed h =
    let a = first_of (AreAll IsItem tree.items) (one_at tree.end kinds.End) tokens h (said_lexed bytes tokens lexed) in
    items_stand tree.items a.tokens a.phrase a.said
