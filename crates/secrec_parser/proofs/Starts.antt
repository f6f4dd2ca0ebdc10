-- What statements begin with, and some statement that begins with each such token.
use Rattle.std.proofs.Common.{◌≡◌, ℕ, List, [], ◌∷◌, ◌++◌, inl, inr, refl, sym, ap, Bool, true, false, Some, None}
use Rattle.std.proofs.lemmas.Option.{none-some}
use Rattle.sc_text.specs.declared.span.Span.{Span}
use Rattle.secrec_lexer.specs.declared.sign.Sign.{Sign}
use Rattle.secrec_lexer.specs.declared.sign.Sign.TheVariants as signs
use Rattle.secrec_lexer.specs.declared.token.TokenKind.{TokenKind}
use Rattle.secrec_lexer.specs.declared.token.TokenKind.TheVariants as kinds
use Rattle.secrec_lexer.specs.declared.token.Token.{Token}
use Rattle.program_trees.specs.declared.expression.DataType.{DataType}
use Rattle.program_trees.specs.declared.expression.DataType.TheVariants as types
use Rattle.program_trees.specs.declared.statement.Domain.TheVariants as domains
use Rattle.program_trees.specs.declared.statement.DeclaredType.{DeclaredType}
use Rattle.program_trees.specs.Tree.{variable}
use Rattle.program_trees.specs.Statements.{DeclarationTree, StatementTree, StatementTrees, starts_with_nothing, steps_by_nothing, block, empty, branch}
use Rattle.program_trees.specs.Statements.{choice, while_loop, do_loop, for_loop, breaks, continues, returns, assertion, declaration, assignment}
use Rattle.program_trees.specs.Statements.{evaluation}
use Rattle.program_trees.specs.Statements as statements
use Rattle.expression_parser.specs.Phrases.{token, sign_at, sign}
use Rattle.expression_parser.specs.Grammar.{IsDataType, loosest}
use Rattle.expression_parser.specs.Steps as expressions
use Rattle.expression_parser.proofs.Tokens.{origin, head_kind}
use Rattle.expression_parser.proofs.Nodes.{leaf, leaf_token, first_token}
use Rattle.secrec_parser.specs.declared.leader.Leader.{Leader}
use Rattle.secrec_parser.specs.declared.leader.Leader.TheVariants as leaders
use Rattle.secrec_parser.specs.Grammar.{parenthesised, heading, IsStatement}
use Rattle.secrec_parser.specs.inner.Steps.{leader_of}
use Rattle.secrec_parser.proofs.Clashes.{false_true, no_break, no_continue}
use Rattle.secrec_parser.proofs.TypeReadings.{lone}
use Rattle.secrec_parser.proofs.Declarations.{some_name, name_token}
use Rattle.secrec_parser.proofs.Leaders.{begins_type, leads, leads_inside, front, led_kind}
use Rattle.secrec_parser.proofs.Headings.{uint_token, no_declaration, assignment_head}

-- What begins a statement

abbrev pub starter : TokenKind → Bool
starter (kinds.Name bytes) = true
starter (kinds.Number n) = true
starter (kinds.Sign signs.LeftBrace) = true
starter (kinds.Sign signs.Semicolon) = true
starter (kinds.Sign signs.If) = true
starter (kinds.Sign signs.While) = true
starter (kinds.Sign signs.Do) = true
starter (kinds.Sign signs.For) = true
starter (kinds.Sign signs.Break) = true
starter (kinds.Sign signs.Continue) = true
starter (kinds.Sign signs.Return) = true
starter (kinds.Sign signs.Assert) = true
starter (kinds.Sign signs.Public) = true
starter (kinds.Sign signs.Uint64) = true
starter (kinds.Sign signs.Uint) = true
starter (kinds.Sign signs.Int64) = true
starter (kinds.Sign signs.Int) = true
starter (kinds.Sign signs.Bool) = true
starter (kinds.Sign signs.True) = true
starter (kinds.Sign signs.False) = true
starter (kinds.Sign signs.Argument) = true
starter (kinds.Sign signs.LeftParenthesis) = true
starter (kinds.Sign signs.Exclamation) = true
starter (kinds.Sign signs.Declassify) = true
starter (kinds.Sign signs.Publish) = true
starter other = false

type_starter : (k : TokenKind) → begins_type k ≡ true → starter k ≡ true
type_starter (kinds.Name bytes) e = refl
type_starter (kinds.Sign signs.Public) e = refl
type_starter (kinds.Sign signs.Uint64) e = refl
type_starter (kinds.Sign signs.Uint) e = refl
type_starter (kinds.Sign signs.Int64) e = refl
type_starter (kinds.Sign signs.Int) e = refl
type_starter (kinds.Sign signs.Bool) e = refl
type_starter k e = absurd (false_true e)

expression_starter : (k : TokenKind) (n : ℕ) → expressions.least k ≡ Some n → starter k ≡ true
expression_starter (kinds.Name bytes) n e = refl
expression_starter (kinds.Number v) n e = refl
expression_starter (kinds.Sign signs.True) n e = refl
expression_starter (kinds.Sign signs.False) n e = refl
expression_starter (kinds.Sign signs.Argument) n e = refl
expression_starter (kinds.Sign signs.LeftParenthesis) n e = refl
expression_starter (kinds.Sign signs.Exclamation) n e = refl
expression_starter (kinds.Sign signs.Declassify) n e = refl
expression_starter (kinds.Sign signs.Publish) n e = refl
expression_starter k n e = absurd (none-some n e)

pub starts : (in_loop : Bool) (c : StatementTree) (s m m2 : List Token) (x : Token) → IsStatement in_loop c s → s ++ m ≡ x ∷ m2 → starter x.kind ≡ true
starts in_loop (block p ss) s m m2 x v eq = ap starter (sym (led_kind p signs.LeftBrace _ s m m2 x v eq))
starts in_loop (empty p) s m m2 x v eq = ap starter (sym (head_kind s [] m m2 p (kinds.Sign signs.Semicolon) x v eq))
starts in_loop (branch p e b) s m m2 x v eq = ap starter (sym (led_kind p signs.If _ s m m2 x v eq))
starts in_loop (choice p e b t) s m m2 x v eq = ap starter (sym (led_kind p signs.If _ s m m2 x v.1 eq))
starts in_loop (while_loop p e b) s m m2 x v eq = ap starter (sym (led_kind p signs.While _ s m m2 x v eq))
starts in_loop (do_loop p b e) s m m2 x v eq = ap starter (sym (led_kind p signs.Do _ s m m2 x v eq))
starts in_loop (for_loop p a e b t) s m m2 x v eq = ap starter (sym (led_kind p signs.For _ s m m2 x v eq))
starts in_loop (breaks p) s m m2 x v eq = ap starter (sym (led_kind p signs.Break _ s m m2 x v.1 eq))
starts in_loop (continues p) s m m2 x v eq = ap starter (sym (led_kind p signs.Continue _ s m m2 x v.1 eq))
starts in_loop (returns p e) s m m2 x v eq = ap starter (sym (led_kind p signs.Return _ s m m2 x v eq))
starts in_loop (assertion p e) s m m2 x v eq = ap starter (sym (led_kind p signs.Assert _ s m m2 x v eq))
starts in_loop (declaration d) s m m2 x v eq = type_starter x.kind (no_declaration d v.0 (v.1 ++ m) m2 x v.3 (front s m m2 x v eq))
starts in_loop (assignment a) s m m2 x v eq = ap starter (sym (assignment_head a v.0 (v.1 ++ m) m2 x v.3 (front s m m2 x v eq)))
starts in_loop (evaluation e) s m m2 x v eq =
    let f = first_token loosest e v.0 (v.1 ++ m) m2 x v.3 (front s m m2 x v eq) in expression_starter x.kind f.0 f.1

abbrev pub else_token : Token
else_token = token origin (kinds.Sign signs.Else)

pub statement_some : (in_loop : Bool) (c : StatementTree) → IsStatement in_loop c [] → ⊥
statement_some in_loop c v = let f : false ≡ true = starts in_loop c [] (else_token ∷ []) [] else_token v refl in cc

-- Leaders of declarations, names and expressions

is_declaration : Leader → Bool
is_declaration leaders.Declaration = true
is_declaration other = false

is_expression : Leader → Bool
is_expression leaders.Expression = true
is_expression other = false

pub declared_leader : (in_loop : Bool) (k : TokenKind) (p : Span) → begins_type k ≡ true → leader_of in_loop (token p k) ≡ leaders.Expression → ⊥
unfolding is_expression
declared_leader in_loop (kinds.Name bytes) p e f = false_true (ap is_expression f)
declared_leader in_loop (kinds.Sign signs.Public) p e f = false_true (ap is_expression f)
declared_leader in_loop (kinds.Sign signs.Uint64) p e f = false_true (ap is_expression f)
declared_leader in_loop (kinds.Sign signs.Uint) p e f = false_true (ap is_expression f)
declared_leader in_loop (kinds.Sign signs.Int64) p e f = false_true (ap is_expression f)
declared_leader in_loop (kinds.Sign signs.Int) p e f = false_true (ap is_expression f)
declared_leader in_loop (kinds.Sign signs.Bool) p e f = false_true (ap is_expression f)
declared_leader in_loop k p e f = false_true e

pub expression_leader : (in_loop : Bool) (k : TokenKind) (p : Span) (n : ℕ) → expressions.least k ≡ Some n
    → leader_of in_loop (token p k) ≡ leaders.Declaration → ⊥
unfolding is_declaration
expression_leader in_loop (kinds.Name bytes) p n e f = false_true (ap is_declaration f)
expression_leader in_loop (kinds.Number v) p n e f = false_true (ap is_declaration f)
expression_leader in_loop (kinds.Sign signs.True) p n e f = false_true (ap is_declaration f)
expression_leader in_loop (kinds.Sign signs.False) p n e f = false_true (ap is_declaration f)
expression_leader in_loop (kinds.Sign signs.Argument) p n e f = false_true (ap is_declaration f)
expression_leader in_loop (kinds.Sign signs.LeftParenthesis) p n e f = false_true (ap is_declaration f)
expression_leader in_loop (kinds.Sign signs.Exclamation) p n e f = false_true (ap is_declaration f)
expression_leader in_loop (kinds.Sign signs.Declassify) p n e f = false_true (ap is_declaration f)
expression_leader in_loop (kinds.Sign signs.Publish) p n e f = false_true (ap is_declaration f)
expression_leader in_loop k p n e f = none-some n e

is_name : Leader → Bool
is_name leaders.Name = true
is_name other = false

pub name_kind : (in_loop : Bool) (k : TokenKind) (p : Span) → leader_of in_loop (token p k) ≡ leaders.Name → (text : List ℕ) × (k ≡ kinds.Name text)
unfolding is_name
name_kind in_loop (kinds.Name text) p e = (text, refl)
name_kind in_loop (kinds.Sign signs.LeftBrace) p e = absurd (false_true (ap is_name e))
name_kind true (kinds.Sign signs.Break) p e = absurd (false_true (ap is_name e))
name_kind true (kinds.Sign signs.Continue) p e = absurd (false_true (ap is_name e))
name_kind in_loop k p e = absurd (false_true (ap is_name e))

-- what a declaration begins with that begins with no name
pub data Typed (x : Token) : Type 0 where
  open_type : x.kind ≡ kinds.Sign signs.Public → Typed x
  element_type : (t : DataType) → IsDataType t (x ∷ []) → Typed x

pub typed : (in_loop : Bool) (x : Token) → leader_of in_loop x ≡ leaders.Declaration → Typed x
unfolding is_declaration
typed in_loop x e = go in_loop x.kind refl e
  where
    spelled : (s : Sign) → x.kind ≡ kinds.Sign s → sign s (x ∷ [])
    spelled s k = (x.place, ap (λ z. token x.place z ∷ []) k)

    go : (in_loop : Bool) (k : TokenKind) → x.kind ≡ k → leader_of in_loop (token x.place k) ≡ leaders.Declaration → Typed x
    go in_loop (kinds.Sign signs.Public) k e = open_type k
    go in_loop (kinds.Sign signs.Uint64) k e = element_type types.Uint64 (inl (spelled signs.Uint64 k))
    go in_loop (kinds.Sign signs.Uint) k e = element_type types.Uint64 (inr (spelled signs.Uint k))
    go in_loop (kinds.Sign signs.Int64) k e = element_type types.Int64 (inl (spelled signs.Int64 k))
    go in_loop (kinds.Sign signs.Int) k e = element_type types.Int64 (inr (spelled signs.Int k))
    go in_loop (kinds.Sign signs.Bool) k e = element_type types.Bool (spelled signs.Bool k)
    go true (kinds.Sign signs.Break) k e = absurd (false_true (ap is_declaration e))
    go true (kinds.Sign signs.Continue) k e = absurd (false_true (ap is_declaration e))
    go in_loop kind k e = absurd (false_true (ap is_declaration e))

-- Samples

abbrev pub parens : List Token
parens = token origin (kinds.Sign signs.LeftParenthesis) ∷ leaf_token ∷ lone signs.RightParenthesis

pub are_parens : parenthesised leaf parens
are_parens = (
  token origin (kinds.Sign signs.LeftParenthesis) ∷ [],
  leaf_token ∷ lone signs.RightParenthesis,
  refl,
  (origin, refl),
  (leaf_token ∷ [], lone signs.RightParenthesis, refl, refl, (origin, refl)),
)

abbrev pub heads : List Token
heads = token origin (kinds.Sign signs.LeftParenthesis) ∷ lone signs.Semicolon ++ lone signs.Semicolon ++ lone signs.RightParenthesis

pub are_heads : heading starts_with_nothing None steps_by_nothing heads
are_heads = (
  token origin (kinds.Sign signs.LeftParenthesis) ∷ [],
  lone signs.Semicolon ++ lone signs.Semicolon ++ lone signs.RightParenthesis,
  refl,
  (origin, refl),
  (
    [],
    lone signs.Semicolon ++ lone signs.Semicolon ++ lone signs.RightParenthesis,
    refl,
    refl,
    (
      lone signs.Semicolon,
      lone signs.Semicolon ++ lone signs.RightParenthesis,
      refl,
      (origin, refl),
      (
        [],
        lone signs.Semicolon ++ lone signs.RightParenthesis,
        refl,
        refl,
        (
          lone signs.Semicolon,
          lone signs.RightParenthesis,
          refl,
          (origin, refl),
          ([], lone signs.RightParenthesis, refl, refl, (origin, refl)),
        ),
      ),
    ),
  ),
)

module _ (in_loop : Bool) (x : Token) where
  here : (s : Sign) → x.kind ≡ kinds.Sign s → sign_at x.place s (x ∷ [])
  here s k = ap (λ z. token x.place z ∷ []) k

  abbrev Sample : Type 0
  Sample = (c : StatementTree) × (t : List Token) × IsStatement in_loop c (x ∷ t)

  declared_as : (t : DeclaredType) → DeclarationTree
  declared_as t = record { declared = t; variable = some_name; size = None; value = None }

  typed_sample : Typed x → Sample
  unfolding declared_as
  typed_sample (open_type k) = (
    declaration (declared_as (record { place = x.place; domain = domains.Public; element = types.Uint64; array = false })),
    uint_token ∷ name_token ∷ lone signs.Semicolon,
    (
      x ∷ uint_token ∷ name_token ∷ [],
      lone signs.Semicolon,
      refl,
      (
        x ∷ uint_token ∷ [],
        name_token ∷ [],
        refl,
        (refl, (x ∷ [], uint_token ∷ [], refl, inr (x.place, here signs.Public k), (uint_token ∷ [], [], refl, inl (origin, refl), inl refl))),
        (name_token ∷ [], [], refl, refl, ([], [], refl, refl, refl)),
      ),
      (origin, refl),
    ),
  )
  typed_sample (element_type t v) = (
    declaration (declared_as (record { place = x.place; domain = domains.Public; element = t; array = false })),
    name_token ∷ lone signs.Semicolon,
    (
      x ∷ name_token ∷ [],
      lone signs.Semicolon,
      refl,
      (
        x ∷ [],
        name_token ∷ [],
        refl,
        (refl, ([], x ∷ [], refl, inl refl, (x ∷ [], [], refl, v, inl refl))),
        (name_token ∷ [], [], refl, refl, ([], [], refl, refl, refl)),
      ),
      (origin, refl),
    ),
  )

  -- a statement of each leader but an expression
  pub sample : (l : Leader) → leader_of in_loop x ≡ l → (l ≡ leaders.Expression → ⊥) → Sample
  sample leaders.Block e other = (
    block x.place statements.none,
    lone signs.RightBrace,
    (
      x ∷ [],
      lone signs.RightBrace,
      refl,
      here signs.LeftBrace (leads in_loop x leaders.Block signs.LeftBrace e refl),
      ([], lone signs.RightBrace, refl, refl, (origin, refl)),
    ),
  )
  sample leaders.Empty e other = (empty x.place, [], here signs.Semicolon (leads in_loop x leaders.Empty signs.Semicolon e refl))
  sample leaders.If e other = (
    branch x.place leaf (empty origin),
    parens ++ lone signs.Semicolon,
    (
      x ∷ [],
      parens ++ lone signs.Semicolon,
      refl,
      here signs.If (leads in_loop x leaders.If signs.If e refl),
      (parens, lone signs.Semicolon, refl, are_parens, refl),
    ),
  )
  sample leaders.While e other = (
    while_loop x.place leaf (empty origin),
    parens ++ lone signs.Semicolon,
    (
      x ∷ [],
      parens ++ lone signs.Semicolon,
      refl,
      here signs.While (leads in_loop x leaders.While signs.While e refl),
      (parens, lone signs.Semicolon, refl, are_parens, refl),
    ),
  )
  sample leaders.DoWhile e other = (
    do_loop x.place (empty origin) leaf,
    lone signs.Semicolon ++ lone signs.While ++ parens ++ lone signs.Semicolon,
    (
      x ∷ [],
      lone signs.Semicolon ++ lone signs.While ++ parens ++ lone signs.Semicolon,
      refl,
      here signs.Do (leads in_loop x leaders.DoWhile signs.Do e refl),
      (
        lone signs.Semicolon,
        lone signs.While ++ parens ++ lone signs.Semicolon,
        refl,
        refl,
        (lone signs.While, parens ++ lone signs.Semicolon, refl, (origin, refl), (parens, lone signs.Semicolon, refl, are_parens, (origin, refl))),
      ),
    ),
  )
  sample leaders.For e other = (
    for_loop x.place starts_with_nothing None steps_by_nothing (empty origin),
    heads ++ lone signs.Semicolon,
    (
      x ∷ [],
      heads ++ lone signs.Semicolon,
      refl,
      here signs.For (leads in_loop x leaders.For signs.For e refl),
      (heads, lone signs.Semicolon, refl, are_heads, refl),
    ),
  )
  sample leaders.Break e other =
      let k = leads in_loop x leaders.Break signs.Break e refl in (
        breaks x.place,
        lone signs.Semicolon,
        (leads_inside in_loop x signs.Break leaders.Break k e no_break, (x ∷ [], lone signs.Semicolon, refl, here signs.Break k, (origin, refl))),
      )
  sample leaders.Continue e other =
      let k = leads in_loop x leaders.Continue signs.Continue e refl in (
        continues x.place,
        lone signs.Semicolon,
        (
          leads_inside in_loop x signs.Continue leaders.Continue k e no_continue,
          (x ∷ [], lone signs.Semicolon, refl, here signs.Continue k, (origin, refl)),
        ),
      )
  sample leaders.Return e other = (
    returns x.place None,
    lone signs.Semicolon,
    (
      x ∷ [],
      lone signs.Semicolon,
      refl,
      here signs.Return (leads in_loop x leaders.Return signs.Return e refl),
      ([], lone signs.Semicolon, refl, refl, (origin, refl)),
    ),
  )
  sample leaders.Assert e other = (
    assertion x.place leaf,
    parens ++ lone signs.Semicolon,
    (
      x ∷ [],
      parens ++ lone signs.Semicolon,
      refl,
      here signs.Assert (leads in_loop x leaders.Assert signs.Assert e refl),
      (parens, lone signs.Semicolon, refl, are_parens, (origin, refl)),
    ),
  )
  sample leaders.Declaration e other = typed_sample (typed in_loop x e)
  sample leaders.Name e other =
      let k = name_kind in_loop x.kind x.place e in
      (evaluation (variable x.place k.0), lone signs.Semicolon, (x ∷ [], lone signs.Semicolon, refl, ap (λ z. token x.place z ∷ []) k.1, (origin, refl)))
  sample leaders.Expression e other = absurd (other refl)
