-- The readings of indexes, casts and negations.
use Rattle.std.proofs.Common.{◌≡◌, ℕ, suc, ◌+◌, ◌≤◌, List, [], ◌∷◌, ◌++◌, ◌⊎◌, inl, inr, refl, sym, ap, ◌∙◌, subst, append_assoc, append-nil, Ok}
use Rattle.std.proofs.Common.{Option, Some, None, arith, Bool, true, false, cond}
use Rattle.std.specs.Prelude.{max, nat_le, ◌&&◌, ◌||◌}
use Rattle.std.proofs.lemmas.Bool.{leb-true, leb-false}
use Rattle.sc_text.specs.declared.span.Span.{Span}
use Rattle.secrec_lexer.specs.Tokens.{is_sign, IsEnded}
use Rattle.secrec_lexer.specs.declared.sign.Sign.{Sign}
use Rattle.secrec_lexer.specs.declared.sign.Sign.TheVariants as signs
use Rattle.secrec_lexer.specs.declared.token.TokenKind.{TokenKind}
use Rattle.secrec_lexer.specs.declared.token.TokenKind.TheVariants as kinds
use Rattle.secrec_lexer.specs.declared.token.Token.{Token}
use Rattle.program_trees.specs.declared.expression.DataType.{DataType}
use Rattle.program_trees.specs.declared.expression.DataType.TheVariants as types
use Rattle.program_trees.specs.declared.expression.Operator.{Operator}
use Rattle.program_trees.specs.Tree.{Tree, number, truth, variable, call, index, parentheses, negation, cast, binary, declassify, argument, publish}
use Rattle.program_trees.specs.Heights.{height, place_of}
use Rattle.expression_parser.specs.declared.problem.ParseProblem.{ParseProblem}
use Rattle.expression_parser.specs.declared.problem.ParseProblem.TheVariants.{TooHigh}
use Rattle.expression_parser.specs.Phrases.{Phrase, token, sign_at, sign}
use Rattle.expression_parser.specs.Grammar.{IsDataType, IsPrimary, IsExpression, level, loosest, unary}
use Rattle.expression_parser.specs.Follow.{goes_on, Free}
use Rattle.expression_parser.specs.Steps.{Outcome, ◌>>=◌, expect, least, why_not, unless, data_type, data_type_at, begins_data_type, primary, indexed}
use Rattle.expression_parser.specs.Steps.{index_behind, postfix, negation_behind, cast_behind, unary_at, unary_of}
use Rattle.expression_parser.proofs.Reading.{Good, Bad, Reads, Then, Only, Stops, cons_head, cons_tail, bind_reads, pure_reads, reads_as}
use Rattle.expression_parser.proofs.Peek.{reads_peek}
use Rattle.expression_parser.proofs.Tokens.{Any, All, Alive, origin, choose, any_stops, ended_cons, good_ended, after_kind, head_kind, is_sign-true}
use Rattle.expression_parser.proofs.Tokens.{is_sign-false, token_then, sign_then}
use Rattle.expression_parser.proofs.Operators.{level_positive}
use Rattle.expression_parser.proofs.Nodes.{Low, tall, leaf, leaf_token, begins, first_token, start_bad, start_fits, Enclosed, enclosed_is}
use Rattle.expression_parser.proofs.Nodes.{is_enclosed, enclosed_reads, enclosed_alive, Made, made_is, is_made, made_reads, made_alive}
use Rattle.expression_parser.proofs.Arguments.{FreeName}
use Rattle.expression_parser.proofs.Primaries.{Primary, first_kind, headed, primary_reads}

-- a primary, or an element of one
abbrev pub IsPostfix : Tree → Type 0
IsPostfix (number p n) = Unit {0}
IsPostfix (truth p b) = Unit {0}
IsPostfix (variable p x) = Unit {0}
IsPostfix (call p x es) = Unit {0}
IsPostfix (index p a i) = Unit {0}
IsPostfix (parentheses p e) = Unit {0}
IsPostfix (negation p e) = ⊥
IsPostfix (cast p t e) = ⊥
IsPostfix (binary p op a b) = ⊥
IsPostfix (declassify p e) = Unit {0}
IsPostfix (argument p x) = Unit {0}
IsPostfix (publish p x e) = Unit {0}

abbrev pub Postfix : Tree → Phrase
Postfix c ts = IsPostfix c × IsExpression unary c ts

primary_postfix : (c : Tree) → IsPrimary c → IsPostfix c
primary_postfix (number p n) v = tt
primary_postfix (truth p b) v = tt
primary_postfix (variable p x) v = tt
primary_postfix (call p x es) v = tt
primary_postfix (index p a i) v = tt
primary_postfix (parentheses p e) v = tt
primary_postfix (negation p e) v = v
primary_postfix (cast p t e) v = v
primary_postfix (binary p op a b) v = v
primary_postfix (declassify p e) v = tt
primary_postfix (argument p x) v = tt
primary_postfix (publish p x e) v = tt

-- an index after a primary
IndexTrail : Tree → Tree → Phrase
IndexTrail a = Then (λ q. sign_at q signs.LeftBracket) (λ q. Enclosed signs.RightBracket (index (place_of a) a))

IndexTail : Tree → Tree → Phrase
IndexTail a c ts = Only a c ts ⊎ IndexTrail a c ts

PostfixPhrase : Tree → Phrase
PostfixPhrase = Then Primary IndexTail

postfix_up : (c : Tree) (s : List Token) → PostfixPhrase c s → Postfix c s
unfolding PostfixPhrase IndexTail IndexTrail
postfix_up c s (a, s1, t1, e, v, inl u) =
    subst (λ z. Postfix z s) (sym u.0) (primary_postfix a v.0, subst (IsExpression unary a) (sym (e ∙ ap (λ l. s1 ++ l) u.1 ∙ append-nil s1)) v.1)
postfix_up c s (a, s1, t1, e, v, inr u) =
    let b = enclosed_is signs.RightBracket (index (place_of a) a) c u.2 u.5 in
    subst (λ z. Postfix z s) (sym b.1) (tt, (v.0, refl, (s1, t1, e, v.1, (u.1, u.2, u.3, (u.0, u.4), b.2))))

alone : (c : Tree) (s : List Token) → IsPrimary c → IsExpression unary c s → PostfixPhrase c s
unfolding PostfixPhrase IndexTail
alone c s p v = (c, s, [], sym (append-nil s), (p, v), inl (refl, refl))

postfix_down : (c : Tree) (s : List Token) → Postfix c s → PostfixPhrase c s
unfolding PostfixPhrase IndexTail IndexTrail
postfix_down (index p a i) s v =
    let w = v.1 in
    let u = w.2 in
    let r = u.4 in
    subst (λ z. PostfixPhrase (index z a i) s) (sym w.1)
    (a, u.0, u.1, u.2, (w.0, u.3), inr (r.3.0, r.0, r.1, r.2, r.3.1, is_enclosed signs.RightBracket (index (place_of a) a) i r.1 r.4))
postfix_down (number p n) s v = alone (number p n) s tt v.1
postfix_down (truth p b) s v = alone (truth p b) s tt v.1
postfix_down (variable p x) s v = alone (variable p x) s tt v.1
postfix_down (call p x es) s v = alone (call p x es) s tt v.1
postfix_down (parentheses p e) s v = alone (parentheses p e) s tt v.1
postfix_down (negation p e) s v = absurd v.0
postfix_down (cast p t e) s v = absurd v.0
postfix_down (binary p op a b) s v = absurd v.0
postfix_down (declassify p e) s v = alone (declassify p e) s tt v.1
postfix_down (argument p x) s v = alone (argument p x) s tt v.1
postfix_down (publish p x e) s v = alone (publish p x e) s tt v.1

-- what may stand after an expression may stand after a name
free_name : (c d : Tree) (m : List Token) → Stops (Free unary c) m → Stops (FreeName d) m
free_name c d [] st = st
free_name c d (x ∷ m) st = go (is_sign signs.LeftParenthesis x) refl
  where
    go : (b : Bool) → is_sign signs.LeftParenthesis x ≡ b → is_sign signs.LeftParenthesis x ≡ false
    go true t =
        let f : goes_on unary (kinds.Sign signs.LeftParenthesis) ≡ false = ap (goes_on unary) (sym (is_sign-true signs.LeftParenthesis x t)) ∙ st in cc
    go false t = t

same_free : (c d : Tree) (m : List Token) → Stops (Free unary c) m → Stops (Free unary d) m
same_free c d [] st = st
same_free c d (x ∷ m) st = st

-- the type of an element
type_token : (t : DataType) (s : List Token) → IsDataType t s → (q : Span) × (k : Sign) × (s ≡ token q (kinds.Sign k) ∷ []) × (least (kinds.Sign k) ≡ None)
type_token types.Uint64 s (inl v) = (v.0, signs.Uint64, v.1, refl)
type_token types.Uint64 s (inr v) = (v.0, signs.Uint, v.1, refl)
type_token types.Int64 s (inl v) = (v.0, signs.Int64, v.1, refl)
type_token types.Int64 s (inr v) = (v.0, signs.Int, v.1, refl)
type_token types.Bool s v = (v.0, signs.Bool, v.1, refl)

sign_kind : (k : Sign) (x : Token) → sign k (x ∷ []) → x.kind ≡ kinds.Sign k
sign_kind k x v = ap (λ (t : Token). t.kind) (cons_head v.1)

-- the type that a token names
abbrev type_of_sign : Sign → Option DataType
type_of_sign signs.Uint64 = Some types.Uint64
type_of_sign signs.Uint = Some types.Uint64
type_of_sign signs.Int64 = Some types.Int64
type_of_sign signs.Int = Some types.Int64
type_of_sign signs.Bool = Some types.Bool
type_of_sign k = None

abbrev type_of_kind : TokenKind → Option DataType
type_of_kind (kinds.Sign k) = type_of_sign k
type_of_kind k = None

type_named : (t : DataType) (x : Token) → IsDataType t (x ∷ []) → type_of_kind x.kind ≡ Some t
type_named types.Uint64 x (inl v) = ap type_of_kind (sign_kind signs.Uint64 x v)
type_named types.Uint64 x (inr v) = ap type_of_kind (sign_kind signs.Uint x v)
type_named types.Int64 x (inl v) = ap type_of_kind (sign_kind signs.Int64 x v)
type_named types.Int64 x (inr v) = ap type_of_kind (sign_kind signs.Int x v)
type_named types.Bool x v = ap type_of_kind (sign_kind signs.Bool x v)

one_type : (t u : DataType) (x : Token) → IsDataType t (x ∷ []) → IsDataType u (x ∷ []) → t ≡ u
one_type t u x v w = let e : Some t ≡ Some u = sym (type_named t x v) ∙ type_named u x w in cc

-- a token that spells a type
type_good : (t : DataType) (x : Token) (m : List Token) (k : Sign) → x.kind ≡ kinds.Sign k → IsDataType t (x ∷ []) → IsEnded (x ∷ m)
    → Good IsDataType All Any (x ∷ m) t m
type_good t x m k e here en =
    let c = ended_cons m (after_kind x m (kinds.Sign k) en e refl) in
    record {
      s = x ∷ [];
      x = c.0;
      m = c.1;
      split = refl;
      rest = c.2;
      here = here;
      fits = tt;
      only = λ b s' m' m2 v st eq.
          let q = type_token b s' v in
          let hd = cons_head (sym (ap (λ l. l ++ m') q.2) ∙ eq) in
          let same : s' ≡ x ∷ [] = q.2 ∙ ap (λ z. z ∷ []) hd in
          (one_type b t x (subst (IsDataType b) same v) here, same);
    }

sign_here : (k : Sign) (x : Token) → x.kind ≡ kinds.Sign k → sign k (x ∷ [])
sign_here k x e = (x.place, ap (λ z. token x.place z ∷ []) e)

abbrev begins_type : TokenKind → Bool
begins_type k = begins_data_type (token origin k ∷ [])

-- what begins a type is told by the test of it
type_told : (t : DataType) (s m m2 : List Token) (x : Token) → IsDataType t s → s ++ m ≡ x ∷ m2 → begins_data_type (x ∷ m2) ≡ true
type_told types.Uint64 s m m2 x (inl v) eq = ap begins_type (sym (head_kind s [] m m2 v.0 (kinds.Sign signs.Uint64) x v.1 eq))
type_told types.Uint64 s m m2 x (inr v) eq = ap begins_type (sym (head_kind s [] m m2 v.0 (kinds.Sign signs.Uint) x v.1 eq))
type_told types.Int64 s m m2 x (inl v) eq = ap begins_type (sym (head_kind s [] m m2 v.0 (kinds.Sign signs.Int64) x v.1 eq))
type_told types.Int64 s m m2 x (inr v) eq = ap begins_type (sym (head_kind s [] m m2 v.0 (kinds.Sign signs.Int) x v.1 eq))
type_told types.Bool s m m2 x v eq = ap begins_type (sym (head_kind s [] m m2 v.0 (kinds.Sign signs.Bool) x v.1 eq))

pub data_type_reads : (w : List Token) → IsEnded w → Reads IsDataType All Any w (data_type w)
data_type_reads [] en = cc
data_type_reads (x ∷ m) en =
    one_of (is_sign signs.Uint64 x) (is_sign signs.Uint x) (is_sign signs.Int64 x) (is_sign signs.Int x) (is_sign signs.Bool x) refl refl refl refl refl
  where
    one_of : (a b c d e : Bool) → is_sign signs.Uint64 x ≡ a → is_sign signs.Uint x ≡ b → is_sign signs.Int64 x ≡ c → is_sign signs.Int x ≡ d
        → is_sign signs.Bool x ≡ e
        → Reads IsDataType All Any (x ∷ m)
        (data_type_at (cond (a || b) (Some types.Uint64) (cond (c || d) (Some types.Int64) (cond e (Some types.Bool) None))) x m)
    one_of true b c d e f g h i j =
        let k = is_sign-true signs.Uint64 x f in
        type_good types.Uint64 x m signs.Uint64 k (inl (sign_here signs.Uint64 x k)) en
    one_of false true c d e f g h i j =
        let k = is_sign-true signs.Uint x g in
        type_good types.Uint64 x m signs.Uint k (inr (sign_here signs.Uint x k)) en
    one_of false false true d e f g h i j =
        let k = is_sign-true signs.Int64 x h in
        type_good types.Int64 x m signs.Int64 k (inl (sign_here signs.Int64 x k)) en
    one_of false false false true e f g h i j =
        let k = is_sign-true signs.Int x i in
        type_good types.Int64 x m signs.Int k (inr (sign_here signs.Int x k)) en
    one_of false false false false true f g h i j =
        let k = is_sign-true signs.Bool x j in
        type_good types.Bool x m signs.Bool k (sign_here signs.Bool x k) en
    one_of false false false false false f g h i j =
        let untyped : begins_data_type (x ∷ m) ≡ false =
        ap (λ t. t || is_sign signs.Uint x || is_sign signs.Int64 x || is_sign signs.Int x || is_sign signs.Bool x) f
        ∙ ap (λ t. t || is_sign signs.Int64 x || is_sign signs.Int x || is_sign signs.Bool x) g
        ∙ ap (λ t. t || is_sign signs.Int x || is_sign signs.Bool x) h
        ∙ ap (λ t. t || is_sign signs.Bool x) i
        ∙ j in
        record {
          s = [];
          x = x;
          m = m;
          split = refl;
          rest = refl;
          before = inl refl;
          never = λ b s' m' m2 v al st eq. let told : begins_data_type (x ∷ m) ≡ true = type_told b s' m' m2 x v eq in let f = sym told ∙ untyped in cc;
          begun = tt;
        }

-- a type, a closing parenthesis, and what is cast
TypeBody : Span → Tree → Phrase
TypeBody p = Then IsDataType (λ t. Then (λ q. sign_at q signs.RightParenthesis) (λ q. Made (cast p t)))

CastPhrase : Tree → Phrase
CastPhrase = Then (λ p. sign_at p signs.LeftParenthesis) TypeBody

NegationPhrase : Tree → Phrase
NegationPhrase = Then (λ p. sign_at p signs.Exclamation) (λ p. Made (negation p))

cast_up : (c : Tree) (s : List Token) → CastPhrase c s → IsExpression unary c s
unfolding CastPhrase TypeBody
cast_up c s v =
    let w = v.5 in
    let u = w.5 in
    let b = made_is (cast v.0 w.0) c u.2 u.5 in
    subst (λ z. IsExpression unary z s) (sym b.1) (v.1, v.2, v.3, v.4, (w.1, w.2, w.3, w.4, (u.1, u.2, u.3, (u.0, u.4), b.2)))

negation_up : (c : Tree) (s : List Token) → NegationPhrase c s → IsExpression unary c s
unfolding NegationPhrase
negation_up c s v =
    let b = made_is (negation v.0) c v.2 v.5 in
    subst (λ z. IsExpression unary z s) (sym b.1) (v.1, v.2, v.3, v.4, b.2)

no_level : (op : Operator) → level op ≤ 0 → ⊥
no_level op l = let f = level_positive op in absurd (omega arith)

-- an expression of the tightest level is a negation, a cast, or a primary with an index or without
unary_cases : (c : Tree) (s : List Token) → IsExpression unary c s → Postfix c s ⊎ (NegationPhrase c s ⊎ CastPhrase c s)
unfolding NegationPhrase CastPhrase TypeBody
unary_cases (negation p e) s v = inr (inl (p, v.0, v.1, v.2, v.3, is_made (negation p) e v.1 v.4))
unary_cases (cast p t e) s v =
    let w = v.4 in
    let u = w.4 in
    inr (inr (p, v.0, v.1, v.2, v.3, (t, w.0, w.1, w.2, w.3, (u.3.0, u.0, u.1, u.2, u.3.1, is_made (cast p t) e u.1 u.4))))
unary_cases (binary p op a b) s v = absurd (no_level op v.0)
unary_cases (number p n) s v = inl (tt, v)
unary_cases (truth p b) s v = inl (tt, v)
unary_cases (variable p x) s v = inl (tt, v)
unary_cases (call p x es) s v = inl (tt, v)
unary_cases (index p a i) s v = inl (tt, v)
unary_cases (parentheses p e) s v = inl (tt, v)
unary_cases (declassify p e) s v = inl (tt, v)
unary_cases (argument p x) s v = inl (tt, v)
unary_cases (publish p x e) s v = inl (tt, v)

-- what begins with a sign or keyword: its kind
pub sign_head : (k : Sign) (W : Span → Tree → Phrase) (c : Tree) (s m m2 : List Token) (x : Token) → Then (λ p. sign_at p k) W c s → s ++ m ≡ x ∷ m2
    → x.kind ≡ kinds.Sign k
sign_head k W c s m m2 x v eq = sym (head_kind s v.2 m m2 v.0 (kinds.Sign k) x (v.3 ∙ ap (λ l. l ++ v.2) v.4) eq)

no_exclamation : (c : Tree) → first_kind c ≡ kinds.Sign signs.Exclamation → ⊥
no_exclamation (truth p true) e = cc
no_exclamation (truth p false) e = cc
no_exclamation c e = cc

postfix_no_exclamation : (c : Tree) (s m m2 : List Token) (x : Token) → Postfix c s → s ++ m ≡ x ∷ m2 → x.kind ≡ kinds.Sign signs.Exclamation → ⊥
unfolding PostfixPhrase
postfix_no_exclamation c s m m2 x v eq k =
    let p = postfix_down c s v in
    no_exclamation p.0 (headed p.0 p.1 (p.2 ++ m) m2 x p.4 (sym (append_assoc p.1 p.2 m) ∙ ap (λ l. l ++ m) (sym p.3) ∙ eq) ∙ k)

-- after the parenthesis that a primary begins with stands an expression
primary_second : (c : Tree) (s m m2 : List Token) (x y : Token) → Primary c s → first_kind c ≡ kinds.Sign signs.LeftParenthesis → s ++ m ≡ x ∷ y ∷ m2
    → (n : ℕ) × (least y.kind ≡ Some n)
primary_second (parentheses p e) s m m2 x y v k eq =
    let w = v.1 in
    let u = w.4 in
    let whole : s ≡ token p (kinds.Sign signs.LeftParenthesis) ∷ (u.0 ++ u.1) =
    w.2 ∙ ap (λ l. l ++ w.1) w.3 ∙ ap (λ l. token p (kinds.Sign signs.LeftParenthesis) ∷ l) u.2 in
    let rest : (u.0 ++ u.1) ++ m ≡ y ∷ m2 = cons_tail (ap (λ l. l ++ m) (sym whole) ∙ eq) in
    let f = first_token loosest e u.0 (u.1 ++ m) m2 y u.3 (sym (append_assoc u.0 u.1 m) ∙ rest) in
    (f.0, f.1)
primary_second (truth p true) s m m2 x y v k eq = cc
primary_second (truth p false) s m m2 x y v k eq = cc
primary_second c s m m2 x y v k eq = cc

-- so a type does not
postfix_no_type : (c : Tree) (s m m2 : List Token) (x y : Token) → Postfix c s → s ++ m ≡ x ∷ y ∷ m2 → x.kind ≡ kinds.Sign signs.LeftParenthesis
    → least y.kind ≡ None → ⊥
unfolding PostfixPhrase
postfix_no_type c s m m2 x y v eq k unstarted =
    let p = postfix_down c s v in
    let eq2 : p.1 ++ (p.2 ++ m) ≡ x ∷ y ∷ m2 = sym (append_assoc p.1 p.2 m) ∙ ap (λ l. l ++ m) (sym p.3) ∙ eq in
    let f = primary_second p.0 p.1 (p.2 ++ m) m2 x y p.4 (headed p.0 p.1 (p.2 ++ m) (y ∷ m2) x p.4 eq2 ∙ k) eq2 in
    let g = sym unstarted ∙ f.1 in
    cc

-- what begins a type begins no expression
type_least : (y : Token) (n : List Token) → begins_data_type (y ∷ n) ≡ true → least y.kind ≡ None
type_least y n e =
    one_of (is_sign signs.Uint64 y) (is_sign signs.Uint y) (is_sign signs.Int64 y) (is_sign signs.Int y) (is_sign signs.Bool y) refl refl refl refl refl e
  where
    one_of : (a b c d e : Bool) → is_sign signs.Uint64 y ≡ a → is_sign signs.Uint y ≡ b → is_sign signs.Int64 y ≡ c → is_sign signs.Int y ≡ d
        → is_sign signs.Bool y ≡ e
        → (is_sign signs.Uint64 y || is_sign signs.Uint y || is_sign signs.Int64 y || is_sign signs.Int y || is_sign signs.Bool y) ≡ true
        → least y.kind ≡ None
    one_of true b c d e f g h i j t = ap least (is_sign-true signs.Uint64 y f)
    one_of false true c d e f g h i j t = ap least (is_sign-true signs.Uint y g)
    one_of false false true d e f g h i j t = ap least (is_sign-true signs.Int64 y h)
    one_of false false false true e f g h i j t = ap least (is_sign-true signs.Int y i)
    one_of false false false false true f g h i j t = ap least (is_sign-true signs.Bool y j)
    one_of false false false false false f g h i j t =
        let untyped =
        ap (λ t. t || is_sign signs.Uint y || is_sign signs.Int64 y || is_sign signs.Int y || is_sign signs.Bool y) f
        ∙ ap (λ t. t || is_sign signs.Int64 y || is_sign signs.Int y || is_sign signs.Bool y) g
        ∙ ap (λ t. t || is_sign signs.Int y || is_sign signs.Bool y) h
        ∙ ap (λ t. t || is_sign signs.Bool y) i
        ∙ j in
        let l = sym t ∙ untyped in cc

-- after the parenthesis of a cast stands a type
cast_second : (c : Tree) (s m m2 : List Token) (x y : Token) → CastPhrase c s → s ++ m ≡ x ∷ y ∷ m2 → begins_data_type (y ∷ m2) ≡ true
unfolding CastPhrase TypeBody
cast_second c s m m2 x y v eq =
    let w = v.5 in
    let whole : s ≡ token v.0 (kinds.Sign signs.LeftParenthesis) ∷ (w.1 ++ w.2) =
    v.3 ∙ ap (λ l. l ++ v.2) v.4 ∙ ap (λ l. token v.0 (kinds.Sign signs.LeftParenthesis) ∷ l) w.3 in
    let rest : (w.1 ++ w.2) ++ m ≡ y ∷ m2 = cons_tail (ap (λ l. l ++ m) (sym whole) ∙ eq) in
    type_told w.0 w.1 (w.2 ++ m) m2 y w.4 (sym (append_assoc w.1 w.2 m) ∙ rest)

cast_first : (c : Tree) (s m m2 : List Token) (x : Token) → CastPhrase c s → s ++ m ≡ x ∷ m2 → x.kind ≡ kinds.Sign signs.LeftParenthesis
unfolding CastPhrase
cast_first c s m m2 x v eq = sign_head signs.LeftParenthesis TypeBody c s m m2 x v eq

negation_first : (c : Tree) (s m m2 : List Token) (x : Token) → NegationPhrase c s → s ++ m ≡ x ∷ m2 → x.kind ≡ kinds.Sign signs.Exclamation
unfolding NegationPhrase
negation_first c s m m2 x v eq = sign_head signs.Exclamation (λ p. Made (negation p)) c s m m2 x v eq

exclamation_or_parenthesis : (x : Token) → x.kind ≡ kinds.Sign signs.Exclamation → x.kind ≡ kinds.Sign signs.LeftParenthesis → ⊥
exclamation_or_parenthesis x e f = let g = sym e ∙ f in cc

-- With room for h below a node, where `inner` and `operand` read expressions of at most that height.
module _ (h : ℕ) (inner operand : List Token → Outcome Tree)
    (reads_inner : (w : List Token) → IsEnded w → Reads (IsExpression loosest) (Low h) (Free loosest) w (inner w))
    (reads_operand : (w : List Token) → IsEnded w → Reads (IsExpression unary) (Low h) (Free unary) w (operand w))
  where
    -- an index, if there is one
    index_high : (a : Tree) (c : Tree) (t : List Token) → IndexTail a c t → height a ≤ height c
    unfolding IndexTail IndexTrail
    index_high a c t (inl u) = let e : height c ≡ height a = ap height u.0 in omega arith
    index_high a c t (inr u) =
        let b = enclosed_is signs.RightBracket (index (place_of a) a) c u.2 u.5 in
        let e : height c ≡ 1 + max (height a) (height b.0) = ap height b.1 in omega arith

    index_too_high : (a : Tree) (x : Token) (m : List Token) → x.kind ≡ kinds.Sign signs.LeftBracket → suc h ≤ height a
        → Bad (IndexTail a) (Low (suc h)) (Free unary) (x ∷ m) TooHigh (x ∷ m)
    unfolding IndexTail IndexTrail
    index_too_high a x m k le = record {
      s = [];
      x = x;
      m = m;
      split = refl;
      rest = refl;
      before = inl refl;
      never = λ c s' m' m2 v al st eq. never c s' m' m2 v al st eq;
      begun = (
        index (place_of a) a leaf,
        leaf_token ∷ token origin (kinds.Sign signs.RightBracket) ∷ [],
        inr (
          x.place,
          x ∷ [],
          leaf_token ∷ token origin (kinds.Sign signs.RightBracket) ∷ [],
          refl,
          ap (λ z. token x.place z ∷ []) k,
          is_enclosed signs.RightBracket (index (place_of a) a) leaf (leaf_token ∷ token origin (kinds.Sign signs.RightBracket) ∷ [])
              (leaf_token ∷ [], token origin (kinds.Sign signs.RightBracket) ∷ [], refl, refl, (origin, refl)),
        ),
      );
    }
      where
        never : (c : Tree) (s' m' m2 : List Token) → IndexTail a c s' → height c ≤ suc h → Stops (Free unary c) m' → s' ++ m' ≡ x ∷ m2 → ⊥
        never c s' [] m2 (inl u) al st eq = st
        never c s' (y ∷ m') m2 (inl u) al st eq =
            let f = cons_head (ap (λ l. l ++ y ∷ m') (sym u.1) ∙ eq) in
            let g : goes_on unary (kinds.Sign signs.LeftBracket) ≡ false = ap (goes_on unary) (sym k ∙ ap (λ (t : Token). t.kind) (sym f)) ∙ st in
            cc
        never c s' m' m2 (inr u) al st eq =
            let b = enclosed_is signs.RightBracket (index (place_of a) a) c u.2 u.5 in
            let e : height c ≡ 1 + max (height a) (height b.0) = ap height b.1 in
            absurd (omega arith)

    index_reads : (a : Tree) (x : Token) (m : List Token) → x.kind ≡ kinds.Sign signs.LeftBracket → height a ≤ h → IsEnded (x ∷ m)
        → Reads (IndexTail a) (Low (suc h)) (Free unary) (x ∷ m) (index_behind inner a m)
    unfolding IndexTail IndexTrail
    index_reads a x m k low en =
        let one_a = tall a in
        reads_as (IndexTrail a) (IndexTail a) (Low (suc h)) Any (Free unary) x (λ c s v. inr v) (λ c s m' m2 v st eq. down c s m' m2 v st eq)
        (λ c m' st. any_stops (Free unary c) [] m' st) (x ∷ m) m (index_behind inner a m) refl
        (token_then (kinds.Sign signs.LeftBracket) (λ q. Enclosed signs.RightBracket (index (place_of a) a)) (Low (suc h)) Any refl
        (λ q. enclosed_alive h inner operand reads_inner reads_operand signs.RightBracket (index (place_of a) a) (omega arith) (λ e f. omega arith))
        x m (index_behind inner a m) k en
        (λ en2. enclosed_reads h inner operand reads_inner reads_operand signs.RightBracket (index (place_of a) a) refl (λ e f. omega arith)
        (λ e f. omega arith) m en2))
      where
        down : (c : Tree) (s m' m2 : List Token) → IndexTail a c s → Stops (Free unary c) m' → s ++ m' ≡ x ∷ m2 → IndexTrail a c s
        down c s [] m2 (inl u) st eq = absurd st
        down c s (y ∷ m') m2 (inl u) st eq =
            let f = cons_head (ap (λ l. l ++ y ∷ m') (sym u.1) ∙ eq) in
            let g : goes_on unary (kinds.Sign signs.LeftBracket) ≡ false = ap (goes_on unary) (sym k ∙ ap (λ (t : Token). t.kind) (sym f)) ∙ st in
            cc
        down c s m' m2 (inr u) st eq = u

    no_index : (a : Tree) (x : Token) (m : List Token) → (x.kind ≡ kinds.Sign signs.LeftBracket → ⊥) → height a ≤ suc h
        → Good (IndexTail a) (Low (suc h)) (Free unary) (x ∷ m) a (x ∷ m)
    unfolding IndexTail IndexTrail
    no_index a x m k low =
        reads_as (Only a) (IndexTail a) (Low (suc h)) Any (Free unary) x (λ c s v. inl v) (λ c s m' m2 v st eq. down c s m' m2 v eq)
        (λ c m' st. any_stops (Free unary c) [] m' st) (x ∷ m) m (Ok (a, x ∷ m)) refl
        (pure_reads (Low (suc h)) Any (x ∷ m) x m a refl low)
      where
        down : (c : Tree) (s m' m2 : List Token) → IndexTail a c s → s ++ m' ≡ x ∷ m2 → Only a c s
        down c s m' m2 (inl u) eq = u
        down c s m' m2 (inr u) eq = absurd (k (sign_head signs.LeftBracket (λ q. Enclosed signs.RightBracket (index (place_of a) a)) c s m' m2 x u eq))

    indexed_reads : (a : Tree) (w : List Token) → IsEnded w → height a ≤ suc h → Reads (IndexTail a) (Low (suc h)) (Free unary) w (indexed (suc h) inner a w)
    unfolding indexed
    indexed_reads a [] en low = cc
    indexed_reads a (x ∷ m) en low =
        let choice = choose (IndexTail a) (Low (suc h)) (Free unary) (x ∷ m) in
        choice (is_sign signs.LeftBracket x) _ _
        (λ t. let k = is_sign-true signs.LeftBracket x t in
        choice (nat_le (suc h) (height a)) _ _
        (λ le. index_too_high a x m k (leb-true (suc h) (height a) le))
        (λ lt. let less = leb-false (suc h) (height a) lt in index_reads a x m k (omega arith) en))
        (λ f. no_index a x m (is_sign-false signs.LeftBracket x f) low)

    postfix_reads : (x : Token) (m : List Token) → why_not (suc h) (least x.kind) ≡ None → IsEnded (x ∷ m)
        → Reads Postfix (Low (suc h)) (Free unary) (x ∷ m) (postfix (suc h) inner (x ∷ m))
    unfolding PostfixPhrase IndexTail IndexTrail
    postfix_reads x m fits en =
        reads_as PostfixPhrase Postfix (Low (suc h)) (Free unary) (Free unary) x postfix_up (λ c s m' m2 v st eq. postfix_down c s v) (λ c m' st. st)
        (x ∷ m) m (postfix (suc h) inner (x ∷ m)) refl
        (bind_reads Primary (Low (suc h)) FreeName IndexTail (Low (suc h)) (Free unary)
        (λ a c t v low. let up = index_high a c t v in omega arith)
        first
        (λ a s v low. (a, [], inl (refl, refl), low))
        (λ a s v. (a, [], inl (refl, refl)))
        (x ∷ m) (primary inner (x ∷ m)) (λ a. indexed (suc h) inner a.0 a.1) (primary_reads h inner operand reads_inner reads_operand x m fits en)
        (λ a r g. indexed_reads a r (good_ended g en) g.fits))
      where
        first : (a c : Tree) (t m : List Token) → IndexTail a c t → Stops (Free unary c) m → Stops (FreeName a) (t ++ m)
        first a c t m (inl u) st = subst (λ l. Stops (FreeName a) (l ++ m)) (sym u.1) (free_name c a m st)
        first a c t m (inr u) st = subst (λ l. Stops (FreeName a) (l ++ m)) (sym (u.3 ∙ ap (λ l. l ++ u.2) u.4)) refl

    negation_reads : 1 ≤ h → (x : Token) (m : List Token) → x.kind ≡ kinds.Sign signs.Exclamation → IsEnded (x ∷ m)
        → Reads (IsExpression unary) (Low (suc h)) (Free unary) (x ∷ m) (negation_behind operand x.place m)
    negation_reads max_height x m k en =
        reads_as NegationPhrase (IsExpression unary) (Low (suc h)) (Free unary) (Free unary) x negation_up
        (λ c s m' m2 v st eq. down c s m' m2 (unary_cases c s v) eq) (λ c m' st. st) (x ∷ m) m (negation_behind operand x.place m) refl
        (unfold NegationPhrase in token_then (kinds.Sign signs.Exclamation) (λ p. Made (negation p)) (Low (suc h)) (Free unary) refl
        (λ p. made_alive h inner operand reads_inner reads_operand (negation p) max_height (λ e f. omega arith))
        x m (negation_behind operand x.place m) k en
        (λ en2. made_reads h inner operand reads_inner reads_operand (negation x.place) (λ e f. omega arith) (λ e f. omega arith) m en2))
      where
        down : (c : Tree) (s m' m2 : List Token) → Postfix c s ⊎ (NegationPhrase c s ⊎ CastPhrase c s) → s ++ m' ≡ x ∷ m2 → NegationPhrase c s
        down c s m' m2 (inl u) eq = absurd (postfix_no_exclamation c s m' m2 x u eq k)
        down c s m' m2 (inr (inl u)) eq = u
        down c s m' m2 (inr (inr u)) eq = absurd (exclamation_or_parenthesis x k (cast_first c s m' m2 x u eq))

    cast_tail_alive : 1 ≤ h → (p : Span) (t : DataType) → Alive (Then (λ q. sign_at q signs.RightParenthesis) (λ q. Made (cast p t))) (Low (suc h))
    cast_tail_alive max_height p t =
        let close = token origin (kinds.Sign signs.RightParenthesis) in
        let a = made_alive h inner operand reads_inner reads_operand (cast p t) max_height (λ e f. omega arith) in
        (a.0, close ∷ a.1, (origin, close ∷ [], a.1, refl, refl, a.2), a.3)

    type_body_alive : 1 ≤ h → (p : Span) → Alive (TypeBody p) (Low (suc h))
    unfolding TypeBody
    type_body_alive max_height p =
        let word = token origin (kinds.Sign signs.Uint64) in
        let a = cast_tail_alive max_height p types.Uint64 in
        (a.0, word ∷ a.1, (types.Uint64, word ∷ [], a.1, refl, inl (origin, refl), a.2), a.3)

    type_body_reads : 1 ≤ h → (p : Span) (w : List Token) → IsEnded w → Reads (TypeBody p) (Low (suc h)) (Free unary) w (cast_behind operand p w)
    unfolding TypeBody
    type_body_reads max_height p w en =
        bind_reads IsDataType All Any (λ t. Then (λ q. sign_at q signs.RightParenthesis) (λ q. Made (cast p t))) (Low (suc h)) (Free unary)
        (λ t c s v f. tt)
        (λ t c s m v st. any_stops (Free unary c) s m st)
        (λ t s v f. cast_tail_alive max_height p t)
        (λ t s v. let a = cast_tail_alive max_height p t in (a.0, a.1, a.2))
        w (data_type w) (λ t. expect signs.RightParenthesis t.1 >>= λ q. operand q.1 >>= λ e. Ok (cast p t.0 e.0, e.1)) (data_type_reads w en)
        (λ t r g. sign_then signs.RightParenthesis (Made (cast p t)) (Low (suc h)) (Free unary)
        (made_alive h inner operand reads_inner reads_operand (cast p t) max_height (λ e f. omega arith))
        r (λ q. operand q.1 >>= λ e. Ok (cast p t e.0, e.1)) (good_ended g en)
        (λ q r2 enr. made_reads h inner operand reads_inner reads_operand (cast p t) (λ e f. omega arith) (λ e f. omega arith) r2 enr))

    cast_reads : 1 ≤ h → (x y : Token) (m : List Token) → x.kind ≡ kinds.Sign signs.LeftParenthesis → begins_data_type (y ∷ m) ≡ true
        → IsEnded (x ∷ y ∷ m) → Reads (IsExpression unary) (Low (suc h)) (Free unary) (x ∷ y ∷ m) (cast_behind operand x.place (y ∷ m))
    unfolding CastPhrase
    cast_reads max_height x y m k types en =
        reads_peek CastPhrase (IsExpression unary) (Low (suc h)) (Free unary) (Free unary) x y cast_up
        (λ c s m' m2 v st eq. down c s m' m2 (unary_cases c s v) eq) (λ c m' st. st)
        (alive (type_body_alive max_height x.place)) some (x ∷ y ∷ m) m (cast_behind operand x.place (y ∷ m)) refl
        (token_then (kinds.Sign signs.LeftParenthesis) TypeBody (Low (suc h)) (Free unary) refl (type_body_alive max_height)
        x (y ∷ m) (cast_behind operand x.place (y ∷ m)) k en
        (λ en2. type_body_reads max_height x.place (y ∷ m) en2))
      where
        down : (c : Tree) (s m' m2 : List Token) → Postfix c s ⊎ (NegationPhrase c s ⊎ CastPhrase c s) → s ++ m' ≡ x ∷ y ∷ m2 → CastPhrase c s
        down c s m' m2 (inl u) eq = absurd (postfix_no_type c s m' m2 x y u eq k (type_least y m types))
        down c s m' m2 (inr (inl u)) eq = absurd (exclamation_or_parenthesis x (negation_first c s m' (y ∷ m2) x u eq) k)
        down c s m' m2 (inr (inr u)) eq = u

        alive : Alive (TypeBody x.place) (Low (suc h)) → (c : Tree) × (t : List Token) × (z : Token) × CastPhrase c (x ∷ t) × Low (suc h) c × Free unary c z
        alive a = (a.0, a.1, token origin kinds.End, (x.place, x ∷ [], a.1, refl, ap (λ z. token x.place z ∷ []) k, a.2), a.3, refl)

        some : (c : Tree) → CastPhrase c [] → ⊥
        some c v = let f : [] ≡ token v.0 (kinds.Sign signs.LeftParenthesis) ∷ v.2 = v.3 ∙ ap (λ l. l ++ v.2) v.4 in cc

    -- a parenthesis, and no type after it
    bracketed_reads : 1 ≤ h → (x y : Token) (m : List Token) → why_not (suc h) (least x.kind) ≡ None → x.kind ≡ kinds.Sign signs.LeftParenthesis
        → begins_data_type (y ∷ m) ≡ false → IsEnded (x ∷ y ∷ m)
        → Reads (IsExpression unary) (Low (suc h)) (Free unary) (x ∷ y ∷ m) (postfix (suc h) inner (x ∷ y ∷ m))
    bracketed_reads max_height x y m fits k no_type en =
        reads_peek Postfix (IsExpression unary) (Low (suc h)) (Free unary) (Free unary) x y (λ c s v. v.1)
        (λ c s m' m2 v st eq. down c s m' m2 (unary_cases c s v) eq) (λ c m' st. st) (
          parentheses x.place leaf,
          leaf_token ∷ token origin (kinds.Sign signs.RightParenthesis) ∷ [],
          token origin kinds.End,
          (
            tt,
            (
              x ∷ [],
              leaf_token ∷ token origin (kinds.Sign signs.RightParenthesis) ∷ [],
              refl,
              ap (λ z. token x.place z ∷ []) k,
              (leaf_token ∷ [], token origin (kinds.Sign signs.RightParenthesis) ∷ [], refl, refl, (origin, refl)),
            ),
          ),
          omega arith,
          refl,
        )
        some (x ∷ y ∷ m) m (postfix (suc h) inner (x ∷ y ∷ m)) refl
        (postfix_reads x (y ∷ m) fits en)
      where
        down : (c : Tree) (s m' m2 : List Token) → Postfix c s ⊎ (NegationPhrase c s ⊎ CastPhrase c s) → s ++ m' ≡ x ∷ y ∷ m2 → Postfix c s
        down c s m' m2 (inl u) eq = u
        down c s m' m2 (inr (inl u)) eq = absurd (exclamation_or_parenthesis x (negation_first c s m' (y ∷ m2) x u eq) k)
        down c s m' m2 (inr (inr u)) eq =
            let told : begins_data_type (y ∷ m) ≡ true = cast_second c s m' m2 x y u eq in
            let f = sym told ∙ no_type in cc

        some : (c : Tree) → Postfix c [] → ⊥
        some c v = let b = begins unary c [] v.1 in let f = b.split in cc

    -- no parenthesis and no negation
    plain_reads : (x : Token) (m : List Token) → why_not (suc h) (least x.kind) ≡ None → (x.kind ≡ kinds.Sign signs.Exclamation → ⊥)
        → (x.kind ≡ kinds.Sign signs.LeftParenthesis → ⊥) → IsEnded (x ∷ m)
        → Reads (IsExpression unary) (Low (suc h)) (Free unary) (x ∷ m) (postfix (suc h) inner (x ∷ m))
    plain_reads x m fits k1 k2 en =
        reads_as Postfix (IsExpression unary) (Low (suc h)) (Free unary) (Free unary) x (λ c s v. v.1)
        (λ c s m' m2 v st eq. down c s m' m2 (unary_cases c s v) eq) (λ c m' st. st) (x ∷ m) m (postfix (suc h) inner (x ∷ m)) refl
        (postfix_reads x m fits en)
      where
        down : (c : Tree) (s m' m2 : List Token) → Postfix c s ⊎ (NegationPhrase c s ⊎ CastPhrase c s) → s ++ m' ≡ x ∷ m2 → Postfix c s
        down c s m' m2 (inl u) eq = u
        down c s m' m2 (inr (inl u)) eq = absurd (k1 (negation_first c s m' m2 x u eq))
        down c s m' m2 (inr (inr u)) eq = absurd (k2 (cast_first c s m' m2 x u eq))

    one_fits_under : (s : Sign) (x : Token) → x.kind ≡ kinds.Sign s → least (kinds.Sign s) ≡ Some 2 → why_not (suc h) (least x.kind) ≡ None → 1 ≤ h
    one_fits_under s x k two fits =
        let f = start_fits (suc h) (least x.kind) fits in
        let g : Some 2 ≡ Some f.0 = sym two ∙ ap least (sym k) ∙ f.1 in
        let same : 2 ≡ f.0 = cc in
        let low = f.2 in
        omega arith

    unary_at_reads : (x : Token) (m : List Token) → why_not (suc h) (least x.kind) ≡ None → IsEnded (x ∷ m)
        → Reads (IsExpression unary) (Low (suc h)) (Free unary) (x ∷ m) (unary_at (suc h) inner operand x m)
    unary_at_reads x m fits en =
        choose (IsExpression unary) (Low (suc h)) (Free unary) (x ∷ m) (is_sign signs.Exclamation x) _ _
        (λ t. let k = is_sign-true signs.Exclamation x t in negation_reads (one_fits_under signs.Exclamation x k refl fits) x m k en)
        (λ f. go (is_sign signs.LeftParenthesis x) refl (is_sign-false signs.Exclamation x f) m en)
      where
        go : (b : Bool) → is_sign signs.LeftParenthesis x ≡ b → (x.kind ≡ kinds.Sign signs.Exclamation → ⊥) → (m : List Token) → IsEnded (x ∷ m)
            → Reads (IsExpression unary) (Low (suc h)) (Free unary) (x ∷ m)
            (cond (b && begins_data_type m) (cast_behind operand x.place m) (postfix (suc h) inner (x ∷ m)))
        go false f k m en = plain_reads x m fits k (is_sign-false signs.LeftParenthesis x f) en
        go true t k [] en =
            let e = after_kind x [] (kinds.Sign signs.LeftParenthesis) en (is_sign-true signs.LeftParenthesis x t) refl in cc
        go true t k (y ∷ m) en =
            let k2 = is_sign-true signs.LeftParenthesis x t in
            let max_height = one_fits_under signs.LeftParenthesis x k2 refl fits in
            choose (IsExpression unary) (Low (suc h)) (Free unary) (x ∷ y ∷ m) (begins_data_type (y ∷ m)) _ _
            (λ told. cast_reads max_height x y m k2 told en)
            (λ no_type. bracketed_reads max_height x y m fits k2 no_type en)

    pub unary_reads : (w : List Token) → IsEnded w → Reads (IsExpression unary) (Low (suc h)) (Free unary) w (unary_of (suc h) inner operand w)
    unfolding unary_of
    unary_reads [] en = cc
    unary_reads (x ∷ m) en = go (why_not (suc h) (least x.kind)) refl
      where
        go : (o : Option ParseProblem) → why_not (suc h) (least x.kind) ≡ o
            → Reads (IsExpression unary) (Low (suc h)) (Free unary) (x ∷ m) (unless o (x ∷ m) (unary_at (suc h) inner operand x m))
        go None e = unary_at_reads x m e en
        go (Some p) e = start_bad unary (suc h) x m p e
