-- What every expression begins with, and the readings of what stands in brackets.
use Rattle.std.proofs.Common.{◌≡◌, ℕ, suc, ◌<◌, ◌≤◌, List, [], ◌∷◌, ◌++◌, inl, refl, sym, ap, ◌∙◌, subst, append-nil, Ok, Option, Some, None, arith}
use Rattle.std.proofs.Common.{Bool, true, false, cond}
use Rattle.std.specs.Prelude.{nat_lt}
use Rattle.std.proofs.lemmas.Bool.{ltb-true, ltb-false}
use Rattle.sc_text.specs.declared.span.Span.{Span}
use Rattle.secrec_lexer.specs.Tokens.{IsEnded}
use Rattle.secrec_lexer.specs.declared.sign.Sign.{Sign}
use Rattle.secrec_lexer.specs.declared.sign.Sign.TheVariants as signs
use Rattle.secrec_lexer.specs.declared.token.TokenKind.{TokenKind}
use Rattle.secrec_lexer.specs.declared.token.TokenKind.TheVariants as kinds
use Rattle.secrec_lexer.specs.declared.token.Token.{Token}
use Rattle.program_trees.specs.Tree.{Tree, Trees, number, truth, variable, call, index, parentheses, negation, cast, binary, declassify, argument, publish}
use Rattle.program_trees.specs.Heights.{height, heights}
use Rattle.expression_parser.specs.declared.problem.ParseProblem.{ParseProblem}
use Rattle.expression_parser.specs.declared.problem.ParseProblem.TheVariants.{Unexpected, TooHigh}
use Rattle.expression_parser.specs.Phrases.{Phrase, token, sign, ◌then◌}
use Rattle.expression_parser.specs.Grammar.{IsExpression, level, loosest, unary}
use Rattle.expression_parser.specs.Follow.{goes_on, Free}
use Rattle.expression_parser.specs.Steps.{Outcome, ◌>>=◌, expect, least, least_of_sign, why_not}
use Rattle.expression_parser.proofs.Reading.{Bad, Reads, Then, Only, Stops, bind_reads, pure_reads}
use Rattle.expression_parser.proofs.Tokens.{Any, Alive, origin, good_ended, head_kind, Closing, closing, closes, sign_stops, closing_is, is_closing}

abbrev pub Low : ℕ → Tree → Type 0
Low n c = height c ≤ n

abbrev pub Lows : ℕ → Trees → Type 0
Lows n c = heights c ≤ n

pub tall : (e : Tree) → 1 ≤ height e
tall (number p n) = omega arith
tall (truth p b) = omega arith
tall (variable p x) = omega arith
tall (call p x es) = omega arith
tall (index p a i) = omega arith
tall (parentheses p e) = omega arith
tall (negation p e) = omega arith
tall (cast p t e) = omega arith
tall (binary p op a b) = omega arith
tall (declassify p e) = omega arith
tall (argument p x) = omega arith
tall (publish p x e) = omega arith

-- a tree of one token
abbrev pub leaf : Tree
leaf = number origin 0

abbrev pub leaf_token : Token
leaf_token = token origin (kinds.Number 0)

-- every expression begins with a token of which it has at least the least height
pub record Begins (k : ℕ) (c : Tree) (s : List Token) : Type 0 where
  pub place : Span
  pub kind : TokenKind
  pub behind : List Token
  pub split : s ≡ token place kind ∷ behind
  pub n : ℕ
  pub low : least kind ≡ Some n
  pub fits : n ≤ height c

begins_so : (k : ℕ) (c : Tree) (s t t2 : List Token) (p : Span) (kind : TokenKind) (n : ℕ) → s ≡ t ++ t2 → t ≡ token p kind ∷ [] → least kind ≡ Some n
    → n ≤ height c → Begins k c s
begins_so k c s t t2 p kind n e o l f = record {
  place = p;
  kind = kind;
  behind = t2;
  split = e ∙ ap (λ l. l ++ t2) o;
  n = n;
  low = l;
  fits = f;
}

pub begins : (k : ℕ) (c : Tree) (s : List Token) → IsExpression k c s → Begins k c s
begins k (number p n) s v = begins_so k (number p n) s s [] p (kinds.Number n) 1 (sym (append-nil s)) v refl (omega arith)
begins k (truth p true) s v = begins_so k (truth p true) s s [] p (kinds.Sign signs.True) 1 (sym (append-nil s)) v refl (omega arith)
begins k (truth p false) s v = begins_so k (truth p false) s s [] p (kinds.Sign signs.False) 1 (sym (append-nil s)) v refl (omega arith)
begins k (variable p x) s v = begins_so k (variable p x) s s [] p (kinds.Name x) 1 (sym (append-nil s)) v refl (omega arith)
begins k (call p x es) s v = begins_so k (call p x es) s v.0 v.1 p (kinds.Name x) 1 v.2 v.3 refl (omega arith)
begins k (index p a i) s v =
    let w = v.2 in
    let b = begins unary a w.0 w.3 in
    let f = b.fits in
    record {
      place = b.place;
      kind = b.kind;
      behind = b.behind ++ w.1;
      split = w.2 ∙ ap (λ l. l ++ w.1) b.split;
      n = b.n;
      low = b.low;
      fits = omega arith;
    }
begins k (parentheses p e) s v =
    let f = tall e in
    begins_so k (parentheses p e) s v.0 v.1 p (kinds.Sign signs.LeftParenthesis) 2 v.2 v.3 refl (omega arith)
begins k (negation p e) s v =
    let f = tall e in
    begins_so k (negation p e) s v.0 v.1 p (kinds.Sign signs.Exclamation) 2 v.2 v.3 refl (omega arith)
begins k (cast p t e) s v =
    let f = tall e in
    begins_so k (cast p t e) s v.0 v.1 p (kinds.Sign signs.LeftParenthesis) 2 v.2 v.3 refl (omega arith)
begins k (binary p op a b) s v =
    let w = v.2 in
    let b2 = begins (level op) a w.0 w.3 in
    let f = b2.fits in
    record {
      place = b2.place;
      kind = b2.kind;
      behind = b2.behind ++ w.1;
      split = w.2 ∙ ap (λ l. l ++ w.1) b2.split;
      n = b2.n;
      low = b2.low;
      fits = omega arith;
    }
begins k (declassify p e) s v =
    let f = tall e in
    begins_so k (declassify p e) s v.0 v.1 p (kinds.Sign signs.Declassify) 2 v.2 v.3 refl (omega arith)
begins k (argument p x) s v =
    begins_so k (argument p x) s v.0 v.1 p (kinds.Sign signs.Argument) 1 v.2 v.3 refl (omega arith)
begins k (publish p x e) s v =
    let f = tall e in
    begins_so k (publish p x e) s v.0 v.1 p (kinds.Sign signs.Publish) 2 v.2 v.3 refl (omega arith)

-- the first token of a text that begins with an expression
pub first_token : (k : ℕ) (c : Tree) (s m m2 : List Token) (x : Token) → IsExpression k c s → s ++ m ≡ x ∷ m2
    → (n : ℕ) × (least x.kind ≡ Some n) × (n ≤ height c)
first_token k c s m m2 x v eq =
    let b = begins k c s v in
    let f = head_kind s b.behind m m2 b.place b.kind x b.split eq in
    (b.n, ap least (sym f) ∙ b.low, b.fits)

-- some expression begins with each such token
pub record Begun (x : Token) : Type 0 where
  pub tree : Tree
  pub behind : List Token
  pub here : (k : ℕ) → IsExpression k tree (x ∷ behind)

begun_sign : (s : Sign) (x : Token) (n : ℕ) → x.kind ≡ kinds.Sign s → least_of_sign s ≡ Some n → Begun x
begun_sign signs.True x n e l = record { tree = truth x.place true; behind = []; here = λ k. ap (λ z. token x.place z ∷ []) e }
begun_sign signs.False x n e l = record { tree = truth x.place false; behind = []; here = λ k. ap (λ z. token x.place z ∷ []) e }
begun_sign signs.LeftParenthesis x n e l =
    let close = token origin (kinds.Sign signs.RightParenthesis) in
    record {
      tree = parentheses x.place leaf;
      behind = leaf_token ∷ close ∷ [];
      here = λ k. (x ∷ [], leaf_token ∷ close ∷ [], refl, ap (λ z. token x.place z ∷ []) e, (leaf_token ∷ [], close ∷ [], refl, refl, (origin, refl)));
    }
begun_sign signs.Exclamation x n e l = record {
  tree = negation x.place leaf;
  behind = leaf_token ∷ [];
  here = λ k. (x ∷ [], leaf_token ∷ [], refl, ap (λ z. token x.place z ∷ []) e, refl);
}
begun_sign signs.Declassify x n e l =
    let start = token origin (kinds.Sign signs.LeftParenthesis) in
    let close = token origin (kinds.Sign signs.RightParenthesis) in
    record {
      tree = declassify x.place leaf;
      behind = start ∷ leaf_token ∷ close ∷ [];
      here = λ k. (
        x ∷ [],
        start ∷ leaf_token ∷ close ∷ [],
        refl,
        ap (λ z. token x.place z ∷ []) e,
        (start ∷ [], leaf_token ∷ close ∷ [], refl, (origin, refl), (leaf_token ∷ [], close ∷ [], refl, refl, (origin, refl))),
      );
    }
begun_sign signs.Argument x n e l =
    let start = token origin (kinds.Sign signs.LeftParenthesis) in
    let name = token origin (kinds.Text []) in
    let close = token origin (kinds.Sign signs.RightParenthesis) in
    record {
      tree = argument x.place [];
      behind = start ∷ name ∷ close ∷ [];
      here = λ k. (
        x ∷ [],
        start ∷ name ∷ close ∷ [],
        refl,
        ap (λ z. token x.place z ∷ []) e,
        (start ∷ [], name ∷ close ∷ [], refl, (origin, refl), (name ∷ [], close ∷ [], refl, (origin, refl), (origin, refl))),
      );
    }
begun_sign signs.Publish x n e l =
    let start = token origin (kinds.Sign signs.LeftParenthesis) in
    let name = token origin (kinds.Text []) in
    let comma = token origin (kinds.Sign signs.Comma) in
    let close = token origin (kinds.Sign signs.RightParenthesis) in
    record {
      tree = publish x.place [] leaf;
      behind = start ∷ name ∷ comma ∷ leaf_token ∷ close ∷ [];
      here = λ k. (
        x ∷ [],
        start ∷ name ∷ comma ∷ leaf_token ∷ close ∷ [],
        refl,
        ap (λ z. token x.place z ∷ []) e,
        (
          start ∷ [],
          name ∷ comma ∷ leaf_token ∷ close ∷ [],
          refl,
          (origin, refl),
          (
            name ∷ [],
            comma ∷ leaf_token ∷ close ∷ [],
            refl,
            (origin, refl),
            (comma ∷ [], leaf_token ∷ close ∷ [], refl, (origin, refl), (leaf_token ∷ [], close ∷ [], refl, refl, (origin, refl))),
          ),
        ),
      );
    }
begun_sign other x n e l = cc

pub begun : (kind : TokenKind) (x : Token) (n : ℕ) → x.kind ≡ kind → least kind ≡ Some n → Begun x
begun (kinds.Name bytes) x n e l = record { tree = variable x.place bytes; behind = []; here = λ k. ap (λ z. token x.place z ∷ []) e }
begun (kinds.Number i) x n e l = record { tree = number x.place i; behind = []; here = λ k. ap (λ z. token x.place z ∷ []) e }
begun (kinds.Text bytes) x n e l = cc
begun (kinds.Sign s) x n e l = begun_sign s x n e l
begun kinds.End x n e l = cc

-- no expression of at most this height begins with the token
pub start_bad : (k max_height : ℕ) (x : Token) (m : List Token) (p : ParseProblem) → why_not max_height (least x.kind) ≡ Some p
    → Bad (IsExpression k) (Low max_height) (Free k) (x ∷ m) p (x ∷ m)
start_bad k max_height x m p e = go (least x.kind) refl e
  where
    unexpected : least x.kind ≡ None → Bad (IsExpression k) (Low max_height) (Free k) (x ∷ m) Unexpected (x ∷ m)
    unexpected none_is = record {
      s = [];
      x = x;
      m = m;
      split = refl;
      rest = refl;
      before = inl refl;
      never = λ c s' m' m2 v al st eq. let f = first_token k c s' m' m2 x v eq in let g = sym none_is ∙ f.1 in cc;
      begun = tt;
    }

    too_high : (n : ℕ) → least x.kind ≡ Some n → max_height < n → Bad (IsExpression k) (Low max_height) (Free k) (x ∷ m) TooHigh (x ∷ m)
    too_high n is lt =
        let b = begun x.kind x n refl is in
        record {
          s = [];
          x = x;
          m = m;
          split = refl;
          rest = refl;
          before = inl refl;
          never = λ c s' m' m2 v al st eq.
              let f = first_token k c s' m' m2 x v eq in
              let g : Some n ≡ Some f.0 = sym is ∙ f.1 in
              let same : n ≡ f.0 = cc in
              let low = f.2 in
              omega arith;
          begun = (b.tree, b.behind, b.here k);
        }

    at : (n : ℕ) (b : Bool) → least x.kind ≡ Some n → nat_lt max_height n ≡ b → cond b (Some TooHigh) None ≡ Some p
        → Bad (IsExpression k) (Low max_height) (Free k) (x ∷ m) p (x ∷ m)
    at n true is lt e =
        let f : TooHigh ≡ p = cc in
        subst (λ q. Bad (IsExpression k) (Low max_height) (Free k) (x ∷ m) q (x ∷ m)) f (too_high n is (ltb-true max_height n lt))
    at n false is lt e = cc

    go : (o : Option ℕ) → least x.kind ≡ o → why_not max_height o ≡ Some p → Bad (IsExpression k) (Low max_height) (Free k) (x ∷ m) p (x ∷ m)
    go None is e =
        let f : Unexpected ≡ p = cc in
        subst (λ q. Bad (IsExpression k) (Low max_height) (Free k) (x ∷ m) q (x ∷ m)) f (unexpected is)
    go (Some n) is e = at n (nat_lt max_height n) is refl e

-- where one does, there is room for the least one
pub start_fits : (max_height : ℕ) (o : Option ℕ) → why_not max_height o ≡ None → (n : ℕ) × (o ≡ Some n) × (n ≤ max_height)
start_fits max_height None e = cc
start_fits max_height (Some n) e = go (nat_lt max_height n) refl e
  where
    go : (b : Bool) → nat_lt max_height n ≡ b → cond b (Some TooHigh) None ≡ None → (i : ℕ) × (Some n ≡ Some i) × (i ≤ max_height)
    go true t e = cc
    go false t e = (n, refl, ltb-false max_height n t)

-- no expression is lower than a leaf
pub least_positive : (kind : TokenKind) (n : ℕ) → least kind ≡ Some n → 0 < n
least_positive kind n e = go kind e
  where
    sign_go : (s : Sign) → least_of_sign s ≡ Some n → 0 < n
    sign_go signs.True e = let f : 1 ≡ n = cc in omega arith
    sign_go signs.False e = let f : 1 ≡ n = cc in omega arith
    sign_go signs.Argument e = let f : 1 ≡ n = cc in omega arith
    sign_go signs.LeftParenthesis e = let f : 2 ≡ n = cc in omega arith
    sign_go signs.Exclamation e = let f : 2 ≡ n = cc in omega arith
    sign_go signs.Declassify e = let f : 2 ≡ n = cc in omega arith
    sign_go signs.Publish e = let f : 2 ≡ n = cc in omega arith
    sign_go other e = cc

    go : (kind : TokenKind) → least kind ≡ Some n → 0 < n
    go (kinds.Name bytes) e = let f : 1 ≡ n = cc in omega arith
    go (kinds.Number i) e = let f : 1 ≡ n = cc in omega arith
    go (kinds.Text bytes) e = cc
    go (kinds.Sign s) e = sign_go s e
    go kinds.End e = cc

-- an expression, a closing sign, and the tree that f makes of it
abbrev pub Enclosed : Sign → (Tree → Tree) → Tree → Phrase
Enclosed s f = Then (IsExpression loosest) (λ e. Closing s (f e))

pub enclosed_is : (s : Sign) (f : Tree → Tree) (c : Tree) (t : List Token) → Enclosed s f c t → (e : Tree) × (c ≡ f e) × (IsExpression loosest e then sign s) t
enclosed_is s f c t v =
    let b = closing_is s (f v.0) c v.2 v.5 in
    (v.0, b.0, (v.1, v.2, v.3, v.4, b.1))

pub is_enclosed : (s : Sign) (f : Tree → Tree) (e : Tree) (t : List Token) → (IsExpression loosest e then sign s) t → Enclosed s f (f e) t
is_enclosed s f e t v = (e, v.0, v.1, v.2, v.3, is_closing s (f e) v.1 v.4)

-- an operand, and the tree that f makes of it
abbrev pub Made : (Tree → Tree) → Tree → Phrase
Made f = Then (IsExpression unary) (λ e. Only (f e))

pub made_is : (f : Tree → Tree) (c : Tree) (t : List Token) → Made f c t → (e : Tree) × (c ≡ f e) × IsExpression unary e t
made_is f c t v = (v.0, v.5.0, subst (IsExpression unary v.0) (sym (v.3 ∙ ap (λ l. v.1 ++ l) v.5.1 ∙ append-nil v.1)) v.4)

pub is_made : (f : Tree → Tree) (e : Tree) (t : List Token) → IsExpression unary e t → Made f (f e) t
is_made f e t v = (e, t, [], sym (append-nil t), v, (refl, refl))

-- With room for h below a node, where `inner` and `operand` read expressions of at most that height.
module _ (h : ℕ) (inner operand : List Token → Outcome Tree)
    (reads_inner : (w : List Token) → IsEnded w → Reads (IsExpression loosest) (Low h) (Free loosest) w (inner w))
    (reads_operand : (w : List Token) → IsEnded w → Reads (IsExpression unary) (Low h) (Free unary) w (operand w))
  where
    pub enclosed_reads : (s : Sign) (f : Tree → Tree) → goes_on loosest (kinds.Sign s) ≡ false → ((e : Tree) → height (f e) ≤ suc h → height e ≤ h)
        → ((e : Tree) → height e ≤ h → height (f e) ≤ suc h) → (w : List Token) → IsEnded w
        → Reads (Enclosed s f) (Low (suc h)) Any w (inner w >>= λ e. expect s e.1 >>= λ q. Ok (f e.0, q.1))
    enclosed_reads s f free down up w en =
        bind_reads (IsExpression loosest) (Low h) (Free loosest) (λ e. Closing s (f e)) (Low (suc h)) Any
        (λ e c t v fits. down e (subst (Low (suc h)) v.5.0 fits))
        (λ e c t m v st. sign_stops (Free loosest e) s (Only (f e)) c t m (λ q. free) v)
        (λ e t v fits. (f e, token origin (kinds.Sign s) ∷ [], closes s (f e), up e fits))
        (λ e t v. (f e, token origin (kinds.Sign s) ∷ [], closes s (f e)))
        w (inner w) (λ e. expect s e.1 >>= λ q. Ok (f e.0, q.1)) (reads_inner w en)
        (λ e r g. closing s (Low (suc h)) (f e) (up e g.fits) r (good_ended g en))

    pub enclosed_alive : (s : Sign) (f : Tree → Tree) → 1 ≤ h → ((e : Tree) → height e ≤ h → height (f e) ≤ suc h) → Alive (Enclosed s f) (Low (suc h))
    enclosed_alive s f max_height up = (
      f leaf,
      leaf_token ∷ token origin (kinds.Sign s) ∷ [],
      (leaf, leaf_token ∷ [], token origin (kinds.Sign s) ∷ [], refl, refl, closes s (f leaf)),
      up leaf max_height,
    )

    pub made_reads : (f : Tree → Tree) → ((e : Tree) → height (f e) ≤ suc h → height e ≤ h) → ((e : Tree) → height e ≤ h → height (f e) ≤ suc h)
        → (w : List Token) → IsEnded w → Reads (Made f) (Low (suc h)) (Free unary) w (operand w >>= λ e. Ok (f e.0, e.1))
    made_reads f down up w en =
        bind_reads (IsExpression unary) (Low h) (Free unary) (λ e. Only (f e)) (Low (suc h)) (Free unary)
        (λ e c t v fits. down e (subst (Low (suc h)) v.0 fits))
        (λ e c t m v st. subst (λ l. Stops (Free unary e) (l ++ m)) (sym v.1) (same e c m st))
        (λ e t v fits. (f e, [], (refl, refl), up e fits))
        (λ e t v. (f e, [], (refl, refl)))
        w (operand w) (λ e. Ok (f e.0, e.1)) (reads_operand w en)
        (λ e r g. pure_reads (Low (suc h)) (Free unary) r g.x g.m (f e) g.rest (up e g.fits))
      where
        same : (e c : Tree) (m : List Token) → Stops (Free unary c) m → Stops (Free unary e) m
        same e c [] st = st
        same e c (x ∷ m) st = st

    pub made_alive : (f : Tree → Tree) → 1 ≤ h → ((e : Tree) → height e ≤ h → height (f e) ≤ suc h) → Alive (Made f) (Low (suc h))
    made_alive f max_height up = (f leaf, leaf_token ∷ [], (leaf, leaf_token ∷ [], [], refl, refl, (refl, refl)), up leaf max_height)
