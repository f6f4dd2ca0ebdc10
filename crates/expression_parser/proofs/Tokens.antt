-- Readings of single tokens, and of what stands after them.
use Rattle.std.proofs.Common.{◌≡◌, ℕ, ◌≤◌, List, [], ◌∷◌, ◌++◌, inl, refl, sym, ap, ◌∙◌, subst, Ok, Err, length, arith, Bool, true, false, cond, length-append}
use Rattle.std.specs.Prelude.{not, ◌&&◌}
use Rattle.sc_text.specs.declared.span.Span.{Span}
use Rattle.secrec_lexer.specs.Tokens.{is_sign, is_end, is_ended, IsEnded}
use Rattle.secrec_lexer.specs.declared.sign.Sign.{Sign}
use Rattle.secrec_lexer.specs.declared.token.TokenKind.{TokenKind}
use Rattle.secrec_lexer.specs.declared.token.TokenKind.TheVariants as kinds
use Rattle.secrec_lexer.specs.declared.token.Token.{Token}
use Rattle.secrec_lexer.proofs.Signs.{kind_is-true, kind_is-false}
use Rattle.expression_parser.specs.declared.problem.ParseProblem.TheVariants.{Unexpected}
use Rattle.expression_parser.specs.Phrases.{Phrase, token, one_at, one, sign_at, sign}
use Rattle.expression_parser.specs.Steps.{Outcome, ◌>>=◌, expect, text, text_of}
use Rattle.expression_parser.proofs.Reading.{Good, Bad, Reads, Then, Only, Stops, cons_head, second, bind_reads, pure_reads}

-- anything may follow, and everything is low enough
abbrev pub Any : {C : Type 0} → C → Token → Type 0
Any c x = Unit {0}

abbrev pub All : {C : Type 0} → C → Type 0
All c = Unit {0}

abbrev pub origin : Span
origin = record { line = 1; column = 1 }

pub any_stops : (F : Token → Type 0) (t m : List Token) → Stops F m → Stops (λ _. Unit {0}) (t ++ m)
any_stops F [] [] h = h
any_stops F [] (x ∷ m) h = tt
any_stops F (y ∷ t) m h = tt

both : (a b : Bool) → (a && b) ≡ true → (a ≡ true) × (b ≡ true)
both true b e = (refl, e)
both false b e = cc

no_end : (b : Bool) → not b ≡ true → b ≡ false
no_end true e = cc
no_end false e = refl

pub ended_cons : (m : List Token) → IsEnded m → (y : Token) × (n : List Token) × (m ≡ y ∷ n)
ended_cons [] h = cc
ended_cons (y ∷ n) h = (y, n, refl)

ended_tail : (y : Token) (l : List Token) → Stops (λ _. Unit {0}) l → IsEnded (y ∷ l) → IsEnded l
ended_tail y [] n h = absurd n
ended_tail y (z ∷ l) n h = (both (not (is_end y.kind)) (is_ended (z ∷ l)) h).1

pub ended_rest : (s r : List Token) → Stops (λ _. Unit {0}) r → IsEnded (s ++ r) → IsEnded r
ended_rest [] r n h = h
ended_rest (y ∷ s) r n h = ended_rest s r n (ended_tail y (s ++ r) (any_stops (λ _. Unit {0}) s r n) h)

pub good_ended : {A : Type 0} {W : A → Phrase} {Fits : A → Type 0} {F : A → Token → Type 0} {w : List Token} {a : A} {r : List Token}
    → Good W Fits F w a r → IsEnded w → IsEnded r
good_ended {r = r} g h =
    let n : Stops (λ _. Unit {0}) r = subst (Stops (λ _. Unit {0})) (sym g.rest) tt in
    ended_rest g.s r n (subst IsEnded g.split h)

pub good_shorter : {A : Type 0} {W : A → Phrase} {Fits : A → Type 0} {F : A → Token → Type 0} {w : List Token} {a : A} {r : List Token}
    → Good W Fits F w a r → length r ≤ length w
good_shorter {w = w} {r = r} g = omega (arith, ap length g.split, length-append g.s r)

-- the text goes on after a token that is not its end
pub after : (x : Token) (m : List Token) → IsEnded (x ∷ m) → is_end x.kind ≡ false → IsEnded m
after x [] h other = let f = sym h ∙ other in cc
after x (y ∷ m) h other = (both (not (is_end x.kind)) (is_ended (y ∷ m)) h).1

pub after_kind : (x : Token) (m : List Token) (kind : TokenKind) → IsEnded (x ∷ m) → x.kind ≡ kind → is_end kind ≡ false → IsEnded m
after_kind x m kind h e other = after x m h (ap is_end e ∙ other)

pub head_kind : (s t m m2 : List Token) (p : Span) (k : TokenKind) (x : Token) → s ≡ token p k ∷ t → s ++ m ≡ x ∷ m2 → k ≡ x.kind
head_kind s t m m2 p k x e eq = ap (λ z. z.kind) (cons_head (sym (ap (λ l. l ++ m) e) ∙ eq))

-- what a test of a token says of it
pub is_sign-true : (s : Sign) (x : Token) → is_sign s x ≡ true → x.kind ≡ kinds.Sign s
is_sign-true s x e = kind_is-true s x.kind e

pub is_sign-false : (s : Sign) (x : Token) → is_sign s x ≡ false → x.kind ≡ kinds.Sign s → ⊥
is_sign-false s x e = kind_is-false s x.kind e

pub token_good : (F : Span → Token → Type 0) (kind : TokenKind) (x : Token) (m : List Token) → x.kind ≡ kind → IsEnded m
    → Good (λ p. one_at p kind) All F (x ∷ m) x.place m
token_good F kind x m h en =
    let c = ended_cons m en in
    record {
      s = x ∷ [];
      x = c.0;
      m = c.1;
      split = refl;
      rest = c.2;
      here = ap (λ k. token x.place k ∷ []) h;
      fits = tt;
      only = λ b s' m' m2 v st eq.
          let hd = cons_head (sym (ap (λ l. l ++ m') v) ∙ eq) in
          (ap (λ t. t.place) hd, v ∙ ap (λ t. t ∷ []) hd);
    }

pub token_bad : (F : Span → Token → Type 0) (kind : TokenKind) (x : Token) (m : List Token) → (x.kind ≡ kind → ⊥)
    → Bad (λ p. one_at p kind) All F (x ∷ m) Unexpected (x ∷ m)
token_bad F kind x m other = record {
  s = [];
  x = x;
  m = m;
  split = refl;
  rest = refl;
  before = inl refl;
  never = λ b s' m' m2 v al st eq. other (sym (head_kind s' [] m' m2 b kind x v eq));
  begun = tt;
}

pub sign_reads : (s : Sign) (w : List Token) → IsEnded w → Reads (λ p. sign_at p s) All Any w (expect s w)
sign_reads s [] h = cc
sign_reads s (x ∷ m) h = go (is_sign s x) refl
  where
    go : (b : Bool) → is_sign s x ≡ b → Reads (λ p. sign_at p s) All Any (x ∷ m) (cond b (Ok (x.place, m)) (Err (Unexpected, x ∷ m)))
    go true t = let k = is_sign-true s x t in token_good Any (kinds.Sign s) x m k (after_kind x m (kinds.Sign s) h k refl)
    go false t = token_bad Any (kinds.Sign s) x m (is_sign-false s x t)

-- a string: its bytes
pub text_reads : (w : List Token) → IsEnded w → Reads (λ bytes. one (kinds.Text bytes)) All Any w (text w)
text_reads [] h = cc
text_reads (x ∷ m) h = go x.kind refl
  where
    none : (kind : TokenKind) → ((bytes : List ℕ) → kind ≡ kinds.Text bytes → ⊥) → x.kind ≡ kind
        → Bad (λ bytes. one (kinds.Text bytes)) All Any (x ∷ m) Unexpected (x ∷ m)
    none kind other e = record {
      s = [];
      x = x;
      m = m;
      split = refl;
      rest = refl;
      before = inl refl;
      never = λ b s' m' m2 v al st eq. other b (sym e ∙ sym (head_kind s' [] m' m2 v.0 (kinds.Text b) x v.1 eq));
      begun = tt;
    }

    go : (kind : TokenKind) → x.kind ≡ kind → Reads (λ bytes. one (kinds.Text bytes)) All Any (x ∷ m) (text_of kind x m)
    go (kinds.Text bytes) e =
        let c = ended_cons m (after_kind x m (kinds.Text bytes) h e refl) in
        record {
          s = x ∷ [];
          x = c.0;
          m = c.1;
          split = refl;
          rest = c.2;
          here = (x.place, ap (λ k. token x.place k ∷ []) e);
          fits = tt;
          only = λ b s' m' m2 v st eq.
              let hd = cons_head (sym (ap (λ l. l ++ m') v.1) ∙ eq) in
              let same : kinds.Text b ≡ kinds.Text bytes = ap (λ t. t.kind) hd ∙ e in
              (cc, v.1 ∙ ap (λ t. t ∷ []) hd);
        }
    go (kinds.Name bytes) e = none (kinds.Name bytes) (λ b (f : kinds.Name bytes ≡ kinds.Text b). cc) e
    go (kinds.Number n) e = none (kinds.Number n) (λ b (f : kinds.Number n ≡ kinds.Text b). cc) e
    go (kinds.Sign s) e = none (kinds.Sign s) (λ b (f : kinds.Sign s ≡ kinds.Text b). cc) e
    go kinds.End e = none kinds.End (λ b (f : kinds.End ≡ kinds.Text b). cc) e

-- something low enough that the tokens can go on to
abbrev pub Alive : {C : Type 0} → (C → Phrase) → (C → Type 0) → Type 0
Alive {C = C} W Fits = (c : C) × (t : List Token) × W c t × Fits c

-- a token that is known, and then more
pub token_then : {C : Type 0} (kind : TokenKind) (W : Span → C → Phrase) (Fits : C → Type 0) (F : C → Token → Type 0) → is_end kind ≡ false
    → ((p : Span) → Alive (W p) Fits) → (x : Token) (m : List Token) (o : Outcome C) → x.kind ≡ kind → IsEnded (x ∷ m)
    → (IsEnded m → Reads (W x.place) Fits F m o) → Reads (Then (λ p. one_at p kind) W) Fits F (x ∷ m) o
token_then kind W Fits F open_kind alive x m o k en r =
    let en2 = after_kind x m kind en k open_kind in
    second (λ p. one_at p kind) All Any W Fits F (λ p c t v f. tt) (λ p c t m' v st. any_stops (F c) t m' st) (λ p s v f. alive p)
    (λ p s v. let a = alive p in (a.0, a.1, a.2)) (x ∷ m) m x.place o (token_good Any kind x m k en2) (r en2)

-- a sign that is expected, and then more
pub sign_then : {C : Type 0} (s : Sign) (W : C → Phrase) (Fits : C → Type 0) (F : C → Token → Type 0) → Alive W Fits
    → (w : List Token) (f : Span × List Token → Outcome C) → IsEnded w → ((p : Span) (r : List Token) → IsEnded r → Reads W Fits F r (f (p, r)))
    → Reads (Then (λ p. sign_at p s) (λ _. W)) Fits F w (expect s w >>= f)
sign_then s W Fits F alive w f en k =
    bind_reads (λ p. sign_at p s) All Any (λ _. W) Fits F (λ p c t v f. tt) (λ p c t m' v st. any_stops (F c) t m' st) (λ p s v f. alive)
    (λ p s v. (alive.0, alive.1, alive.2)) w (expect s w) f (sign_reads s w en) (λ p r g. k p r (good_ended g en))

-- a string that is expected, and then more
pub text_then : {C : Type 0} (W : List ℕ → C → Phrase) (Fits : C → Type 0) (F : C → Token → Type 0) → ((bytes : List ℕ) → Alive (W bytes) Fits)
    → (w : List Token) (f : List ℕ × List Token → Outcome C) → IsEnded w
    → ((bytes : List ℕ) (r : List Token) → IsEnded r → Reads (W bytes) Fits F r (f (bytes, r)))
    → Reads (Then (λ bytes. one (kinds.Text bytes)) W) Fits F w (text w >>= f)
text_then W Fits F alive w f en k =
    bind_reads (λ bytes. one (kinds.Text bytes)) All Any W Fits F (λ b c t v f. tt) (λ b c t m' v st. any_stops (F c) t m' st) (λ b s v f. alive b)
    (λ b s v. let a = alive b in (a.0, a.1, a.2)) w (text w) f (text_reads w en) (λ b r g. k b r (good_ended g en))

-- a sign at the end, where c is the value
abbrev pub Closing : {C : Type 0} → Sign → C → C → Phrase
Closing s c = Then (λ p. sign_at p s) (λ _. Only c)

pub closing : {C : Type 0} (s : Sign) (Fits : C → Type 0) (c : C) → Fits c → (w : List Token) → IsEnded w
    → Reads (Closing s c) Fits Any w (expect s w >>= λ q. Ok (c, q.1))
closing s Fits c fits w en =
    sign_then s (Only c) Fits Any (c, [], (refl, refl), fits) w (λ q. Ok (c, q.1)) en
    (λ p r enr. let d = ended_cons r enr in pure_reads Fits Any r d.0 d.1 c d.2 fits)

pub closes : {C : Type 0} (s : Sign) (c : C) → Closing s c c (token origin (kinds.Sign s) ∷ [])
closes s c = (origin, token origin (kinds.Sign s) ∷ [], [], refl, refl, (refl, refl))

-- what begins with a sign may stand where that sign may
pub sign_stops : {C : Type 0} (F : Token → Type 0) (s : Sign) (W : C → Phrase) (c : C) (t m : List Token) → ((q : Span) → F (token q (kinds.Sign s)))
    → Then (λ p. sign_at p s) (λ _. W) c t → Stops F (t ++ m)
sign_stops F s W c t m f v = subst (λ l. Stops F (l ++ m)) (sym (v.3 ∙ ap (λ l. l ++ v.2) v.4)) (f v.0)

pub closing_is : {C : Type 0} (s : Sign) (c d : C) (t : List Token) → Closing s c d t → (d ≡ c) × sign s t
closing_is s c d t v = (v.5.0, (v.0, v.3 ∙ ap (λ l. l ++ v.2) v.4 ∙ ap (λ l. token v.0 (kinds.Sign s) ∷ l) v.5.1))

pub is_closing : {C : Type 0} (s : Sign) (c : C) (t : List Token) → sign s t → Closing s c c t
is_closing s c t v = (v.0, token v.0 (kinds.Sign s) ∷ [], [], v.1, refl, (refl, refl))

-- a choice by a test
pub choose : {C : Type 0} (W : C → Phrase) (Fits : C → Type 0) (F : C → Token → Type 0) (w : List Token) (b : Bool) (o1 o2 : Outcome C)
    → (b ≡ true → Reads W Fits F w o1) → (b ≡ false → Reads W Fits F w o2) → Reads W Fits F w (cond b o1 o2)
choose W Fits F w true o1 o2 yes_reads no_reads = yes_reads refl
choose W Fits F w false o1 o2 yes_reads no_reads = no_reads refl
