-- What it means that a step of a parser reads a phrase, and how steps compose.
use Rattle.std.proofs.Common.{◌≡◌, List, [], ◌∷◌, ◌++◌, ◌⊎◌, inl, inr, refl, sym, ap, ◌∙◌, subst, append_assoc, Ok, Err}
use Rattle.secrec_lexer.specs.declared.token.Token.{Token}
use Rattle.expression_parser.specs.declared.problem.ParseProblem.{ParseProblem}
use Rattle.expression_parser.specs.declared.problem.ParseProblem.TheVariants.{Unexpected, TooHigh}
use Rattle.expression_parser.specs.Phrases.{Phrase}
use Rattle.expression_parser.specs.Steps.{Outcome, ◌>>=◌}

abbrev pub Allowed : ParseProblem → Type 0 → Type 0
Allowed Unexpected P = Unit {0}
Allowed TooHigh P = P

abbrev pub Begun : ParseProblem → Type 0 → Type 0
Begun Unexpected P = Unit {0}
Begun TooHigh P = P

-- the next token is one that may stand after
abbrev pub Stops : (Token → Type 0) → List Token → Type 0
Stops F [] = ⊥
Stops F (x ∷ m) = F x

pub record Good {A : Type 0} (W : A → Phrase) (Fits : A → Type 0) (F : A → Token → Type 0) (w : List Token) (a : A) (r : List Token) : Type 0 where
  pub s : List Token
  pub x : Token
  pub m : List Token
  pub split : w ≡ s ++ r
  pub rest : r ≡ x ∷ m
  pub here : W a s
  pub fits : Fits a
  pub only : (b : A) (s' m' m2 : List Token) → W b s' → Stops (F b) m' → s' ++ m' ≡ s ++ x ∷ m2 → (b ≡ a) × (s' ≡ s)

pub record Bad {A : Type 0} (W : A → Phrase) (Fits : A → Type 0) (F : A → Token → Type 0) (w : List Token) (p : ParseProblem) (r : List Token) : Type 0 where
  pub s : List Token
  pub x : Token
  pub m : List Token
  pub split : w ≡ s ++ x ∷ m
  pub rest : r ≡ x ∷ m
  pub before : (s ≡ []) ⊎ ((b : A) × (t : List Token) × W b (s ++ t) × Fits b)
  pub never : (b : A) (s' m' m2 : List Token) → W b s' → Allowed p (Fits b) → Stops (F b) m' → s' ++ m' ≡ s ++ x ∷ m2 → ⊥
  pub begun : Begun p ((b : A) × (t : List Token) × W b (s ++ x ∷ t))

abbrev pub Reads : {A : Type 0} → (A → Phrase) → (A → Type 0) → (A → Token → Type 0) → List Token → Outcome A → Type 0
Reads W Fits F w (Ok o) = Good W Fits F w o.0 o.1
Reads W Fits F w (Err o) = Bad W Fits F w o.0 o.1

-- one phrase, and then another that depends on what was read
abbrev pub Then : {A C : Type 0} → (A → Phrase) → (A → C → Phrase) → C → Phrase
Then {A = A} W1 W2 c ts = (a : A) × (s t : List Token) × (ts ≡ s ++ t) × W1 a s × W2 a c t

pub cons_head : {x y : Token} {m n : List Token} → x ∷ m ≡ y ∷ n → x ≡ y
cons_head e = cc

pub cons_tail : {x y : Token} {m n : List Token} → x ∷ m ≡ y ∷ n → m ≡ n
cons_tail e = cc

pub cancel : (s t u : List Token) → s ++ t ≡ s ++ u → t ≡ u
cancel [] t u e = e
cancel (x ∷ s) t u e = cancel s t u (cons_tail e)

-- a text that begins with x still does when what follows its next token changes
pub same_head : (s : List Token) (y x : Token) (m n k : List Token) → s ++ y ∷ m ≡ x ∷ n → (k2 : List Token) × (s ++ y ∷ k ≡ x ∷ k2)
same_head [] y x m n k e = (k, ap (λ z. z ∷ k) (cons_head e))
same_head (z ∷ s) y x m n k e = (s ++ y ∷ k, ap (λ v. v ∷ (s ++ y ∷ k)) (cons_head e))

module _ {A C : Type 0} (W1 : A → Phrase) (Fits1 : A → Type 0) (F1 : A → Token → Type 0) (W2 : A → C → Phrase) (Fits2 : C → Type 0) (F2 : C → Token → Type 0)
    (down : (a : A) (c : C) (t : List Token) → W2 a c t → Fits2 c → Fits1 a)
    (first : (a : A) (c : C) (t m : List Token) → W2 a c t → Stops (F2 c) m → Stops (F1 a) (t ++ m))
    (full : (a : A) (s : List Token) → W1 a s → Fits1 a → (c : C) × (t : List Token) × W2 a c t × Fits2 c)
    (wide : (a : A) (s : List Token) → W1 a s → (c : C) × (t : List Token) × W2 a c t)
  where
    allowed : (p : ParseProblem) (a : A) (c : C) (t : List Token) → W2 a c t → Allowed p (Fits2 c) → Allowed p (Fits1 a)
    allowed Unexpected a c t w h = tt
    allowed TooHigh a c t w h = down a c t w h

    -- the first part of another reading is the part that was read
    same_front : (w r1 : List Token) (a : A) → (g : Good W1 Fits1 F1 w a r1) → (s2 : List Token) (y : Token) (m2 : List Token) → r1 ≡ s2 ++ y ∷ m2
        → (b : A) (c : C) (t1 t2 m' m3 : List Token) → W1 b t1 → W2 b c t2 → Stops (F2 c) m' → (t1 ++ t2) ++ m' ≡ (g.s ++ s2) ++ y ∷ m3
        → (b ≡ a) × (t1 ≡ g.s) × (t2 ++ m' ≡ s2 ++ y ∷ m3)
    same_front w r1 a g s2 y m2 e b c t1 t2 m' m3 w1 w2 st eq =
        let h = same_head s2 y g.x m2 g.m m3 (sym e ∙ g.rest) in
        let eq1 : t1 ++ (t2 ++ m') ≡ g.s ++ (s2 ++ y ∷ m3) = sym (append_assoc t1 t2 m') ∙ eq ∙ append_assoc g.s s2 (y ∷ m3) in
        let o = g.only b t1 (t2 ++ m') h.0 w1 (first b c t2 m' w2 st) (eq1 ∙ ap (λ l. g.s ++ l) h.1) in
        let eq2 : g.s ++ (t2 ++ m') ≡ g.s ++ (s2 ++ y ∷ m3) = ap (λ l. l ++ (t2 ++ m')) (sym o.1) ∙ eq1 in
        (o.0, o.1, cancel g.s (t2 ++ m') (s2 ++ y ∷ m3) eq2)

    good_good : (w r1 r2 : List Token) (a : A) (c : C) → Good W1 Fits1 F1 w a r1 → Good (W2 a) Fits2 F2 r1 c r2 → Good (Then W1 W2) Fits2 F2 w c r2
    good_good w r1 r2 a c g h = record {
      s = g.s ++ h.s;
      x = h.x;
      m = h.m;
      split = g.split ∙ ap (λ l. g.s ++ l) h.split ∙ sym (append_assoc g.s h.s r2);
      rest = h.rest;
      here = (a, g.s, h.s, refl, g.here, h.here);
      fits = h.fits;
      only = λ c' s' m' m3 v st eq.
          let f = same_front w r1 a g h.s h.x h.m (h.split ∙ ap (λ l. h.s ++ l) h.rest) v.0 c' v.1 v.2 m' m3 v.4 v.5 st (ap (λ l. l ++ m') (sym v.3) ∙ eq) in
          let w2 = subst (λ z. W2 z c' v.2) f.0 v.5 in
          let o = h.only c' v.2 m' m3 w2 st f.2 in
          (o.0, v.3 ∙ ap (λ l. l ++ v.2) f.1 ∙ ap (λ l. g.s ++ l) o.1);
    }

    before_two : (s1 s2 : List Token) (a : A) → W1 a s1 → Fits1 a → (s2 ≡ []) ⊎ ((c : C) × (t : List Token) × W2 a c (s2 ++ t) × Fits2 c)
        → (s1 ++ s2 ≡ []) ⊎ ((c : C) × (t : List Token) × Then W1 W2 c ((s1 ++ s2) ++ t) × Fits2 c)
    before_two s1 s2 a h f (inl e) =
        let u = full a s1 h f in
        inr (u.0, u.1, (a, s1, u.1, append_assoc s1 s2 u.1 ∙ ap (λ l. s1 ++ (l ++ u.1)) e, h, u.2), u.3)
    before_two s1 s2 a h f (inr v) = inr (v.0, v.1, (a, s1, s2 ++ v.1, append_assoc s1 s2 v.1, h, v.2), v.3)

    before_one : (s : List Token) → (s ≡ []) ⊎ ((a : A) × (t : List Token) × W1 a (s ++ t) × Fits1 a)
        → (s ≡ []) ⊎ ((c : C) × (t : List Token) × Then W1 W2 c (s ++ t) × Fits2 c)
    before_one s (inl e) = inl e
    before_one s (inr v) =
        let u = full v.0 (s ++ v.1) v.2 v.3 in
        inr (u.0, v.1 ++ u.1, (v.0, s ++ v.1, u.1, sym (append_assoc s v.1 u.1), v.2, u.2), u.3)

    begun_two : (p : ParseProblem) (s1 s2 : List Token) (x : Token) (a : A) → W1 a s1 → Begun p ((c : C) × (t : List Token) × W2 a c (s2 ++ x ∷ t))
        → Begun p ((c : C) × (t : List Token) × Then W1 W2 c ((s1 ++ s2) ++ x ∷ t))
    begun_two Unexpected s1 s2 x a h v = tt
    begun_two TooHigh s1 s2 x a h v = (v.0, v.1, (a, s1, s2 ++ x ∷ v.1, append_assoc s1 s2 (x ∷ v.1), h, v.2))

    begun_one : (p : ParseProblem) (s : List Token) (x : Token) → Begun p ((a : A) × (t : List Token) × W1 a (s ++ x ∷ t))
        → Begun p ((c : C) × (t : List Token) × Then W1 W2 c (s ++ x ∷ t))
    begun_one Unexpected s x v = tt
    begun_one TooHigh s x v =
        let u = wide v.0 (s ++ x ∷ v.1) v.2 in
        (u.0, v.1 ++ u.1, (v.0, s ++ x ∷ v.1, u.1, sym (append_assoc s (x ∷ v.1) u.1), v.2, u.2))

    good_bad : (w r1 r2 : List Token) (a : A) (p : ParseProblem) → Good W1 Fits1 F1 w a r1 → Bad (W2 a) Fits2 F2 r1 p r2 → Bad (Then W1 W2) Fits2 F2 w p r2
    good_bad w r1 r2 a p g h = record {
      s = g.s ++ h.s;
      x = h.x;
      m = h.m;
      split = g.split ∙ ap (λ l. g.s ++ l) h.split ∙ sym (append_assoc g.s h.s (h.x ∷ h.m));
      rest = h.rest;
      before = before_two g.s h.s a g.here g.fits h.before;
      never = λ c' s' m' m3 v al st eq.
          let f = same_front w r1 a g h.s h.x h.m h.split v.0 c' v.1 v.2 m' m3 v.4 v.5 st (ap (λ l. l ++ m') (sym v.3) ∙ eq) in
          let w2 = subst (λ z. W2 z c' v.2) f.0 v.5 in
          h.never c' v.2 m' m3 w2 al st f.2;
      begun = begun_two p g.s h.s h.x a g.here h.begun;
    }

    pub bad_one : (w r : List Token) (p : ParseProblem) → Bad W1 Fits1 F1 w p r → Bad (Then W1 W2) Fits2 F2 w p r
    bad_one w r p h = record {
      s = h.s;
      x = h.x;
      m = h.m;
      split = h.split;
      rest = h.rest;
      before = before_one h.s h.before;
      never = λ c' s' m' m3 v al st eq.
          h.never v.0 v.1 (v.2 ++ m') m3 v.4 (allowed p v.0 c' v.2 v.5 al) (first v.0 c' v.2 m' v.5 st)
          (sym (append_assoc v.1 v.2 m') ∙ ap (λ l. l ++ m') (sym v.3) ∙ eq);
      begun = begun_one p h.s h.x h.begun;
    }

    pub second : (w r1 : List Token) (a : A) (o : Outcome C) → Good W1 Fits1 F1 w a r1 → Reads (W2 a) Fits2 F2 r1 o → Reads (Then W1 W2) Fits2 F2 w o
    second w r1 a (Ok o) g h = good_good w r1 o.1 a o.0 g h
    second w r1 a (Err e) g h = good_bad w r1 e.1 a e.0 g h

    pub bind_reads : (w : List Token) (o : Outcome A) (f : A × List Token → Outcome C) → Reads W1 Fits1 F1 w o
        → ((a : A) (r : List Token) → Good W1 Fits1 F1 w a r → Reads (W2 a) Fits2 F2 r (f (a, r))) → Reads (Then W1 W2) Fits2 F2 w (o >>= f)
    bind_reads w (Ok o) f h k = second w o.1 o.0 (f o) h (k o.0 o.1 h)
    bind_reads w (Err e) f h k = bad_one w e.1 e.0 h

-- nothing is read, and c is the value
abbrev pub Only : {C : Type 0} → C → C → Phrase
Only c b ts = (b ≡ c) × (ts ≡ [])

pub pure_reads : {C : Type 0} (Fits : C → Type 0) (F : C → Token → Type 0) (w : List Token) (x : Token) (m : List Token) (c : C) → w ≡ x ∷ m → Fits c
    → Good (Only c) Fits F w c w
pure_reads Fits F w x m c e f = record {
  s = [];
  x = x;
  m = m;
  split = refl;
  rest = e;
  here = (refl, refl);
  fits = f;
  only = λ b s' m' m2 v st eq. v;
}

-- the same reading under another name, where the next token is x
module _ {C : Type 0} (V W : C → Phrase) (Fits : C → Type 0) (F G : C → Token → Type 0) (x : Token)
    (up : (c : C) (s : List Token) → V c s → W c s)
    (down : (c : C) (s m m2 : List Token) → W c s → Stops (G c) m → s ++ m ≡ x ∷ m2 → V c s)
    (stop : (c : C) (m : List Token) → Stops (G c) m → Stops (F c) m)
  where
    before_as : (s : List Token) → (s ≡ []) ⊎ ((b : C) × (t : List Token) × V b (s ++ t) × Fits b)
        → (s ≡ []) ⊎ ((b : C) × (t : List Token) × W b (s ++ t) × Fits b)
    before_as s (inl e) = inl e
    before_as s (inr v) = inr (v.0, v.1, up v.0 (s ++ v.1) v.2, v.3)

    begun_as : (p : ParseProblem) (s : List Token) → Begun p ((b : C) × (t : List Token) × V b (s ++ t)) → Begun p ((b : C) × (t : List Token) × W b (s ++ t))
    begun_as Unexpected s v = tt
    begun_as TooHigh s v = (v.0, v.1, up v.0 (s ++ v.1) v.2)

    begun_cons : (p : ParseProblem) (s : List Token) (y : Token) → Begun p ((b : C) × (t : List Token) × V b (s ++ y ∷ t))
        → Begun p ((b : C) × (t : List Token) × W b (s ++ y ∷ t))
    begun_cons Unexpected s y v = tt
    begun_cons TooHigh s y v = (v.0, v.1, up v.0 (s ++ y ∷ v.1) v.2)

    pub reads_as : (w m : List Token) (o : Outcome C) → w ≡ x ∷ m → Reads V Fits F w o → Reads W Fits G w o
    reads_as w m (Ok o) e g = record {
      s = g.s;
      x = g.x;
      m = g.m;
      split = g.split;
      rest = g.rest;
      here = up o.0 g.s g.here;
      fits = g.fits;
      only = λ b s' m' m2 v st eq.
          let h = same_head g.s g.x x g.m m m2 (sym (g.split ∙ ap (λ l. g.s ++ l) g.rest) ∙ e) in
          g.only b s' m' m2 (down b s' m' h.0 v st (eq ∙ h.1)) (stop b m' st) eq;
    }
    reads_as w m (Err o) e g = record {
      s = g.s;
      x = g.x;
      m = g.m;
      split = g.split;
      rest = g.rest;
      before = before_as g.s g.before;
      never = λ b s' m' m2 v al st eq.
          let h = same_head g.s g.x x g.m m m2 (sym g.split ∙ e) in
          g.never b s' m' m2 (down b s' m' h.0 v st (eq ∙ h.1)) al (stop b m' st) eq;
      begun = begun_cons o.0 g.s g.x g.begun;
    }
