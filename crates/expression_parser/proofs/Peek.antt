-- The same reading under another name, where the next two tokens are known.
use Rattle.std.proofs.Common.{◌≡◌, List, [], ◌∷◌, ◌++◌, ◌⊎◌, inl, inr, refl, sym, ap, ◌∙◌, subst, Ok, Err}
use Rattle.expression_parser.specs.declared.problem.ParseProblem.{ParseProblem}
use Rattle.expression_parser.specs.declared.problem.ParseProblem.TheVariants.{Unexpected, TooHigh}
use Rattle.secrec_lexer.specs.declared.token.Token.{Token}
use Rattle.expression_parser.specs.Phrases.{Phrase}
use Rattle.expression_parser.specs.Steps.{Outcome}
use Rattle.expression_parser.proofs.Reading.{Bad, Reads, Allowed, Begun, Stops, cons_head, cons_tail}

-- a text that begins with x and y still does when what follows its next token changes, unless that token is x
two_heads : (s : List Token) (z x y : Token) (m n k : List Token) → s ++ z ∷ m ≡ x ∷ y ∷ n → ((s ≡ []) ⊎ ((k2 : List Token) × (s ++ z ∷ k ≡ x ∷ y ∷ k2)))
two_heads [] z x y m n k e = inl refl
two_heads (a ∷ []) z x y m n k e =
    inr (k, ap (λ u. u ∷ z ∷ k) (cons_head e) ∙ ap (λ u. x ∷ u ∷ k) (cons_head (cons_tail e)))
two_heads (a ∷ b ∷ s) z x y m n k e =
    inr (s ++ z ∷ k, ap (λ u. u ∷ b ∷ (s ++ z ∷ k)) (cons_head e) ∙ ap (λ u. x ∷ u ∷ (s ++ z ∷ k)) (cons_head (cons_tail e)))

module _ {C : Type 0} (V W : C → Phrase) (Fits : C → Type 0) (F G : C → Token → Type 0) (x y : Token)
    (up : (c : C) (s : List Token) → V c s → W c s)
    (down : (c : C) (s m m2 : List Token) → W c s → Stops (G c) m → s ++ m ≡ x ∷ y ∷ m2 → V c s)
    (stop : (c : C) (m : List Token) → Stops (G c) m → Stops (F c) m)
    -- something low enough begins with x, and nothing is empty
    (alive : (c : C) × (t : List Token) × (z : Token) × V c (x ∷ t) × Fits c × F c z)
    (some : (c : C) → V c [] → ⊥)
  where
    -- the fault does not stand at x
    not_first : (p : ParseProblem) (w r : List Token) (g : Bad V Fits F w p r) → g.s ≡ [] → g.x ≡ x → ⊥
    not_first p w r g e f =
        let a = alive in
        g.never a.0 (x ∷ a.1) (a.2 ∷ []) (a.1 ++ a.2 ∷ []) a.3 (low p a.4) a.5
        (ap (λ u. u ∷ (a.1 ++ a.2 ∷ [])) (sym f) ∙ ap (λ s. s ++ g.x ∷ (a.1 ++ a.2 ∷ [])) (sym e))
      where
        low : (p : ParseProblem) → Fits alive.0 → Allowed p (Fits alive.0)
        low Unexpected h = tt
        low TooHigh h = h

    begun_peek : (p : ParseProblem) (s : List Token) (z : Token) → Begun p ((b : C) × (t : List Token) × V b (s ++ z ∷ t))
        → Begun p ((b : C) × (t : List Token) × W b (s ++ z ∷ t))
    begun_peek Unexpected s z v = tt
    begun_peek TooHigh s z v = (v.0, v.1, up v.0 (s ++ z ∷ v.1) v.2)

    before_peek : (s : List Token) → (s ≡ []) ⊎ ((b : C) × (t : List Token) × V b (s ++ t) × Fits b)
        → (s ≡ []) ⊎ ((b : C) × (t : List Token) × W b (s ++ t) × Fits b)
    before_peek s (inl e) = inl e
    before_peek s (inr v) = inr (v.0, v.1, up v.0 (s ++ v.1) v.2, v.3)

    pub reads_peek : (w m : List Token) (o : Outcome C) → w ≡ x ∷ y ∷ m → Reads V Fits F w o → Reads W Fits G w o
    reads_peek w m (Ok o) e g = record {
      s = g.s;
      x = g.x;
      m = g.m;
      split = g.split;
      rest = g.rest;
      here = up o.0 g.s g.here;
      fits = g.fits;
      only = λ b s' m' m2 v st eq. go b s' m' m2 v st eq (two_heads g.s g.x x y g.m m m2 (sym (g.split ∙ ap (λ l. g.s ++ l) g.rest) ∙ e));
    }
      where
        go : (b : C) (s' m' m2 : List Token) → W b s' → Stops (G b) m' → s' ++ m' ≡ g.s ++ g.x ∷ m2
            → ((g.s ≡ []) ⊎ ((k : List Token) × (g.s ++ g.x ∷ m2 ≡ x ∷ y ∷ k))) → (b ≡ o.0) × (s' ≡ g.s)
        go b s' m' m2 v st eq (inl z) = absurd (some o.0 (subst (V o.0) z g.here))
        go b s' m' m2 v st eq (inr h) = g.only b s' m' m2 (down b s' m' h.0 v st (eq ∙ h.1)) (stop b m' st) eq
    reads_peek w m (Err o) e g = record {
      s = g.s;
      x = g.x;
      m = g.m;
      split = g.split;
      rest = g.rest;
      before = before_peek g.s g.before;
      never = λ b s' m' m2 v al st eq. go b s' m' m2 v al st eq (two_heads g.s g.x x y g.m m m2 (sym g.split ∙ e));
      begun = begun_peek o.0 g.s g.x g.begun;
    }
      where
        head_is : g.s ≡ [] → g.x ≡ x
        head_is z = cons_head (ap (λ l. l ++ g.x ∷ g.m) (sym z) ∙ sym g.split ∙ e)

        go : (b : C) (s' m' m2 : List Token) → W b s' → Allowed o.0 (Fits b) → Stops (G b) m' → s' ++ m' ≡ g.s ++ g.x ∷ m2
            → ((g.s ≡ []) ⊎ ((k : List Token) × (g.s ++ g.x ∷ m2 ≡ x ∷ y ∷ k))) → ⊥
        go b s' m' m2 v al st eq (inl z) = not_first o.0 w o.1 g z (head_is z)
        go b s' m' m2 v al st eq (inr h) = g.never b s' m' m2 (down b s' m' h.0 v st (eq ∙ h.1)) al (stop b m' st) eq
