-- Readings whose value is made from the values of their parts.
use Rattle.std.proofs.Common.{◌≡◌, List, [], ◌∷◌, ◌++◌, ◌⊎◌, inl, inr, refl, sym, ap, ◌∙◌, subst, append-nil, Ok, Err, false}
use Rattle.sc_text.specs.declared.span.Span.{Span}
use Rattle.secrec_lexer.specs.declared.sign.Sign.{Sign}
use Rattle.secrec_lexer.specs.declared.token.TokenKind.{TokenKind}
use Rattle.secrec_lexer.specs.declared.token.Token.{Token}
use Rattle.secrec_lexer.specs.Tokens.{is_end, IsEnded}
use Rattle.expression_parser.specs.declared.problem.ParseProblem.{ParseProblem}
use Rattle.expression_parser.specs.declared.problem.ParseProblem.TheVariants.{Unexpected, TooHigh}
use Rattle.expression_parser.specs.Phrases.{Phrase, one_at, sign_at, sign, ◌then◌}
use Rattle.expression_parser.specs.Steps.{Outcome, ◌>>=◌, expect}
use Rattle.expression_parser.proofs.Reading.{Good, Reads, Allowed, Begun, Stops, Then, second, bad_one}
use Rattle.expression_parser.proofs.Tokens.{Any, All, Alive, any_stops, sign_reads, good_ended, token_then, Closing, closing, closing_is}

-- c is made from what is spelled
abbrev pub Made : {A C : Type 0} → (A → C) → (A → Phrase) → C → Phrase
Made {A = A} f W c ts = (a : A) × (c ≡ f a) × W a ts

-- two values, the second after the first
abbrev pub Both : {A B : Type 0} → (A → Phrase) → (A → B → Phrase) → (A × B) → Phrase
Both W1 W2 v ts = (W1 v.0 then W2 v.0 v.1) ts

-- the same reading under another name
module _ {C : Type 0} (V W : C → Phrase) (Fits : C → Type 0) (F G : C → Token → Type 0)
    (up : (c : C) (s : List Token) → V c s → W c s)
    (down : (c : C) (s : List Token) → W c s → V c s)
    (stop : (c : C) (m : List Token) → Stops (G c) m → Stops (F c) m)
  where
    before_same : (s : List Token) → (s ≡ []) ⊎ ((b : C) × (t : List Token) × V b (s ++ t) × Fits b)
        → (s ≡ []) ⊎ ((b : C) × (t : List Token) × W b (s ++ t) × Fits b)
    before_same s (inl e) = inl e
    before_same s (inr v) = inr (v.0, v.1, up v.0 (s ++ v.1) v.2, v.3)

    begun_same : (p : ParseProblem) (s : List Token) (y : Token) → Begun p ((b : C) × (t : List Token) × V b (s ++ y ∷ t))
        → Begun p ((b : C) × (t : List Token) × W b (s ++ y ∷ t))
    begun_same Unexpected s y v = tt
    begun_same TooHigh s y v = (v.0, v.1, up v.0 (s ++ y ∷ v.1) v.2)

    pub reads_same : (w : List Token) (o : Outcome C) → Reads V Fits F w o → Reads W Fits G w o
    reads_same w (Ok o) g = record {
      s = g.s;
      x = g.x;
      m = g.m;
      split = g.split;
      rest = g.rest;
      here = up o.0 g.s g.here;
      fits = g.fits;
      only = λ b s' m' m2 v st eq. g.only b s' m' m2 (down b s' v) (stop b m' st) eq;
    }
    reads_same w (Err o) g = record {
      s = g.s;
      x = g.x;
      m = g.m;
      split = g.split;
      rest = g.rest;
      before = before_same g.s g.before;
      never = λ b s' m' m2 v al st eq. g.never b s' m' m2 (down b s' v) al (stop b m' st) eq;
      begun = begun_same o.0 g.s g.x g.begun;
    }

-- one part, and then another that may depend on it
module _ {A B C : Type 0} (W1 : A → Phrase) (Fits1 : A → Type 0) (F1 : A → Token → Type 0) (W2 : A → B → Phrase) (f : A → B → C) (Fits2 : C → Type 0)
    (F2 : C → Token → Type 0)
    -- a low whole has a low first part
    (low : (a : A) (b : B) (t : List Token) → W2 a b t → Fits2 (f a b) → Fits1 a)
    -- what the second part begins with may follow the first
    (first : (a : A) (b : B) (t m : List Token) → W2 a b t → Stops (F2 (f a b)) m → Stops (F1 a) (t ++ m))
    -- the first part can be completed, low enough where it is low
    (go_on : (a : A) (s : List Token) → W1 a s → (b : B) × (t : List Token) × W2 a b t × (Fits1 a → Fits2 (f a b)))
  where
    Rest : A → C → Phrase
    Rest a = Made (f a) (W2 a)

    low_rest : (a : A) (c : C) (t : List Token) → Rest a c t → Fits2 c → Fits1 a
    unfolding Rest
    low_rest a c t v h = low a v.0 t v.2 (subst Fits2 v.1 h)

    first_rest : (a : A) (c : C) (t m : List Token) → Rest a c t → Stops (F2 c) m → Stops (F1 a) (t ++ m)
    unfolding Rest
    first_rest a c t m v st = first a v.0 t m v.2 (subst (λ z. Stops (F2 z) m) v.1 st)

    full : (a : A) (s : List Token) → W1 a s → Fits1 a → (c : C) × (t : List Token) × Rest a c t × Fits2 c
    unfolding Rest
    full a s w h = let u = go_on a s w in (f a u.0, u.1, (u.0, refl, u.2), u.3 h)

    wide : (a : A) (s : List Token) → W1 a s → (c : C) × (t : List Token) × Rest a c t
    unfolding Rest
    wide a s w = let u = go_on a s w in (f a u.0, u.1, (u.0, refl, u.2))

    abbrev Whole : C → Phrase
    Whole = Made (λ (v : A × B). f v.0 v.1) (Both W1 W2)

    whole_up : (c : C) (s : List Token) → Then W1 Rest c s → Whole c s
    unfolding Rest
    whole_up c s v = let r = v.5 in ((v.0, r.0), r.1, (v.1, v.2, v.3, v.4, r.2))

    whole_down : (c : C) (s : List Token) → Whole c s → Then W1 Rest c s
    unfolding Rest
    whole_down c s v = let r = v.2 in (v.0.0, r.0, r.1, r.2, r.3, (v.0.1, v.1, r.4))

    whole : (w : List Token) (o : Outcome C) → Reads (Then W1 Rest) Fits2 F2 w o → Reads Whole Fits2 F2 w o
    whole w o r = reads_same (Then W1 Rest) Whole Fits2 F2 F2 whole_up whole_down (λ c m st. st) w o r

    pub seq : (w : List Token) (o : Outcome A) (k : A × List Token → Outcome C) → Reads W1 Fits1 F1 w o
        → ((a : A) (r : List Token) → o ≡ Ok (a, r) → Good W1 Fits1 F1 w a r → Reads (Made (f a) (W2 a)) Fits2 F2 r (k (a, r)))
        → Reads (Made (λ (v : A × B). f v.0 v.1) (Both W1 W2)) Fits2 F2 w (o >>= k)
    unfolding Rest
    seq w (Ok o) k h go =
        whole w (k o) (second W1 Fits1 F1 Rest Fits2 F2 low_rest first_rest full wide w o.1 o.0 (k o) h (go o.0 o.1 refl h))
    seq w (Err e) k h go =
        whole w (Err e) (bad_one W1 Fits1 F1 Rest Fits2 F2 low_rest first_rest full wide w e.1 e.0 h)

-- a value made from one part
module _ {A C : Type 0} (W : A → Phrase) (Fits1 : A → Type 0) (F1 : A → Token → Type 0) (f : A → C) (Fits2 : C → Type 0) (F2 : C → Token → Type 0)
    (low : (a : A) → Fits2 (f a) → Fits1 a)
    (high : (a : A) → Fits1 a → Fits2 (f a))
    (stop : (a : A) (m : List Token) → Stops (F2 (f a)) m → Stops (F1 a) m)
  where
    before_made : (s : List Token) → (s ≡ []) ⊎ ((a : A) × (t : List Token) × W a (s ++ t) × Fits1 a)
        → (s ≡ []) ⊎ ((c : C) × (t : List Token) × Made f W c (s ++ t) × Fits2 c)
    before_made s (inl e) = inl e
    before_made s (inr v) = inr (f v.0, v.1, (v.0, refl, v.2), high v.0 v.3)

    begun_made : (p : ParseProblem) (s : List Token) (y : Token) → Begun p ((a : A) × (t : List Token) × W a (s ++ y ∷ t))
        → Begun p ((c : C) × (t : List Token) × Made f W c (s ++ y ∷ t))
    begun_made Unexpected s y v = tt
    begun_made TooHigh s y v = (f v.0, v.1, (v.0, refl, v.2))

    allowed_made : (p : ParseProblem) (a : A) (c : C) → c ≡ f a → Allowed p (Fits2 c) → Allowed p (Fits1 a)
    allowed_made Unexpected a c e h = tt
    allowed_made TooHigh a c e h = low a (subst Fits2 e h)

    pub made : (w : List Token) (o : Outcome A) → Reads W Fits1 F1 w o → Reads (Made f W) Fits2 F2 w (o >>= λ a. Ok (f a.0, a.1))
    made w (Ok o) g = record {
      s = g.s;
      x = g.x;
      m = g.m;
      split = g.split;
      rest = g.rest;
      here = (o.0, refl, g.here);
      fits = high o.0 g.fits;
      only = λ c s' m' m2 v st eq.
          let u = g.only v.0 s' m' m2 v.2 (stop v.0 m' (subst (λ z. Stops (F2 z) m') v.1 st)) eq in
          (v.1 ∙ ap f u.0, u.1);
    }
    made w (Err o) g = record {
      s = g.s;
      x = g.x;
      m = g.m;
      split = g.split;
      rest = g.rest;
      before = before_made g.s g.before;
      never = λ c s' m' m2 v al st eq.
          g.never v.0 s' m' m2 v.2 (allowed_made o.0 v.0 c v.1 al) (stop v.0 m' (subst (λ z. Stops (F2 z) m') v.1 st)) eq;
      begun = begun_made o.0 g.s g.x g.begun;
    }

-- something that can be made low enough
abbrev pub Living : {B C : Type 0} → (B → C) → (B → Phrase) → (C → Type 0) → Type 0
Living {B = B} f W Fits = (b : B) × (t : List Token) × W b t × Fits (f b)

living : {B C : Type 0} (f : B → C) (W : B → Phrase) (Fits : C → Type 0) → Living f W Fits → Alive (Made f W) Fits
living f W Fits u = (f u.0, u.1, (u.0, refl, u.2), u.3)

-- a token that is known, and then more that may depend on its place
module _ {B C : Type 0} (kind : TokenKind) (W : Span → B → Phrase) (f : Span → B → C) (Fits : C → Type 0) (F : C → Token → Type 0)
    (goes_on : is_end kind ≡ false)
    (alive : (p : Span) → Living (f p) (W p) Fits)
  where
    abbrev Known : C → Phrase
    Known = Made (λ (v : Span × B). f v.0 v.1) (Both (λ p. one_at p kind) W)

    known_up : (c : C) (s : List Token) → Then (λ p. one_at p kind) (λ p. Made (f p) (W p)) c s → Known c s
    known_up c s v = let r = v.5 in ((v.0, r.0), r.1, (v.1, v.2, v.3, v.4, r.2))

    known_down : (c : C) (s : List Token) → Known c s → Then (λ p. one_at p kind) (λ p. Made (f p) (W p)) c s
    known_down c s v = let r = v.2 in (v.0.0, r.0, r.1, r.2, r.3, (v.0.1, v.1, r.4))

    pub known : (x : Token) (m : List Token) (o : Outcome C) → x.kind ≡ kind → IsEnded (x ∷ m)
        → (IsEnded m → Reads (Made (f x.place) (W x.place)) Fits F m o)
        → Reads (Made (λ (v : Span × B). f v.0 v.1) (Both (λ p. one_at p kind) W)) Fits F (x ∷ m) o
    known x m o k en r =
        reads_same (Then (λ p. one_at p kind) (λ p. Made (f p) (W p))) Known Fits F F known_up known_down (λ c m st. st) (x ∷ m) o
        (token_then kind (λ p. Made (f p) (W p)) Fits F goes_on (λ p. living (f p) (W p) Fits (alive p)) x m o k en r)

-- a sign that is expected, and then more
module _ {B C : Type 0} (s : Sign) (W : B → Phrase) (f : B → C) (Fits : C → Type 0) (F : C → Token → Type 0) (alive : Living f W Fits) where
  sign_up : (c : C) (ts : List Token) → Made (λ (v : Span × B). f v.1) (Both (λ p. sign_at p s) (λ p. W)) c ts → Made f (λ b. sign s then W b) c ts
  sign_up c ts v = let r = v.2 in (v.0.1, v.1, (r.0, r.1, r.2, (v.0.0, r.3), r.4))

  sign_down : (c : C) (ts : List Token) → Made f (λ b. sign s then W b) c ts → Made (λ (v : Span × B). f v.1) (Both (λ p. sign_at p s) (λ p. W)) c ts
  sign_down c ts v = let r = v.2 in ((r.3.0, v.0), v.1, (r.0, r.1, r.2, r.3.1, r.4))

  pub sign_seq : (w : List Token) (k : Span × List Token → Outcome C) → IsEnded w
      → ((p : Span) (r : List Token) → IsEnded r → Reads (Made f W) Fits F r (k (p, r))) → Reads (Made f (λ b. sign s then W b)) Fits F w (expect s w >>= k)
  sign_seq w k en go =
      reads_same (Made (λ (v : Span × B). f v.1) (Both (λ p. sign_at p s) (λ p. W))) (Made f (λ b. sign s then W b)) Fits F F sign_up sign_down
      (λ c m st. st) w (expect s w >>= k)
      (seq (λ p. sign_at p s) All Any (λ p. W) (λ p. f) Fits F
      (λ a b t v h. tt)
      (λ a b t m v st. any_stops (F (f b)) t m st)
      (λ a ts v. (alive.0, alive.1, alive.2, λ h. alive.3))
      w (expect s w) k (sign_reads s w en) (λ p r is g. go p r (good_ended g en)))

-- a sign at the end
pub sign_end : {C : Type 0} (s : Sign) (c : C) (Fits : C → Type 0) → Fits c → (w : List Token) → IsEnded w
    → Reads (Made (λ (u : Unit {0}). c) (λ u. sign s)) Fits Any w (expect s w >>= λ q. Ok (c, q.1))
sign_end s c Fits fits w en =
    reads_same (Closing s c) (Made (λ (u : Unit {0}). c) (λ u. sign s)) Fits Any Any
    (λ d t v. let r = closing_is s c d t v in (tt, r.0, r.1))
    (λ d t v. (v.2.0, t, [], sym (append-nil t), v.2.1, (v.1, refl)))
    (λ d m st. st) w (expect s w >>= λ q. Ok (c, q.1)) (closing s Fits c fits w en)
