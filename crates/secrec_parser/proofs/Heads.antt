-- Readings that the next token decides.
use Rattle.std.proofs.Common.{◌≡◌, List, [], ◌∷◌, ◌++◌, ◌⊎◌, inl, inr, refl, sym, ap, ◌∙◌, subst, Ok, Err, Option, Some, None}
use Rattle.secrec_lexer.specs.declared.token.Token.{Token}
use Rattle.secrec_lexer.specs.Tokens.{IsEnded}
use Rattle.expression_parser.specs.declared.problem.ParseProblem.{ParseProblem}
use Rattle.expression_parser.specs.declared.problem.ParseProblem.TheVariants.{Unexpected, TooHigh}
use Rattle.expression_parser.specs.Phrases.{Phrase}
use Rattle.expression_parser.specs.Steps.{Outcome, ◌>>=◌}
use Rattle.expression_parser.proofs.Reading.{Good, Bad, Reads, Begun, Stops, cons_head, reads_as}
use Rattle.expression_parser.proofs.Tokens.{ended_cons}
use Rattle.secrec_parser.specs.Grammar.{BeginsAt, optional}
use Rattle.secrec_parser.proofs.Made.{Made, made}

module _ {C : Type 0} (W : C → Phrase) (Fits : C → Type 0) (F : C → Token → Type 0) (x : Token) (m : List Token) where
  -- nothing is read
  pub nothing_reads : (c : C) → W c [] → Fits c → ((b : C) (s m' m2 : List Token) → W b s → Stops (F b) m' → s ++ m' ≡ x ∷ m2 → (b ≡ c) × (s ≡ []))
      → Good W Fits F (x ∷ m) c (x ∷ m)
  nothing_reads c here fits only = record {
    s = [];
    x = x;
    m = m;
    split = refl;
    rest = refl;
    here = here;
    fits = fits;
    only = λ b s' m' m2 v st eq. only b s' m' m2 v st eq;
  }

  -- the next token is read
  pub one_reads : (c : C) → IsEnded m → W c (x ∷ []) → Fits c
      → ((b : C) (s m' m2 : List Token) → W b s → Stops (F b) m' → s ++ m' ≡ x ∷ m2 → (b ≡ c) × (s ≡ x ∷ [])) → Good W Fits F (x ∷ m) c m
  one_reads c en here fits only =
      let d = ended_cons m en in
      record {
        s = x ∷ [];
        x = d.0;
        m = d.1;
        split = refl;
        rest = d.2;
        here = here;
        fits = fits;
        only = λ b s' m' m2 v st eq. only b s' m' (d.0 ∷ m2) v st eq;
      }

  pub unexpected : ((b : C) (s m' m2 : List Token) → W b s → Stops (F b) m' → s ++ m' ≡ x ∷ m2 → ⊥) → Bad W Fits F (x ∷ m) Unexpected (x ∷ m)
  unexpected never = record {
    s = [];
    x = x;
    m = m;
    split = refl;
    rest = refl;
    before = inl refl;
    never = λ b s' m' m2 v al st eq. never b s' m' m2 v st eq;
    begun = tt;
  }

  pub too_high : ((b : C) (s m' m2 : List Token) → W b s → Fits b → Stops (F b) m' → s ++ m' ≡ x ∷ m2 → ⊥)
      → ((b : C) × (t : List Token) × W b (x ∷ t)) → Bad W Fits F (x ∷ m) TooHigh (x ∷ m)
  too_high never begun = record {
    s = [];
    x = x;
    m = m;
    split = refl;
    rest = refl;
    before = inl refl;
    never = λ b s' m' m2 v al st eq. never b s' m' m2 v al st eq;
    begun = begun;
  }

-- a part that may be left out, where it is not
module _ {A : Type 0} (W : A → Phrase) (Fits1 : A → Type 0) (F1 : A → Token → Type 0) (Fits : Option A → Type 0) (F : Option A → Token → Type 0)
    (low : (a : A) → Fits (Some a) → Fits1 a)
    (high : (a : A) → Fits1 a → Fits (Some a))
    (stop : (a : A) (m : List Token) → Stops (F (Some a)) m → Stops (F1 a) m)
  where
    some_up : (c : Option A) (s : List Token) → Made Some W c s → optional W c s
    some_up c s v = subst (λ z. optional W z s) (sym v.1) v.2

    some_down : (x : Token) → (F None x → ⊥) → (c : Option A) (s m m2 : List Token) → optional W c s → Stops (F c) m → s ++ m ≡ x ∷ m2 → Made Some W c s
    some_down x other None s m m2 v st eq =
        absurd (other (subst (Stops (F None)) (ap (λ l. l ++ m) (sym v) ∙ eq) st))
    some_down x other (Some a) s m m2 v st eq = (a, refl, v)

    pub some_reads : (x : Token) (m : List Token) (o : Outcome A) → (F None x → ⊥) → Reads W Fits1 F1 (x ∷ m) o
        → Reads (optional W) Fits F (x ∷ m) (o >>= λ a. Ok (Some a.0, a.1))
    some_reads x m o other r =
        reads_as (Made Some W) (optional W) Fits F F x some_up (some_down x other) (λ c m st. st) (x ∷ m) m (o >>= λ a. Ok (Some a.0, a.1)) refl
        (made W Fits1 F1 Some Fits F low high stop (x ∷ m) o r)

-- a part that may be left out, where it is
pub none_reads : {A : Type 0} (W : A → Phrase) (Fits : Option A → Type 0) (F : Option A → Token → Type 0) (x : Token) (m : List Token) → Fits None
    → ((a : A) (s m' m2 : List Token) → W a s → s ++ m' ≡ x ∷ m2 → ⊥) → Good (optional W) Fits F (x ∷ m) None (x ∷ m)
none_reads {A = A} W Fits F x m fits other = nothing_reads (optional W) Fits F x m None refl fits go
  where
    go : (b : Option A) (s m' m2 : List Token) → optional W b s → Stops (F b) m' → s ++ m' ≡ x ∷ m2 → (b ≡ None) × (s ≡ [])
    go None s m' m2 v st eq = (refl, v)
    go (Some a) s m' m2 v st eq = absurd (other a s m' m2 v eq)

-- a part that may be left out, where there is no room for it
pub optional_high : {A : Type 0} (W : A → Phrase) (Fits : Option A → Type 0) (F : Option A → Token → Type 0) (x : Token) (m : List Token)
    → (F None x → ⊥) → ((a : A) → Fits (Some a) → ⊥) → ((a : A) × (t : List Token) × W a (x ∷ t)) → Bad (optional W) Fits F (x ∷ m) TooHigh (x ∷ m)
optional_high {A = A} W Fits F x m other none alive = too_high (optional W) Fits F x m go (Some alive.0, alive.1, alive.2)
  where
    go : (b : Option A) (s m' m2 : List Token) → optional W b s → Fits b → Stops (F b) m' → s ++ m' ≡ x ∷ m2 → ⊥
    go None s m' m2 v f st eq = other (subst (Stops (F None)) (ap (λ l. l ++ m') (sym v) ∙ eq) st)
    go (Some a) s m' m2 v f st eq = none a f

-- what is read begins where the tokens do
module _ {C : Type 0} (V : C → Phrase) (Fits : C → Type 0) (F : C → Token → Type 0) (x : Token) (some : (c : C) → V c [] → ⊥) where
  begins : (s t u m : List Token) → x ∷ m ≡ s ++ t → (s ≡ [] → ⊥) → BeginsAt x.place (s ++ u)
  begins [] t u m e other = absurd (other refl)
  begins (y ∷ s) t u m e other = ap (λ (t : Token). t.place) (sym (cons_head e))

  no_prefix : (c : C) (s : List Token) → V c s → s ≡ [] → ⊥
  no_prefix c s v e = some c (subst (V c) e v)

  abbrev Placed : C → Phrase
  Placed c s = BeginsAt x.place s × V c s

  before_placed : (s t m : List Token) → x ∷ m ≡ s ++ t → (s ≡ []) ⊎ ((b : C) × (u : List Token) × V b (s ++ u) × Fits b)
      → (s ≡ []) ⊎ ((b : C) × (u : List Token) × Placed b (s ++ u) × Fits b)
  before_placed [] t m e h = inl refl
  before_placed (y ∷ s) t m e (inl f) = inl f
  before_placed (y ∷ s) t m e (inr v) = inr (v.0, v.1, (ap (λ (t : Token). t.place) (sym (cons_head e)), v.2), v.3)

  begun_placed : (p : ParseProblem) (s : List Token) (y : Token) (t m : List Token) → x ∷ m ≡ s ++ y ∷ t
      → Begun p ((b : C) × (u : List Token) × V b (s ++ y ∷ u)) → Begun p ((b : C) × (u : List Token) × Placed b (s ++ y ∷ u))
  begun_placed Unexpected s y t m e v = tt
  begun_placed TooHigh [] y t m e v = (v.0, v.1, (ap (λ (t : Token). t.place) (sym (cons_head e)), v.2))
  begun_placed TooHigh (z ∷ s) y t m e v = (v.0, v.1, (ap (λ (t : Token). t.place) (sym (cons_head e)), v.2))

  pub reads_placed : (m : List Token) (o : Outcome C) → Reads V Fits F (x ∷ m) o → Reads (λ c s. BeginsAt x.place s × V c s) Fits F (x ∷ m) o
  reads_placed m (Ok o) g = record {
    s = g.s;
    x = g.x;
    m = g.m;
    split = g.split;
    rest = g.rest;
    here = (here_placed g.s o.1 m o.0 g.split g.here, g.here);
    fits = g.fits;
    only = λ b s' m' m2 v st eq. g.only b s' m' m2 v.1 st eq;
  }
    where
      here_placed : (s t m : List Token) (c : C) → x ∷ m ≡ s ++ t → V c s → BeginsAt x.place s
      here_placed [] t m c e v = absurd (some c v)
      here_placed (y ∷ s) t m c e v = ap (λ (t : Token). t.place) (sym (cons_head e))
  reads_placed m (Err o) g = record {
    s = g.s;
    x = g.x;
    m = g.m;
    split = g.split;
    rest = g.rest;
    before = before_placed g.s (g.x ∷ g.m) m g.split g.before;
    never = λ b s' m' m2 v al st eq. g.never b s' m' m2 v.1 al st eq;
    begun = begun_placed o.0 g.s g.x g.m m g.split g.begun;
  }
