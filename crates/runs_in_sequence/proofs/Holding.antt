-- Values that are held in shares, put after one another and chosen by their places.
use Rattle.std.proofs.Common.{◌≡◌, ℕ, zero, suc, ◌+◌, ◌-◌, ◌<◌, ◌≤◌, List, [], ◌∷◌, ◌++◌, length, refl, sym, ◌∙◌, ap, subst, arith, inl, inr, length-append}
use Rattle.std.proofs.lemmas.Bool.{cases_lt}
use Rattle.std.proofs.lemmas.List.{length-map, get_or_append_left, get_or-append-add}
use Rattle.proto_core.specs.declared.party.Number.{Number}
use Rattle.proto_core.proofs.Each.{same_words}
use Rattle.protocol_model.specs.Gates.{sizes_of}
use Rattle.protocol_model.proofs.Walks.{same_tapes}
use Rattle.gates.specs.Clear.{Values, value}
use Rattle.shared_gates.specs.Shares.{Kind, Holds, kind_at, share_at, AllHeld}
use Rattle.shared_gates.proofs.Computing.{holds-size}
use Rattle.shared_gates.proofs.Models.{size-value}
use Rattle.runs_in_sequence.specs.Sequences.{chosen}
use Rattle.runs_in_sequence.specs.Results.{Held, chosen_kinds, AllUnder}

-- ---- kinds in two lists

kind-left : (xs ys : List Kind) (k : ℕ) → k < length xs → kind_at (xs ++ ys) k ≡ kind_at xs k
kind-left [] ys k lt = absurd (none lt)
  where
    none : k < 0 → ⊥
    none lt = omega (arith, lt)
kind-left (x ∷ xs) ys zero lt = refl
kind-left (x ∷ xs) ys (suc k) lt = kind-left xs ys k (omega (arith, lt))

kind-right : (xs ys : List Kind) (k : ℕ) → kind_at (xs ++ ys) (length xs + k) ≡ kind_at ys k
kind-right [] ys k = ap (kind_at ys) (zero_more k)
  where
    zero_more : (k : ℕ) → 0 + k ≡ k
    zero_more k = omega arith
kind-right (x ∷ xs) ys k = ap (kind_at (x ∷ xs ++ ys)) (one_more (length xs) k) ∙ kind-right xs ys k
  where
    one_more : (n k : ℕ) → suc n + k ≡ suc (n + k)
    one_more n k = omega arith

-- ---- all of two lists

module _ (xs ys : Values) (s u : Number → Values) (kinds others : List Kind) (first : Held kinds xs s) (second : Held others ys u) where
  abbrev both : Number → Values
  both i = s i ++ u i

  abbrev HoldsAt : ℕ → Type 0
  HoldsAt k = Holds (kind_at (kinds ++ others) k) (value (xs ++ ys) k) (share_at both k)

  in-first : (k : ℕ) → k < length xs → HoldsAt k
  in-first k lt =
      subst (λ kind. Holds kind (value (xs ++ ys) k) (share_at both k)) (sym (kind-left kinds others k (subst (λ n. k < n) (sym first.kinds_count) lt)))
      (subst (λ x. Holds (kind_at kinds k) x (share_at both k)) (sym (get_or_append_left xs ys [] k lt))
      (subst (λ t. Holds (kind_at kinds k) (value xs k) t)
      (same_tapes (share_at s k) (share_at both k) (λ i. sym (get_or_append_left (s i) (u i) [] k (subst (λ n. k < n) (sym (first.count i)) lt))))
      (first.held k lt)))

  in-second : (k : ℕ) → k < length ys → HoldsAt (length xs + k)
  in-second k lt =
      subst (λ kind. Holds kind (value (xs ++ ys) (length xs + k)) (share_at both (length xs + k)))
      (sym (ap (λ n. kind_at (kinds ++ others) (n + k)) (sym first.kinds_count) ∙ kind-right kinds others k))
      (subst (λ x. Holds (kind_at others k) x (share_at both (length xs + k))) (sym (get_or-append-add xs ys k []))
      (subst (λ t. Holds (kind_at others k) (value ys k) t)
      (same_tapes (share_at u k) (share_at both (length xs + k))
      (λ i. sym (ap (λ n. value (both i) (n + k)) (sym (first.count i)) ∙ get_or-append-add (s i) (u i) k [])))
      (second.held k lt)))

  pub held-both : Held (kinds ++ others) (xs ++ ys) both
  held-both =
      record {
        held = λ k lt. elim (cases_lt k (length xs)) as (λ c. HoldsAt k) [ inl below ↦ in-first k below | inr past ↦ later k past lt ];
        kinds_count =
            length-append kinds others
            ∙ ap (λ n. n + length others) first.kinds_count
            ∙ ap (λ n. length xs + n) second.kinds_count
            ∙ sym (length-append xs ys);
        count = λ i.
            length-append (s i) (u i) ∙ ap (λ n. n + length (u i)) (first.count i) ∙ ap (λ n. length xs + n) (second.count i) ∙ sym (length-append xs ys);
      }
    where
      there : (n k : ℕ) → n ≤ k → n + (k - n) ≡ k
      there n k le = omega (arith, le)

      inside : (n k m l : ℕ) → n ≤ k → k < l → l ≡ n + m → k - n < m
      inside n k m l le lt e = omega (arith, le, lt, e)

      later : (k : ℕ) → length xs ≤ k → k < length (xs ++ ys) → HoldsAt k
      later k le lt =
          subst HoldsAt (there (length xs) k le)
          (in-second (k - length xs) (inside (length xs) k (length ys) (length (xs ++ ys)) le lt (length-append xs ys)))

-- ---- chosen by their places

chosen-count : (places : List ℕ) (values : Values) → length (chosen places values) ≡ length places
chosen-count [] values = refl
chosen-count (k ∷ ks) values = ap suc (chosen-count ks values)

chosen-kinds-count : (places : List ℕ) (kinds : List Kind) → length (chosen_kinds places kinds) ≡ length places
chosen-kinds-count [] kinds = refl
chosen-kinds-count (k ∷ ks) kinds = ap suc (chosen-kinds-count ks kinds)

module _ (kinds : List Kind) (values : Values) (shares : Number → Values) (held : Held kinds values shares) where
  chosen-all : (places : List ℕ) → AllUnder (length values) places
      → AllHeld (chosen_kinds places kinds) (chosen places values) (λ i. chosen places (shares i))
  chosen-all [] under k lt = absurd (none k lt)
    where
      none : (k : ℕ) → k < 0 → ⊥
      none k lt = omega (arith, lt)
  chosen-all (p ∷ ps) under zero lt = held.held p under.0
  chosen-all (p ∷ ps) under (suc k) lt = chosen-all ps under.1 k (omega (arith, lt))

  pub held-chosen : (places : List ℕ) → AllUnder (length values) places
      → Held (chosen_kinds places kinds) (chosen places values) (λ i. chosen places (shares i))
  held-chosen places under =
      record {
        held = chosen-all places under;
        kinds_count = chosen-kinds-count places kinds ∙ sym (chosen-count places values);
        count = λ i. chosen-count places (shares i) ∙ sym (chosen-count places values);
      }

-- ---- shares are as large as their values

pub held-sizes : (kinds : List Kind) (values : Values) (shares : Number → Values) → Held kinds values shares → (i : Number)
    → sizes_of (shares i) ≡ sizes_of values
held-sizes kinds values shares h i =
    same_words (length values) (sizes_of (shares i)) (sizes_of values)
    (length-map (shares i) length ∙ h.count i) (length-map values length)
    (λ k lt. sym (size-value (shares i) k) ∙ sym (holds-size (kind_at kinds k) (value values k) (share_at shares k) (h.held k lt) i) ∙ size-value values k)
