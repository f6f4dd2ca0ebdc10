-- Shares of what is made of shared values, element by element.
use Rattle.std.proofs.Common.{◌≡◌, ℕ, ◌+◌, ◌-◌, ◌<◌, ◌≤◌, ◌^◌, List, ◌++◌, length, take, drop, map, set, refl, sym, ◌∙◌, ap, subst, arith, inl, inr}
use Rattle.std.proofs.Common.{length-append, length-drop}
use Rattle.std.specs.Prelude.{replicate}
use Rattle.std.specs.Prelude.{◌⊎◌, ◌≢◌}
use Rattle.std.proofs.lemmas.Bool.{cases_lt, cases_eq}
use Rattle.std.proofs.lemmas.List.{get_or_append_left, get_or-append_right, get_or-take, get_or-drop, length-take-le, get_or_past, get_or-set_same}
use Rattle.std.proofs.lemmas.List.{get_or-set_other, length-set, length-replicate, get_or-replicate}
use Rattle.proto_core.specs.Ring.{Ring}
use Rattle.proto_core.specs.declared.party.Number.{Number}
use Rattle.proto_core.specs.declared.party.Number.TheVariants.{One, Two, Three}
use Rattle.proto_core.specs.Lists.{at, AreWords}
use Rattle.proto_core.proofs.Parts.{AreWords-append}
use Rattle.gates.specs.Clear.{each_two}
use Rattle.gates.proofs.Columns.{Column, Column-of, Column-map, Column-each_two}
use Rattle.shared_gates.specs.Shares.{sum_of, AreShares}
use Rattle.shared_gates.proofs.RingSums.{sum-same}

-- words up to the end are words
pub words-below : (n : ℕ) (xs : List ℕ) → length xs ≡ n → ((k : ℕ) → k < n → at xs k < 2 ^ 64) → AreWords xs
words-below n xs e h k =
    elim (cases_lt k n) as (λ c. at xs k < 2 ^ 64) [ inl below ↦ h k below | inr past ↦ small _ (get_or_past xs k 0 (omega arith)) ]
  where
    small : (x : ℕ) → x ≡ 0 → x < 2 ^ 64
    small x z = omega arith

small-same : (x y : ℕ) → x ≡ y → y < 2 ^ 64 → x < 2 ^ 64
small-same x y e l = omega arith

-- by what stands at each index
pub shares-by :
    (r : Ring) (n : ℕ) (xs : List ℕ) (s : Number → List ℕ) (g : ℕ → ℕ) (f : Number → ℕ → ℕ) →
    Column n g xs → ((i : Number) → Column n (f i) (s i)) → ((i : Number) (k : ℕ) → k < n → f i k < 2 ^ 64) →
    ((k : ℕ) → k < n → sum_of r (f One k) (f Two k) (f Three k) ≡ g k) → AreShares r xs s
shares-by r n xs s g f whole part words sums =
    record {
      sizes = λ i. (part i).size ∙ sym whole.size;
      words = λ i. words-below n (s i) (part i).size (λ k h. small-same _ _ ((part i).words k h) (words i k h));
      sum = λ k h.
          let below : k < n = omega (arith, whole.size) in
          sum-same r _ _ _ _ _ _ ((part One).words k below) ((part Two).words k below) ((part Three).words k below)
          ∙ sums k below
          ∙ sym (whole.words k below);
    }

module _ (r : Ring) where
  -- the same of each word
  pub shares-map :
      (g : ℕ → ℕ) → ((x : ℕ) → x < 2 ^ 64 → g x < 2 ^ 64) →
      ((a b c : ℕ) → a < 2 ^ 64 → b < 2 ^ 64 → c < 2 ^ 64 → sum_of r (g a) (g b) (g c) ≡ g (sum_of r a b c)) →
      (xs : List ℕ) (s : Number → List ℕ) → AreShares r xs s → AreShares r (map g xs) (λ i. map g (s i))
  shares-map g words through xs s h =
      shares-by r (length xs) (map g xs) (λ i. map g (s i)) (λ k. g (at xs k)) (λ i k. g (at (s i) k))
      (Column-map g (Column-of (length xs) xs refl))
      (λ i. Column-map g (Column-of (length xs) (s i) (h.sizes i)))
      (λ i k lt. words (at (s i) k) (h.words i k))
      (λ k lt. through _ _ _ (h.words One k) (h.words Two k) (h.words Three k) ∙ ap g (h.sum k lt))

  -- of two values, of equally many words
  pub shares-two :
      (f : ℕ → ℕ → ℕ) → ((x y : ℕ) → f x y < 2 ^ 64) →
      ((a b c x y z : ℕ) → sum_of r (f a x) (f b y) (f c z) ≡ f (sum_of r a b c) (sum_of r x y z)) →
      (xs ys : List ℕ) (s t : Number → List ℕ) → length xs ≡ length ys → AreShares r xs s → AreShares r ys t →
      AreShares r (each_two f xs ys) (λ i. each_two f (s i) (t i))
  shares-two f words through xs ys s t e h k =
      shares-by r (length xs) (each_two f xs ys) (λ i. each_two f (s i) (t i)) (λ j. f (at xs j) (at ys j)) (λ i j. f (at (s i) j) (at (t i) j))
      (Column-each_two f (Column-of (length xs) xs refl) (Column-of (length xs) ys (sym e)))
      (λ i. Column-each_two f (Column-of (length xs) (s i) (h.sizes i)) (Column-of (length xs) (t i) (k.sizes i ∙ sym e)))
      (λ i j lt. words (at (s i) j) (at (t i) j))
      (λ j lt.
      through _ _ _ _ _ _
      ∙ ap (λ w. f w (sum_of r (at (t One) j) (at (t Two) j) (at (t Three) j))) (h.sum j lt)
      ∙ ap (f (at xs j)) (k.sum j (subst (λ n. j < n) e lt)))

  -- of a value and words that everybody knows
  pub shares-fixed :
      (f : ℕ → ℕ → ℕ) → ((x y : ℕ) → f x y < 2 ^ 64) →
      ((a b c x : ℕ) → sum_of r (f a x) (f b x) (f c x) ≡ f (sum_of r a b c) x) →
      (xs list : List ℕ) (s : Number → List ℕ) → length xs ≡ length list → AreShares r xs s →
      AreShares r (each_two f xs list) (λ i. each_two f (s i) list)
  shares-fixed f words through xs list s e h =
      shares-by r (length xs) (each_two f xs list) (λ i. each_two f (s i) list) (λ j. f (at xs j) (at list j)) (λ i j. f (at (s i) j) (at list j))
      (Column-each_two f (Column-of (length xs) xs refl) (Column-of (length xs) list (sym e)))
      (λ i. Column-each_two f (Column-of (length xs) (s i) (h.sizes i)) (Column-of (length xs) list (sym e)))
      (λ i j lt. words (at (s i) j) (at list j))
      (λ j lt. through _ _ _ _ ∙ ap (λ w. f w (at list j)) (h.sum j lt))

  -- by the words of lists themselves
  shares-at :
      (xs : List ℕ) (s : Number → List ℕ) → ((i : Number) → length (s i) ≡ length xs) →
      ((i : Number) (k : ℕ) → k < length xs → at (s i) k < 2 ^ 64) →
      ((k : ℕ) → k < length xs → sum_of r (at (s One) k) (at (s Two) k) (at (s Three) k) ≡ at xs k) → AreShares r xs s
  shares-at xs s sizes words sums =
      record { sizes = sizes; words = λ i. words-below (length xs) (s i) (sizes i) (words i); sum = sums }

  -- one value after another
  pub shares-append :
      (xs ys : List ℕ) (s t : Number → List ℕ) → AreShares r xs s → AreShares r ys t → AreShares r (xs ++ ys) (λ i. s i ++ t i)
  shares-append xs ys s t h k =
      record {
        sizes = λ i. omega (arith, length-append (s i) (t i), length-append xs ys, h.sizes i, k.sizes i);
        words = λ i. AreWords-append (s i) (t i) (h.words i) (k.words i);
        sum = λ j lt.
            elim (cases_lt j (length xs)) as (λ c. sum_of r (at (s One ++ t One) j) (at (s Two ++ t Two) j) (at (s Three ++ t Three) j) ≡ at (xs ++ ys) j) [
              | inl below ↦
                  sum-same r _ _ _ _ _ _ (left One j below) (left Two j below) (left Three j below)
                  ∙ h.sum j below
                  ∙ sym (get_or_append_left xs ys 0 j below)
              | inr past ↦
                  sum-same r _ _ _ _ _ _ (right One j past) (right Two j past) (right Three j past)
                  ∙ k.sum (j - length xs) (omega (arith, length-append xs ys))
                  ∙ sym (get_or-append_right xs ys (length xs) j 0 refl past)
            ];
      }
    where
      left : (i : Number) (j : ℕ) → j < length xs → at (s i ++ t i) j ≡ at (s i) j
      left i j below = get_or_append_left (s i) (t i) 0 j (omega (arith, h.sizes i))

      right : (i : Number) (j : ℕ) → length xs ≤ j → at (s i ++ t i) j ≡ at (t i) (j - length xs)
      right i j past = get_or-append_right (s i) (t i) (length xs) j 0 (h.sizes i) past

  -- some words of a value
  pub shares-part :
      (from count : ℕ) (xs : List ℕ) (s : Number → List ℕ) → from + count ≤ length xs → AreShares r xs s →
      AreShares r (take count (drop from xs)) (λ i. take count (drop from (s i)))
  shares-part from count xs s le h =
      shares-by r count (take count (drop from xs)) (λ i. take count (drop from (s i))) (λ k. at xs (from + k)) (λ i k. at (s i) (from + k))
      (column xs le)
      (λ i. column (s i) (subst (λ n. from + count ≤ n) (sym (h.sizes i)) le))
      (λ i k lt. h.words i (from + k))
      (λ k lt. h.sum (from + k) (omega arith))
    where
      column : (ys : List ℕ) → from + count ≤ length ys → Column count (λ k. at ys (from + k)) (take count (drop from ys))
      column ys fits =
          record {
            size = length-take-le count (drop from ys) (omega (arith, length-drop from ys));
            words = λ k lt. get_or-take count (drop from ys) k 0 lt ∙ get_or-drop from ys k 0;
          }

  -- one word put in the place of another
  pub shares-set :
      (index : ℕ) (xs : List ℕ) (s : Number → List ℕ) (y : ℕ) (t : Number → ℕ) → index < length xs → AreShares r xs s →
      ((i : Number) → t i < 2 ^ 64) → sum_of r (t One) (t Two) (t Three) ≡ y →
      AreShares r (set xs index y) (λ i. set (s i) index (t i))
  shares-set index xs s y t within h words sums =
      shares-by r (length xs) (set xs index y) (λ i. set (s i) index (t i)) (λ k. at (set xs index y) k) (λ i k. at (set (s i) index (t i)) k)
      (Column-of (length xs) (set xs index y) (length-set xs index y))
      (λ i. Column-of (length xs) (set (s i) index (t i)) (length-set (s i) index (t i) ∙ h.sizes i))
      (λ i k lt.
      elim (same_or k) as (λ c. at (set (s i) index (t i)) k < 2 ^ 64) [
        | inl same ↦ small-same _ _ (here i k same) (words i)
        | inr other ↦ small-same _ _ (get_or-set_other (s i) index k (t i) 0 other) (h.words i k)
      ])
      (λ k lt.
      elim (same_or k) as (λ c. sum_of r (at (set (s One) index (t One)) k) (at (set (s Two) index (t Two)) k) (at (set (s Three) index (t Three)) k)
      ≡ at (set xs index y) k) [
        | inl same ↦
            sum-same r _ _ _ _ _ _ (here One k same) (here Two k same) (here Three k same)
            ∙ sums
            ∙ sym (ap (at (set xs index y)) same ∙ get_or-set_same xs index y 0 within)
        | inr other ↦
            sum-same r _ _ _ _ _ _ (get_or-set_other (s One) index k (t One) 0 other) (get_or-set_other (s Two) index k (t Two) 0 other)
            (get_or-set_other (s Three) index k (t Three) 0 other)
            ∙ h.sum k lt
            ∙ sym (get_or-set_other xs index k y 0 other)
      ])
    where
      same_or : (k : ℕ) → (k ≡ index) ⊎ (k ≢ index)
      same_or k = cases_eq k index

      here : (i : Number) (k : ℕ) → k ≡ index → at (set (s i) index (t i)) k ≡ t i
      here i k same = ap (at (set (s i) index (t i))) same ∙ get_or-set_same (s i) index (t i) 0 (omega (arith, h.sizes i))

  -- one word, as often as wanted
  pub shares-replicate :
      (count y : ℕ) (t : Number → ℕ) → ((i : Number) → t i < 2 ^ 64) → sum_of r (t One) (t Two) (t Three) ≡ y →
      AreShares r (replicate count y) (λ i. replicate count (t i))
  shares-replicate count y t words sums =
      shares-by r count (replicate count y) (λ i. replicate count (t i)) (λ k. y) (λ i k. t i)
      (column y) (λ i. column (t i)) (λ i k lt. words i) (λ k lt. sums)
    where
      column : (x : ℕ) → Column count (λ k. x) (replicate count x)
      column x = record { size = length-replicate count x; words = λ k lt. get_or-replicate count k x 0 lt }
