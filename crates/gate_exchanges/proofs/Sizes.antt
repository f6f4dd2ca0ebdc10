-- Sizes of values, as the code reads them.
use Rattle.std.proofs.Common.{◌≡◌, ℕ, suc, ◌<◌, [], ◌∷◌, length, refl, sym, ◌∙◌, ap, arith}
use Rattle.std.proofs.lemmas.List.{length-map}
use Rattle.protocol_model.specs.Gates.{sizes_of}
use Rattle.gates.specs.Clear.{Values, value}
use Rattle.gates.specs.Counts.{size_of}
use Rattle.shared_gates.proofs.Models.{size-value}

pub length-sizes : (values : Values) → length (sizes_of values) ≡ length values
length-sizes values = length-map values length

pub ruleset size_steps = (size-value, length-sizes)

-- the same sizes up to here
pub record SameUpTo (xs ys : Values) (n : ℕ) : Type 0 where
  pub count : length xs ≡ length ys
  pub same : (k : ℕ) → k < n → length (value xs k) ≡ length (value ys k)

pub all-same : (xs ys : Values) → length xs ≡ length ys → ((k : ℕ) → k < length xs → length (value xs k) ≡ length (value ys k)) → sizes_of xs ≡ sizes_of ys
all-same [] [] count same = refl
all-same [] (y ∷ ys) count same = absurd (omega arith)
all-same (x ∷ xs) [] count same = absurd (omega arith)
all-same (x ∷ xs) (y ∷ ys) count same =
    ap (λ n. n ∷ sizes_of xs) (same 0 (omega arith))
    ∙ ap (λ s. length y ∷ s) (all-same xs ys (omega arith) (λ k lt. same (suc k) (omega arith)))

pub same-at : (xs ys : Values) → sizes_of xs ≡ sizes_of ys → (k : ℕ) → length (value xs k) ≡ length (value ys k)
same-at xs ys e k = size-value xs k ∙ ap (λ s. size_of s k) e ∙ sym (size-value ys k)
