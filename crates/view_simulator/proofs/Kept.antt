-- Sizes that are kept as words.
use Rattle.std.proofs.Common.{◌≡◌, ℕ, zero, suc, ◌<◌, ◌≤◌, Bool, get_or, List, [], ◌∷◌, ◌++◌, Option, length, refl, sym, ◌∙◌, ap, subst, arith, append_assoc}
use Rattle.gates.specs.declared.gate.Gate.{Gate}
use Rattle.gates.specs.declared.gate.Gate.TheVariants.{Split}
use Rattle.shared_gates.specs.Model.{size_made, sizes_made}
use Rattle.view_simulator.specs.Sizes.{IsKept, AreKept}

-- ---- one of them

pub kept-there :
    (sizes : List ℕ) (kept : List (Option ℕ)) (k : ℕ) (size : Option ℕ) → AreKept sizes kept → k < length kept → size ≡ get_or kept k size →
    IsKept (get_or sizes k 0) size
kept-there [] [] k size are within is = absurd (omega arith)
kept-there [] (m ∷ kept) k size are within is = elim are [ ]
kept-there (n ∷ sizes) [] k size are within is = elim are [ ]
kept-there (n ∷ sizes) (m ∷ kept) zero size are within is = subst (λ (s : Option ℕ). IsKept n s) (sym is) are.0
kept-there (n ∷ sizes) (m ∷ kept) (suc k) size are within is = kept-there sizes kept k size are.1 (omega arith) is

pub kept-past : (sizes : List ℕ) (kept : List (Option ℕ)) (k : ℕ) → AreKept sizes kept → length kept ≤ k → 0 ≡ get_or sizes k 0
kept-past [] [] k are past = refl
kept-past [] (m ∷ kept) k are past = elim are [ ]
kept-past (n ∷ sizes) [] k are past = elim are [ ]
kept-past (n ∷ sizes) (m ∷ kept) zero are past = absurd (omega arith)
kept-past (n ∷ sizes) (m ∷ kept) (suc k) are past = kept-past sizes kept k are.1 (omega arith)

-- ---- more of them

kept-behind :
    (sizes : List ℕ) (kept : List (Option ℕ)) (more : List ℕ) (more_kept : List (Option ℕ)) → AreKept sizes kept → AreKept more more_kept →
    AreKept (sizes ++ more) (kept ++ more_kept)
kept-behind [] [] more more_kept are behind = behind
kept-behind [] (m ∷ kept) more more_kept are behind = elim are [ ]
kept-behind (n ∷ sizes) [] more more_kept are behind = elim are [ ]
kept-behind (n ∷ sizes) (m ∷ kept) more more_kept are behind = (are.0, kept-behind sizes kept more more_kept are.1 behind)

made-one :
    (dealt all : List ℕ) (gate : Gate) → ((u : ℕ) (negated : Bool) → gate ≡ Split u negated → ⊥) →
    sizes_made dealt all gate ≡ size_made dealt all gate ∷ []
made-one dealt all (Split u negated) other = absurd (other u negated refl)
made-one dealt all gate other = refl

-- by the size that a gate makes
module _ (dealt : List ℕ) (gate : Gate) (kept pushed : List (Option ℕ)) (size : Option ℕ) (first : pushed ≡ kept ++ size ∷ [])
    (is : (all : List ℕ) → AreKept all kept → IsKept (size_made dealt all gate) size) where
  pub one-kept :
      ((u : ℕ) (negated : Bool) → gate ≡ Split u negated → ⊥) → (all : List ℕ) → AreKept all kept → AreKept (all ++ sizes_made dealt all gate) pushed
  one-kept other all are =
      subst (λ (made : List ℕ). AreKept (all ++ made) pushed) (sym (made-one dealt all gate other))
      (subst (λ (k : List (Option ℕ)). AreKept (all ++ size_made dealt all gate ∷ []) k) (sym first)
      (kept-behind all kept (size_made dealt all gate ∷ []) (size ∷ []) are (is all are, tt)))

  pub two-kept :
      (u : ℕ) (negated : Bool) → gate ≡ Split u negated → (twice : List (Option ℕ)) → twice ≡ pushed ++ size ∷ [] →
      (all : List ℕ) → AreKept all kept → AreKept (all ++ sizes_made dealt all gate) twice
  two-kept u negated split twice second all are =
      let n : ℕ = size_made dealt all gate in
      let two : sizes_made dealt all gate ≡ n ∷ n ∷ [] =
      subst (λ (g : Gate). sizes_made dealt all g ≡ size_made dealt all g ∷ size_made dealt all g ∷ []) (sym split) refl in
      let both : twice ≡ kept ++ size ∷ size ∷ [] =
      second ∙ ap (λ (k : List (Option ℕ)). k ++ size ∷ []) first ∙ append_assoc kept (size ∷ []) (size ∷ []) in
      subst (λ (made : List ℕ). AreKept (all ++ made) twice) (sym two)
      (subst (λ (k : List (Option ℕ)). AreKept (all ++ n ∷ n ∷ []) k) (sym both)
      (kept-behind all kept (n ∷ n ∷ []) (size ∷ size ∷ []) are (is all are, (is all are, tt))))
