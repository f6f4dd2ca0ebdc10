-- What gates make depends on the values that they take alone.
use Rattle.std.proofs.Common.{◌≡◌, ℕ, zero, suc, ◌+◌, ◌/◌, ◌<◌, ◌≤◌, List, [], ◌∷◌, length, Some, refl, sym, ap, ◌∙◌, subst, arith}
use Rattle.std.specs.Prelude.{slice_get}
use Rattle.std.proofs.lemmas.Option.{none-some, same_Some}
use Rattle.gates.specs.declared.gate.Gate.{Gate}
use Rattle.gates.specs.declared.gate.Gate.TheVariants.{Input, Const, Add, Sub, MulPub, Mul, Xor, And, Not, Shl, Shr, Low, Cat, Part, Put, Rep}
use Rattle.gates.specs.declared.gate.Gate.TheVariants.{Pack, Unpack, RepBit, PartBit, PutBit, CatBit}
use Rattle.gates.specs.declared.gate.Gate.TheVariants.{Sum, Stretch, Tile, SumEach, Split, Conv, Open, Result}
use Rattle.gates.specs.Clear.{Values, value, clear_value, IsSplit, AreOperands, Suits, Makes}
use Rattle.gates.specs.Counts.{made_by}
use Rattle.named_values.specs.Named.{Takes}
use Rattle.named_values.specs.Laws.{HaveSame, FitByWhatTheyTake}

-- what stands at a number in both lists is the value there
same_value : (xs ys : Values) (k : ℕ) → slice_get xs k ≡ slice_get ys k → value xs k ≡ value ys k
same_value [] [] k e = refl
same_value [] (y ∷ ys) zero e = absurd (none-some _ e)
same_value [] (y ∷ ys) (suc k) e = same_value [] ys k e
same_value (x ∷ xs) [] zero e = absurd (none-some _ (sym e))
same_value (x ∷ xs) [] (suc k) e = same_value xs [] k e
same_value (x ∷ xs) (y ∷ ys) zero e = same_Some _ _ e
same_value (x ∷ xs) (y ∷ ys) (suc k) e = same_value xs ys k e

module _ (inputs xs ys : Values) where
  clear_same : (g : Gate) → Takes (HaveSame xs ys) g → clear_value inputs xs g ≡ clear_value inputs ys g
  clear_same (Input k) h = refl
  clear_same (Const list) h = refl
  clear_same (Add u v) h = let e = h.0 in let f = h.1.0 in cc
  clear_same (Sub u v) h = let e = h.0 in let f = h.1.0 in cc
  clear_same (MulPub ring u list) h = let e = h.0 in cc
  clear_same (Mul u v) h = let e = h.0 in let f = h.1.0 in cc
  clear_same (Xor u v) h = let e = h.0 in let f = h.1.0 in cc
  clear_same (And u v) h = let e = h.0 in let f = h.1.0 in cc
  clear_same (Not u) h = let e = h.0 in cc
  clear_same (Shl u count) h = let e = h.0 in cc
  clear_same (Shr u count) h = let e = h.0 in cc
  clear_same (Low u) h = let e = h.0 in cc
  clear_same (Cat u v) h = let e = h.0 in let f = h.1.0 in cc
  clear_same (Part u from count) h = let e = h.0 in cc
  clear_same (Put u index v) h = let e = h.0 in let f = h.1.0 in cc
  clear_same (Rep u count) h = let e = h.0 in cc
  clear_same (Pack u) h = let e = h.0 in cc
  clear_same (Unpack u count) h = let e = h.0 in cc
  clear_same (RepBit u count) h = let e = h.0 in cc
  clear_same (PartBit u index) h = let e = h.0 in cc
  clear_same (PutBit u index v) h = let e = h.0 in let f = h.1.0 in cc
  clear_same (CatBit u n v m) h = let e = h.0 in let f = h.1.0 in cc
  clear_same (Sum u) h = let e = h.0 in cc
  clear_same (Stretch u count) h = let e = h.0 in cc
  clear_same (Tile u count) h = ap (λ zs. clear_value inputs (zs ∷ []) (Tile 0 count)) h.0
  clear_same (SumEach u size count) h = ap (λ zs. clear_value inputs (zs ∷ []) (SumEach 0 size count)) h.0
  clear_same (Split u negated) h = refl
  clear_same (Conv u) h = let e = h.0 in cc
  clear_same (Open ring u) h = h.0
  clear_same (Result ring u) h = h.0

  pair_same : (next u v : ℕ) → value xs u ≡ value ys u → value xs v ≡ value ys v → AreOperands xs next u v → AreOperands ys next u v
  pair_same next u v e f a = record { first = a.first; second = a.second; same_size = ap length (sym e) ∙ a.same_size ∙ ap length f }

  suits_same : (next : ℕ) (g : Gate) → Takes (HaveSame xs ys) g → Suits inputs xs next g → Suits inputs ys next g
  suits_same next (Add u v) h a = pair_same next u v h.0 h.1.0 a
  suits_same next (Sub u v) h a = pair_same next u v h.0 h.1.0 a
  suits_same next (MulPub ring u list) h a = (a.0, ap length (sym h.0) ∙ a.1)
  suits_same next (Mul u v) h a = pair_same next u v h.0 h.1.0 a
  suits_same next (Xor u v) h a = pair_same next u v h.0 h.1.0 a
  suits_same next (And u v) h a = pair_same next u v h.0 h.1.0 a
  suits_same next (Part u from count) h a = (a.0, subst (λ z. from + count ≤ length z) h.0 a.1)
  suits_same next (Put u index v) h a = (a.0, a.1, subst (λ z. index < length z) h.0 a.2, ap length (sym h.1.0) ∙ a.3)
  suits_same next (Rep u count) h a = (a.0, ap length (sym h.0) ∙ a.1)
  suits_same next (Input k) h a = a
  suits_same next (Const list) h a = a
  suits_same next (Cat u v) h a = a
  suits_same next (Not u) h a = a
  suits_same next (Shl u count) h a = a
  suits_same next (Shr u count) h a = a
  suits_same next (Low u) h a = a
  suits_same next (Pack u) h a = a
  suits_same next (Unpack u count) h a = (a.0, ap length (sym h.0) ∙ a.1)
  suits_same next (RepBit u count) h a = (a.0, ap length (sym h.0) ∙ a.1)
  suits_same next (PartBit u index) h a = (a.0, subst (λ z. index / 64 < length z) h.0 a.1)
  suits_same next (PutBit u index v) h a = (a.0, a.1, subst (λ z. index / 64 < length z) h.0 a.2, ap length (sym h.1.0) ∙ a.3)
  suits_same next (CatBit u n v m) h a = (a.0, a.1, ap length (sym h.0) ∙ a.2, ap length (sym h.1.0) ∙ a.3)
  suits_same next (Sum u) h a = a
  suits_same next (Stretch u count) h a = a
  suits_same next (Tile u count) h a = a
  suits_same next (SumEach u size count) h a = (a.0, ap length (sym h.0) ∙ a.1)
  suits_same next (Split u negated) h a = a
  suits_same next (Conv u) h a = a
  suits_same next (Open ring u) h a = a
  suits_same next (Result ring u) h a = a

  module _ (next : ℕ) (same : (k : ℕ) → next ≤ k → slice_get xs k ≡ slice_get ys k) where
    own : (k : ℕ) → next ≤ k → slice_get xs k ≡ Some (value xs k) → slice_get ys k ≡ Some (value ys k)
    own k le e = sym (same k le) ∙ e ∙ ap (λ z. Some z) (same_value xs ys k (same k le))

    one : (g : Gate) → slice_get xs next ≡ Some (clear_value inputs xs g) → Takes (HaveSame xs ys) g → slice_get ys next ≡ Some (clear_value inputs ys g)
    one g e h = sym (same next (omega arith)) ∙ e ∙ ap (λ z. Some z) (clear_same g h)

    makes_same : (g : Gate) → Takes (HaveSame xs ys) g → Makes inputs xs next g → Makes inputs ys next g
    makes_same (Split u negated) h a = (
      own next (omega arith) a.0,
      own (next + 1) (omega arith) a.1,
      subst (λ z. IsSplit negated (value ys u) (value ys next) z) (same_value xs ys (next + 1) (same (next + 1) (omega arith)))
          (subst (λ z. IsSplit negated (value ys u) z (value xs (next + 1))) (same_value xs ys next (same next (omega arith)))
          (subst (λ z. IsSplit negated z (value xs next) (value xs (next + 1))) h.0 a.2)),
    )
    makes_same g h a = one g a h

pub fit_same : (inputs xs ys : Values) (next : ℕ) (gates : List Gate) → FitByWhatTheyTake inputs xs ys next gates
fit_same inputs xs ys next [] h same fit = tt
fit_same inputs xs ys next (g ∷ gs) h same fit = (
  suits_same inputs xs ys next g h.0 fit.0,
  makes_same inputs xs ys next same g h.0 fit.1,
  fit_same inputs xs ys (next + made_by g) gs h.1 (λ k le. same k (omega (arith, le))) fit.2,
)
