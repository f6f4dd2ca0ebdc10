-- Gates after other gates: sizes, kinds and words.
use Rattle.std.proofs.Common.{◌≡◌, ℕ, zero, suc, ◌+◌, ◌<◌, ◌≤◌, List, [], ◌∷◌, ◌++◌, length, refl, ◌∙◌, arith, length-append}
use Rattle.gates.specs.declared.ring_kind.RingKind.{RingKind}
use Rattle.gates.specs.declared.gate.Gate.{Gate}
use Rattle.gates.specs.declared.gate.Gate.TheVariants.{Input, Const, Add, Sub, MulPub, Mul, Xor, And, Not, Shl, Shr, Low, Cat, Part, Put, Rep}
use Rattle.gates.specs.declared.gate.Gate.TheVariants.{Pack, Unpack, RepBit, PartBit, PutBit, CatBit}
use Rattle.gates.specs.declared.gate.Gate.TheVariants.{Sum, Stretch, Tile, SumEach, Split, Conv, Open, Result}
use Rattle.gates.specs.Counts.{made_by, made_by_all}
use Rattle.shared_gates.specs.Shares.{Kind, kind_at}
use Rattle.shared_gates.specs.Kinds.{AllShared, Kinded, AllKinded}
use Rattle.shared_gates.specs.Model.{sizes_made, sizes_after}
use Rattle.shared_plans.proofs.KindedPlans.{shared-grown}

-- ---- sizes

length-made : (ds sizes : List ℕ) (gate : Gate) → length (sizes_made ds sizes gate) ≡ made_by gate
length-made ds sizes (Split u negated) = refl
length-made ds sizes gate = refl

pub length-sizes : (ds sizes : List ℕ) (gates : List Gate) → length (sizes_after ds sizes gates) ≡ length sizes + made_by_all gates
length-sizes ds sizes [] = omega arith
length-sizes ds sizes (gate ∷ gates) =
    let new = sizes_made ds sizes gate in
    omega (arith, length-sizes ds (sizes ++ new) gates, length-append sizes new, length-made ds sizes gate)

-- ---- kinds

kind-grown : (kinds more : List Kind) (k : ℕ) → k < length kinds → kind_at (kinds ++ more) k ≡ kind_at kinds k
kind-grown [] more k lt = absurd (none k lt)
  where
    none : (k : ℕ) → k < 0 → ⊥
    none k lt = omega arith
kind-grown (kind ∷ kinds) more zero lt = refl
kind-grown (kind ∷ kinds) more (suc k) lt = kind-grown kinds more k (omega arith)

shared-still : (ring : RingKind) (kinds more : List Kind) (ks : List ℕ) → AllShared ring kinds ks → AllShared ring (kinds ++ more) ks
shared-still ring kinds more [] h = tt
shared-still ring kinds more (k ∷ ks) h = (shared-grown kinds more k ring h.0, shared-still ring kinds more ks h.1)

module _ (dealt kinds more : List Kind) where
  kinded-still : (next : ℕ) (gate : Gate) → next < length kinds → Kinded dealt kinds next gate → Kinded dealt (kinds ++ more) next gate
  kinded-still next (Input k) lt h = kind-grown kinds more next lt ∙ h
  kinded-still next (Const list) lt h = (h.0, (h.1.0, shared-still h.1.0 kinds more (next ∷ []) h.1.1))
  kinded-still next (Add u v) lt h = shared-still _ kinds more (u ∷ v ∷ next ∷ []) h
  kinded-still next (Sub u v) lt h = shared-still _ kinds more (u ∷ v ∷ next ∷ []) h
  kinded-still next (MulPub ring u list) lt h = shared-still ring kinds more (u ∷ next ∷ []) h
  kinded-still next (Mul u v) lt h = shared-still _ kinds more (u ∷ v ∷ next ∷ []) h
  kinded-still next (Xor u v) lt h = shared-still _ kinds more (u ∷ v ∷ next ∷ []) h
  kinded-still next (And u v) lt h = shared-still _ kinds more (u ∷ v ∷ next ∷ []) h
  kinded-still next (Not u) lt h = shared-still _ kinds more (u ∷ next ∷ []) h
  kinded-still next (Shl u count) lt h = shared-still _ kinds more (u ∷ next ∷ []) h
  kinded-still next (Shr u count) lt h = shared-still _ kinds more (u ∷ next ∷ []) h
  kinded-still next (Low u) lt h = shared-still _ kinds more (u ∷ next ∷ []) h
  kinded-still next (Cat u v) lt h = (h.0, shared-still h.0 kinds more (u ∷ v ∷ next ∷ []) h.1)
  kinded-still next (Part u from count) lt h = (h.0, shared-still h.0 kinds more (u ∷ next ∷ []) h.1)
  kinded-still next (Put u index v) lt h = (h.0, shared-still h.0 kinds more (u ∷ v ∷ next ∷ []) h.1)
  kinded-still next (Rep u count) lt h = (h.0, shared-still h.0 kinds more (u ∷ next ∷ []) h.1)
  kinded-still next (Pack u) lt h = shared-still _ kinds more (u ∷ next ∷ []) h
  kinded-still next (Unpack u count) lt h = shared-still _ kinds more (u ∷ next ∷ []) h
  kinded-still next (RepBit u count) lt h = shared-still _ kinds more (u ∷ next ∷ []) h
  kinded-still next (PartBit u index) lt h = shared-still _ kinds more (u ∷ next ∷ []) h
  kinded-still next (PutBit u index v) lt h = shared-still _ kinds more (u ∷ v ∷ next ∷ []) h
  kinded-still next (CatBit u n v m) lt h = shared-still _ kinds more (u ∷ v ∷ next ∷ []) h
  kinded-still next (Sum u) lt h = shared-still _ kinds more (u ∷ next ∷ []) h
  kinded-still next (Stretch u count) lt h = (h.0, shared-still h.0 kinds more (u ∷ next ∷ []) h.1)
  kinded-still next (Tile u count) lt h = (h.0, shared-still h.0 kinds more (u ∷ next ∷ []) h.1)
  kinded-still next (SumEach u size count) lt h = shared-still _ kinds more (u ∷ next ∷ []) h
  kinded-still next (Split u negated) lt h = (shared-still _ kinds more (u ∷ []) h.0, shared-still _ kinds more (next ∷ (next + 1) ∷ []) h.1)
  kinded-still next (Conv u) lt h = (shared-still _ kinds more (u ∷ []) h.0, shared-still _ kinds more (next ∷ []) h.1)
  kinded-still next (Open ring u) lt h = (shared-still ring kinds more (u ∷ []) h.0, kind-grown kinds more next lt ∙ h.1)
  kinded-still next (Result ring u) lt h = shared-still ring kinds more (u ∷ next ∷ []) h

  pub all-kinded-still :
      (next : ℕ) (gates : List Gate) → next + made_by_all gates ≤ length kinds → AllKinded dealt kinds next gates →
      AllKinded dealt (kinds ++ more) next gates
  all-kinded-still next [] le h = tt
  all-kinded-still next (gate ∷ gates) le h =
      let some = makes-some gate in (
        kinded-still next gate (omega arith) h.0,
        all-kinded-still (next + made_by gate) gates (omega arith) h.1,
      )
    where
      makes-some : (gate : Gate) → 1 ≤ made_by gate
      makes-some (Split u negated) = omega arith
      makes-some gate = omega arith
