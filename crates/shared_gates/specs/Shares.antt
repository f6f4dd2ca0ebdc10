-- Values that three miners hold.
use Rattle.std.specs.Prelude.{◌≡◌, ℕ, zero, suc, ◌<◌, List, [], ◌∷◌, length}
use Rattle.proto_core.specs.Ring.{Ring}
use Rattle.proto_core.specs.declared.party.Number.{Number}
use Rattle.proto_core.specs.declared.party.Number.TheVariants.{One, Two, Three}
use Rattle.proto_core.specs.Lists.{at, AreWords}
use Rattle.gates.specs.declared.ring_kind.RingKind.{RingKind}
use Rattle.gates.specs.Clear.{Values, value, ring_of}

abbrev pub sum_of : Ring → (x y z : ℕ) → ℕ
sum_of r x y z = r.add (r.add x y) z

-- three shares of as many words, which add up to these words in the ring
pub record AreShares (r : Ring) (xs : List ℕ) (s : Number → List ℕ) : Type 0 where
  pub sizes : (i : Number) → length (s i) ≡ length xs
  pub words : (i : Number) → AreWords (s i)
  pub sum : (k : ℕ) → k < length xs → sum_of r (at (s One) k) (at (s Two) k) (at (s Three) k) ≡ at xs k

-- how miners hold a value: shared in a ring, or each of them has the whole
pub data Kind : Type 0 where
  Shared : (ring : RingKind) → Kind
  Known : Kind

abbrev pub Holds : Kind → List ℕ → (Number → List ℕ) → Type 0
Holds (Shared ring) xs s = AreShares (ring_of ring) xs s
Holds Known xs s = (i : Number) → s i ≡ xs

abbrev pub kind_at : List Kind → ℕ → Kind
kind_at [] k = Known
kind_at (kind ∷ kinds) zero = kind
kind_at (kind ∷ kinds) (suc k) = kind_at kinds k

-- what each miner has of the value of a number
abbrev pub share_at : (Number → Values) → ℕ → Number → List ℕ
share_at shares k i = value (shares i) k

-- they hold all these values, each as its kind says
abbrev pub AllHeld : List Kind → Values → (Number → Values) → Type 0
AllHeld kinds values shares = (k : ℕ) → k < length values → Holds (kind_at kinds k) (value values k) (share_at shares k)
