-- The first entry of three orders that no schedule within them reaches, lowest miner first.
use Rattle.std.specs.Prelude.{◌≡◌, ◌<◌, ℕ, List, [], length}
use Rattle.proto_core.specs.declared.party.Number.{Number}
use Rattle.proto_core.specs.Parties.{count_of}
use Rattle.proto_core.specs.Script.{Move}
use Rattle.merged_orders.specs.Merging.{Orders, Reaches}

module _ (scripts : Number → List Move) (orders : Orders) where
  -- the first of a miner
  pub record IsUnreached (i : Number) (place : ℕ) : Type 0 where
    pub there : place < length (orders i)
    pub none : Reaches scripts orders i place → ⊥
    pub before : (k : ℕ) → k < place → Reaches scripts orders i k

  -- and each entry of lower miners is reached
  pub record IsFirstUnreached (i : Number) (place : ℕ) : Type 0 where
    pub first : IsUnreached i place
    pub lower : (h : Number) (k : ℕ) → count_of h < count_of i → k < length (orders h) → Reaches scripts orders h k

-- nothing is left of the orders of lower miners
abbrev pub NoneIsLeftBelow : Orders → Number → Type 0
NoneIsLeftBelow left i = (h : Number) → count_of h < count_of i → left h ≡ []
