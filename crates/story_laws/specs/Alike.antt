-- Two runs that have done the same so far.
use Rattle.std.specs.Prelude.{◌≡◌, ℕ, List}
use Rattle.proto_core.specs.Strand.{Strand, Ends, Acts, Waits, Ran}

module _ {A : Type 0} where
  -- both have ended, with the same; or both wait for a message of the same link and shape
  abbrev pub StandSame : Strand A → Strand A → Type 0
  StandSame (Ends a) t = t ≡ Ends a
  StandSame (Acts act s) t = t ≡ Acts act s
  StandSame (Waits l shape k) t = (goes : List ℕ → Strand A) × (t ≡ Waits l shape goes)

  -- what was sent, opened and told is the same, the same is unread, and they stand alike
  pub record RunAlike (r q : Ran A) : Type 0 where
    pub acts : r.acts ≡ q.acts
    pub unread : r.unread ≡ q.unread
    pub left : StandSame r.left q.left
