-- What a miner that reshares holds, and what each of its steps gives.
use Rattle.std.specs.Prelude.{◌≡◌, ℕ, List, [], ◌∷◌, length}
use Rattle.proto_core.specs.Ring.{Ring}
use Rattle.proto_core.specs.declared.party.Number.{Number}
use Rattle.proto_core.specs.Strand.{Strand, Ends}
use Rattle.proto_core.specs.Resharing.{reshared}
use Rattle.reshare.specs.Resharing.{reshare_sent}

-- a miner's state, once it has sent its mask, is its share and its mask: it says what is left of its part
abbrev pub left_sent : Ring → Number → List ℕ × List ℕ → Strand (List (List ℕ))
left_sent r i state = reshare_sent r (length state.0) i state.0 state.1

-- what it does with the message that comes
abbrev pub after_sent : Ring → List ℕ × List ℕ → List ℕ → Strand (List (List ℕ))
after_sent r state message = Ends (reshared r (length state.0) state.0 state.1 message ∷ [])

-- the previous miner's mask came
pub record Reshared (r : Ring) (before : List ℕ × List ℕ) (message share : List ℕ) : Type 0 where
  pub fits : length message ≡ length before.0
  pub is : share ≡ reshared r (length before.0) before.0 before.1 message
  pub len : length share ≡ length before.0
