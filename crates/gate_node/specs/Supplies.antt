-- Words of a tape that are drawn from a source where they are to lie.
use Rattle.std.specs.Prelude.{◌≡◌, ℕ, List, ◌++◌, length, true}
use Rattle.outside.specs.Causes.{Rose}
use Rattle.outside.specs.Tapes.{TapesState, Drew, SameTapes, faults_of}
use Rattle.gate_node.specs.declared.engine.Engine.{Engine}
use Rattle.gate_node.specs.declared.supply_err.SupplyErr.{SupplyErr}
use Rattle.gate_node.specs.declared.supply_err.SupplyErr.TheVariants as refused
use Rattle.gate_node.specs.Nodes.{filled}

-- so many words of a party's tape, the next, were drawn and stand after those that were there
pub record DrawsTo (party count : ℕ) (before after : List ℕ) (old new : TapesState) : Type 0 where
  pub words : List ℕ
  pub counted : length words ≡ count
  pub drew : Drew old new party words
  pub added : after ≡ before ++ words

-- the same of the words that were supplied, and of those that are left of them
pub record SuppliesTape (party count : ℕ) (before after : List ℕ × List ℕ) (old new : TapesState) : Type 0 where
  pub all : DrawsTo party count before.0 after.0 old new
  pub left : after.1 ≡ before.1 ++ all.words

-- and of a miner that runs gates
pub record SuppliesFrom {P : Type 0} (party count : ℕ) (before after : Engine P) (old new : TapesState) : Type 0 where
  pub words : List ℕ
  pub counted : length words ≡ count
  pub drew : Drew old new party words
  pub supplied : after ≡ filled before words

-- no word was drawn: the count of faults rose, and the source was not steady
pub record IsFaulted (old new : TapesState) : Type 0 where
  pub same : SameTapes old new
  pub rose : Rose (faults_of old) (faults_of new)
  pub unsteady : old.steady ≡ true → ⊥

-- why none was supplied; with no memory left none was asked for
abbrev pub IsUnsupplied : (old new : TapesState) → SupplyErr → Type 0
IsUnsupplied old new refused.Memory = new ≡ old
IsUnsupplied old new refused.Failed = IsFaulted old new
