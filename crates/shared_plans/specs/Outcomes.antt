-- What a run of gates comes to with more gates after it.
use Rattle.std.specs.Prelude.{◌≡◌, ℕ, ◌<◌, List, [], ◌∷◌, ◌++◌, length, map}
use Rattle.proto_core.specs.declared.party.Number.{Number}
use Rattle.protocol_model.specs.Runs.{Tapes, Ready}
use Rattle.gates.specs.declared.gate.Gate.{Gate}
use Rattle.gates.specs.declared.gate.Gate.TheVariants.{Open}
use Rattle.gates.specs.Clear.{Values, value, FitFrom}
use Rattle.gates.specs.Counts.{Miner, size_of, made_by_all, words_of_all}
use Rattle.shared_gates.specs.Shares.{Kind}
use Rattle.shared_gates.specs.Kinds.{AllKinded}
use Rattle.shared_gates.specs.Model.{AllSizesSuit}
use Rattle.shared_gates.specs.Computed.{Computed}
use Rattle.shared_plans.specs.GateRuns.{GateRun, IsWellFormed, dealt_sizes, value_count, value_sizes, model_gates, end_shares, shares_of, opened_words}

abbrev pub OpensNone : List Gate → Type 0
OpensNone [] = Unit {0}
OpensNone (Open ring u ∷ gates) = ⊥
OpensNone (gate ∷ gates) = OpensNone gates

-- the gates suit the run's values, make values that are shared like this, open none, and take so many words of each miner,
-- whatever values fit them
pub record Follows (r : GateRun) (gates : List Gate) (kinds : List Kind) (words : Miner → ℕ) : Type 0 where
  pub kinded : AllKinded r.dealt_kinds (r.kinds ++ kinds) (value_count r) gates
  pub suits : AllSizesSuit (dealt_sizes r) (value_sizes r) gates
  pub counted : length kinds ≡ made_by_all gates
  pub opens_none : OpensNone gates
  pub takes :
      (inputs values : Values) (miner : Miner) →
      ((u : ℕ) → u < value_count r → length (value values u) ≡ size_of (value_sizes r) u) →
      FitFrom inputs values (value_count r) gates → words_of_all (map length values) miner gates ≡ words miner

-- the longer run is well formed too; on these tapes its three miners come to the end, with shares of values that fit all of its
-- gates; they keep the shares that they had, and learn no word that they didn't learn before
pub record Outcome (r longer : GateRun) (tapes : Tapes) : Type 0 where
  pub well_formed : IsWellFormed longer
  pub ready : Ready (model_gates longer) (λ i. []) tapes
  pub computed : Computed longer.kinds longer.inputs [] longer.gates (end_shares longer tapes) (opened_words longer tapes)
  pub count : (i : Number) → length (end_shares longer tapes i) ≡ value_count longer
  pub kept : (u : ℕ) → u < value_count r → (i : Number) → shares_of longer tapes u i ≡ shares_of r tapes u i
  pub opens_no_more : opened_words longer tapes ≡ opened_words r tapes
