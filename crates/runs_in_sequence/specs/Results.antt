-- What runs in sequence compute: each run what its gates do of the values that it begins with, some of them from the runs before.
use Rattle.std.specs.Prelude.{◌≡◌, ℕ, ◌<◌, List, [], ◌∷◌, ◌++◌, length}
use Rattle.proto_core.specs.declared.party.Number.{Number}
use Rattle.protocol_model.specs.Gates.{sizes_of}
use Rattle.protocol_model.specs.Runs.{Tapes, run_values, run_opened}
use Rattle.gates.specs.Clear.{Values}
use Rattle.shared_gates.specs.Shares.{Kind, kind_at, AllHeld}
use Rattle.shared_gates.specs.Kinds.{AllKinded}
use Rattle.shared_gates.specs.Computed.{Computed}
use Rattle.shared_gates.specs.Model.{AllSizesSuit}
use Rattle.handed_shares.specs.Handed.{handed_values, handed_kinds}
use Rattle.runs_in_sequence.specs.Sequences.{chosen, Leg, no_values, Kept, gates_on, kept_then}

-- ---- VALUES THAT ARE HELD IN SHARES

-- each of these values in its kind, and no shares more
pub record Held (kinds : List Kind) (values : Values) (shares : Number → Values) : Type 0 where
  pub held : AllHeld kinds values shares
  pub kinds_count : length kinds ≡ length values
  pub count : (i : Number) → length (shares i) ≡ length values

-- how the values at these places are held
abbrev pub chosen_kinds : (places : List ℕ) → List Kind → List Kind
chosen_kinds [] kinds = []
chosen_kinds (k ∷ ks) kinds = kind_at kinds k ∷ chosen_kinds ks kinds

abbrev pub AllUnder : ℕ → (places : List ℕ) → Type 0
AllUnder n [] = Unit {0}
AllUnder n (k ∷ ks) = (k < n) × AllUnder n ks

-- ---- A RUN IN THE CLEAR

-- the values that are dealt for it, how they are held, and how those of its gates are
pub record Meaning : Type 0 where
  pub values : Values
  pub dealt : List Kind
  pub kinds : List Kind

-- what it begins with
abbrev pub inputs_of : Leg → Meaning → (kept : Values) → Values
inputs_of leg m kept = chosen leg.takes kept ++ m.values

abbrev pub input_kinds : Leg → Meaning → (kept : List Kind) → List Kind
input_kinds leg m kept = chosen_kinds leg.takes kept ++ m.dealt

-- what it takes was kept, what is dealt for it are shares of its values, and its gates suit both, in sizes and kinds
pub record Suits (kept_kinds : List Kind) (kept_values : Values) (leg : Leg) (m : Meaning) : Type 0 where
  pub places : AllUnder (length kept_values) leg.takes
  pub dealt : Held m.dealt m.values leg.fresh
  pub sizes : sizes_of (inputs_of leg m kept_values) ≡ leg.sizes
  pub kinded : AllKinded (input_kinds leg m kept_kinds) m.kinds 0 leg.gates
  pub suited : AllSizesSuit leg.sizes [] leg.gates

-- ---- THE RESULTS

-- the miners come to values that fit the gates, of those that the run begins with
abbrev pub ComputedOf : (kept_values : Values) → Kept → Leg → Meaning → Tapes → Type 0
ComputedOf kept_values kept leg m t =
    Computed m.kinds (inputs_of leg m kept_values) [] leg.gates (run_values (gates_on leg kept) no_values t) (run_opened (gates_on leg kept) no_values t)

-- run after run: where a run suits what was kept before it, it computes, and what it keeps are shares of what it hands over
abbrev pub AreComputed : List Kind → Values → Kept → List Leg → List Meaning → List Tapes → Type 0
AreComputed kinds values kept [] ms ts = Held kinds values kept
AreComputed kinds values kept (leg ∷ legs) [] ts = Unit {0}
AreComputed kinds values kept (leg ∷ legs) (m ∷ ms) [] = Unit {0}
AreComputed kinds values kept (leg ∷ legs) (m ∷ ms) (t ∷ ts) =
    Suits kinds values leg m
    → (run : ComputedOf values kept leg m t)
    × AreComputed (kinds ++ handed_kinds leg.keeps 0 leg.gates) (values ++ handed_values leg.keeps 0 run.more leg.gates) (kept_then leg kept t) legs ms ts
