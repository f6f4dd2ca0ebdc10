-- Gates that send nothing, of which the last is a store into an array.
use Rattle.std.specs.Prelude.{◌≡◌, ℕ, ◌+◌, IsTrue, List, [], ◌∷◌, ◌++◌, length}
use Rattle.proto_core.specs.declared.party.Number.{Number}
use Rattle.protocol_model.specs.Gates.{sizes_of}
use Rattle.gates.specs.declared.gate.Gate.{Gate}
use Rattle.gates.specs.declared.gate.Gate.TheVariants.{Put}
use Rattle.gates.specs.Clear.{Values}
use Rattle.gate_exchanges.specs.LocalGates.{local_share, IsLocal}
use Rattle.gate_node.specs.Suiting.{suits}

module _ (dealt : Values) where
  -- a gate sends nothing and suits
  abbrev pub RunsAlone : Values → Gate → Type 0
  RunsAlone values gate = IsLocal gate × IsTrue (suits (sizes_of dealt) (sizes_of values) gate)

  -- so does the first of these gates
  abbrev pub FirstRunsAlone : Values → List Gate → Type 0
  FirstRunsAlone values [] = ⊥
  FirstRunsAlone values (gate ∷ gates) = RunsAlone values gate

  -- there is one gate, a store into the array of this number, and it suits
  pub record IsStore (array : ℕ) (values : Values) (gates : List Gate) : Type 0 where
    pub index : ℕ
    pub element : ℕ
    pub one : gates ≡ Put array index element ∷ []
    pub suit : IsTrue (suits (sizes_of dealt) (sizes_of values) (Put array index element))

  module _ (i : Number) where
    -- the values with that of the first of these gates, which sends nothing
    abbrev pub with_first : Values → List Gate → Values
    with_first values [] = values
    with_first values (gate ∷ gates) = values ++ local_share i dealt values gate ∷ []

    -- gates that send nothing and suit, one after another, and last such a store, with which there are so many values
    abbrev pub EndInStore : (array count : ℕ) → Values → List Gate → Type 0
    EndInStore array count values [] = ⊥
    EndInStore array count values (gate ∷ []) = IsStore array values (gate ∷ []) × (length values + 1 ≡ count)
    EndInStore array count values (gate ∷ next ∷ gates) =
        RunsAlone values gate × EndInStore array count (values ++ local_share i dealt values gate ∷ []) (next ∷ gates)
