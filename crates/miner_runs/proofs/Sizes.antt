-- Gates that suit, part by part, and the sizes of the values after them.
use Rattle.std.proofs.Common.{◌≡◌, ℕ, ◌≤◌, List, [], ◌∷◌, ◌++◌, length, drop, refl, ◌∙◌, subst}
use Rattle.proto_core.specs.declared.party.Number.{Number}
use Rattle.proto_core.specs.Strand.{Ends, then_do}
use Rattle.protocol_model.specs.Gates.{sizes_of, needed, gates_strand}
use Rattle.protocol_model.specs.Runs.{Shares, Tapes, Ready, run_values}
use Rattle.gates.specs.declared.gate.Gate.{Gate}
use Rattle.gates.specs.Clear.{Values}
use Rattle.shared_gates.specs.Model.{sizes_made, AllSizesSuit, run_gates, sizes_after}
use Rattle.shared_gates.proofs.Models.{gates-sound}
use Rattle.shared_plans.proofs.RunLists.{values-sized}
use Rattle.shared_plans.proofs.GateRunLaws.{model-sizes}
use Rattle.code_places.specs.Dealt.{Dealt}
use Rattle.miner_core.specs.OwnGates.{Whole, own_gates}
use Rattle.miner_core.proofs.OwnGates.{its-part}

-- ---- WHAT SUITS IN ONE SUITS PART BY PART

pub suits_front : (ds sizes : List ℕ) (xs ys : List Gate) → AllSizesSuit ds sizes (xs ++ ys) → AllSizesSuit ds sizes xs
suits_front ds sizes [] ys h = tt
suits_front ds sizes (g ∷ xs) ys h = (h.0, suits_front ds (sizes ++ sizes_made ds sizes g) xs ys h.1)

pub suits_back : (ds sizes : List ℕ) (xs ys : List Gate) → AllSizesSuit ds sizes (xs ++ ys) → AllSizesSuit ds (sizes_after ds sizes xs) ys
suits_back ds sizes [] ys h = h
suits_back ds sizes (g ∷ xs) ys h = suits_back ds (sizes ++ sizes_made ds sizes g) xs ys h.1

-- ---- THE SIZES BEHIND GATES

pub run_sizes :
    (dealt : Number → Values) (ds sizes : List ℕ) (gates : List Gate) (values : Shares) (tapes : Tapes) →
    Ready (run_gates dealt ds sizes gates) values tapes → ((i : Number) → sizes_of (values i) ≡ sizes) → (i : Number) →
    sizes_of (run_values (run_gates dealt ds sizes gates) values tapes i) ≡ sizes_after ds sizes gates
run_sizes dealt ds sizes gates values tapes ready same i =
    values-sized (run_gates dealt ds sizes gates) values tapes sizes (gates-sound dealt ds sizes gates) ready same i ∙ model-sizes dealt ds sizes gates

-- ---- A MINER'S OWN GATES

module _ (d : Dealt) (i : Number) (values : Values) (tape : List ℕ) (gates : List Gate) where
  abbrev IsPart : (ds sizes : List ℕ) → Type 0
  IsPart ds sizes =
      AllSizesSuit ds sizes gates → needed (run_gates d.shares ds sizes gates) i ≤ length tape →
      own_gates i (d.shares i) gates values tape
      ≡ then_do (gates_strand i (run_gates d.shares ds sizes gates) values tape)
      (λ all. Ends (Whole all (drop (needed (run_gates d.shares ds sizes gates) i) tape)))

  -- where they suit and its tape reaches, they are its part in the run of them
  pub own_part : (ds sizes : List ℕ) → sizes_of (d.shares i) ≡ ds → sizes_of values ≡ sizes → IsPart ds sizes
  own_part ds sizes dealt_same same =
      subst (λ n. IsPart n sizes) dealt_same
      (subst (λ n. IsPart (sizes_of (d.shares i)) n) same (its-part i (d.shares i) d.shares refl gates values tape))
