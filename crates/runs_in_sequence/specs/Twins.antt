-- Twins of runs in sequence: other shares are dealt for them, and with other tapes a miner sees the same.
use Rattle.std.specs.Prelude.{◌≡◌, ℕ, ◌+◌, ◌≤◌, Bool, true, false, List, [], ◌∷◌, ◌++◌, length}
use Rattle.proto_core.specs.declared.party.Number.{Number}
use Rattle.proto_core.specs.Lists.{AreWords}
use Rattle.protocol_model.specs.Gates.{sizes_of}
use Rattle.protocol_model.specs.Runs.{Tapes}
use Rattle.gates.specs.declared.gate.Gate.{Gate}
use Rattle.gates.specs.declared.gate.Gate.TheVariants.{Result}
use Rattle.gates.specs.Clear.{Values}
use Rattle.gates.specs.Counts.{made_by, size_of, words_of_all}
use Rattle.shared_gates.specs.Model.{AllSizesSuit, sizes_after, miner_of}
use Rattle.runs_in_sequence.specs.Sequences.{Leg, Kept, to_views, from_views, seen_all, opened_all}

-- ---- RUNS BY SIZES ALONE

-- the sizes of what a miner keeps of values of these sizes
abbrev pub size_kept_by : Gate → (mine : Bool) → (next : ℕ) → (sizes : List ℕ) → List ℕ
size_kept_by (Result ring u) true next sizes = size_of sizes next ∷ []
size_kept_by (Result ring u) false next sizes = []
size_kept_by gate mine next sizes = []

abbrev pub sizes_kept : (mine : ℕ → Bool) → (next : ℕ) → (sizes : List ℕ) → List Gate → List ℕ
sizes_kept mine next sizes [] = []
sizes_kept mine next sizes (gate ∷ gates) = size_kept_by gate (mine next) next sizes ++ sizes_kept mine (next + made_by gate) sizes gates

abbrev pub chosen_sizes : (places : List ℕ) → List ℕ → List ℕ
chosen_sizes [] sizes = []
chosen_sizes (k ∷ ks) sizes = size_of sizes k ∷ chosen_sizes ks sizes

-- a run takes values of the sizes that it wants, and has words enough
pub record Fits (kept : List ℕ) (leg : Leg) (t : Tapes) : Type 0 where
  pub sizes : (i : Number) → chosen_sizes leg.takes kept ++ sizes_of (leg.fresh i) ≡ leg.sizes
  pub suited : AllSizesSuit leg.sizes [] leg.gates
  pub reach : (i : Number) → words_of_all (sizes_after leg.sizes [] leg.gates) (miner_of i) leg.gates ≤ length (t i)
  pub words : (i : Number) → AreWords (t i)

abbrev pub sizes_then : (kept : List ℕ) → Leg → List ℕ
sizes_then kept leg = kept ++ sizes_kept leg.keeps 0 (sizes_after leg.sizes [] leg.gates) leg.gates

-- so do all of them, run after run
abbrev pub AllFit : (kept : List ℕ) → List Leg → List Tapes → Type 0
AllFit kept [] [] = Unit {0}
AllFit kept [] (t ∷ ts) = ⊥
AllFit kept (leg ∷ legs) [] = ⊥
AllFit kept (leg ∷ legs) (t ∷ ts) = Fits kept leg t × AllFit (sizes_then kept leg) legs ts

-- each miner has kept values of these sizes
abbrev pub AreSized : List ℕ → Kept → Type 0
AreSized sizes kept = (i : Number) → sizes_of (kept i) ≡ sizes

-- ---- ALIKE DEALINGS

-- the same runs, with these shares dealt for them, run by run
abbrev pub redealt : List Leg → (dealt : List (Number → Values)) → List Leg
redealt [] dealt = []
redealt (leg ∷ legs) [] = []
redealt (leg ∷ legs) (d ∷ ds) = record leg { fresh = d } ∷ redealt legs ds

-- one miner is dealt the same
abbrev pub DealtTheSame : Number → List Leg → (dealt : List (Number → Values)) → Type 0
DealtTheSame i [] [] = Unit {0}
DealtTheSame i [] (d ∷ ds) = ⊥
DealtTheSame i (leg ∷ legs) [] = ⊥
DealtTheSame i (leg ∷ legs) (d ∷ ds) = (d i ≡ leg.fresh i) × DealtTheSame i legs ds

-- whatever is drawn, these words are opened, run by run
abbrev pub Opens : (sizes : List ℕ) → Kept → List Leg → (opened : List (List ℕ)) → Type 0
Opens sizes kept legs opened = (ts : List Tapes) → AllFit sizes legs ts → opened_all kept legs ts ≡ opened

-- ---- TWINS

-- the tapes of the second dealing with which miner i sees what it sees of the first
abbrev pub twins : Number → (first : Kept) → (legs : List Leg) → (second : Kept) → (others : List Leg) → List Tapes → List Tapes
twins i first legs second others ts = from_views i second others (to_views i first legs ts)

pub record AreTwins (i : Number) (sizes : List ℕ) (first : Kept) (legs : List Leg) (second : Kept) (others : List Leg) (ts : List Tapes) : Type 0 where
  pub fit : AllFit sizes others (twins i first legs second others ts)
  pub sees : seen_all i second others (twins i first legs second others ts) ≡ seen_all i first legs ts
  pub back : twins i second others first legs (twins i first legs second others ts) ≡ ts
