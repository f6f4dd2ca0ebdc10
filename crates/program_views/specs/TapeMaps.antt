-- The tapes that a miner's view of the run of a program is made of, the way back, and the twins.
use Rattle.std.specs.Prelude.{◌≡◌, ℕ, List}
use Rattle.proto_core.specs.declared.party.Number.{Number}
use Rattle.protocol_model.specs.Network.{Delivery}
use Rattle.value_file.specs.declared.inputs.Entry.{Entry}
use Rattle.value_file.specs.Public.{part_of}
use Rattle.tape_file.specs.Tapes.{FourTapes}
use Rattle.program_trees.specs.TypedPrograms.{TypedProgramTree}
use Rattle.view_model.specs.TapeMaps.{miners_of, to_simulated, from_simulated, AreTapes, SameLengths}
use Rattle.program_views.specs.Views.{lengths_of, run_on, view_of}

-- ---- THE MAPS

abbrev pub mapped : Number → TypedProgramTree → List Entry → FourTapes → (budget : ℕ) → FourTapes
mapped i p entries t budget = to_simulated i entries (run_on p entries (lengths_of t) budget).gates t

abbrev pub mapped_back : Number → TypedProgramTree → List Entry → FourTapes → (budget : ℕ) → FourTapes
mapped_back i p entries s budget = from_simulated i entries (run_on p entries (lengths_of s) budget).gates s

-- each is the other's inverse; all words stay words, each tape keeps its length, and the miner's own tape its words
pub record MapsCorrespond (i : Number) (p : TypedProgramTree) (entries : List Entry) (t : FourTapes) (budget : ℕ) : Type 0 where
  pub there_and_back : mapped_back i p entries (mapped i p entries t budget) budget ≡ t
  pub back_and_there : mapped i p entries (mapped_back i p entries t budget) budget ≡ t
  pub kept : SameLengths (mapped i p entries t budget) t
  pub back_kept : SameLengths (mapped_back i p entries t budget) t
  pub words : AreTapes (mapped i p entries t budget)
  pub back_words : AreTapes (mapped_back i p entries t budget)
  pub own : miners_of (mapped i p entries t budget) i ≡ miners_of t i
  pub back_own : miners_of (mapped_back i p entries t budget) i ≡ miners_of t i

-- ---- TWINS

-- the tapes with which the second inputs give the view of the first
abbrev pub twinned : Number → TypedProgramTree → (first second : List Entry) → FourTapes → (budget : ℕ) → FourTapes
twinned i p first second t budget = mapped_back i p second (mapped i p first t budget) budget

-- on tapes as long as these: two inputs that differ in private values alone, and with which the same words are opened
pub record AreAlike (p : TypedProgramTree) (first second : List Entry) (lengths : List ℕ) (budget : ℕ) : Type 0 where
  pub known : part_of first ≡ part_of second
  pub opened : (run_on p first lengths budget).opened ≡ (run_on p second lengths budget).opened

-- tapes as long, with which the second inputs give the same view under every delivery, and the way back leads back
pub record IsTwin (i : Number) (p : TypedProgramTree) (first second : List Entry) (t t2 : FourTapes) (budget : ℕ) : Type 0 where
  pub words : AreTapes t2
  pub lengths : lengths_of t2 ≡ lengths_of t
  pub own : miners_of t2 i ≡ miners_of t i
  pub sees : (delivery : Delivery) → view_of i p second t2 budget delivery ≡ view_of i p first t budget delivery
  pub back : twinned i p second first t2 budget ≡ t
