-- What is promised of what a miner sees of a program's run: it is a view that can be written, and its text is read as it.
use Rattle.std.specs.Prelude.{◌≡◌, ◌<◌, ◌^◌, ℕ, List, Some, Ok, length}
use Rattle.proto_core.specs.declared.party.Number.{Number}
use Rattle.protocol_model.specs.Network.{Delivery}
use Rattle.value_file.specs.declared.inputs.Entry.{Entry}
use Rattle.tape_file.specs.Tapes.{FourTapes}
use Rattle.program_trees.specs.TypedPrograms.{TypedProgramTree}
use Rattle.view_text.specs.View.{View, IsView}
use Rattle.view_text.specs.Text.{view_bytes}
use Rattle.view_text.specs.Reading.{read_view_of}
use Rattle.view_model.specs.TapeMaps.{miners_of, AreTapes}
use Rattle.program_run.specs.Accepted.{IsAccepted}
use Rattle.program_views.specs.Inputs.{AreSound}
use Rattle.program_views.specs.Views.{view_of}

-- so many as a number of 64 bits counts: the budget, the inputs, and the words of each tape
pub record AreCounted (entries : List Entry) (t : FourTapes) (budget : ℕ) : Type 0 where
  pub budget_fits : budget < 2 ^ 64
  pub inputs : length entries < 2 ^ 64
  pub dealer : length t.dealer < 2 ^ 64
  pub miners : (i : Number) → length (miners_of t i) < 2 ^ 64

-- the typed tree of an accepted program, inputs that may stand in a file, and tapes, all of words
pub record CanBeRun (p : TypedProgramTree) (entries : List Entry) (t : FourTapes) (budget : ℕ) : Type 0 where
  pub program : IsAccepted p
  pub inputs : AreSound entries
  pub tapes : AreTapes t
  pub counted : AreCounted entries t budget

-- whatever the delivery
abbrev pub ViewsAreOfTheirForm : Number → TypedProgramTree → List Entry → FourTapes → (budget : ℕ) → Delivery → Type 0
ViewsAreOfTheirForm i p entries t budget delivery =
    CanBeRun p entries t budget → (view : View) → view_of i p entries t budget delivery ≡ Some view → IsView view

-- ---- TEXTS

-- some miner sees this of the run of some program
pub record IsSeen (view : View) : Type 0 where
  pub miner : Number
  pub program : TypedProgramTree
  pub entries : List Entry
  pub tapes : FourTapes
  pub budget : ℕ
  pub delivery : Delivery
  pub runs : CanBeRun program entries tapes budget
  pub sees : view_of miner program entries tapes budget delivery ≡ Some view

abbrev pub IsReadAgain : View → Type 0
IsReadAgain view = IsSeen view → read_view_of (view_bytes view) ≡ Ok view

abbrev pub AreEqualByTheirTexts : (one other : View) → Type 0
AreEqualByTheirTexts one other = IsSeen one → IsSeen other → view_bytes one ≡ view_bytes other → one ≡ other
