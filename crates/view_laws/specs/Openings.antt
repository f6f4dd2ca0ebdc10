-- What is promised of the `open` lines of a program's run.
use Rattle.std.specs.Prelude.{◌≡◌, ℕ, List, Ok}
use Rattle.value_file.specs.declared.inputs.Entry.{Entry}
use Rattle.tape_file.specs.Tapes.{FourTapes}
use Rattle.program_trees.specs.TypedPrograms.{TypedProgramTree}
use Rattle.view_model.specs.TapeMaps.{AreTapes}
use Rattle.program_run.specs.Accepted.{IsAccepted}
use Rattle.program_views.specs.Inputs.{AreSound}
use Rattle.program_views.specs.Views.{lengths_of, openings, run_on}
use Rattle.view_reader.specs.Opened.{opened_bytes, opened_of}

-- the file of them is read as the words that the run opens
abbrev pub IsReadAsOpened : TypedProgramTree → List Entry → FourTapes → (budget : ℕ) → Type 0
IsReadAsOpened p entries t budget =
    IsAccepted p → AreSound entries → AreTapes t
    → opened_of (opened_bytes (openings (run_on p entries (lengths_of t) budget).events)) ≡ Ok (run_on p entries (lengths_of t) budget).opened
