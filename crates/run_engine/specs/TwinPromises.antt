-- Files that have a twin tape, what `twin` then does, and files that are refused.
use Rattle.std.specs.Prelude.{◌≡◌, ℕ, List, Some, Ok, Err}
use Rattle.outside.specs.Files.{Contents, file_at}
use Rattle.command_frame.specs.declared.status.Status.{Status}
use Rattle.command_frame.specs.declared.status.Status.TheVariants.{Input, NotAlike, TapeFile}
use Rattle.command_frame.specs.Answer.{Effect}
use Rattle.command_words.specs.Ask.{TwinAsk}
use Rattle.program_trees.specs.TypedPrograms.{TypedProgramTree}
use Rattle.tape_file.specs.Format.{read_of as tapes_read_of}
use Rattle.tape_file.specs.Tapes.{FourTapes}
use Rattle.value_file.specs.declared.inputs.Entry.{Entry}
use Rattle.value_file.specs.declared.read_err.ReadErr.{ReadErr}
use Rattle.value_file.specs.Input.{read_of as inputs_read_of}
use Rattle.program_views.specs.TapeMaps.{AreAlike}
use Rattle.program_views.specs.Views.{lengths_of}
use Rattle.program_commands.specs.Reading.{inputs_at, tape_file_at}
use Rattle.program_commands.specs.Held.{HoldsTyped, ProgramRefused}
use Rattle.tape_commands.specs.Twin.{twin_effect}

-- the files that `twin` reads are there: a program of this typed tree, two inputs and these tapes
pub record HoldsTwin (ask : TwinAsk) (files : Contents) (typed : TypedProgramTree) (first second : List Entry) (given : FourTapes) : Type 0 where
  pub program : HoldsTyped ask.program files typed
  pub inputs : inputs_at files ask.input ≡ Ok first
  pub other : inputs_at files ask.second ≡ Ok second
  pub tapes : tape_file_at files ask.tape ≡ Ok given

-- with the same public part, and with which the same words are opened on these tapes
abbrev pub AreTaken : TwinAsk → TypedProgramTree → (first second : List Entry) → FourTapes → Type 0
AreTaken ask program first second tapes = AreAlike program first second (lengths_of tapes) ask.budget

-- over such files with inputs that are alike: the tapes with which the second give the miner the view of the first
abbrev pub TwinEffect : TwinAsk → Contents → Effect → Type 0
TwinEffect ask files effect = (program : TypedProgramTree) × (first : List Entry) × (second : List Entry) × (tapes : FourTapes)
    × HoldsTwin ask files program first second tapes × AreTaken ask program first second tapes
    × (effect ≡ twin_effect ask program first second tapes)

-- why `twin` is refused with this status: the first file that is there and not as it must be, or inputs that are not alike
pub data TwinRefused (ask : TwinAsk) (files : Contents) (status : Status) : Type 0 where
  for_program : ProgramRefused ask.program files status → TwinRefused ask files status
  for_input : status ≡ Input → (program : TypedProgramTree) → HoldsTyped ask.program files program
      → (bytes : List ℕ) (err : ReadErr) → file_at files ask.input ≡ Some bytes → inputs_read_of bytes ≡ Err err → TwinRefused ask files status
  for_second : status ≡ Input → (program : TypedProgramTree) → HoldsTyped ask.program files program
      → (first : List Entry) → inputs_at files ask.input ≡ Ok first
      → (bytes : List ℕ) (err : ReadErr) → file_at files ask.second ≡ Some bytes → inputs_read_of bytes ≡ Err err → TwinRefused ask files status
  for_tape : status ≡ TapeFile → (program : TypedProgramTree) → HoldsTyped ask.program files program
      → (first : List Entry) → inputs_at files ask.input ≡ Ok first → (second : List Entry) → inputs_at files ask.second ≡ Ok second
      → (bytes : List ℕ) (place : ℕ) → file_at files ask.tape ≡ Some bytes → tapes_read_of bytes ≡ Err place → TwinRefused ask files status
  not_alike : status ≡ NotAlike → (program : TypedProgramTree) (first second : List Entry) (tapes : FourTapes)
      → HoldsTwin ask files program first second tapes → (AreTaken ask program first second tapes → ⊥) → TwinRefused ask files status
