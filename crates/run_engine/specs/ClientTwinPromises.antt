-- Files that have a twin tape, what `client-twin` then does, and files that are refused.
use Rattle.std.specs.Prelude.{◌≡◌, ℕ, List, Some, Ok, Err}
use Rattle.outside.specs.Files.{Contents, file_at}
use Rattle.command_frame.specs.declared.status.Status.{Status}
use Rattle.command_frame.specs.declared.status.Status.TheVariants.{Input, NotAlike, TapeFile}
use Rattle.command_frame.specs.Answer.{Effect}
use Rattle.command_words.specs.Ask.{ClientTwinAsk}
use Rattle.program_trees.specs.TypedPrograms.{TypedProgramTree}
use Rattle.tape_file.specs.Format.{read_of as tapes_read_of}
use Rattle.tape_file.specs.Tapes.{FourTapes}
use Rattle.value_file.specs.declared.inputs.Entry.{Entry}
use Rattle.value_file.specs.declared.read_err.ReadErr.{ReadErr}
use Rattle.value_file.specs.Input.{read_of as inputs_read_of}
use Rattle.client_view.specs.TapeMaps.{AreAlikeToClient}
use Rattle.program_views.specs.Views.{lengths_of}
use Rattle.program_commands.specs.Reading.{inputs_at, tape_file_at}
use Rattle.program_commands.specs.Held.{HoldsTyped, ProgramRefused}
use Rattle.client_commands.specs.Twin.{client_twin_effect}

-- the files that `client-twin` reads are there: a program of this typed tree, two inputs and these tapes
pub record HoldsClientTwin (ask : ClientTwinAsk) (files : Contents) (typed : TypedProgramTree) (first second : List Entry) (given : FourTapes) : Type 0 where
  pub program : HoldsTyped ask.program files typed
  pub inputs : inputs_at files ask.input ≡ Ok first
  pub other : inputs_at files ask.second ≡ Ok second
  pub tapes : tape_file_at files ask.tape ≡ Ok given

-- with the same public part, and with which the same is opened and handed over on these tapes
abbrev pub AreTakenByClient : ClientTwinAsk → TypedProgramTree → (first second : List Entry) → FourTapes → Type 0
AreTakenByClient ask program first second tapes = AreAlikeToClient program first second (lengths_of tapes) ask.budget

-- over such files with inputs that are alike: the tapes with which the second give the client the view of the first
abbrev pub ClientTwinEffect : ClientTwinAsk → Contents → Effect → Type 0
ClientTwinEffect ask files effect = (program : TypedProgramTree) × (first : List Entry) × (second : List Entry) × (tapes : FourTapes)
    × HoldsClientTwin ask files program first second tapes × AreTakenByClient ask program first second tapes
    × (effect ≡ client_twin_effect ask program first second tapes)

-- why `client-twin` is refused with this status: the first file that is there and not as it must be, or inputs that are not alike
pub data ClientTwinRefused (ask : ClientTwinAsk) (files : Contents) (status : Status) : Type 0 where
  for_program : ProgramRefused ask.program files status → ClientTwinRefused ask files status
  for_input : status ≡ Input → (program : TypedProgramTree) → HoldsTyped ask.program files program
      → (bytes : List ℕ) (err : ReadErr) → file_at files ask.input ≡ Some bytes → inputs_read_of bytes ≡ Err err → ClientTwinRefused ask files status
  for_second : status ≡ Input → (program : TypedProgramTree) → HoldsTyped ask.program files program
      → (first : List Entry) → inputs_at files ask.input ≡ Ok first
      → (bytes : List ℕ) (err : ReadErr) → file_at files ask.second ≡ Some bytes → inputs_read_of bytes ≡ Err err → ClientTwinRefused ask files status
  for_tape : status ≡ TapeFile → (program : TypedProgramTree) → HoldsTyped ask.program files program
      → (first : List Entry) → inputs_at files ask.input ≡ Ok first → (second : List Entry) → inputs_at files ask.second ≡ Ok second
      → (bytes : List ℕ) (place : ℕ) → file_at files ask.tape ≡ Some bytes → tapes_read_of bytes ≡ Err place → ClientTwinRefused ask files status
  not_alike : status ≡ NotAlike → (program : TypedProgramTree) (first second : List Entry) (tapes : FourTapes)
      → HoldsClientTwin ask files program first second tapes → (AreTakenByClient ask program first second tapes → ⊥) → ClientTwinRefused ask files status
