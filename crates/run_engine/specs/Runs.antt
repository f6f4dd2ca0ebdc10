-- Files that can be run, and files that are refused.
use Rattle.std.specs.Prelude.{◌≡◌, ℕ, List, Some, Ok, Err}
use Rattle.outside.specs.Files.{Contents, file_at}
use Rattle.command_frame.specs.declared.status.Status.{Status}
use Rattle.command_frame.specs.declared.status.Status.TheVariants.{Input, Schedule, TapeFile}
use Rattle.command_words.specs.Ask.{RunAsk, file, scheduled}
use Rattle.miner_commands.specs.Deliveries.{net_of}
use Rattle.protocol_model.specs.Network.{Accepted, Answer, Delivery, EmptyLink, Stalled}
use Rattle.schedule_file.specs.Reading.{links_of}
use Rattle.program_trees.specs.TypedPrograms.{TypedProgramTree}
use Rattle.tape_file.specs.Format.{read_of as tapes_read_of}
use Rattle.tape_file.specs.Tapes.{FourTapes}
use Rattle.value_file.specs.declared.inputs.Entry.{Entry}
use Rattle.value_file.specs.declared.read_err.ReadErr.{ReadErr}
use Rattle.value_file.specs.Input.{read_of as inputs_read_of}
use Rattle.program_commands.specs.Held.{HoldsTyped, ProgramRefused}
use Rattle.program_commands.specs.Reading.{delivery_at, inputs_at, tapes_at}

-- the files that `run` reads are there: a program of this typed tree, these inputs, these tapes and this order of delivery
pub record HoldsRun (ask : RunAsk) (files : Contents) (typed : TypedProgramTree) (entries : List Entry) (given : FourTapes) (delivery : Delivery)
    : Type 0 where
  pub program : HoldsTyped ask.program files typed
  pub inputs : inputs_at files ask.input ≡ Ok entries
  pub tapes : tapes_at files ask.source ≡ Ok given
  pub order : delivery_at files ask.order ≡ Ok delivery

-- what a delivery that is asked for comes to
abbrev pub net_for : RunAsk → TypedProgramTree → List Entry → FourTapes → Delivery → Answer
net_for ask typed entries given delivery = net_of typed entries given ask.budget delivery

-- an entry has no message, or a miner is left waiting
abbrev pub IsNotTaken : Answer → Type 0
IsNotTaken Accepted = ⊥
IsNotTaken (EmptyLink entry link sent) = Unit {0}
IsNotTaken (Stalled miner link) = Unit {0}

-- why `run` is refused with this status: the first file that is there and not as it must be, or a schedule that can't be followed to the end
pub data RunRefused (ask : RunAsk) (files : Contents) (status : Status) : Type 0 where
  bad_program : ProgramRefused ask.program files status → RunRefused ask files status
  bad_input : status ≡ Input → (program : TypedProgramTree) → HoldsTyped ask.program files program
      → (bytes : List ℕ) (err : ReadErr) → file_at files ask.input ≡ Some bytes → inputs_read_of bytes ≡ Err err → RunRefused ask files status
  bad_tape : status ≡ TapeFile → (program : TypedProgramTree) → HoldsTyped ask.program files program
      → (entries : List Entry) → inputs_at files ask.input ≡ Ok entries
      → (path bytes : List ℕ) (place : ℕ) → ask.source ≡ file path → file_at files path ≡ Some bytes → tapes_read_of bytes ≡ Err place
      → RunRefused ask files status
  bad_schedule : status ≡ Schedule → (program : TypedProgramTree) → HoldsTyped ask.program files program
      → (entries : List Entry) → inputs_at files ask.input ≡ Ok entries → (given : FourTapes) → tapes_at files ask.source ≡ Ok given
      → (path bytes : List ℕ) (line : ℕ) → ask.order ≡ scheduled path → file_at files path ≡ Some bytes → links_of bytes ≡ Err line
      → RunRefused ask files status
  not_taken : status ≡ Schedule → (program : TypedProgramTree) (entries : List Entry) (given : FourTapes) (delivery : Delivery)
      → HoldsRun ask files program entries given delivery → IsNotTaken (net_for ask program entries given delivery) → RunRefused ask files status
