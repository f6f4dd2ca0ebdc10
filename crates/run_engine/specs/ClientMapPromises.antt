-- Files that can be mapped, what `client-map` then does, and files that are refused.
use Rattle.std.specs.Prelude.{◌≡◌, ℕ, List, Some, Ok, Err}
use Rattle.outside.specs.Files.{Contents, file_at}
use Rattle.command_frame.specs.declared.status.Status.{Status}
use Rattle.command_frame.specs.declared.status.Status.TheVariants.{Input, TapeFile}
use Rattle.command_frame.specs.Answer.{Effect}
use Rattle.command_words.specs.Ask.{ClientMapAsk}
use Rattle.program_trees.specs.TypedPrograms.{TypedProgramTree}
use Rattle.tape_file.specs.Format.{read_of as tapes_read_of}
use Rattle.tape_file.specs.Tapes.{FourTapes}
use Rattle.value_file.specs.declared.inputs.Entry.{Entry}
use Rattle.value_file.specs.declared.read_err.ReadErr.{ReadErr}
use Rattle.value_file.specs.Input.{read_of as inputs_read_of}
use Rattle.client_commands.specs.Map.{client_map_effect}
use Rattle.program_commands.specs.Reading.{inputs_at, tape_file_at}
use Rattle.program_commands.specs.Held.{HoldsTyped, ProgramRefused}

-- the files that `client-map` reads are there: a program of this typed tree, these inputs and these tapes
pub record HoldsClientMap (ask : ClientMapAsk) (files : Contents) (typed : TypedProgramTree) (entries : List Entry) (given : FourTapes) : Type 0 where
  pub program : HoldsTyped ask.program files typed
  pub inputs : inputs_at files ask.input ≡ Ok entries
  pub tapes : tape_file_at files ask.tape ≡ Ok given

-- over such files: the tapes that the client's view is made of, the public part of the inputs, what is opened, and what is
-- handed over
abbrev pub ClientMapEffect : ClientMapAsk → Contents → Effect → Type 0
ClientMapEffect ask files effect = (program : TypedProgramTree) × (entries : List Entry) × (tapes : FourTapes) × HoldsClientMap ask files program entries tapes
    × (effect ≡ client_map_effect ask program entries tapes)

-- why `client-map` is refused with this status: the first file that is there and not as it must be
pub data ClientMapRefused (ask : ClientMapAsk) (files : Contents) (status : Status) : Type 0 where
  for_program : ProgramRefused ask.program files status → ClientMapRefused ask files status
  for_input : status ≡ Input → (program : TypedProgramTree) → HoldsTyped ask.program files program
      → (bytes : List ℕ) (err : ReadErr) → file_at files ask.input ≡ Some bytes → inputs_read_of bytes ≡ Err err → ClientMapRefused ask files status
  for_tape : status ≡ TapeFile → (program : TypedProgramTree) → HoldsTyped ask.program files program
      → (entries : List Entry) → inputs_at files ask.input ≡ Ok entries
      → (bytes : List ℕ) (place : ℕ) → file_at files ask.tape ≡ Some bytes → tapes_read_of bytes ≡ Err place → ClientMapRefused ask files status
