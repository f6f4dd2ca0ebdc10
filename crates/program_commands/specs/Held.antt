-- Files that can be checked, compiled, upgraded, evaluated and dealt, and files that are refused.
use Rattle.std.specs.Prelude.{◌≡◌, ◌⊎◌, ◌<◌, ℕ, List, length, Option, Some, Ok, Err}
use Rattle.outside.specs.Files.{Contents, file_at}
use Rattle.program_trees.specs.Programs.{ProgramTree}
use Rattle.front_end.specs.declared.program_fault.ProgramFault.{ProgramFault}
use Rattle.front_end.specs.Judgement.{IsProgramText, IsRefusedText}
use Rattle.command_frame.specs.declared.status.Status.{Status}
use Rattle.command_frame.specs.declared.status.Status.TheVariants.{Input, Program, Tape, TapeFile}
use Rattle.command_frame.specs.Answer.{Cause}
use Rattle.command_words.specs.Ask.{Ask, EvalAsk, DealAsk, UpgradeAsk, eval, need}
use Rattle.bytecode.specs.Decoded.{decoded_v1}
use Rattle.program_trees.specs.TypedPrograms.{TypedProgramTree}
use Rattle.input_share.specs.Dealing.{need_of}
use Rattle.name_resolution.specs.Functions.{typed_of}
use Rattle.reached_instances.specs.declared.limit_err.LimitErr.{LimitErr}
use Rattle.reached_instances.specs.Limits.{IsVerdict, IsWithinLimits}
use Rattle.tape_file.specs.Format.{read_of as tapes_read_of}
use Rattle.tape_file.specs.Tapes.{FourTapes}
use Rattle.value_file.specs.declared.inputs.Entry.{Entry}
use Rattle.value_file.specs.declared.read_err.ReadErr.{ReadErr}
use Rattle.value_file.specs.Input.{read_of as inputs_read_of}
use Rattle.program_commands.specs.Codes.{judged}
use Rattle.program_commands.specs.Reading.{inputs_at, tape_file_at}

-- an accepted program of this tree is there
pub record HoldsProgram (path : List ℕ) (files : Contents) (tree : ProgramTree) : Type 0 where
  pub bytes : List ℕ
  pub there : file_at files path ≡ Some bytes
  pub accepted : IsProgramText bytes tree

-- it is small enough, and has this typed tree
pub record HoldsTyped (path : List ℕ) (files : Contents) (program : TypedProgramTree) : Type 0 where
  pub tree : ProgramTree
  pub held : HoldsProgram path files tree
  pub typed : typed_of tree ≡ Some program
  pub within : IsWithinLimits program

-- the files that `eval` and `need` read are there: a program of this typed tree, and these inputs
pub record HoldsEvaluation (ask : EvalAsk) (files : Contents) (typed : TypedProgramTree) (entries : List Entry) : Type 0 where
  pub program : HoldsTyped ask.program files typed
  pub inputs : inputs_at files ask.input ≡ Ok entries

-- the files that `deal` reads are there: these inputs and these tapes
pub record HoldsDeal (ask : DealAsk) (files : Contents) (entries : List Entry) (given : FourTapes) : Type 0 where
  pub inputs : inputs_at files ask.input ≡ Ok entries
  pub tapes : tape_file_at files ask.tape ≡ Ok given

-- a text is there that is refused
pub record HoldsBadProgram (path : List ℕ) (files : Contents) : Type 0 where
  pub bytes : List ℕ
  pub there : file_at files path ≡ Some bytes
  pub fault : ProgramFault
  pub refused : IsRefusedText bytes fault

-- an accepted program is there that has too much of something
pub record HoldsLarge (path : List ℕ) (files : Contents) (error : LimitErr) : Type 0 where
  pub tree : ProgramTree
  pub held : HoldsProgram path files tree
  pub program : TypedProgramTree
  pub typed : typed_of tree ≡ Some program
  pub verdict : IsVerdict program (Some error)

-- the words are those of `eval` or of `need`
abbrev pub Evaluates : Option Ask → EvalAsk → Type 0
Evaluates asked ask = (asked ≡ Some (eval ask)) ⊎ (asked ≡ Some (need ask))

-- why a program is refused with this status, by each command that reads one: its text, or what there is too much of in it
pub data ProgramRefused (path : List ℕ) (files : Contents) (status : Status) : Type 0 where
  bad_text : status ≡ Program → HoldsBadProgram path files → ProgramRefused path files status
  too_large : status ≡ Program → (error : LimitErr) → HoldsLarge path files error → ProgramRefused path files status

-- why `upgrade` is refused with this status: the file is there, and is no code by the rules of the first version, or code that must not run
pub data UpgradeRefused (ask : UpgradeAsk) (files : Contents) (status : Status) : Type 0 where
  unreadable_old_code : status ≡ Program → (bytes : List ℕ) (cause : Cause) → file_at files ask.old ≡ Some bytes
      → judged (decoded_v1 bytes) ≡ Err cause → UpgradeRefused ask files status

-- why `eval` or `need` is refused with this status: the first file that is there and not as it must be
pub data EvalRefused (ask : EvalAsk) (files : Contents) (status : Status) : Type 0 where
  of_program : ProgramRefused ask.program files status → EvalRefused ask files status
  bad_entries : status ≡ Input → (program : TypedProgramTree) → HoldsTyped ask.program files program
      → (bytes : List ℕ) (err : ReadErr) → file_at files ask.input ≡ Some bytes → inputs_read_of bytes ≡ Err err → EvalRefused ask files status

-- why `deal` is refused with this status: the first file that is there and not as it must be, or a dealer's tape with too few words
pub data DealRefused (ask : DealAsk) (files : Contents) (status : Status) : Type 0 where
  unreadable_entries : status ≡ Input → (bytes : List ℕ) (err : ReadErr) → file_at files ask.input ≡ Some bytes → inputs_read_of bytes ≡ Err err
      → DealRefused ask files status
  unreadable_tapes : status ≡ TapeFile → (entries : List Entry) → inputs_at files ask.input ≡ Ok entries
      → (bytes : List ℕ) (place : ℕ) → file_at files ask.tape ≡ Some bytes → tapes_read_of bytes ≡ Err place → DealRefused ask files status
  too_few_words : status ≡ Tape → (entries : List Entry) (given : FourTapes) → HoldsDeal ask files entries given
      → length given.dealer < need_of entries → DealRefused ask files status
