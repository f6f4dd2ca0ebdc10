-- What the program that a command reads is: its judgement, and when there is one.
use Rattle.std.specs.Prelude.{◌≡◌, ℕ, List, true, Some, Result, Ok, Err}
use Rattle.program_trees.specs.Programs.{ProgramTree}
use Rattle.program_trees.specs.TypedPrograms.{TypedProgramTree}
use Rattle.name_resolution.specs.Functions.{typed_of}
use Rattle.reached_instances.specs.declared.limit_err.LimitErr.{LimitErr}
use Rattle.reached_instances.specs.Limits.{IsVerdict, IsWithinLimits}
use Rattle.reached_instances.specs.Instances.{Instance}
use Rattle.reached_instances.specs.Reached.{IsReachedList}
use Rattle.outside.specs.Files.{Contents, FilesState, file_at}
use Rattle.command_frame.specs.Objects.{OfObject}
use Rattle.command_frame.specs.declared.stop.Stop.{Stop}
use Rattle.command_frame.specs.declared.stop.Stop.TheVariants as stops
use Rattle.front_end.specs.Judgement.{Judged, IsJudged}

-- the judgement of the text at this path, if a file is there
abbrev pub JudgedAt : (path : List ℕ) → Contents → Judged → Type 0
JudgedAt path files judged = (bytes : List ℕ) → file_at files path ≡ Some bytes → IsJudged bytes judged

-- an accepted program as it is run: its typed tree, or what there is too much of in it
abbrev pub Sized : Type 0
Sized = Result TypedProgramTree LimitErr

abbrev pub IsSized : ProgramTree → Sized → Type 0
IsSized tree (Ok program) = (typed_of tree ≡ Some program) × IsWithinLimits program
IsSized tree (Err error) = (program : TypedProgramTree) × (typed_of tree ≡ Some program) × IsVerdict program (Some error)

-- of a refused text nothing is asked
abbrev pub IsSizedAs : Judged → Sized → Type 0
IsSizedAs (Ok tree) sized = IsSized tree sized
IsSizedAs (Err fault) sized = Unit {0}

-- the instances that a program reaches which is small enough
abbrev pub IsReachedAs : Judged → Sized → List Instance → Type 0
IsReachedAs (Ok tree) (Ok program) reached = IsReachedList program reached
IsReachedAs _ _ reached = Unit {0}

-- what a command asks of a program: nothing, or what the text at a path is
pub data Question : Type 0 where
  nothing : Question
  its_program : (path : List ℕ) → Question

-- what is found of a program: whether its text is accepted, whether it is small enough to be run, and what it reaches then
pub record Finding : Type 0 where
  pub judged : Judged
  pub sized : Sized
  pub reached : List Instance

-- of this text
pub record IsFinding (judgement : Judged → Type 0) (found : Finding) : Type 0 where
  pub judged : judgement found.judged
  pub sized : IsSizedAs found.judged found.sized
  pub reached : IsReachedAs found.judged found.sized found.reached

-- the answer to the question
abbrev pub FoundAt : Question → Contents → Finding → Type 0
FoundAt nothing files found = Unit {0}
FoundAt (its_program path) files found = IsFinding (JudgedAt path files) found

abbrev pub HasFinding : Question → Contents → Type 0
HasFinding question files = (found : Finding) × FoundAt question files found

-- neither want of memory stopped it nor a file, but one that a steady store hasn't
abbrev pub StopTells : FilesState → Stop → Type 0
StopTells files stops.Memory = ⊥
StopTells files stops.Usage = Unit {0}
StopTells files (stops.Refused r) = Unit {0}
StopTells files (stops.Breached b) = Unit {0}
StopTells files (stops.Failed object) = OfObject (λ line. files.steady ≡ true) (Unit {0}) (Unit {0}) (Unit {0}) object

abbrev pub Tells : {X : Type 0} → FilesState → Result X Stop → Type 0
Tells files (Ok x) = Unit {0}
Tells files (Err stop) = StopTells files stop
