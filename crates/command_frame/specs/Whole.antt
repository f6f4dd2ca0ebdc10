-- What a whole command does: it reads, decides, writes, prints, and says why it stopped.
--
-- `ask` is what the words name, if they name a command, and `reach` what that command reaches. `course` is what it comes to, by what all that it
-- reaches tells. m is the moment before, m' the one after.
use Rattle.std.specs.Prelude.{ℕ, ◌≡◌, ◌≤◌, ◌⊎◌, List, true, Option, None, IsSome, Result, Ok, Err, IsOkAnd, MatchResult, Contains, string_bytes}
use Rattle.outside.specs.Causes.{Rose}
use Rattle.outside.specs.Files.{SameFiles, file_at}
use Rattle.outside.specs.Sink.{SinkState, SameSink, Appends}
use Rattle.sc_text.specs.Fault.{file_line}
use Rattle.command_frame.specs.declared.object.Object.TheVariants as objects
use Rattle.command_frame.specs.declared.status.Status.{Status}
use Rattle.command_frame.specs.declared.stop.Stop.{Stop}
use Rattle.command_frame.specs.declared.stop.Stop.TheVariants as stops
use Rattle.command_frame.specs.Answer.{Answer, Course, Effect, Written, after_writes, behind, breach_of, cause_of, missing, paths_in, whole_of, writes_in}
use Rattle.command_frame.specs.Decides.{AfterWrites, ChildrenFailed, FileFailed, LinksFailed, RefusesFor}
use Rattle.command_frame.specs.Finish.{BreaksOff, PutLine, PutPrefix, ShortOfMemory}
use Rattle.command_frame.specs.Moments.{AreTold, Moment, Reach, Sources}
use Rattle.command_frame.specs.Objects.{OfObject, TellsFault}
use Rattle.command_frame.specs.Reads.{IsLineOf}
use Rattle.command_frame.specs.Said.{IsErrorLine}
use Rattle.command_frame.specs.Status.{is_end}
use Rattle.command_frame.specs.Stops.{status_of, line_of}

-- only the files that the course writes are changed
pub record OnlyWritten (reach : Reach) (course : Course) (s s' : Sources) : Type 0 where
  pub told : s'.files.told ≡ s.files.told
  pub others :
      AreTold reach s → (q : List ℕ) → (Contains (paths_in (writes_in course)) q → ⊥) → file_at s'.files.contents q ≡ file_at s.files.contents q
  pub later : s.files.faults ≤ s'.files.faults

module _ (m m' : Moment) where
  -- the whole effect: all files, the text, and this status
  pub record IsDone (effect : Effect) (given : Status) : Type 0 where
    pub status : given ≡ effect.status
    pub files : m'.sources.files.contents ≡ after_writes effect.writes m.sources.files.contents
    pub text : Appends m.out m'.out effect.text

  -- all files, and a prefix of the text
  pub record IsCut (effect : Effect) : Type 0 where
    pub files : m'.sources.files.contents ≡ after_writes effect.writes m.sources.files.contents
    pub text : PutPrefix effect.text m.out m'.out

  -- nothing was put
  abbrev pub PutsNothing : Type 0
  PutsNothing = SameSink m.out m'.out

-- the count of the output rose, which a steady one's doesn't
pub record OutFaulted (old new : SinkState) : Type 0 where
  pub rose : Rose old.faults new.faults
  pub unsteady : old.steady ≡ true → ⊥

module _ (reach : Reach) (course : Course) (m m' : Moment) where
  abbrev pub IsTold : Type 0
  IsTold = AreTold reach m.sources

  -- the text was begun at most
  abbrev pub CutsText : Type 0
  CutsText = IsTold → IsOkAnd (whole_of course) (λ e. IsCut m m' e)

  -- memory ran out: of the files none is written, or those before one of them, or those that come before the command has decided; or all of them,
  -- and the output had no memory for its text
  abbrev pub LeavesFiles : Type 0
  LeavesFiles =
      SameFiles m.sources.files m'.sources.files
      ⊎ (ShortOfMemory (writes_in course) m.sources.files m'.sources.files ⊎ AfterWrites course.first m.sources.files m'.sources.files)

  abbrev pub RunsShort : Type 0
  RunsShort = (PutsNothing m m' × (IsTold → LeavesFiles)) ⊎ (Rose m.out.shortages m'.out.shortages × CutsText)

  abbrev pub StopsAt : Stop → Type 0
  StopsAt stops.Memory = RunsShort
  StopsAt stops.Usage = ⊥
  StopsAt (stops.Refused r) = (IsTold → RefusesFor course m.sources.files m'.sources.files (cause_of r)) × PutsNothing m m'
  StopsAt (stops.Breached b) =
      (reach.breach b.status ≡ true) × (IsTold → RefusesFor course m.sources.files m'.sources.files (breach_of b)) × PutsNothing m m'
  StopsAt (stops.Failed object) =
      OfObject
      (λ line. FileFailed reach course m.sources m'.sources line × PutsNothing m m')
      (OutFaulted m.out m'.out × CutsText)
      (LinksFailed reach course m.sources m'.sources × PutsNothing m m')
      (ChildrenFailed reach course m.sources m'.sources × PutsNothing m m') object

  abbrev pub EndsAs : Result Status Stop → Type 0
  EndsAs (Ok status) = (is_end status ≡ true) × (IsTold → IsOkAnd (whole_of course) (λ e. IsDone m m' e status))
  EndsAs (Err stop) = StopsAt stop

  -- the same for words that may name no command
  abbrev pub Acts : {A : Type 0} → Option A → Result Status Stop → Type 0
  Acts ask (Ok status) = IsSome ask × EndsAs (Ok status)
  Acts ask (Err stops.Memory) = StopsAt stops.Memory
  Acts ask (Err stops.Usage) = (ask ≡ None) × PutsNothing m m' × SameFiles m.sources.files m'.sources.files
  Acts ask (Err (stops.Refused r)) = IsSome ask × StopsAt (stops.Refused r)
  Acts ask (Err (stops.Breached b)) = IsSome ask × StopsAt (stops.Breached b)
  Acts ask (Err (stops.Failed object)) = IsSome ask × StopsAt (stops.Failed object)

-- ---- the same whatever the course is

module _ (reach : Reach) (m m' : Moment) where
  -- the links failed, or another program; each only where it is reached
  pub record LinksRose : Type 0 where
    pub reached : reach.links ≡ true
    pub rose : Rose m.sources.links.faults m'.sources.links.faults

  pub record ChildrenRose : Type 0 where
    pub reached : reach.children ≡ true
    pub rose : Rose m.sources.children.faults m'.sources.children.faults

  abbrev pub StopsAnyhow : Stop → Type 0
  StopsAnyhow stops.Memory = PutsNothing m m' ⊎ Rose m.out.shortages m'.out.shortages
  StopsAnyhow stops.Usage = ⊥
  StopsAnyhow (stops.Refused r) = PutsNothing m m'
  StopsAnyhow (stops.Breached b) = (reach.breach b.status ≡ true) × PutsNothing m m'
  StopsAnyhow (stops.Failed object) =
      OfObject
      (λ line. Rose m.sources.files.faults m'.sources.files.faults × PutsNothing m m')
      (OutFaulted m.out m'.out) (LinksRose × PutsNothing m m') (ChildrenRose × PutsNothing m m') object

  abbrev pub EndsAnyhow : Result Status Stop → Type 0
  EndsAnyhow (Ok status) = is_end status ≡ true
  EndsAnyhow (Err stop) = StopsAnyhow stop

  abbrev pub ActsAnyhow : {A : Type 0} → Option A → Result Status Stop → Type 0
  ActsAnyhow ask (Ok status) = IsSome ask × (is_end status ≡ true)
  ActsAnyhow ask (Err stops.Memory) = StopsAnyhow stops.Memory
  ActsAnyhow ask (Err stops.Usage) = (ask ≡ None) × PutsNothing m m' × SameFiles m.sources.files m'.sources.files
  ActsAnyhow ask (Err (stops.Refused r)) = IsSome ask × StopsAnyhow (stops.Refused r)
  ActsAnyhow ask (Err (stops.Breached b)) = IsSome ask × StopsAnyhow (stops.Breached b)
  ActsAnyhow ask (Err (stops.Failed object)) = IsSome ask × StopsAnyhow (stops.Failed object)

  -- a fault is told: the count of the object rose that has the status, or memory ran out
  abbrev pub HasFailed : Status → Type 0
  HasFailed given = TellsFault (Rose m.sources.files.faults m'.sources.files.faults) (Rose m.out.faults m'.out.faults) LinksRose ChildrenRose given

-- ---- the file that failed

-- the paths that a command reads before it writes, those that it writes, and those that it reads once its first files are written
pub record Paths : Type 0 where
  pub read : List (List ℕ)
  pub written : List (List ℕ)
  pub later : List (List ℕ)

module _ (paths : Paths) (reach : Reach) (Courses : Course → Type 0) (s s' : Sources) where
  -- this is so in each course, where what is reached tells
  abbrev pub InEach : (Course → Type 0) → Type 0
  InEach So = (course : Course) → Courses course → AreTold reach s → So course

  -- the line names a file that is read, and no file changed; or one that is written, and in each course it is the first that is not written
  -- whole; or one that is read later, and the first files are written
  abbrev pub FileFaulted : List ℕ → Type 0
  FileFaulted line =
      (IsLineOf paths.read line × SameFiles s.files s'.files)
      ⊎ ((IsLineOf paths.written line × InEach (λ course. BreaksOff (writes_in course) line s.files s'.files))
      ⊎ (IsLineOf paths.later line × InEach (λ course. AfterWrites course.first s.files s'.files)))

  -- where a command stops at a file
  pub record StopsAtFile (stop : Stop) : Type 0 where
    pub named : (line : _) → stop ≡ stops.Failed (objects.File line) → FileFaulted (string_bytes line)

-- ---- what is said on the error stream

abbrev pub Says : Result Status Stop → SinkState → SinkState → Type 0
Says (Ok status) e e' = SameSink e e'
Says (Err stop) e e' = PutLine (line_of stop) e e'

-- the whole line
abbrev pub SaysAll : Result Status Stop → SinkState → SinkState → Type 0
SaysAll (Ok status) e e' = SameSink e e'
SaysAll (Err stop) e e' = Appends e e' (line_of stop)

abbrev pub status_in : Result Status Stop → Status
status_in (Ok status) = status
status_in (Err stop) = status_of stop

-- a line that begins with `error: `, or a prefix of it where the error stream gave up
abbrev pub SaysError : SinkState → SinkState → Type 0
SaysError e e' = (line : List ℕ) × IsErrorLine line × PutLine line e e'

-- ---- what the caller of the program is told

module _ (m m' : Moment) (given : Status) where
  -- the effect is there whole and nothing is said; or the refusal's line is there, or a prefix of it where the error stream gave up, and nothing
  -- but the files that were to be written first
  abbrev pub CarriedSo : (first : List Written) → Answer → Type 0
  CarriedSo first (Ok effect) = IsDone m m' (behind first effect) given × SameSink m.err m'.err
  CarriedSo first (Err cause) =
      (given ≡ cause.status) × PutLine cause.line m.err m'.err × PutsNothing m m' × AfterWrites first m.sources.files m'.sources.files

  abbrev pub CarriedOut : Course → Type 0
  CarriedOut course = CarriedSo course.first course.answer

-- the error stream names the file that failed
abbrev pub FileTold : Paths → Reach → (Course → Type 0) → (m m' : Moment) → Type 0
FileTold paths reach Courses m m' = (line : List ℕ) × FileFaulted paths reach Courses m.sources m'.sources line × PutLine line m.err m'.err

-- the command is refused because a file that it reads is missing
abbrev pub IsMissed : Course → (m m' : Moment) → Type 0
IsMissed course m m' = (path : List ℕ) × (course.answer ≡ Err (missing path)) × PutLine (file_line path) m.err m'.err

-- what the answer's status is
abbrev pub IsAnswered : Course → Status → Type 0
IsAnswered course given = MatchResult course.answer (λ e. given ≡ e.status) (λ c. given ≡ c.status)
