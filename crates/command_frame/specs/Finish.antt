-- What a plan's writing and printing leaves.
use Rattle.std.specs.Prelude.{ℕ, ◌≡◌, ◌≢◌, ◌≤◌, ◌⊎◌, List, ◌∷◌, ◌++◌, true, take, Contains, IsSome, Result, Ok, Err}
use Rattle.outside.specs.Causes.{Rose}
use Rattle.outside.specs.Files.{FilesState, OnlyAt, Wrote, file_at}
use Rattle.outside.specs.Sink.{SinkState, SameSink, Appends, PutsFront}
use Rattle.outside.specs.declared.error.FileErr.{FileErr}
use Rattle.outside.specs.declared.error.FileErr.TheVariants.{Failed, Memory}
use Rattle.sc_text.specs.Fault.{file_line}
use Rattle.command_frame.specs.declared.status.Status.{Status}
use Rattle.command_frame.specs.declared.stop.Stop.{Stop}
use Rattle.command_frame.specs.declared.stop.Stop.TheVariants as stops
use Rattle.command_frame.specs.Answer.{Effect, Written, after_writes}
use Rattle.command_frame.specs.Objects.{OfFile, OfObject}

-- all files but these are as they were
pub record OnlyAmong (paths : List (List ℕ)) (old new : FilesState) : Type 0 where
  pub told : new.told ≡ old.told
  pub others : old.told ≡ true → (q : List ℕ) → (Contains paths q → ⊥) → file_at new.contents q ≡ file_at old.contents q
  pub later : old.faults ≤ new.faults
  pub still : old.steady ≡ true → new.steady ≡ true

-- ---- a file that grows

-- the file is there
abbrev pub IsThere : FilesState → List ℕ → Type 0
IsThere state path = state.told ≡ true → IsSome (file_at state.contents path)

-- these bytes were put after the file's: it was written with some bytes, and has these after them now
pub record Grew (path bytes : List ℕ) (old new : FilesState) : Type 0 where
  pub there : IsThere old path → IsThere new path
  pub adds : (start : FilesState) (given : List ℕ) → Wrote start old path given → Wrote start new path (given ++ bytes)

-- of these bytes all but the last, these, were put after the file's
pub record GrewUpTo (path whole left : List ℕ) (old new : FilesState) : Type 0 where
  pub sent : List ℕ
  pub order : whole ≡ sent ++ left
  pub grew : Grew path sent old new

-- all but this path is as it was
pub record Touches (path : List ℕ) (old new : FilesState) : Type 0 where
  pub only : OnlyAt old new path
  pub later : old.faults ≤ new.faults
  pub still : old.steady ≡ true → new.steady ≡ true

-- ---- all files

-- all was written
abbrev pub WroteAll : List Written → FilesState → FilesState → Type 0
WroteAll writes old new = old.told ≡ true → new.contents ≡ after_writes writes old.contents

-- the text or a prefix of it was put
abbrev pub PutPrefix : List ℕ → SinkState → SinkState → Type 0
PutPrefix text old new = (n : ℕ) × Appends old new (take n text)

-- the count rose of the calls that end so
abbrev pub CountRose : FileErr → SinkState → SinkState → Type 0
CountRose Failed old new = Rose old.faults new.faults
CountRose Memory old new = Rose old.shortages new.shortages

-- it was tried to put this line, and nothing else: it was put whole and nothing was lost, or the sink failed, or had no memory, after a front of it
abbrev pub PutLine : List ℕ → SinkState → SinkState → Type 0
PutLine line old new =
    (Appends old new line × (old.told ≡ true → new.lost ≡ old.lost))
    ⊎ ((why : FileErr) × CountRose why old new × PutsFront {T = Unit {0}} (Err why) line old new)

-- the files before the one at this path are written, that one holds any bytes, and all else is as it was
pub record StopsMidway (writes : List Written) (path : List ℕ) (old new : FilesState) : Type 0 where
  pub before : List Written
  pub broken : Written
  pub behind : List Written
  pub order : writes ≡ before ++ broken ∷ behind
  pub at : path ≡ broken.path
  pub told : new.told ≡ old.told
  pub others : old.told ≡ true → (q : List ℕ) → q ≢ path → file_at new.contents q ≡ file_at (after_writes before old.contents) q

-- the same at the path that the line names
pub record BreaksOff (writes : List Written) (line : List ℕ) (old new : FilesState) : Type 0 where
  pub path : List ℕ
  pub named : line ≡ file_line path
  pub midway : StopsMidway writes path old new

-- a file could not be written: the count rose, which that of a steady store that tells what it holds doesn't
pub record WriteFaulted (writes : List Written) (line : List ℕ) (old new : FilesState) : Type 0 where
  pub rose : Rose old.faults new.faults
  pub unsteady : old.steady ≡ true → old.told ≡ true → ⊥
  pub breaks : BreaksOff writes line old new

-- memory ran out at one of the files
abbrev pub ShortOfMemory : List Written → FilesState → FilesState → Type 0
ShortOfMemory writes old new = (path : List ℕ) × StopsMidway writes path old new

abbrev pub StopsWriting : List Written → FilesState → FilesState → Stop → Type 0
StopsWriting writes old new stops.Memory = ShortOfMemory writes old new
StopsWriting writes old new stops.Usage = ⊥
StopsWriting writes old new (stops.Refused r) = ⊥
StopsWriting writes old new (stops.Breached b) = ⊥
StopsWriting writes old new (stops.Failed object) = OfFile (λ line. WriteFaulted writes line old new) object

abbrev pub StopsWritingOne : List ℕ → FilesState → FilesState → Stop → Type 0
StopsWritingOne path old new stops.Memory = Unit {0}
StopsWritingOne path old new stops.Usage = ⊥
StopsWritingOne path old new (stops.Refused r) = ⊥
StopsWritingOne path old new (stops.Breached b) = ⊥
StopsWritingOne path old new (stops.Failed object) =
    OfFile (λ line. Rose old.faults new.faults × (old.steady ≡ true → old.told ≡ true → ⊥) × (line ≡ file_line path)) object

-- the output failed: its count rose, which a steady one's doesn't
pub record PutFaulted (text : List ℕ) (old new : SinkState) : Type 0 where
  pub rose : Rose old.faults new.faults
  pub unsteady : old.steady ≡ true → ⊥
  pub put : PutPrefix text old new

-- the output had no memory: its count rose
pub record PutShort (text : List ℕ) (old new : SinkState) : Type 0 where
  pub rose : Rose old.shortages new.shortages
  pub put : PutPrefix text old new

-- memory ran out at a file, and nothing was put; or at the output, when all files were written
abbrev pub FinishesShort : Effect → FilesState → FilesState → SinkState → SinkState → Type 0
FinishesShort effect f f' o o' =
    (ShortOfMemory effect.writes f f' × SameSink o o') ⊎ (WroteAll effect.writes f f' × PutShort effect.text o o')

abbrev pub StopsFinishing : Effect → FilesState → FilesState → SinkState → SinkState → Stop → Type 0
StopsFinishing effect f f' o o' stops.Memory = FinishesShort effect f f' o o'
StopsFinishing effect f f' o o' stops.Usage = ⊥
StopsFinishing effect f f' o o' (stops.Refused r) = ⊥
StopsFinishing effect f f' o o' (stops.Breached b) = ⊥
StopsFinishing effect f f' o o' (stops.Failed object) =
    OfObject (λ line. WriteFaulted effect.writes line f f' × SameSink o o') (WroteAll effect.writes f f' × PutFaulted effect.text o o') ⊥ ⊥ object

-- the whole effect, or a part of it and why
abbrev pub Finishes : Effect → FilesState → FilesState → SinkState → SinkState → Result Status Stop → Type 0
Finishes effect f f' o o' (Ok status) = (status ≡ effect.status) × WroteAll effect.writes f f' × Appends o o' effect.text
Finishes effect f f' o o' (Err stop) = StopsFinishing effect f f' o o' stop
