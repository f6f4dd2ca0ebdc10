-- How the answers of what puts texts together belong to the definitions.
use Rattle.std.specs.Prelude.{◌≡◌, ◌≤◌, ℕ, List, true, if◌then◌else◌, Option, Some, None, Result, Ok, Err, Vec}
use Rattle.std.specs.declared.alloc.Global.{Global}
use Rattle.outside.specs.Causes.{Rose}
use Rattle.outside.specs.Files.{FilesState, SameFiles, IsMissing, file_at}
use Rattle.proto_core.specs.declared.party.Number.{Number}
use Rattle.proto_core.specs.declared.party.Number.TheVariants.{One, Two, Three}
use Rattle.proto_core.specs.Parties.{is_same}
use Rattle.miner_text.specs.Reading.{read_of}
use Rattle.miner_text.specs.declared.line.MinerLine.{MinerLine}
use Rattle.trio.specs.Joining.{Joined, Difference, joined_of}
use Rattle.trio.specs.declared.join_err.JoinErr.{JoinErr}
use Rattle.trio.specs.declared.join_err.JoinErr.TheVariants as join_err

-- the text that is wanted, or the difference, unless memory ran short
abbrev pub IsJoin : Result Joined Difference → Result Joined JoinErr → Type 0
IsJoin wanted (Ok joined) = wanted ≡ Ok joined
IsJoin wanted (Err (join_err.Disagree d)) = wanted ≡ Err d
IsJoin wanted (Err join_err.Memory) = Unit {0}
IsJoin wanted (Err (join_err.File i)) = ⊥
IsJoin wanted (Err (join_err.BadText i line)) = ⊥

-- ---- texts in files

-- the lines of a miner's text, by what its file holds
abbrev pub named : Number → Result (List MinerLine) ℕ → Result (List MinerLine) JoinErr
named i (Ok ls) = Ok ls
named i (Err line) = Err (join_err.BadText i line)

abbrev pub text_in : Number → Option (List ℕ) → Result (List MinerLine) JoinErr
text_in i None = Err (join_err.File i)
text_in i (Some bytes) = named i (read_of bytes)

abbrev pub and_then : {A B : Type 0} → Result A JoinErr → (A → Result B JoinErr) → Result B JoinErr
and_then (Ok x) f = f x
and_then (Err e) f = Err e

abbrev pub or_difference : Result Joined Difference → Result Joined JoinErr
or_difference (Ok joined) = Ok joined
or_difference (Err d) = Err (join_err.Disagree d)

-- the texts of miners 1, 2 and 3 one after another, and then all together
abbrev pub join_third : (Number → Option (List ℕ)) → (one two : List MinerLine) → Result Joined JoinErr
join_third found one two = and_then (text_in Three (found Three)) (λ three. or_difference (joined_of one two three))

abbrev pub join_second : (Number → Option (List ℕ)) → (one : List MinerLine) → Result Joined JoinErr
join_second found one = and_then (text_in Two (found Two)) (join_third found one)

abbrev pub join_of : (Number → Option (List ℕ)) → Result Joined JoinErr
join_of found = and_then (text_in One (found One)) (join_second found)

-- as if this miner's file were not there
abbrev pub without : Number → (Number → Option (List ℕ)) → Number → Option (List ℕ)
without i found j = if is_same i j then None else found j

-- no file changed, and no fault was counted that a steady store would not count
pub record Passed (old new : FilesState) : Type 0 where
  pub kept : SameFiles old new
  pub later : old.faults ≤ new.faults
  pub quiet : old.steady ≡ true → new.faults ≡ old.faults
  pub still : old.steady ≡ true → new.steady ≡ true

-- no file changed, and a fault was counted; of a steady store, since the file isn't there
pub record FileFailed (old new : FilesState) (path : List ℕ) : Type 0 where
  pub kept : SameFiles old new
  pub later : old.faults ≤ new.faults
  pub rose : Rose old.faults new.faults
  pub missing : old.steady ≡ true → IsMissing old path
  pub still : old.steady ≡ true → new.steady ≡ true

-- one text, where the store tells by what its file holds
abbrev pub TextRead : (old new : FilesState) → (path : List ℕ) → Number → Result (Vec MinerLine Global) JoinErr → Type 0
TextRead old new path i (Ok read) = Passed old new × (old.told ≡ true → text_in i (file_at old.contents path) ≡ Ok read.items)
TextRead old new path i (Err (join_err.File j)) = FileFailed old new path × (j ≡ i)
TextRead old new path i (Err (join_err.BadText j line)) =
    Passed old new × (old.told ≡ true → text_in i (file_at old.contents path) ≡ Err (join_err.BadText j line))
TextRead old new path i (Err (join_err.Disagree d)) = ⊥
TextRead old new path i (Err join_err.Memory) = Passed old new

abbrev pub found_in : FilesState → (path : Number → List ℕ) → Number → Option (List ℕ)
found_in state path i = file_at state.contents (path i)

-- three texts that are put together; where a file fails, the answer is as if it were missing
abbrev pub TextsRead : (old new : FilesState) → (path : Number → List ℕ) → Result Joined JoinErr → Type 0
TextsRead old new path (Ok joined) = Passed old new × (old.told ≡ true → join_of (found_in old path) ≡ Ok joined)
TextsRead old new path (Err (join_err.File i)) =
    FileFailed old new (path i) × (old.told ≡ true → join_of (without i (found_in old path)) ≡ Err (join_err.File i))
TextsRead old new path (Err (join_err.BadText i line)) =
    Passed old new × (old.told ≡ true → join_of (found_in old path) ≡ Err (join_err.BadText i line))
TextsRead old new path (Err (join_err.Disagree d)) =
    Passed old new × (old.told ≡ true → join_of (found_in old path) ≡ Err (join_err.Disagree d))
TextsRead old new path (Err join_err.Memory) = Passed old new
