-- What opening a journal does, and what a crash leaves from its first sync on.
use Rattle.std.specs.Prelude.{◌≡◌, ◌≢◌, ◌⊎◌, ◌*◌, ℕ, List, [], length, take, drop, Bool, true, false, if◌then◌else◌, nat_lt, Option, Some, None, bytes_eq}
use Rattle.outside.specs.Causes.{Rose}
use Rattle.kept_disk.specs.Images.{DiskFile, EachMoment, moments, settled}
use Rattle.kept_disk.specs.Disk.{DiskState}
use Rattle.miner_journal.specs.declared.journal_err.JournalErr.{JournalErr}
use Rattle.miner_journal.specs.declared.journal_err.JournalErr.TheVariants.{DiskFault, Memory, OtherFile, Broken as BrokenAt}
use Rattle.miner_journal.specs.declared.journal_err.KeptFile.{KeptFile}
use Rattle.miner_journal.specs.declared.journal_err.KeptFile.TheVariants.{Code, Share, Tape}
use Rattle.miner_journal.specs.declared.looking.Findings.{Findings}
use Rattle.miner_journal.specs.Format.{IsSettled, StandsFor, digests, is_begun}

-- ---- digests

-- the digest of file k, of three
abbrev pub digest_at : ℕ → List ℕ → List ℕ
digest_at k sums = take 32 (drop (32 * k) sums)

-- the first file that differs
abbrev pub first_other : (ours theirs : List ℕ) → Option KeptFile
first_other ours theirs =
    if bytes_eq (digest_at 0 ours) (digest_at 0 theirs)
    then (if bytes_eq (digest_at 1 ours) (digest_at 1 theirs)
    then (if bytes_eq (digest_at 2 ours) (digest_at 2 theirs) then None else Some Tape)
    else Some Share)
    else Some Code

-- ---- the disk

-- no file but that at this path changes
pub record OnlyAt (old new : DiskState) (path : List ℕ) : Type 0 where
  pub told : new.told ≡ old.told
  pub others : (q : List ℕ) → q ≢ path → new.files q ≡ old.files q

-- the file at this path is attached
pub record Holds (s : DiskState) (path : List ℕ) : Type 0 where
  pub attached : s.attached ≡ true
  pub path_is : s.path ≡ path

-- ---- a sync that succeeded

-- all that was read before is on the disk
pub record IsSynced (old new : DiskFile) : Type 0 where
  pub seen : new.seen ≡ old.seen
  pub now : new.now ≡ settled new.seen
  pub past : new.past ≡ moments old

-- no moment came, or one sync succeeded
abbrev pub OnceSynced : (old new : DiskFile) → Type 0
OnceSynced old new = (moments new ≡ moments old) ⊎ IsSynced old new

-- what was found
pub record Surveys (seen : List ℕ) (found : Findings) : Type 0 where
  pub begun : found.begun ≡ is_begun seen
  pub short : found.short ≡ nat_lt (length seen) 98
  pub sums : found.begun ≡ true → found.sums ≡ digests seen

-- a file without a begun journal, all of it on the disk
pub record IsWaiting (short : Bool) (file : DiskFile) : Type 0 where
  pub now : file.now ≡ settled file.seen
  pub unbegun : is_begun file.seen ≡ false
  pub short_is : short ≡ nat_lt (length file.seen) 98

-- ---- the whole

-- of a journal that is begun a crash leaves what was read; else one that isn't begun, or one with these digests and no record
abbrev pub Leaves : (begun : Bool) (sums seen : List ℕ) → List ℕ → Type 0
Leaves true sums seen c = c ≡ seen
Leaves false sums seen c = StandsFor sums [] c

-- from a sync on that succeeded each crash leaves this
pub record SinceSync (old new : DiskFile) (sums : List ℕ) : Type 0 where
  pub synced : DiskFile
  pub is : IsSynced old synced
  pub each : EachMoment synced new (Leaves (is_begun old.seen) sums old.seen)

-- no sync has succeeded, and no moment came; or from its first on it is so
abbrev pub FromSync : (old new : DiskFile) (sums : List ℕ) → Type 0
FromSync old new sums = (moments new ≡ moments old) ⊎ SinceSync old new sums

-- a journal that was begun is of these files, and as it was; else it is begun now, without a record
abbrev pub IsOpened : (begun : Bool) (sums : List ℕ) (old new : DiskFile) → Type 0
IsOpened true sums old new = (digests old.seen ≡ sums) × (new.seen ≡ old.seen) × (new.now ≡ settled new.seen)
IsOpened false sums old new = IsSettled sums [] new 97

-- a journal that was begun is of other files: the first of them
abbrev pub IsOfOthers : (sums : List ℕ) (old : DiskFile) → KeptFile → Type 0
IsOfOthers sums old file = (is_begun old.seen ≡ true) × (first_other sums (digests old.seen) ≡ Some file)

abbrev pub IsUnopened : (old new : DiskState) (path sums : List ℕ) → JournalErr → Type 0
IsUnopened old new path sums DiskFault = Rose old.faults new.faults
IsUnopened old new path sums Memory = Unit {0}
IsUnopened old new path sums (OtherFile file) = old.told ≡ true → IsOfOthers sums (old.files path) file
IsUnopened old new path sums (BrokenAt place) = ⊥
