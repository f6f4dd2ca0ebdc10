-- What is told of a disk, and what its calls do.
use Rattle.std.specs.Prelude.{◌≡◌, ◌≢◌, ◌<◌, ℕ, List, length, take, drop, Bool, true, Option, None, IsSomeAnd}
use Rattle.kept_disk.specs.Images.{DiskFile, IsImage, moments, overlaid, given_more, settled}

-- `files`, by path, says what it does where `told` is true, and nothing else; `path` is that of the attached file, and `size` is what `len` last answered of it
pub record DiskState : Type 0 where
  pub told : Bool
  pub attached : Bool
  pub path : List ℕ
  pub files : List ℕ → DiskFile
  pub size : Option ℕ
  pub faults : ℕ
  pub steady : Bool

-- the attached file
abbrev pub held : DiskState → DiskFile
held s = s.files s.path

-- ---- what is as it was

-- no byte of any file, nor what a crash may leave of it
pub record SameFiles (old new : DiskState) : Type 0 where
  pub told : new.told ≡ old.told
  pub files : (q : List ℕ) → new.files q ≡ old.files q

-- the file that is attached, and what was answered of its size
pub record SameHold (old new : DiskState) : Type 0 where
  pub attached : new.attached ≡ old.attached
  pub path : new.path ≡ old.path
  pub size : new.size ≡ old.size

-- the file that is attached; and all files but that one
pub record OnlyHeld (old new : DiskState) : Type 0 where
  pub told : new.told ≡ old.told
  pub attached : new.attached ≡ old.attached
  pub path : new.path ≡ old.path
  pub others : (q : List ℕ) → q ≢ old.path → new.files q ≡ old.files q

-- all but the size that was answered
pub record SameFile (old new : DiskState) : Type 0 where
  pub only : OnlyHeld old new
  pub file : held new ≡ held old

pub record SameDisk (old new : DiskState) : Type 0 where
  pub same : SameFile old new
  pub size : new.size ≡ old.size

-- ---- what calls do

-- the file at this path is attached
pub record Attached (new : DiskState) (path : List ℕ) : Type 0 where
  pub attached : new.attached ≡ true
  pub path_is : new.path ≡ path
  pub size : new.size ≡ None

-- a place below the size that was answered
abbrev pub IsBelow : Option ℕ → ℕ → Type 0
IsBelow size from = IsSomeAnd size (λ n. from < n)

-- these bytes stand in the attached file from this place on
abbrev pub AreAt : DiskState → ℕ → List ℕ → Type 0
AreAt s from bytes = s.told ≡ true → bytes ≡ take (length bytes) (drop from (held s).seen)

-- the whole piece was written; from now on its range may hold any bytes after a crash
pub record Wrote (old new : DiskFile) (from : ℕ) (bytes : List ℕ) : Type 0 where
  pub seen : new.seen ≡ overlaid old.seen from bytes
  pub now : new.now ≡ given_more old.now from (length bytes)
  pub past : new.past ≡ moments old

-- a write failed: its range may hold any bytes, now as well
pub record Tore (old new : DiskFile) (from count : ℕ) : Type 0 where
  pub image : IsImage new.now new.seen
  pub now : new.now ≡ given_more old.now from count
  pub past : new.past ≡ moments old

-- all that a read gives is on the disk
pub record Synced (old new : DiskFile) : Type 0 where
  pub seen : new.seen ≡ old.seen
  pub now : new.now ≡ settled old.seen
  pub past : new.past ≡ moments old

-- a sync failed: a crash leaves what it might have left before, and so does a read
pub record Unsynced (old new : DiskFile) : Type 0 where
  pub image : IsImage new.now new.seen
  pub now : new.now ≡ old.now
  pub past : new.past ≡ old.past
