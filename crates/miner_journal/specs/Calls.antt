-- What a write and a sync after it do, in whatever way they end.
use Rattle.std.specs.Prelude.{◌≡◌, ◌≢◌, ◌⊎◌, ℕ, List, [], ◌∷◌, ◌++◌, length, true, Result, OnOk}
use Rattle.outside.specs.Causes.{HasCause}
use Rattle.outside.specs.declared.error.FileErr.{FileErr}
use Rattle.kept_disk.specs.Images.{DiskFile, Moment, given_more, moments, overlaid, settled}
use Rattle.kept_disk.specs.Disk.{DiskState, OnlyHeld, held}

-- the file has these bytes, and all of them are on the disk
pub record IsOnDisk (bytes : List ℕ) (file : DiskFile) : Type 0 where
  pub seen : file.seen ≡ bytes
  pub now : file.now ≡ settled bytes

-- each of these moments is one of two
abbrev pub AllAmong : (one other : Moment) → List Moment → Type 0
AllAmong one other [] = Unit {0}
AllAmong one other (m ∷ ms) = ((m ≡ one) ⊎ (m ≡ other)) × AllAmong one other ms

-- moments came, and each is one of two
pub record Gains (one other : Moment) (old new : DiskFile) : Type 0 where
  pub gained : List Moment
  pub are : moments new ≡ gained ++ moments old
  pub among : AllAmong one other gained

-- bytes were given to a write, and it may have been synced; at the end of both all is on the disk
pub record WritesSynced {T : Type 0} (old new : DiskState) (from : ℕ) (bytes : List ℕ) (result : Result T FileErr) : Type 0 where
  pub only : OnlyHeld old new
  pub ok : OnOk result (old.told ≡ true → IsOnDisk (overlaid (held old).seen from bytes) (held new))
  pub gains : old.told ≡ true → Gains (given_more (held old).now from (length bytes)) (settled (overlaid (held old).seen from bytes)) (held old) (held new)
  pub cause : HasCause old.faults new.faults result

-- a file that has a first byte other than 1, all of it on the disk
pub record CanBeFilled (file : DiskFile) : Type 0 where
  pub first : ℕ
  pub rest : List ℕ
  pub shut : first ≢ 1
  pub are : file.seen ≡ first ∷ rest
  pub synced : file.now ≡ settled file.seen
