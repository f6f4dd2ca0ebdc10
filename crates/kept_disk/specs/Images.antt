-- What a crash may leave of a file.
use Rattle.std.specs.Prelude.{◌≡◌, ◌⊎◌, ℕ, ◌+◌, ◌-◌, ◌<◌, ◌≤◌, max, List, [], ◌∷◌, ◌++◌, length, take, drop, get_or, replicate}

-- ---- the bytes that may be there

-- bytes that were given to a write: the first one's place, and how many
pub record Range : Type 0 where
  pub from : ℕ
  pub count : ℕ

-- the bytes at the last sync that succeeded, and the ranges that were given since, the newest first
pub record Moment : Type 0 where
  pub kept : List ℕ
  pub given : List Range

-- the greatest of this length and the ends of these ranges
abbrev pub reach : ℕ → List Range → ℕ
reach n [] = n
reach n (r ∷ rs) = max (r.from + r.count) (reach n rs)

-- a place in none of these ranges
abbrev pub Outside : ℕ → List Range → Type 0
Outside i [] = Unit {0}
Outside i (r ∷ rs) = ((i < r.from) ⊎ (r.from + r.count ≤ i)) × Outside i rs

-- a crash may leave these bytes: the ranges hold any, and so does what lies past the old end
pub record IsImage (m : Moment) (bytes : List ℕ) : Type 0 where
  pub no_shorter : length m.kept ≤ length bytes
  pub no_longer : length bytes ≤ reach (length m.kept) m.given
  pub same : (i : ℕ) → i < length m.kept → Outside i m.given → get_or bytes i 0 ≡ get_or m.kept i 0

-- a claim on all that a crash may leave
abbrev pub LeavesOnly : Moment → (List ℕ → Type 0) → Type 0
LeavesOnly m P = (bytes : List ℕ) → IsImage m bytes → P bytes

abbrev pub AllLeave : List Moment → (List ℕ → Type 0) → Type 0
AllLeave [] P = Unit {0}
AllLeave (m ∷ ms) P = LeavesOnly m P × AllLeave ms P

-- ---- a file

-- what a read gives, the moment that is, and those before it, the newest first
pub record DiskFile : Type 0 where
  pub seen : List ℕ
  pub now : Moment
  pub past : List Moment

abbrev pub moments : DiskFile → List Moment
moments f = f.now ∷ f.past

-- all of these bytes are on the disk
abbrev pub settled : List ℕ → Moment
settled bytes = record { kept = bytes; given = [] }

-- a file with these bytes, all of them on the disk, and no moment before
abbrev pub file_with : List ℕ → DiskFile
file_with bytes = record { seen = bytes; now = settled bytes; past = [] }

-- a range more was given
abbrev pub given_more : Moment → ℕ → ℕ → Moment
given_more m from count = record { kept = m.kept; given = record { from = from; count = count } ∷ m.given }

-- these bytes from a place on; zeros where it lies past the end
abbrev pub overlaid : List ℕ → ℕ → List ℕ → List ℕ
overlaid file from bytes = ((take from file ++ replicate (from - length file) 0) ++ bytes) ++ drop (from + length bytes) file

-- a claim on what a crash leaves at each moment from one state of a file to another
pub record EachMoment (old new : DiskFile) (P : List ℕ → Type 0) : Type 0 where
  pub gained : List Moment
  pub are : moments new ≡ gained ++ moments old
  pub before : LeavesOnly old.now P
  pub each : AllLeave gained P
