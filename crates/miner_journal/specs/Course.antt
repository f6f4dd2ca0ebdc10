-- Messages kept one after another, and what a crash leaves meanwhile.
use Rattle.std.specs.Prelude.{ℕ, List, [], ◌∷◌, ◌++◌, take}
use Rattle.kept_disk.specs.Images.{DiskFile, EachMoment}
use Rattle.kept_frames.specs.Kept.{Kept}
use Rattle.miner_journal.specs.Format.{IsSettled, StandsFor, WithOrWithout}

-- each is kept after those before it; between them the disk may be read
abbrev pub Course : (sums : List ℕ) (rs : List Kept) → (f g : DiskFile) → (kept : List Kept) → Type 0
Course sums rs f g [] = EachMoment f g (StandsFor sums rs)
Course sums rs f g (a ∷ kept) = (h : DiskFile) × EachMoment f h (WithOrWithout sums rs a) × Course sums (rs ++ a ∷ []) h g kept

-- the records from before, and the first of those that were kept since
abbrev pub WithSome : (sums : List ℕ) (rs kept : List Kept) → List ℕ → Type 0
WithSome sums rs kept file = (k : ℕ) × StandsFor sums (rs ++ take k kept) file

abbrev pub CourseHolds : (sums : List ℕ) (rs kept : List Kept) (f g : DiskFile) → Type 0
CourseHolds sums rs kept f g = Course sums rs f g kept → EachMoment f g (WithSome sums rs kept)

-- a message more
abbrev pub CourseGoesOn : (sums : List ℕ) (rs kept : List Kept) (f g h : DiskFile) (a : Kept) (place : ℕ) → Type 0
CourseGoesOn sums rs kept f g h a place =
    Course sums rs f g kept → EachMoment g h (WithOrWithout sums (rs ++ kept) a) → IsSettled sums ((rs ++ kept) ++ a ∷ []) h place
    → Course sums rs f h (kept ++ a ∷ [])
