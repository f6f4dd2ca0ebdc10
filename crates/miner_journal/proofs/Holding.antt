-- A disk on which only the attached file changes.
use Rattle.std.proofs.Common.{◌≡◌, List, ℕ, refl, ◌∙◌, ap}
use Rattle.kept_disk.specs.Disk.{DiskState, OnlyHeld, SameDisk, SameFile, held}
use Rattle.miner_journal.specs.Begins.{OnlyAt}

pub only_more : {a b c : DiskState} → OnlyHeld a b → OnlyHeld b c → OnlyHeld a c
only_more p q = record {
  told = q.told ∙ p.told;
  attached = q.attached ∙ p.attached;
  path = q.path ∙ p.path;
  others = λ at ne. q.others at (λ e. ne (e ∙ p.path)) ∙ p.others at ne;
}

pub only_none : (a : DiskState) → OnlyHeld a a
only_none a = record { told = refl; attached = refl; path = refl; others = λ at ne. refl }

pub same_file_more : {a b c : DiskState} → SameFile a b → SameFile b c → SameFile a c
same_file_more p q = record { only = only_more p.only q.only; file = q.file ∙ p.file }

pub same_more : {a b c : DiskState} → SameDisk a b → SameDisk b c → SameDisk a c
same_more p q = record { same = same_file_more p.same q.same; size = q.size ∙ p.size }

pub same_none : (a : DiskState) → SameDisk a a
same_none a = record { same = record { only = only_none a; file = refl }; size = refl }

-- the attached file, by its path
pub held_at : (s : DiskState) (path : List ℕ) → s.path ≡ path → held s ≡ s.files path
held_at s path is = ap s.files is

-- no file but the one at this path
pub only_at : {a b : DiskState} (path : List ℕ) → a.path ≡ path → OnlyHeld a b → OnlyAt a b path
only_at path is o = record { told = o.told; others = λ q ne. o.others q (λ e. ne (e ∙ is)) }

pub at_more : {a b c : DiskState} (path : List ℕ) → OnlyAt a b path → OnlyAt b c path → OnlyAt a c path
at_more path p q = record { told = q.told ∙ p.told; others = λ at ne. q.others at ne ∙ p.others at ne }
