-- A journal is begun in a file that was found without one.
use Rattle.std.proofs.Common.{◌≡◌, List, ℕ, [], false, sym, subst}
use Rattle.kept_disk.specs.Images.{EachMoment}
use Rattle.kept_disk.specs.Disk.{DiskState, OnlyHeld, held}
use Rattle.miner_journal.specs.declared.looking.Findings.{Findings}
use Rattle.miner_journal.specs.Format.{IsSettled, StandsFor, is_begun}
use Rattle.miner_journal.specs.Begins.{Holds, IsOpened, IsSynced, IsWaiting, SinceSync, Surveys}
use Rattle.miner_journal.proofs.Looks.{each_there, held_after, held_before}
use Rattle.miner_journal.proofs.Openings.{opened_anew, unbegun, waits, was_begun}

module _ (a m b : DiskState) (path sums : List ℕ) (holds : Holds m path) (s : IsSynced (a.files path) (m.files path))
    (found : Findings) (v : Surveys (a.files path).seen found) (no : found.begun ≡ false) (only : OnlyHeld m b) where
  pub waits_held : IsWaiting found.short (held m)
  waits_held = subst (IsWaiting found.short) (sym (held_before m b path holds only)) (waits sums (a.files path) (m.files path) s found v no)

  pub since_anew : EachMoment (held m) (held b) (StandsFor sums []) → SinceSync (a.files path) (b.files path) sums
  since_anew h =
      was_begun sums (a.files path) (m.files path) s (b.files path) (unbegun sums (a.files path) (m.files path) s found v no)
      (each_there m b path holds only (StandsFor sums []) h)

  pub opens_anew : IsSettled sums [] (held b) 97 → IsOpened (is_begun (a.files path).seen) sums (a.files path) (b.files path)
  opens_anew h =
      opened_anew sums (a.files path) (m.files path) s found v (b.files path) no
      (subst (λ f. IsSettled sums [] f 97) (held_after m b path holds only) h)
