-- The file at a path is attached, synced and read.
use Rattle.std.proofs.Common.{◌≡◌, List, ℕ, ◌∷◌, true, refl, sym, ◌∙◌, ap, subst, Result, Ok, Err, IsErrOf, OnOk, OnErr, IfOk}
use Rattle.outside.specs.declared.error.FileErr.{FileErr}
use Rattle.outside.specs.declared.error.FileErr.TheVariants.{Failed, Memory}
use Rattle.kept_disk.specs.Images.{DiskFile, EachMoment, moments, settled}
use Rattle.kept_disk.specs.Disk.{DiskState, OnlyHeld, SameFile, SameFiles, Synced, Unsynced, held}
use Rattle.miner_journal.specs.declared.looking.Findings.{Findings}
use Rattle.miner_journal.specs.Begins.{Holds, IsSynced, OnlyAt, Surveys}
use Rattle.miner_journal.proofs.Holding.{at_more, held_at, only_at}

pub on_ok : {T E P : Type 0} (result : Result T E) → P → OnOk result P
on_ok (Ok x) p = p
on_ok (Err e) p = tt

pub on_ok_map : {T E P Q : Type 0} (result : Result T E) → (P → Q) → OnOk result P → OnOk result Q
on_ok_map (Ok x) to p = to p
on_ok_map (Err e) to p = tt

pub on_err_map : {T E P Q : Type 0} (result : Result T E) → (P → Q) → OnErr result P → OnErr result Q
on_err_map (Ok x) to p = tt
on_err_map (Err e) to p = to p

pub if_ok_map : {T E : Type 0} {P Q : T → Type 0} (result : Result T E) → ((t : T) → P t → Q t) → IfOk result P → IfOk result Q
if_ok_map (Ok x) to p = to x p
if_ok_map (Err e) to p = tt

pub none_changed : {a b : DiskState} (path : List ℕ) → SameFiles a b → OnlyAt a b path
none_changed path k = record { told = k.told; others = λ q ne. k.files q }

-- a file is attached, and then synced
module _ (a m : DiskState) (path : List ℕ) (kept : SameFiles a m) (at : m.path ≡ path) where
  held_first : held m ≡ a.files path
  held_first = held_at m path at ∙ kept.files path

  module _ (b : DiskState) (only : OnlyHeld m b) where
    held_last : held b ≡ b.files path
    held_last = held_at b path (only.path ∙ at)

    pub only_there : OnlyAt a b path
    only_there = at_more path (none_changed path kept) (only_at path at only)

    pub still_held : m.attached ≡ true → Holds b path
    still_held is = record { attached = only.attached ∙ is; path_is = only.path ∙ at }

    pub synced_at : Synced (held m) (held b) → IsSynced (a.files path) (b.files path)
    synced_at s = record {
      seen = sym (ap (λ f. f.seen) held_last) ∙ s.seen ∙ ap (λ f. f.seen) held_first;
      now = sym (ap (λ f. f.now) held_last) ∙ s.now ∙ ap settled (sym s.seen ∙ ap (λ f. f.seen) held_last);
      past = sym (ap (λ f. f.past) held_last) ∙ s.past ∙ ap moments held_first;
    }

    -- no moment came where the sync gave nothing
    unsynced_at : Unsynced (held m) (held b) → moments (held b) ≡ moments (held m)
    unsynced_at u = ap (λ n. n ∷ (held b).past) u.now ∙ ap (λ p. (held m).now ∷ p) u.past

    pub not_synced : (result : Result (Unit {0}) FileErr) → (IsErrOf result Failed → m.told ≡ true → Unsynced (held m) (held b))
        → (IsErrOf result Memory → held b ≡ held m) → OnErr result (a.told ≡ true → moments (b.files path) ≡ moments (a.files path))
    not_synced (Ok x) failed memory = tt
    not_synced (Err Failed) failed memory =
        λ told. ap moments (sym held_last) ∙ unsynced_at (failed refl (kept.told ∙ told)) ∙ ap moments held_first
    not_synced (Err Memory) failed memory = λ told. ap moments (sym held_last ∙ memory refl ∙ held_first)

-- a file that is attached is read
module _ (m b : DiskState) (path : List ℕ) (holds : Holds m path) (same : SameFile m b) where
  pub same_there : b.files path ≡ m.files path
  same_there = sym (held_at b path (same.only.path ∙ holds.path_is)) ∙ same.file ∙ held_at m path holds.path_is

  pub only_surveyed : OnlyAt m b path
  only_surveyed = only_at path holds.path_is same.only

  pub holds_on : Holds b path
  holds_on = record { attached = same.only.attached ∙ holds.attached; path_is = same.only.path ∙ holds.path_is }

  pub synced_there : (f : DiskFile) → IsSynced f (m.files path) → IsSynced f (b.files path)
  synced_there f s = subst (IsSynced f) (sym same_there) s

  pub surveyed_there : (f : DiskFile) → IsSynced f (m.files path) → (found : Findings) → Surveys (held m).seen found → Surveys f.seen found
  surveyed_there f s found v = subst (λ bytes. Surveys bytes found) (ap (λ f. f.seen) (held_at m path holds.path_is) ∙ s.seen) v

-- a file that is attached is written
module _ (m b : DiskState) (path : List ℕ) (holds : Holds m path) (only : OnlyHeld m b) where
  pub held_before : held m ≡ m.files path
  held_before = held_at m path holds.path_is

  pub held_after : held b ≡ b.files path
  held_after = held_at b path (only.path ∙ holds.path_is)

  pub each_there : (P : List ℕ → Type 0) → EachMoment (held m) (held b) P → EachMoment (m.files path) (b.files path) P
  each_there P h = subst (λ f. EachMoment f (b.files path) P) held_before (subst (λ f. EachMoment (held m) f P) held_after h)

  pub holds_still : Holds b path
  holds_still = record { attached = only.attached ∙ holds.attached; path_is = only.path ∙ holds.path_is }

  pub only_written : OnlyAt m b path
  only_written = only_at path holds.path_is only
