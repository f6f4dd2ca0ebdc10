-- A write and a sync, in whatever way they end.
use Rattle.std.proofs.Common.{◌≡◌, ◌≤◌, ◌∙◌, ℕ, List, [], ◌∷◌, ◌++◌, length, true, inl, inr, refl, ap, arith, Result, Ok, Err, IsErrOf, OnOk}
use Rattle.outside.specs.Causes.{HasCause}
use Rattle.outside.specs.declared.error.FileErr.{FileErr}
use Rattle.outside.specs.declared.error.FileErr.TheVariants.{Failed, Memory}
use Rattle.kept_disk.specs.Images.{Moment, given_more, moments, overlaid, settled}
use Rattle.kept_disk.specs.Disk.{DiskState, OnlyHeld, Tore, Wrote, Synced, Unsynced, held}
use Rattle.miner_journal.specs.Calls.{Gains, IsOnDisk, WritesSynced}
use Rattle.miner_journal.proofs.Holding.{only_more}

module _ (old : DiskState) (from : ℕ) (bytes : List ℕ) where
  abbrev One : Moment
  One = given_more (held old).now from (length bytes)

  abbrev Other : Moment
  Other = settled (overlaid (held old).seen from bytes)

  -- the write didn't end
  unwritten : (new : DiskState) (e : FileErr)
      → (IsErrOf {T = Unit {0}} (Err e) Failed → old.told ≡ true → Tore (held old) (held new) from (length bytes))
      → (IsErrOf {T = Unit {0}} (Err e) Memory → held new ≡ held old) → old.told ≡ true → Gains One Other (held old) (held new)
  unwritten new Failed tore same told =
      let t = tore refl told in
      record { gained = (held new).now ∷ []; are = ap (λ v. (held new).now ∷ v) t.past; among = (inl t.now, tt) }
  unwritten new Memory tore same told = record { gained = []; are = ap moments (same refl); among = tt }

  pub stops_unwritten : (new : DiskState) (e : FileErr)
      → (IsErrOf {T = Unit {0}} (Err e) Failed → old.told ≡ true → Tore (held old) (held new) from (length bytes))
      → (IsErrOf {T = Unit {0}} (Err e) Memory → held new ≡ held old) → OnlyHeld old new → HasCause {T = Unit {0}} old.faults new.faults (Err e)
      → WritesSynced {T = Unit {0}} old new from bytes (Err e)
  stops_unwritten new e tore same only cause =
      record { only = only; ok = tt; gains = unwritten new e tore same; cause = cause }

  module _ (mid : DiskState) (only : OnlyHeld old mid) (wrote : old.told ≡ true → Wrote (held old) (held mid) from bytes) where
    wrote_moments : old.told ≡ true → moments (held mid) ≡ ((held mid).now ∷ []) ++ moments (held old)
    wrote_moments told = ap (λ v. (held mid).now ∷ v) (wrote told).past

    -- the sync didn't end
    unsynced : (new : DiskState) (e : FileErr) → (IsErrOf {T = Unit {0}} (Err e) Failed → mid.told ≡ true → Unsynced (held mid) (held new))
        → (IsErrOf {T = Unit {0}} (Err e) Memory → held new ≡ held mid) → old.told ≡ true → Gains One Other (held old) (held new)
    unsynced new Failed un same told =
        let u = un refl (only.told ∙ told) in
        record {
          gained = (held new).now ∷ [];
          are = ap (λ v. (held new).now ∷ v) (u.past ∙ (wrote told).past);
          among = (inl (u.now ∙ (wrote told).now), tt);
        }
    unsynced new Memory un same told =
        record { gained = (held mid).now ∷ []; are = ap moments (same refl) ∙ wrote_moments told; among = (inl (wrote told).now, tt) }

    synced : (new : DiskState) → (mid.told ≡ true → Synced (held mid) (held new)) → old.told ≡ true → Gains One Other (held old) (held new)
    synced new sync told =
        let s = sync (only.told ∙ told) in
        record {
          gained = (held new).now ∷ ((held mid).now ∷ []);
          are = ap (λ v. (held new).now ∷ v) (s.past ∙ wrote_moments told);
          among = (inr (s.now ∙ ap settled (wrote told).seen), (inl (wrote told).now, tt));
        }

    on_disk : (new : DiskState) → (mid.told ≡ true → Synced (held mid) (held new)) → old.told ≡ true
        → IsOnDisk (overlaid (held old).seen from bytes) (held new)
    on_disk new sync told =
        let s = sync (only.told ∙ told) in
        record { seen = s.seen ∙ (wrote told).seen; now = s.now ∙ ap settled (wrote told).seen }

    module _ (new : DiskState) (only2 : OnlyHeld mid new) (later : old.faults ≤ mid.faults) where
      caused : (result : Result (Unit {0}) FileErr) → HasCause mid.faults new.faults result → (mid.faults ≤ new.faults) → HasCause old.faults new.faults result
      caused result c up = record { later = omega (arith, later, up); failed = λ e. let r = c.failed e in omega (arith, r, later) }

      pub syncs : (result : Result (Unit {0}) FileErr) → OnOk result (mid.told ≡ true → Synced (held mid) (held new))
          → (IsErrOf result Failed → mid.told ≡ true → Unsynced (held mid) (held new))
          → (IsErrOf result Memory → held new ≡ held mid) → HasCause mid.faults new.faults result → WritesSynced old new from bytes result
      syncs (Ok x) ok failed memory cause =
          record {
            only = only_more only only2;
            ok = on_disk new ok;
            gains = synced new ok;
            cause = caused (Ok x) cause cause.later;
          }
      syncs (Err e) ok failed memory cause =
          record {
            only = only_more only only2;
            ok = tt;
            gains = unsynced new e failed memory;
            cause = caused (Err e) cause cause.later;
          }

-- what follows where a call ended well
pub through : {P Q : Type 0} (result : Result (Unit {0}) FileErr) → (P → Q) → OnOk result P → OnOk result Q
through (Ok x) to h = to h
through (Err e) to h = tt
