-- Calls of a spawner that follow one another.
use Rattle.std.proofs.Common.{◌≡◌, ℕ, ◌≤◌, ◌+◌, ◌-◌, List, [], ◌∷◌, ◌++◌, true, refl, sym, ◌∙◌, ap, arith, append_assoc, append-nil}
use Rattle.std.specs.Prelude.{Result, Ok, Err, IfOk, OnErr}
use Rattle.std.proofs.lemmas.List.Elements.{Contains-append_left}
use Rattle.outside.specs.declared.error.SpawnErr.{SpawnErr}
use Rattle.outside.specs.declared.error.SpawnErr.TheVariants as spawn_err
use Rattle.outside.specs.Causes.{Rose, HasSpawnCause, IsSteadySpawn}
use Rattle.outside.specs.Spawner.{SpawnerState, ChildCall, SameSpawner, Called, started, given_in, IsKnown}
use Rattle.outside.proofs.Given.{given_in-append}
use Rattle.trio.specs.inner.Moves.{Moved, Steps, Tried}

pub moved_none : (s : SpawnerState) → Moved s s []
moved_none s = record { told = refl; status = refl; calls_are = λ t. sym (append-nil s.calls); later = omega arith; still = λ h. h }

pub moved_same : {old new : SpawnerState} → SameSpawner old new → old.faults ≤ new.faults → (old.steady ≡ true → new.steady ≡ true) → Moved old new []
moved_same {old} {new} same later still =
    record { told = same.told; status = same.status; calls_are = λ t. same.calls ∙ sym (append-nil old.calls); later = later; still = still }

pub moved_called : {old new : SpawnerState} {call : ChildCall} → Called old new call → old.faults ≤ new.faults → (old.steady ≡ true → new.steady ≡ true)
    → Moved old new (call ∷ [])
moved_called called later still = record { told = called.told; status = called.status; calls_are = called.calls; later = later; still = still }

pub moved_more : {a b c : SpawnerState} {xs ys : List ChildCall} → Moved a b xs → Moved b c ys → Moved a c (xs ++ ys)
moved_more {a} {b} {c} {xs} {ys} p q =
    record {
      told = q.told ∙ p.told;
      status = q.status ∙ p.status;
      calls_are = λ t. q.calls_are (p.told ∙ t) ∙ ap (λ (zs : List ChildCall). zs ++ ys) (p.calls_are t) ∙ append_assoc a.calls xs ys;
      later = let l = p.later in let m = q.later in omega arith;
      still = λ s. q.still (p.still s);
    }

pub rose_later : (a b c : ℕ) → a ≤ b → Rose b c → Rose a c
rose_later a b c le rose = omega arith

pub rose_before : (a b c : ℕ) → Rose a b → b ≤ c → Rose a c
rose_before a b c rose le = omega arith

pub steps_more : {a b c : SpawnerState} {xs ys : List ChildCall} {fault : Type 0} → Steps a b xs ⊥ → Steps b c ys fault → Steps a c (xs ++ ys) fault
steps_more {a} {b} {c} p q =
    record {
      moved = moved_more p.moved q.moved;
      failed = λ f. rose_later a.faults b.faults c.faults p.moved.later (q.failed f);
      steady = λ s. let t = q.steady (p.moved.still s) in (t.0, t.1 ∙ (p.steady s).1);
    }

-- ---- one child that was to be started

no_memory_is_fault : spawn_err.Memory ≡ spawn_err.Failed → ⊥
no_memory_is_fault e = cc

pub tried_none : (s : SpawnerState) (words : List (List ℕ)) → Tried s s words (Err spawn_err.Memory)
tried_none s words =
    record { moved = moved_none s; failed = λ e. absurd (no_memory_is_fault e); steady = λ h. (no_memory_is_fault, refl) }

pub tried : (old new : SpawnerState) (words : List (List ℕ)) (r : Result ℕ SpawnErr) → IfOk r (λ child. Called old new (started words child))
    → OnErr r (SameSpawner old new) → HasSpawnCause old.faults new.faults r → (old.steady ≡ true → IsSteadySpawn old.faults new.faults r ⊥)
    → (old.steady ≡ true → new.steady ≡ true) → Tried old new words r
tried old new words (Ok child) ok err cause steady still =
    record { moved = moved_called ok cause.later still; failed = λ e. absurd e; steady = λ s. (λ e. e, (steady s).ok) }
tried old new words (Err spawn_err.Failed) ok err cause steady still =
    record { moved = moved_same err cause.later still; failed = λ e. cause.failed refl; steady = λ s. absurd ((steady s).failed refl) }
tried old new words (Err spawn_err.Memory) ok err cause steady still =
    record {
      moved = moved_same err cause.later still;
      failed = λ e. absurd (no_memory_is_fault e);
      steady = λ s. (no_memory_is_fault, (steady s).memory refl);
    }

-- ---- children that are known

pub known_moved : {old new : SpawnerState} {calls : List ChildCall} → Moved old new calls → old.told ≡ true → (child : ℕ) → IsKnown old child
    → IsKnown new child
known_moved {old} {new} {calls} moved t child known =
    rw (moved.calls_are t, given_in-append) (Contains-append_left (given_in old.calls) (given_in calls) child known)
