-- Three children that are waited for.
use Rattle.std.proofs.Common.{◌≡◌, ℕ, true, refl, ◌∙◌, subst}
use Rattle.std.specs.Prelude.{ℤ, Result, Ok, Err, IfOk, OnErr}
use Rattle.outside.specs.declared.error.SpawnErr.{SpawnErr}
use Rattle.outside.specs.declared.error.SpawnErr.TheVariants as spawn_err
use Rattle.outside.specs.Causes.{Rose, HasSpawnCause, IsSteadySpawn}
use Rattle.outside.specs.Spawner.{SpawnerState, SameSpawner, Called, awaited, IsKnown, IsUnknown}
use Rattle.proto_core.specs.declared.party.Number.{Number}
use Rattle.proto_core.specs.declared.party.Number.TheVariants.{One, Two, Three}
use Rattle.trio.specs.inner.Moves.{Moved, Wait, Waited}
use Rattle.trio.proofs.Calls.{moved_same, moved_called, moved_more, rose_later, rose_before, known_moved}

ok_is_fault : (s : ℤ) → Ok s ≡ Err spawn_err.Failed → ⊥
ok_is_fault s e = cc

memory_is_fault : (r : Result ℤ SpawnErr) → r ≡ Err spawn_err.Memory → r ≡ Err spawn_err.Failed → ⊥
memory_is_fault r e f = cc

pub waited : (old new : SpawnerState) (child : ℕ) (r : Result ℤ SpawnErr) → IfOk r (λ s. Called old new (awaited child))
    → IfOk r (λ s. old.told ≡ true → s ≡ old.status child) → OnErr r (SameSpawner old new) → HasSpawnCause old.faults new.faults r
    → (old.steady ≡ true → IsSteadySpawn old.faults new.faults r (IsUnknown old child)) → (old.steady ≡ true → new.steady ≡ true) → Wait old new child r
waited old new child (Ok s) ok status err cause steady still =
    record {
      moved = moved_called ok cause.later still;
      status = status;
      failed = λ e. absurd (ok_is_fault s e);
      steady = λ q t known. (ok_is_fault s, (steady q).ok);
    }
waited old new child (Err spawn_err.Failed) ok status err cause steady still =
    record {
      moved = moved_same err cause.later still;
      status = λ t. tt;
      failed = λ e. cause.failed refl;
      steady = λ q t known. absurd ((steady q).failed refl t known);
    }
waited old new child (Err spawn_err.Memory) ok status err cause steady still =
    record {
      moved = moved_same err cause.later still;
      status = λ t. tt;
      failed = λ e. absurd (memory_is_fault (Err spawn_err.Memory) refl e);
      steady = λ q t known. (memory_is_fault (Err spawn_err.Memory) refl, (steady q).memory refl);
    }

-- what is told of a child stays
status_kept : (old new : ℕ → ℤ) (r : Result ℤ SpawnErr) (child : ℕ) → new ≡ old → IfOk r (λ s. s ≡ new child) → IfOk r (λ s. s ≡ old child)
status_kept old new (Ok s) child e h = subst (λ (status : ℕ → ℤ). s ≡ status child) e h
status_kept old new (Err err) child e h = tt

pub all_waited : {a b c d : SpawnerState} (child : Number → ℕ) (answer : Number → Result ℤ SpawnErr) → Wait a b (child One) (answer One)
    → Wait b c (child Two) (answer Two) → Wait c d (child Three) (answer Three) → Waited a d child answer
all_waited {a} {b} {c} {d} child answer p q r =
    let first : Moved a b _ = p.moved in
    let second : Moved b c _ = q.moved in
    let third : Moved c d _ = r.moved in
    record {
      moved = moved_more first (moved_more second third);
      statuses = told;
      failed = fault;
      steady = quiet;
    }
  where
    told : a.told ≡ true → (i : Number) → IfOk (answer i) (λ s. s ≡ a.status (child i))
    told t One = p.status t
    told t Two = status_kept a.status b.status (answer Two) (child Two) p.moved.status (q.status (p.moved.told ∙ t))
    told t Three =
        status_kept a.status c.status (answer Three) (child Three) (q.moved.status ∙ p.moved.status) (r.status (q.moved.told ∙ p.moved.told ∙ t))

    fault : (i : Number) → answer i ≡ Err spawn_err.Failed → Rose a.faults d.faults
    fault One e = rose_before a.faults b.faults d.faults (p.failed e) (moved_more q.moved r.moved).later
    fault Two e = rose_later a.faults b.faults d.faults p.moved.later (rose_before b.faults c.faults d.faults (q.failed e) r.moved.later)
    fault Three e = rose_later a.faults c.faults d.faults (moved_more p.moved q.moved).later (r.failed e)

    quiet : a.steady ≡ true → a.told ≡ true → ((i : Number) → IsKnown a (child i))
        → ((i : Number) → answer i ≡ Err spawn_err.Failed → ⊥) × (d.faults ≡ a.faults)
    quiet s t known =
        let one = p.steady s t (known One) in
        let two = q.steady (p.moved.still s) (p.moved.told ∙ t) (known_moved p.moved t (child Two) (known Two)) in
        let three =
        r.steady (q.moved.still (p.moved.still s)) (q.moved.told ∙ p.moved.told ∙ t)
        (known_moved (moved_more p.moved q.moved) t (child Three) (known Three)) in
        (none one.0 two.0 three.0, three.1 ∙ two.1 ∙ one.1)
      where
        none : (answer One ≡ Err spawn_err.Failed → ⊥) → (answer Two ≡ Err spawn_err.Failed → ⊥) → (answer Three ≡ Err spawn_err.Failed → ⊥)
            → (i : Number) → answer i ≡ Err spawn_err.Failed → ⊥
        none x y z One = x
        none x y z Two = y
        none x y z Three = z
