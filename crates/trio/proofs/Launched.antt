-- Three children that are started, and then waited for.
use Rattle.std.proofs.Common.{◌≡◌, ℕ, List, [], ◌∷◌, ◌++◌, true, refl, sym, ◌∙◌, subst, arith}
use Rattle.std.specs.Prelude.{ℤ, Result, Ok, Err, IfOk}
use Rattle.std.proofs.lemmas.List.Elements.{Contains-append_right}
use Rattle.std.proofs.Common.{Contains}
use Rattle.outside.specs.declared.error.SpawnErr.{SpawnErr}
use Rattle.outside.specs.declared.error.SpawnErr.TheVariants as spawn_err
use Rattle.outside.specs.Spawner.{SpawnerState, given_in, IsKnown}
use Rattle.outside.proofs.Given.{given_in-append}
use Rattle.proto_core.specs.declared.party.Number.{Number}
use Rattle.proto_core.specs.declared.party.Number.TheVariants.{One, Two, Three}
use Rattle.trio.specs.Children.{fault_in, all_answers}
use Rattle.trio.specs.Launches.{Halted, Awaited, starts, of_all, IsTold, Launched}
use Rattle.trio.specs.declared.child_err.ChildErr.{ChildErr}
use Rattle.trio.specs.declared.child_err.ChildErr.TheVariants as child_err
use Rattle.trio.specs.inner.Moves.{Moved, Tried, Begun, Waited, waits_of}
use Rattle.trio.proofs.Calls.{moved_more, steps_more, rose_later}
use Rattle.trio.proofs.Judging.{fault_found, halt_fault}

-- ---- starts, one after the other

pub begun_is : {A : Type 0} {a c : SpawnerState} (words : Number → List (List ℕ)) (child : A → Number → ℕ) (r : Result A SpawnErr) (err : SpawnErr)
    → r ≡ Err err → Begun a c words child (Err err) → Begun a c words child r
begun_is {A} {a} {c} words child r err e h = subst (λ (x : Result A SpawnErr). Begun a c words child x) (sym e) h

module _ {A : Type 0} {a b : SpawnerState} (words : Number → List (List ℕ)) (child : A → Number → ℕ) where
  pub halted_first : (err : SpawnErr) → Tried a b (words One) (Err err) → Begun a b words child (Err err)
  halted_first err p = ([], omega arith, p)

  pub halted_second : {c : SpawnerState} (n : ℕ) (err : SpawnErr) → Tried a b (words One) (Ok n) → Tried b c (words Two) (Err err)
      → Begun a c words child (Err err)
  halted_second n err p q = (n ∷ [], omega arith, steps_more p q)

  pub halted_third : {c d : SpawnerState} (n m : ℕ) (err : SpawnErr) → Tried a b (words One) (Ok n) → Tried b c (words Two) (Ok m)
      → Tried c d (words Three) (Err err) → Begun a d words child (Err err)
  halted_third n m err p q r = (n ∷ m ∷ [], omega arith, steps_more p (steps_more q r))

  pub all_begun : {c d : SpawnerState} (three : A) → Tried a b (words One) (Ok (child three One)) → Tried b c (words Two) (Ok (child three Two))
      → Tried c d (words Three) (Ok (child three Three)) → Begun a d words child (Ok three)
  all_begun three p q r = steps_more p (steps_more q r)

-- ---- the whole

pub halted : {A : Type 0} {a b : SpawnerState} (words : Number → List (List ℕ)) (child : A → Number → ℕ) (err : SpawnErr)
    (result : Result (Unit {0}) ChildErr) → Begun a b words child (Err err) → result ≡ Err (fault_in err) → Launched a b words result
halted {a = a} {b = b} words child err result (begun, short, steps) e =
    record {
      told = steps.moved.told;
      status = steps.moved.status;
      came = λ t. record {
        launch = Halted begun err;
        calls = steps.moved.calls_are t;
        statuses = short;
        answer = e;
        rose = steps.failed;
        none = λ s. (steps.steady s).0;
      };
      later = steps.moved.later;
      failed = λ f. steps.failed (halt_fault err result e f);
      steady = λ s t. let q = steps.steady s in (λ f. q.0 (halt_fault err result e f), q.1);
      still = steps.moved.still;
    }

known_started : (words : Number → List (List ℕ)) (child : Number → ℕ) (i : Number) → Contains (given_in (starts (of_all words) (of_all child))) (child i)
known_started words child One = (0, omega arith, refl)
known_started words child Two = (1, omega arith, refl)
known_started words child Three = (2, omega arith, refl)

all_known : {a b : SpawnerState} (words : Number → List (List ℕ)) (child : Number → ℕ) → Moved a b (starts (of_all words) (of_all child))
    → a.told ≡ true → (i : Number) → IsKnown b (child i)
all_known {a} {b} words child moved t i =
    rw (moved.calls_are t, given_in-append)
    (Contains-append_right (given_in a.calls) (given_in (starts (of_all words) (of_all child))) (child i) (known_started words child i))

pub launched : {A : Type 0} {a b c : SpawnerState} (words : Number → List (List ℕ)) (child : A → Number → ℕ) (three : A)
    (answer : Number → Result ℤ SpawnErr) (result : Result (Unit {0}) ChildErr) → Begun a b words child (Ok three) → Waited b c (child three) answer
    → result ≡ all_answers answer → Launched a c words result
launched {a = a} {b = b} {c = c} words child three answer result p q e =
    let first : Moved a b (starts (of_all words) (of_all (child three))) = p.moved in
    let whole : Moved a c (starts (of_all words) (of_all (child three)) ++ waits_of (child three) answer) = moved_more first q.moved in
    record {
      told = whole.told;
      status = whole.status;
      came = λ t. record {
        launch = Awaited (child three) answer;
        calls = whole.calls_are t;
        statuses = told t;
        answer = e;
        rose = λ h. rose_later a.faults b.faults c.faults p.moved.later (q.failed h.0 h.1);
        none = λ s h. quiet_ends s t h.0 h.1;
      };
      later = whole.later;
      failed = λ f. fault_found answer (sym e ∙ f) (λ i h. rose_later a.faults b.faults c.faults p.moved.later (q.failed i h));
      steady = quiet;
      still = whole.still;
    }
  where
    told : a.told ≡ true → IsTold a.status (Awaited (child three) answer)
    told t i = kept (answer i) (q.statuses (p.moved.told ∙ t) i)
      where
        kept : (r : Result ℤ SpawnErr) → IfOk r (λ s. s ≡ b.status (child three i))
            → IfOk r (λ s. s ≡ a.status (child three i))
        kept (Ok s) h = subst (λ (status : ℕ → ℤ). s ≡ status (child three i)) p.moved.status h
        kept (Err err) h = tt

    ends : a.steady ≡ true → a.told ≡ true → ((i : Number) → answer i ≡ Err spawn_err.Failed → ⊥) × (c.faults ≡ b.faults)
    ends s t = q.steady (p.moved.still s) (p.moved.told ∙ t) (all_known words (child three) p.moved t)

    quiet_ends : a.steady ≡ true → a.told ≡ true → (i : Number) → answer i ≡ Err spawn_err.Failed → ⊥
    quiet_ends s t = (ends s t).0

    quiet : a.steady ≡ true → a.told ≡ true → (result ≡ Err child_err.Fault → ⊥) × (c.faults ≡ a.faults)
    quiet s t = (λ f. fault_found answer (sym e ∙ f) (quiet_ends s t), (ends s t).1 ∙ (p.steady s).1)
