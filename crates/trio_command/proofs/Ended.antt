-- What the answers of three children mean for the command.
use Rattle.std.proofs.Common.{◌≡◌, ◌++◌, ℕ, ℤ, List, Bool, true, false, Result, Ok, Err, if◌then◌else◌, refl, sym, ◌∙◌, subst}
use Rattle.std.specs.Prelude.{IfOk, ◌||◌}
use Rattle.outside.specs.Spawner.{ChildCall, SpawnerState}
use Rattle.outside.specs.declared.error.SpawnErr.{SpawnErr}
use Rattle.outside.specs.declared.error.SpawnErr.TheVariants as spawn_err
use Rattle.command_frame.specs.Answer.{Cause, ◌>>=◌}
use Rattle.proto_core.specs.declared.party.Number.{Number}
use Rattle.proto_core.specs.declared.party.Number.TheVariants.{One, Two, Three}
use Rattle.trio.specs.Children.{all_answers, child_answer, fault_in, is_end_status, lacked_memory, unless_wrong}
use Rattle.trio.specs.Launches.{Awaited, Halted, IsTold, Launch, Launched, answer_to, calls_of, wait_of}
use Rattle.trio.specs.declared.child_err.ChildErr.{ChildErr}
use Rattle.trio.specs.declared.child_err.ChildErr.TheVariants as child_err
use Rattle.trio_command.specs.Launching.{AreStatuses}
use Rattle.trio_command.specs.Trio.{bad_status, children_ended, ended_so}

abbrev pub Judged : Type 0
Judged = Result (Unit {0}) ChildErr

abbrev pub Ended : Type 0
Ended = Result (Unit {0}) Cause

-- a fault and want of memory decide nothing
abbrev pub Means : Judged → Ended → Type 0
Means (Ok done) decided = decided ≡ Ok tt
Means (Err (child_err.Status i status)) decided = decided ≡ Err (bad_status i status)
Means (Err child_err.Fault) decided = Unit {0}
Means (Err child_err.Memory) decided = Unit {0}

-- ---- one child, and then others

one_means : (i : Number) (a : Result ℤ SpawnErr) (status : ℤ) → IfOk a (λ x. x ≡ status) → Means (child_answer i a) (ended_so i status)
one_means i (Ok x) status is = subst (λ (y : ℤ). Means (child_answer i (Ok x)) (ended_so i y)) is (by_test (is_end_status x))
  where
    by_test : (b : Bool) → Means (if b then Ok tt else Err (child_err.Status i x)) (if b then Ok tt else Err (bad_status i x))
    by_test true = refl
    by_test false = refl
one_means i (Err spawn_err.Failed) status is = tt
one_means i (Err spawn_err.Memory) status is = tt

two_mean : (a b : Judged) (x y : Ended) → Means a x → Means b y → Means (unless_wrong a b) (x >>= λ done. y)
two_mean (Ok done) b x y first second = rw first second
two_mean (Err (child_err.Status i status)) b x y first second = rw first refl
two_mean (Err child_err.Fault) b x y first second = tt
two_mean (Err child_err.Memory) b x y first second = tt

with_memory : (b : Bool) (a : Judged) (x : Ended) → Means a x → Means (if b then Err child_err.Memory else a) x
with_memory true a x means = tt
with_memory false a x means = means

all_mean : (answer : Number → Result ℤ SpawnErr) (status : Number → ℤ) → ((i : Number) → IfOk (answer i) (λ x. x ≡ status i))
    → Means (all_answers answer) (children_ended status)
all_mean answer status are =
    let a : Judged = child_answer One (answer One) in
    let b : Judged = child_answer Two (answer Two) in
    let c : Judged = child_answer Three (answer Three) in
    let x : Ended = ended_so One (status One) in
    let y : Ended = ended_so Two (status Two) in
    let z : Ended = ended_so Three (status Three) in
    with_memory (lacked_memory (answer One) || (lacked_memory (answer Two) || lacked_memory (answer Three)))
    (unless_wrong a (unless_wrong b c)) (children_ended status)
    (two_mean a (unless_wrong b c) x (y >>= λ done. z) (one_means One (answer One) (status One) (are One))
    (two_mean b c y z (one_means Two (answer Two) (status Two) (are Two)) (one_means Three (answer Three) (status Three) (are Three))))

-- ---- by what is told

agree : (a : Result ℤ SpawnErr) (status other : ℤ) → IfOk a (λ x. x ≡ other) → status ≡ other → IfOk a (λ x. x ≡ status)
agree (Ok x) status other is same = is ∙ sym same
agree (Err err) status other is same = tt

halted_means : (err : SpawnErr) (x : Ended) → Means (Err (fault_in err)) x
halted_means spawn_err.Failed x = tt
halted_means spawn_err.Memory x = tt

module _ (words : Number → List (List ℕ)) (old new : SpawnerState) (status : Number → ℤ) (are : AreStatuses words old new status) where
  by_launch : (result : Judged) (launch : Launch) → new.calls ≡ old.calls ++ calls_of words launch → IsTold old.status launch → result ≡ answer_to launch
      → Means result (children_ended status)
  by_launch result (Halted begun err) calls told is =
      subst (λ (r : Judged). Means r (children_ended status)) (sym is) (halted_means err (children_ended status))
  by_launch result (Awaited child answer) calls told is =
      let waits : List ChildCall =
      wait_of (child One) (answer One) ++ (wait_of (child Two) (answer Two) ++ wait_of (child Three) (answer Three)) in
      subst (λ (r : Judged). Means r (children_ended status)) (sym is)
      (all_mean answer status (λ i. agree (answer i) (status i) (old.status (child i)) (told i) (are child waits calls i)))

  pub launch_means : (result : Judged) → Launched old new words result → old.told ≡ true → Means result (children_ended status)
  launch_means result launched t =
      let came = launched.came t in
      by_launch result came.launch came.calls came.statuses came.answer
