-- Calls that may be made of children are those of some launch: so nothing is lost where only the calls are told.
use Rattle.std.proofs.Common.{◌≡◌, ◌++◌, ℕ, ℤ, List, [], ◌∷◌, Bool, true, false, Result, Ok, Err, if◌then◌else◌, length, arith, refl, ap, sym, ◌∙◌, inl, inr}
use Rattle.std.proofs.lemmas.Bool.{true≢false}
use Rattle.std.specs.List.{filter}
use Rattle.std.specs.Prelude.{IfOk, map, ◌||◌}
use Rattle.outside.specs.Spawner.{ChildCall, SpawnerState, awaited}
use Rattle.outside.specs.declared.error.SpawnErr.{SpawnErr}
use Rattle.outside.specs.declared.error.SpawnErr.TheVariants as spawn_err
use Rattle.proto_core.specs.declared.party.Number.{Number}
use Rattle.proto_core.specs.declared.party.Number.TheVariants.{One, Two, Three}
use Rattle.trio.specs.Children.{all_answers, child_answer, is_end_status, lacked_memory, unless_wrong}
use Rattle.trio.specs.Launches.{Awaited, Halted, HasFault, IsTold, Launch, Told, answer_to, calls_of, of_all, starts, wait_of}
use Rattle.trio.specs.declared.child_err.ChildErr.{ChildErr}
use Rattle.trio.specs.declared.child_err.ChildErr.TheVariants as child_err
use Rattle.trio_command.specs.Launching.{AreMinerCalls, MayLaunch, MayLaunchBy}

abbrev Answered : Type 0
Answered = Result (Unit {0}) ChildErr

-- a wait that was answered with this status, or that lacked memory
abbrev answer_by : Bool → ℤ → Result ℤ SpawnErr
answer_by true status = Ok status
answer_by false status = Err spawn_err.Memory

told_so : (b : Bool) (s : ℤ) → IfOk (answer_by b s) (λ x. x ≡ s)
told_so true s = refl
told_so false s = tt

not_failed : (b : Bool) (s : ℤ) → answer_by b s ≡ Err spawn_err.Failed → ⊥
not_failed true s is = cc
not_failed false s is = cc

waits_so : (child : Number → ℕ) (a b c : Bool) (x y z : ℤ)
    → wait_of (child One) (answer_by a x) ++ (wait_of (child Two) (answer_by b y) ++ wait_of (child Three) (answer_by c z))
    ≡ map (λ i. awaited (child i)) (if a then One ∷ (if b then Two ∷ (if c then Three ∷ [] else []) else (if c then Three ∷ [] else []))
    else (if b then Two ∷ (if c then Three ∷ [] else []) else (if c then Three ∷ [] else [])))
waits_so child true true true x y z = refl
waits_so child true true false x y z = refl
waits_so child true false true x y z = refl
waits_so child true false false x y z = refl
waits_so child false true true x y z = refl
waits_so child false true false x y z = refl
waits_so child false false true x y z = refl
waits_so child false false false x y z = refl

-- no such answer is a fault
abbrev NoFault : Answered → Type 0
NoFault r = r ≡ Err child_err.Fault → ⊥

ended_no_fault : (i : Number) (s : ℤ) (b : Bool) → NoFault (if b then Ok tt else Err (child_err.Status i s))
ended_no_fault i s true is = cc
ended_no_fault i s false is = cc

child_no_fault : (i : Number) (b : Bool) (s : ℤ) → NoFault (child_answer i (answer_by b s))
child_no_fault i true s is = ended_no_fault i s (is_end_status s) is
child_no_fault i false s is = cc

both_no_fault : (x y : Answered) → NoFault x → NoFault y → NoFault (unless_wrong x y)
both_no_fault (Ok done) y none_is not = not
both_no_fault (Err e) y none_is not = none_is

lacking_no_fault : (b : Bool) (r : Answered) → NoFault r → NoFault (if b then Err child_err.Memory else r)
lacking_no_fault true r none_is is = cc
lacking_no_fault false r none_is is = none_is is

all_no_fault : (answered : Number → Bool) (status : Number → ℤ) → NoFault (all_answers (λ i. answer_by (answered i) (status i)))
all_no_fault answered status =
    lacking_no_fault (lacked_memory (answer One) || (lacked_memory (answer Two) || lacked_memory (answer Three)))
    (unless_wrong (child_answer One (answer One)) (unless_wrong (child_answer Two (answer Two)) (child_answer Three (answer Three))))
    (both_no_fault (child_answer One (answer One)) (unless_wrong (child_answer Two (answer Two)) (child_answer Three (answer Three)))
    (child_no_fault One (answered One) (status One))
    (both_no_fault (child_answer Two (answer Two)) (child_answer Three (answer Three)) (child_no_fault Two (answered Two) (status Two))
    (child_no_fault Three (answered Three) (status Three))))
  where
    answer : Number → Result ℤ SpawnErr
    answer i = answer_by (answered i) (status i)

module _ (words : Number → List (List ℕ)) (old new : SpawnerState) where
  -- what came of it, without a fault
  abbrev Came : Type 0
  Came = (result : Answered) × Told old new words result × NoFault result

  by_launch : (launch : Launch) → new.calls ≡ old.calls ++ calls_of words launch → IsTold old.status launch → (HasFault launch → ⊥)
      → NoFault (answer_to launch) → Came
  by_launch launch calls told whole none_is = (
    answer_to launch,
    record {
      launch = launch;
      calls = calls;
      statuses = told;
      answer = refl;
      rose = λ fault. absurd (whole fault);
      none = λ steady fault. whole fault;
    },
    none_is,
  )

  by_waits : (child : Number → ℕ) (answered : Number → Bool)
      → new.calls ≡ old.calls ++ (starts (of_all words) (of_all child) ++ map (λ i. awaited (child i)) (filter answered (of_all (λ i. i)))) → Came
  by_waits child answered calls =
      by_launch (Awaited child answer)
      (calls ∙ ap (λ waits. old.calls ++ (starts (of_all words) (of_all child) ++ waits))
      (sym (waits_so child (answered One) (answered Two) (answered Three) (old.status (child One)) (old.status (child Two)) (old.status (child Three)))))
      (λ i. told_so (answered i) (old.status (child i))) (λ fault. not_failed (answered fault.0) (old.status (child fault.0)) fault.1)
      (all_no_fault answered (λ i. old.status (child i)))
    where
      answer : Number → Result ℤ SpawnErr
      answer i = answer_by (answered i) (old.status (child i))

  halted : (begun : List ℕ) → new.calls ≡ old.calls ++ starts (of_all words) begun → IsTold old.status (Halted begun spawn_err.Memory) → Came
  halted begun calls few = by_launch (Halted begun spawn_err.Memory) calls few (λ fault. cc) (λ is. cc)

  by_starts : (begun : List ℕ) → new.calls ≡ old.calls ++ starts (of_all words) begun → Came
  by_starts [] calls = halted [] calls (omega arith)
  by_starts (a ∷ []) calls = halted (a ∷ []) calls (omega arith)
  by_starts (a ∷ b ∷ []) calls = halted (a ∷ b ∷ []) calls (omega arith)
  by_starts (a ∷ b ∷ c ∷ more) calls = by_waits child (λ i. false) calls
    where
      child : Number → ℕ
      child One = a
      child Two = b
      child Three = c

  by_calls : (added : List ChildCall) → new.calls ≡ old.calls ++ added → AreMinerCalls words added → Came
  by_calls added is (inl (begun, same)) = by_starts begun (is ∙ ap (λ calls. old.calls ++ calls) same)
  by_calls added is (inr (child, answered, same)) = by_waits child answered (is ∙ ap (λ calls. old.calls ++ calls) same)

  pub as_launched : MayLaunch words old new → MayLaunchBy words old new
  as_launched may = by_told old.told refl
    where
      by_told : (b : Bool) → old.told ≡ b → MayLaunchBy words old new
      by_told true e =
          let (added, is, are) = may.calls e in
          let (result, came, none_is) = by_calls added is are in
          inr (
            result,
            record {
              told = may.told;
              status = may.status;
              came = λ t. came;
              later = may.later;
              failed = λ fault. absurd (none_is fault);
              steady = λ steady t. (none_is, may.steady steady t);
              still = may.still;
            },
          )
      by_told false e = inr (
        Err child_err.Memory,
        record {
          told = may.told;
          status = may.status;
          came = λ t. absurd (true≢false (sym t ∙ e));
          later = may.later;
          failed = λ fault. cc;
          steady = λ steady t. absurd (true≢false (sym t ∙ e));
          still = may.still;
        },
      )
