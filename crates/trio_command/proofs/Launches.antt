-- Children that were started and waited for.
use Rattle.std.proofs.Common.{◌≡◌, ◌<◌, ◌++◌, ◌⊎◌, ℕ, ℤ, List, [], ◌∷◌, Bool, true, false, Result, Ok, Err, if◌then◌else◌, length, arith, refl, ap, subst, sym}
use Rattle.std.proofs.Common.{◌∙◌}
use Rattle.std.proofs.Common.{inl, inr}
use Rattle.std.proofs.lemmas.Bool.{false≢true}
use Rattle.std.proofs.lemmas.List.{append_cancel_left, append-nil}
use Rattle.std.specs.List.{filter}
use Rattle.std.specs.Prelude.{◌||◌, map}
use Rattle.outside.specs.Causes.{Rose}
use Rattle.outside.specs.Spawner.{ChildCall, SpawnerState, awaited, started}
use Rattle.outside.specs.declared.error.SpawnErr.{SpawnErr}
use Rattle.outside.specs.declared.error.SpawnErr.TheVariants as spawn_err
use Rattle.proto_core.specs.declared.party.Number.{Number}
use Rattle.proto_core.specs.declared.party.Number.TheVariants.{One, Two, Three}
use Rattle.trio.specs.Children.{all_answers, child_answer, fault_in, lacked_memory, unless_wrong}
use Rattle.trio.specs.Launches.{Awaited, Halted, HasFault, IsTold, Launch, Launched, answer_to, calls_of, of_all, starts, wait_of}
use Rattle.trio.specs.declared.child_err.ChildErr.TheVariants as child_err
use Rattle.trio_command.specs.Launching.{AreRun, AreStarted, AreMinerCalls, AreStatuses, MayLaunch, MayLaunchBy}
use Rattle.trio_command.specs.inner.Runs.{IsJudged}
use Rattle.trio_command.proofs.Ended.{Judged}

-- ---- where all ended as runs do, each was waited for

abbrev HasStatus : Result ℤ SpawnErr → Type 0
HasStatus a = (status : ℤ) × (a ≡ Ok status)

both_done : (a b : Judged) → unless_wrong a b ≡ Ok tt → (a ≡ Ok tt) × (b ≡ Ok tt)
both_done (Ok done) b is = (refl, is)
both_done (Err err) b is = absurd cc

no_memory : (b : Bool) (a : Judged) → (if b then Err child_err.Memory else a) ≡ Ok tt → a ≡ Ok tt
no_memory true a is = absurd cc
no_memory false a is = is

told : (i : Number) (a : Result ℤ SpawnErr) → child_answer i a ≡ Ok tt → HasStatus a
told i (Ok status) is = (status, refl)
told i (Err err) is = absurd cc

all_told : (answer : Number → Result ℤ SpawnErr) → all_answers answer ≡ Ok tt → (i : Number) → HasStatus (answer i)
all_told answer is i = go i
  where
    rest : unless_wrong (child_answer One (answer One)) (unless_wrong (child_answer Two (answer Two)) (child_answer Three (answer Three))) ≡ Ok tt
    rest =
        no_memory (lacked_memory (answer One) || (lacked_memory (answer Two) || lacked_memory (answer Three)))
        (unless_wrong (child_answer One (answer One)) (unless_wrong (child_answer Two (answer Two)) (child_answer Three (answer Three)))) is

    first : (child_answer One (answer One) ≡ Ok tt) × (unless_wrong (child_answer Two (answer Two)) (child_answer Three (answer Three)) ≡ Ok tt)
    first = both_done (child_answer One (answer One)) (unless_wrong (child_answer Two (answer Two)) (child_answer Three (answer Three))) rest

    later : (child_answer Two (answer Two) ≡ Ok tt) × (child_answer Three (answer Three) ≡ Ok tt)
    later = both_done (child_answer Two (answer Two)) (child_answer Three (answer Three)) first.1

    go : (i : Number) → HasStatus (answer i)
    go One = told One (answer One) first.0
    go Two = told Two (answer Two) later.0
    go Three = told Three (answer Three) later.1

waited : (child : ℕ) (a : Result ℤ SpawnErr) → HasStatus a → wait_of child a ≡ awaited child ∷ []
waited child a (status, is) = rw is refl

abbrev three_waits : (a b c : List ChildCall) → List ChildCall
three_waits a b c = a ++ (b ++ c)

module _ (words : Number → List (List ℕ)) (old new : SpawnerState) where
  by_launch : (launch : Launch) → new.calls ≡ old.calls ++ calls_of words launch → Ok tt ≡ answer_to launch → AreRun words old new
  by_launch (Halted begun err) calls is = absurd cc
  by_launch (Awaited child answer) calls is =
      let has : (i : Number) → HasStatus (answer i) = all_told answer (sym is) in
      let one : wait_of (child One) (answer One) ≡ awaited (child One) ∷ [] = waited (child One) (answer One) (has One) in
      let two : wait_of (child Two) (answer Two) ≡ awaited (child Two) ∷ [] = waited (child Two) (answer Two) (has Two) in
      let three : wait_of (child Three) (answer Three) ≡ awaited (child Three) ∷ [] = waited (child Three) (answer Three) (has Three) in
      record {
        child = child;
        calls = calls ∙ waits child (wait_of (child One) (answer One)) (wait_of (child Two) (answer Two)) (wait_of (child Three) (answer Three)) one two three;
      }
    where
      waits : (child : Number → ℕ) (a b c : List ChildCall) → a ≡ awaited (child One) ∷ [] → b ≡ awaited (child Two) ∷ [] → c ≡ awaited (child Three) ∷ []
          → old.calls ++ (starts (of_all words) (of_all child) ++ three_waits a b c)
          ≡ old.calls ++ (starts (of_all words) (of_all child) ++ of_all (λ i. awaited (child i)))
      waits child a b c x y z = rw (x, y, z) refl

  pub all_run : Launched old new words (Ok tt) → old.told ≡ true → AreRun words old new
  all_run launched t =
      let came = launched.came t in
      by_launch came.launch came.calls came.answer

-- ---- where they were judged, all were started

-- without memory to wait for one of them they were not judged
not_judged : (b : Bool) (judged : Judged) → b ≡ true → IsJudged (if b then Err child_err.Memory else judged) → ⊥
not_judged true judged is h = h
not_judged false judged is h = false≢true is

not_halted : (err : SpawnErr) → IsJudged (Err (fault_in err)) → ⊥
not_halted spawn_err.Failed h = h
not_halted spawn_err.Memory h = h

module _ (words : Number → List (List ℕ)) (old new : SpawnerState) where
  module _ (child : Number → ℕ) (answer : Number → Result ℤ SpawnErr) (judged : IsJudged (all_answers answer))
      (rose : HasFault (Awaited child answer) → Rose old.faults new.faults) where
    abbrev all_waits : List ChildCall
    all_waits = three_waits (wait_of (child One) (answer One)) (wait_of (child Two) (answer Two)) (wait_of (child Three) (answer Three))

    abbrev lacked : Bool
    lacked = lacked_memory (answer One) || (lacked_memory (answer Two) || lacked_memory (answer Three))

    short : {X : Type 0} → lacked ≡ true → X
    short is =
        absurd
        (not_judged lacked (unless_wrong (child_answer One (answer One)) (unless_wrong (child_answer Two (answer Two)) (child_answer Three (answer Three))))
        is judged)

    -- each was waited for, or a wait failed
    all_waited : (all_waits ≡ of_all (λ i. awaited (child i))) ⊎ Rose old.faults new.faults
    all_waited = by_answers (answer One) refl (answer Two) refl (answer Three) refl
      where
        by_answers : (a : Result ℤ SpawnErr) → answer One ≡ a → (b : Result ℤ SpawnErr) → answer Two ≡ b → (c : Result ℤ SpawnErr) → answer Three ≡ c
            → (all_waits ≡ of_all (λ i. awaited (child i))) ⊎ Rose old.faults new.faults
        by_answers (Err spawn_err.Memory) e1 b e2 c e3 = short (rw e1 refl)
        by_answers (Err spawn_err.Failed) e1 b e2 c e3 = inr (rose (One, e1))
        by_answers (Ok x) e1 (Err spawn_err.Memory) e2 c e3 = short (rw (e1, e2) refl)
        by_answers (Ok x) e1 (Err spawn_err.Failed) e2 c e3 = inr (rose (Two, e2))
        by_answers (Ok x) e1 (Ok y) e2 (Err spawn_err.Memory) e3 = short (rw (e1, e2, e3) refl)
        by_answers (Ok x) e1 (Ok y) e2 (Err spawn_err.Failed) e3 = inr (rose (Three, e3))
        by_answers (Ok x) e1 (Ok y) e2 (Ok z) e3 = inl (rw (e1, e2, e3) refl)

  judged_launch : (launch : Launch) → new.calls ≡ old.calls ++ calls_of words launch → IsJudged (answer_to launch)
      → (HasFault launch → Rose old.faults new.faults) → AreStarted words old new
  judged_launch (Halted begun err) calls judged rose = absurd (not_halted err judged)
  judged_launch (Awaited child answer) calls judged rose =
      record { child = child; waits = all_waits child answer judged rose; calls = calls; waited = all_waited child answer judged rose }

  pub all_started : (part : Judged) → Launched old new words part → IsJudged part → old.told ≡ true → AreStarted words old new
  all_started part launched judged t =
      let came = launched.came t in
      judged_launch came.launch came.calls (subst IsJudged came.answer judged) came.rose

-- ---- there are statuses

abbrev Calls : Type 0
Calls = List ChildCall

abbrev number_of : ChildCall → ℕ
number_of (started words child) = child
number_of (awaited child) = child

abbrev head_number : Calls → ℕ
head_number [] = 0
head_number (call ∷ calls) = number_of call

abbrev tail : Calls → Calls
tail [] = []
tail (call ∷ calls) = calls

abbrev IsShort : Launch → Type 0
IsShort (Halted begun err) = length begun < 3
IsShort (Awaited child answer) = Unit {0}

short_of : (status : ℕ → ℤ) (launch : Launch) → IsTold status launch → IsShort launch
short_of status (Halted begun err) is = is
short_of status (Awaited child answer) is = tt

module _ (words : Number → List (List ℕ)) where
  abbrev three : (child : Number → ℕ) → Calls → Calls
  three child more = starts (of_all words) (of_all child) ++ more

  -- the children that were started are these
  same_child : (child other : Number → ℕ) (more later : Calls) → three child more ≡ three other later → (i : Number) → child i ≡ other i
  same_child child other more later is One = ap head_number is
  same_child child other more later is Two = ap (λ cs. head_number (tail cs)) is
  same_child child other more later is Three = ap (λ cs. head_number (tail (tail cs))) is

  -- fewer were
  too_few : (begun : List ℕ) (other : Number → ℕ) (later : Calls) → length begun < 3 → starts (of_all words) begun ≡ three other later → ⊥
  too_few [] other later few is = absurd cc
  too_few (a ∷ []) other later few is = absurd (let rest : [] ≡ tail (three other later) = ap tail is in cc)
  too_few (a ∷ b ∷ []) other later few is = absurd (let rest : [] ≡ tail (tail (three other later)) = ap (λ cs. tail (tail cs)) is in cc)
  too_few (a ∷ b ∷ c ∷ begun) other later few is = omega (arith, few)

  module _ (old new : SpawnerState) where
    abbrev Statuses : Type 0
    Statuses = (status : Number → ℤ) × AreStatuses words old new status

    abbrev any : Number → ℤ
    any i = old.status 0

    none_started : new.calls ≡ old.calls → AreStatuses words old new any
    none_started same child more is i =
        absurd (let wrong : [] ≡ three child more =
        append_cancel_left old.calls [] (three child more) (append-nil old.calls ∙ sym same ∙ is) in cc)

    by_launched : (launch : Launch) → new.calls ≡ old.calls ++ calls_of words launch → IsShort launch → Statuses
    by_launched (Halted begun err) calls few = (
      any,
      λ child more is i. absurd (too_few begun child more few
          (append_cancel_left old.calls (starts (of_all words) begun) (three child more) (sym calls ∙ is))),
    )
    by_launched (Awaited child answer) calls few = (λ i. old.status (child i), found)
      where
        found : AreStatuses words old new (λ i. old.status (child i))
        found other more is i =
            ap old.status (same_child child other
            (wait_of (child One) (answer One) ++ (wait_of (child Two) (answer Two) ++ wait_of (child Three) (answer Three))) more
            (append_cancel_left old.calls (calls_of words (Awaited child answer)) (three other more) (sym calls ∙ is)) i)

    -- whatever was started, there are statuses of it
    pub statuses_of : MayLaunchBy words old new → old.told ≡ true → Statuses
    statuses_of (inl same) t = (any, none_started (ap (λ (s : SpawnerState). s.calls) same))
    statuses_of (inr (result, launched)) t =
        let came = launched.came t in
        by_launched came.launch came.calls (short_of old.status came.launch came.statuses)

-- ---- which calls there are, without what was answered

abbrev was_answered : Result ℤ SpawnErr → Bool
was_answered (Ok status) = true
was_answered (Err err) = false

abbrev by_number : (a b c : Bool) → Number → Bool
by_number a b c One = a
by_number a b c Two = b
by_number a b c Three = c

answered_waits : (child : Number → ℕ) (a b c : Result ℤ SpawnErr)
    → three_waits (wait_of (child One) a) (wait_of (child Two) b) (wait_of (child Three) c)
    ≡ map (λ i. awaited (child i)) (filter (by_number (was_answered a) (was_answered b) (was_answered c)) (of_all (λ i. i)))
answered_waits child (Ok x) (Ok y) (Ok z) = refl
answered_waits child (Ok x) (Ok y) (Err err) = refl
answered_waits child (Ok x) (Err err) (Ok z) = refl
answered_waits child (Ok x) (Err err) (Err other) = refl
answered_waits child (Err err) (Ok y) (Ok z) = refl
answered_waits child (Err err) (Ok y) (Err other) = refl
answered_waits child (Err err) (Err other) (Ok z) = refl
answered_waits child (Err err) (Err other) (Err third) = refl

miner_calls : (words : Number → List (List ℕ)) (launch : Launch) → AreMinerCalls words (calls_of words launch)
miner_calls words (Halted begun err) = inl (begun, refl)
miner_calls words (Awaited child answer) = inr (
  child,
  by_number (was_answered (answer One)) (was_answered (answer Two)) (was_answered (answer Three)),
  ap (λ waits. starts (of_all words) (of_all child) ++ waits) (answered_waits child (answer One) (answer Two) (answer Three)),
)

pub may_launch : {words : Number → List (List ℕ)} {old new : SpawnerState} → MayLaunchBy words old new → MayLaunch words old new
may_launch {old = old} (inl same) = record {
  told = ap (λ (s : SpawnerState). s.told) same;
  status = ap (λ (s : SpawnerState). s.status) same;
  calls = λ t. ([], ap (λ (s : SpawnerState). s.calls) same ∙ sym (append-nil old.calls), inl ([], refl));
  later = omega (arith, ap (λ (s : SpawnerState). s.faults) same);
  steady = λ steady t. ap (λ (s : SpawnerState). s.faults) same;
  still = λ steady. ap (λ (s : SpawnerState). s.steady) same ∙ steady;
}
may_launch {words = words} (inr (result, launched)) = record {
  told = launched.told;
  status = launched.status;
  calls = λ t. let came = launched.came t in (calls_of words came.launch, came.calls, miner_calls words came.launch);
  later = launched.later;
  steady = λ steady t. (launched.steady steady t).1;
  still = launched.still;
}
