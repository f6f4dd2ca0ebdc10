-- What an accepted program hands over is paid for: it has no more elements than the run has cost.
use Rattle.std.proofs.Common.{◌≡◌, ℕ, zero, suc, ◌+◌, ◌-◌, ◌≤◌, List, [], ◌∷◌, ◌++◌, length, Bool, true, false, if◌then◌else◌, cond, Option, Some, None, Ok, Err}
use Rattle.std.proofs.Common.{refl, sym, ◌∙◌, subst, arith, append-nil}
use Rattle.std.specs.Prelude.{nat_le, slice_get}
use Rattle.std.proofs.lemmas.Bool.{leb-true}
use Rattle.std.proofs.lemmas.List.{length-map}
use Rattle.sc_text.specs.declared.elements.Element.{Element}
use Rattle.sc_text.specs.declared.end.Ending.TheVariants.{Budget}
use Rattle.sc_text.specs.declared.event.Event.{Event}
use Rattle.sc_text.specs.declared.event.Event.TheVariants as event
use Rattle.program_trees.specs.declared.expression.DataType.{DataType}
use Rattle.program_trees.specs.TypedPrograms.{TypedProgramTree}
use Rattle.language_model.specs.Effects.{World, Clear, Stage, RunStop, Ended, Run, Effect, ◌>>=◌, carry, done, charge, emit}
use Rattle.language_model.specs.Operations.{charged, no_traps, handed_over, publication, published}
use Rattle.language_model.specs.Reports.{Offered, Report, beginning, dealing, eval, not_dealt, world_of}
use Rattle.language_model.specs.Values.{Private, Plain, Secrecy, Value, size, element_of, elements_of}
use Rattle.language_model.proofs.Walk as walk
use Rattle.language_model.proofs.Onward.{Went, Onward, is_onward, onward_law, onward_done, stage_of}
use Rattle.verified_code.specs.Steps.{Step, Declassify, Publish, Function}
use Rattle.code_model.specs.Machine.{Machine, step, exec, further, start}
use Rattle.code_model.specs.Meaning.{fuel, mean_in, report_at, stopped_or}
use Rattle.code_model.specs.Programs.{code_of}
use Rattle.lowered_code.proofs.Fits.{accepted_means}
use Rattle.code_runs.proofs.Onwards.{step_onward}
use Rattle.code_runs.proofs.Told.{EndsWith, Opening, TellsNothing, ToldBy, opens, told_at, was_open}
use Rattle.program_run.specs.Accepted.{IsAccepted}
use Rattle.honest_miners.specs.Texts.{ArePaid}

-- ---- EVENTS

paid_more : (k m : ℕ) (events : List Event) → k ≤ m → ArePaid k events → ArePaid m events
paid_more k m [] le h = tt
paid_more k m (event.Open es ∷ events) le h = paid_more k m events le h
paid_more k m (event.Publish name es ∷ events) le h = paid_more k m events le h
paid_more k m (event.Hand name kind es ∷ events) le h = let first = h.0 in (omega (arith, first, le), paid_more k m events le h.1)

paid_then : (k : ℕ) (events more : List Event) → ArePaid k events → ArePaid k more → ArePaid k (events ++ more)
paid_then k [] more h m = m
paid_then k (event.Open es ∷ events) more h m = paid_then k events more h m
paid_then k (event.Publish name es ∷ events) more h m = paid_then k events more h m
paid_then k (event.Hand name kind es ∷ events) more h m = (h.0, paid_then k events more h.1 m)

publication_paid : (k : ℕ) (secrecy : Secrecy) (e : DataType) (name : List ℕ) (es : List Element) → length es ≤ k
    → ArePaid k (publication secrecy e name es ∷ [])
publication_paid k Plain e name es h = tt
publication_paid k (Private j) e name es h = (h, tt)

-- ---- WHAT AN EFFECT COSTS

-- at least so much, where it goes on
abbrev CostsAt : {A : Type 0} → ℕ → Stage → Run A → Type 0
CostsAt n s (Ok x) = n + x.1.left ≤ s.left
CostsAt n s (Err e) = Unit {0}

record Costs {A : Type 0} (n : ℕ) (m : Effect A) : Type 0 where
  from : (s : Stage) → CostsAt n s (m s)

costs_both : {A B : Type 0} (a b : ℕ) {m : Effect A} {f : A → Effect B} → Costs a m → ((x : A) → Costs b (f x)) → Costs (a + b) (m >>= f)
costs_both {A = A} {B = B} a b {m = m} {f = f} h k = record { from = λ s. go s (m s) (h.from s) }
  where
    more : (s u : Stage) (r : Run B) → a + u.left ≤ s.left → CostsAt b u r → CostsAt (a + b) s r
    more s u (Ok y) c d = omega (arith, c, d)
    more s u (Err e) c d = tt

    go : (s : Stage) (r : Run A) → CostsAt a s r → CostsAt (a + b) s (carry r f)
    go s (Ok x) c = more s x.1 (f x.0 x.1) c ((k x.0).from x.1)
    go s (Err e) c = tt

costs_less : {A : Type 0} (n k : ℕ) {m : Effect A} → n ≤ k → Costs k m → Costs n m
costs_less {A = A} n k {m = m} le h = record { from = λ s. go s (m s) (h.from s) }
  where
    go : (s : Stage) (r : Run A) → CostsAt k s r → CostsAt n s r
    go s (Ok x) c = omega (arith, le, c)
    go s (Err e) c = tt

costs_charge : (n : ℕ) → Costs n (charge n)
costs_charge n = record { from = λ s. go s (nat_le n s.left) refl }
  where
    go : (s : Stage) (b : Bool) → nat_le n s.left ≡ b
        → CostsAt {A = Unit {0}} n s (cond b (Ok (tt {0}, record s { left = s.left - n })) (Err (Ended Budget, s)))
    go s true e = let le = leb-true n s.left e in omega (arith, le)
    go s false e = tt

costs_onward : {w : World} {A : Type 0} {m : Effect A} → Onward w m → Costs 0 m
costs_onward {A = A} {m = m} h = record { from = λ s. go s (m s) (h.from s).left }
  where
    go : (s : Stage) (r : Run A) → (stage_of r).left ≤ s.left → CostsAt 0 s r
    go s (Ok x) c = omega (arith, c)
    go s (Err e) c = tt

costs_charged : (n : ℕ) → Costs n (charged no_traps n)
costs_charged n =
    costs_less n (1 + (0 + (n - 1))) (omega arith)
    (costs_both 1 (0 + (n - 1)) (costs_charge 1) (λ _. costs_both 0 (n - 1) (costs_onward (onward_done {w = nowhere} (tt {0}))) (λ _. costs_charge (n - 1))))
  where
    nowhere : World
    nowhere = world_of Clear (record { dealer = 0; lengths = (beginning 0 []).drawn; inputs = [] })

module _ (o : Offered) where
  abbrev w : World
  w = world_of Clear o

  handed_onward : (x : Secrecy) (v : Value) → Onward w (handed_over w x v)
  unfolding is_onward
  handed_onward x v = walk.handed_holds w w (is_onward w) (onward_law w) x v

  told_onward : (x : Secrecy) (e : DataType) (text : List ℕ) (es : List Element) → Onward w (emit (publication x e text es))
  unfolding is_onward
  told_onward x e text es = (onward_law w).on_publish x e text es

  published_costs : (text : List ℕ) (v : Value) → Costs (size v) (published w text v)
  published_costs text v =
      costs_less (size v) (size v + (0 + 0)) (omega arith)
      (costs_both (size v) (0 + 0) (costs_charged (size v)) (λ _. costs_both 0 0 (costs_onward (handed_onward v.secrecy v))
      (λ _. costs_onward (told_onward v.secrecy v.shape.element text (elements_of v)))))

  -- ---- STEPS

  abbrev cost_of : Option Step → Machine → ℕ
  cost_of (Some (Publish text r)) m = size (m.registers r)
  cost_of i m = 0

  module _ (c : List Function) (budget : ℕ) where
    step_costs : (i : Option Step) (m : Machine) → Costs (cost_of i m) (step w c i m)
    step_costs (Some (Publish text r)) m =
        costs_less (size (m.registers r)) (size (m.registers r) + 0) (omega arith)
        (costs_both (size (m.registers r)) 0 (published_costs text (m.registers r)) (λ _. costs_onward (onward_done {w = w} _)))
    step_costs i m = costs_onward (step_onward w c m i)

    -- what was handed over is paid for by what was spent of the budget
    record IsPaid (s : Stage) : Type 0 where
      within : s.left ≤ budget
      paid : ArePaid (budget - s.left) s.events

    -- further events, each paid for by what was spent meanwhile
    paid_so : (s u : Stage) (more : List Event) → IsPaid s → u.left ≤ s.left → u.events ≡ s.events ++ more → ArePaid (budget - u.left) more → IsPaid u
    paid_so s u more h le is new =
        let within = h.within in
        record {
          within = omega (arith, within, le);
          paid =
              subst (ArePaid (budget - u.left)) (sym is)
              (paid_then (budget - u.left) s.events more (paid_more (budget - s.left) (budget - u.left) s.events (omega (arith, within, le)) h.paid) new);
        }

    same_paid : (s u : Stage) → IsPaid s → u.left ≤ s.left → TellsNothing s u → IsPaid u
    same_paid s u h le t = paid_so s u [] h le (t.events ∙ sym (append-nil s.events)) tt

    opening_paid : (v : Value) (s u : Stage) → IsPaid s → u.left ≤ s.left → Opening v s u → IsPaid u
    opening_paid v s u h le (was_open t) = same_paid s u h le t
    opening_paid v s u h le (opens words before ring k is opened events answers gates none) = paid_so s u _ h le events tt

    told_paid : (i : Option Step) (m : Machine) (s u : Stage) → IsPaid s → u.left ≤ s.left → cost_of i m + u.left ≤ s.left → ToldBy i m s u → IsPaid u
    told_paid (Some (Declassify d r)) m s u h le cost t = opening_paid (m.registers r) s u h le t
    told_paid (Some (Publish text r)) m s u h le cost t =
        let v = m.registers r in
        let within = h.within in
        let count = length-map v.words (element_of v.shape.element) in
        paid_so s u _ h le t.events (publication_paid (budget - u.left) v.secrecy v.shape.element text (elements_of v) (omega (arith, cost, within, count)))
    told_paid i m s u h le cost t = same_paid s u h le t

    -- ---- A RUN

    abbrev After : Run Machine → Type 0
    After (Ok x) = IsPaid x.1
    After (Err e) = IsPaid e.1

    after : (i : Option Step) (m : Machine) (s : Stage) → IsPaid s → After (step w c i m s)
    after i m s h = go (step w c i m s) ((step_onward w c m i).from s).left ((step_costs i m).from s) (told_at o c m s i)
      where
        go : (r : Run Machine) → (stage_of r).left ≤ s.left → CostsAt (cost_of i m) s r → EndsWith (ToldBy i m s) s r → After r
        go (Ok x) le cost t = told_paid i m s x.1 h le cost t
        go (Err e) le cost t = same_paid s e.1 h le t

    abbrev Ends : Option (RunStop × Stage) → Type 0
    Ends None = Unit {0}
    Ends (Some x) = IsPaid x.1

    runs : (k : ℕ) (m : Machine) (s : Stage) → IsPaid s → Ends (exec w c k m s)
    unfolding exec
    runs zero m s h = tt
    runs (suc k) m s h = go (step w c (slice_get m.steps m.pc) m s) (after (slice_get m.steps m.pc) m s h) (λ n u now. runs k n u now)
      where
        go : (r : Run Machine) → After r → ((n : Machine) (u : Stage) → IsPaid u → Ends (exec w c k n u)) → Ends (further r (exec w c k))
        go (Ok x) now rest = rest x.0 x.1 now
        go (Err e) now rest = now

    abbrev IsPaidReport : Report → Type 0
    IsPaidReport r = ArePaid r.cost r.events

    code_paid : (answers : List ℕ) → IsPaidReport (mean_in w c budget answers)
    code_paid answers = both (nat_le (dealing w) w.dealer)
      where
        stopped : (x : Option (RunStop × Stage)) → Ends x → IsPaidReport (report_at w budget (stopped_or (beginning budget answers) x))
        stopped None h = tt
        stopped (Some x) h = h.paid

        both : (b : Bool)
            → IsPaidReport (if b then report_at w budget (stopped_or (beginning budget answers)
            (exec w c (fuel c budget) (start c) (beginning budget answers))) else not_dealt w)
        both true =
            stopped (exec w c (fuel c budget) (start c) (beginning budget answers))
            (runs (fuel c budget) (start c) (beginning budget answers) (record { within = omega arith; paid = tt }))
        both false = tt

-- ---- A PROGRAM

-- the evaluation of an accepted program, whatever it is offered
pub events_paid : (p : TypedProgramTree) (o : Offered) (budget : ℕ) → IsAccepted p → ArePaid (eval p o budget).cost (eval p o budget).events
events_paid p o budget a =
    subst (λ (r : Report). ArePaid r.cost r.events)
    (accepted_means a.source a.typed a.written p a.of a.within.list a.within.reached (world_of Clear o) budget [])
    (code_paid o (code_of p a.within.list) budget [])
