-- Each run of code whose jumps go forward ends within its fuel.
use Rattle.std.proofs.Common.{◌≡◌, ℕ, zero, suc, ◌+◌, ◌*◌, ◌-◌, ◌<◌, ◌≤◌, List, [], ◌∷◌, length, Option, Some, None, Ok, Err, Bool, true, false, cond, refl}
use Rattle.std.proofs.Common.{sym, ap, ◌∙◌, subst, arith, ◌⊎◌, inl, inr}
use Rattle.std.specs.Prelude.{slice_get, nat_lt, nat_le, map, sum}
use Rattle.std.proofs.lemmas.Bool.{cases_lt, leb-true}
use Rattle.std.proofs.lemmas.Option.{slice_get_past, none-some}
use Rattle.sc_text.specs.declared.end.Ending.TheVariants as ending
use Rattle.sc_text.specs.declared.end.TrapKind.TheVariants as trap
use Rattle.blind_evaluation.specs.Effects.{World, Stage, RunStop, Ended, Run, Effect, ◌>>=◌, carry, done, charge, test}
use Rattle.blind_evaluation.specs.Values.{Value, size}
use Rattle.blind_evaluation.specs.Operations as row
use Rattle.blind_evaluation.specs.Evaluation.{nothing, array_elements, either, asked_for, input_named}
use Rattle.blind_evaluation.proofs.Onward.{onward_charge}
use Rattle.verified_code.specs.Steps.{kind_shape, Step, Literal, Move, Store, Binary, Not, Cast, Classify, Fill, At, Put, Size, Cat, Sum, Bits, Lookup, Declassify}
use Rattle.verified_code.specs.Steps.{Argument, Publish, Assert, Branch, Jump, Call, Return, ReturnNone, Function}
use Rattle.code_model.specs.Machine.{Caller, Machine, at, next, values_at, steps_of, entering, limit, resume, same_truth, step, further, exec, start}
use Rattle.code_model.specs.Meaning.{longest, fuel, stopped_or, IsForward, AreForward}
use Rattle.code_model.proofs.Gives.{GivesAt, Gives, Any, gives_done, gives_any, charge_gives, class_gives, declassified_gives, operated_gives, negated_gives}
use Rattle.code_model.proofs.Gives.{cast_gives, summed_gives, bits_gives, concatenated_gives, element_gives, with_element_gives, filled_gives, size_gives}
use Rattle.code_model.proofs.Gives.{looked_up_gives, asked_gives, published_gives, asserted_gives}
use Rattle.code_model.proofs.Loops.{test_paid}

-- ---- WHAT A BUDGET IS WORTH

abbrev worth : (longest budget : ℕ) → ℕ
worth l zero = 0
worth l (suc n) = worth l n + (l + 1)

worth_is : (l n : ℕ) → worth l n ≡ n * (l + 1)
worth_is l zero = omega arith
worth_is l (suc n) = ap (λ k. k + (l + 1)) (worth_is l n) ∙ omega arith

worth_le : (l a b : ℕ) → a ≤ b → worth l a ≤ worth l b
worth_le l zero b h = omega arith
worth_le l (suc a) zero h = absurd (omega arith)
worth_le l (suc a) (suc b) h = let r = worth_le l a b (omega arith) in omega arith

worth_less : (l a b : ℕ) → a < b → worth l a + (l + 1) ≤ worth l b
worth_less l a zero h = absurd (omega arith)
worth_less l a (suc b) h = let r = worth_le l a b (omega arith) in omega arith

steps_longest : (p : List Function) (g : ℕ) → length (steps_of (slice_get p g)) ≤ longest p
steps_longest [] g = omega arith
steps_longest (f ∷ fs) zero = omega arith
steps_longest (f ∷ fs) (suc g) = let r = steps_longest fs g in omega arith

nothing_forward : IsForward []
nothing_forward pc target e = absurd (none-some _ e)

steps_forward : (p : List Function) → AreForward p → (g : ℕ) → IsForward (steps_of (slice_get p g))
steps_forward p fine g = go (slice_get p g) refl
  where
    go : (o : Option Function) → slice_get p g ≡ o → IsForward (steps_of o)
    go None e = nothing_forward
    go (Some f) e = fine g f e

-- ---- THE POTENTIAL

-- callers go on after their calls
abbrev waiting : ℕ → List Caller → ℕ
waiting l [] = 0
waiting l (c ∷ cs) = (l - c.pc) + waiting l cs

abbrev AreGood : ℕ → List Caller → Type 0
AreGood l [] = Unit {0}
AreGood l (c ∷ cs) = IsForward c.steps × (length c.steps ≤ l) × AreGood l cs

record IsGood (l : ℕ) (m : Machine) : Type 0 where
  forward : IsForward m.steps
  short : length m.steps ≤ l
  callers : AreGood l m.stack

abbrev potential : ℕ → Machine → Stage → ℕ
potential l m s = worth l s.left + (l - m.pc) + waiting l m.stack

here_below : (code : List Step) (pc : ℕ) (i : Step) → slice_get code pc ≡ Some i → pc < length code
here_below code pc i e = go (cases_lt pc (length code))
  where
    go : (pc < length code) ⊎ (length code ≤ pc) → pc < length code
    go (inl h) = h
    go (inr h) = absurd (none-some _ (sym (slice_get_past code pc h) ∙ e))

charge_paid : (s s1 : Stage) (u : Unit {0}) → charge 1 s ≡ Ok (u, s1) → s1.left < s.left
charge_paid s s1 u e = paid (nat_le 1 s.left) refl e
  where
    paid : (c : Bool) → nat_le 1 s.left ≡ c → cond {A = Run (Unit {0})} c (Ok (tt {0}, record s { left = s.left - 1 })) (Err (Ended ending.Budget, s)) ≡ Ok
        (u, s1) → s1.left < s.left
    paid true l e =
        let q : 1 ≤ s.left = leb-true 1 s.left l in
        let z : ◌≡◌ {A = Unit {0} × Stage} (tt {0}, record s { left = s.left - 1 }) (u, s1) = cc in
        let y : s.left - 1 ≡ s1.left = ap (λ r. (r.1).left) z in
        omega arith
    paid false l e = cc

fell : {A : Type 0} {Q : A → Type 0} (c : Effect A) (s : Stage) (a : A) (s' : Stage) → Gives c Q → c s ≡ Ok (a, s') → s'.left ≤ s.left
fell {Q = Q} c s a s' g e = (subst (λ r. GivesAt s r Q) e (g.from s)).0

module _ (w : World) (p : List Function) (fine : AreForward p) where
  abbrev L : ℕ
  L = longest p

  abbrev Stops : ℕ → Run Machine → Type 0
  Stops k r = (x : RunStop × Stage) × (further r (exec w p k) ≡ Some x)

  abbrev Ends : ℕ → Machine → Stage → Type 0
  Ends k m s = (x : RunStop × Stage) × (exec w p k m s ≡ Some x)

  -- one step, and what follows it
  onward : {A : Type 0} (k : ℕ) (r : Run A) (to : A → Machine) → ((a : A) (s : Stage) → r ≡ Ok (a, s) → Ends k (to a) s) → Stops k (carry r (λ a. done (to a)))
  onward k (Ok x) to h = h x.0 x.1 refl
  onward k (Err x) to h = (x, refl)

  after_one : (k : ℕ) (m : Machine) (s : Stage) → IsGood L m → potential L m s < suc k → ((m' : Machine) (s' : Stage) → IsGood L m' → potential L m' s' < k
      → Ends k m' s') → Stops k (step w p (slice_get m.steps m.pc) m s)
  after_one k m s g l ih = go (slice_get m.steps m.pc) refl
    where
      -- to a later step of the same code
      along : {A : Type 0} {Q : A → Type 0} (c : Effect A) (to : A → Machine) → Gives c Q → m.pc < length m.steps → ((a : A) → IsGood L (to a))
          → ((a : A) → m.pc < (to a).pc) → ((a : A) → (to a).stack ≡ m.stack) → Stops k (carry (c s) (λ a. done (to a)))
      along c to gives below good pc stack =
          onward k (c s) to (λ a s1 e.
          let le = worth_le L s1.left s.left (fell c s a s1 gives e) in
          let st : waiting L (to a).stack ≡ waiting L m.stack = ap (waiting L) (stack a) in
          ih (to a) s1 (good a) (omega (arith, l, le, st, below, g.short, pc a)))

      still : (d : ℕ) (v : Value) → IsGood L (next d v m)
      still d v = record { forward = g.forward; short = g.short; callers = g.callers }

      moved : (pc : ℕ) → IsGood L (at pc m)
      moved pc = record { forward = g.forward; short = g.short; callers = g.callers }

      -- a step that sets a register
      sets : {Q : Value → Type 0} (d : ℕ) (c : Effect Value) → Gives c Q → m.pc < length m.steps → Stops k (carry (c s) (λ v. done (next d v m)))
      sets d c gives b = along c (λ v. next d v m) gives b (λ v. still d v) (λ v. omega arith) (λ v. refl)

      back : (cs : List Caller) (v : Value) → AreGood L cs → waiting L cs ≡ waiting L m.stack → m.pc < length m.steps → Stops k (resume cs v s)
      back [] v a e below = (_, refl)
      back (c ∷ cs) v a e below = ih _ s (record { forward = a.0; short = a.1; callers = a.2 }) (omega (arith, l, e, below, g.short))

      calls : (line n : ℕ) (f : ℕ) (d : Option ℕ) (xs : List Value) → m.pc < length m.steps → (t : Bool) → Stops k
          (carry (charge 1 s) (λ u. test t trap.Depth line >>= λ u. charge n >>= λ u. done (entering (slice_get p f) d xs m)))
      calls line n f d xs b t = first (charge 1 s) refl
        where
          to : Machine
          to = entering (slice_get p f) d xs m

          good : IsGood L to
          good = record { forward = steps_forward p fine f; short = steps_longest p f; callers = (g.forward, g.short, g.callers) }

          second : (t : Bool) (s1 : Stage) → s1.left < s.left → Stops k ((test t trap.Depth line >>= λ u. charge n >>= λ u. done to) s1)
          second false s1 q = (_, refl)
          second true s1 q =
              onward k (charge n s1) (λ u. to) (λ a s2 e.
              let le = fell (charge n) s1 a s2 (gives_any w (onward_charge n)) e in
              let less = worth_less L s2.left s.left (omega (arith, le, q)) in
              ih to s2 good (omega (arith, l, less, b, g.short)))

          first : (r : Run (Unit {0})) → charge 1 s ≡ r → Stops k (carry r (λ u. test t trap.Depth line >>= λ u. charge n >>= λ u. done to))
          first (Ok x) e = second t x.1 (charge_paid s x.1 x.0 e)
          first (Err x) e = (x, refl)

      act : (i : Step) → slice_get m.steps m.pc ≡ Some i → m.pc < length m.steps → Stops k (step w p (Some i) m s)
      act (Literal d t n) e b = sets d (done _) (gives_done {Q = Any {A = Value}} tt) b
      act (Move d r) e b = sets d (done (m.registers r)) (gives_done {Q = Any {A = Value}} tt) b
      act (Store d r) e b = along (row.charged row.no_traps (size (m.registers r))) (λ u. next d (m.registers r) m) (charge_gives w (size (m.registers r))) b
          (λ u. still d (m.registers r)) (λ u. omega arith) (λ u. refl)
      act (Binary line op ds d x y) e b = sets d (row.operated w line op ds (m.registers x) (m.registers y))
          (operated_gives w line op ds (m.registers x) (m.registers y)) b
      act (Not d r) e b = sets d (row.negated (m.registers r)) (negated_gives w (m.registers r)) b
      act (Cast c d r) e b = sets d (row.cast_to w c (m.registers r)) (cast_gives w c (m.registers r)) b
      act (Classify d r) e b = sets d (row.classified (m.registers r)) (class_gives w (m.registers r)) b
      act (Fill line d n x) e b = sets d (row.filled line (m.registers n) (m.registers x)) (filled_gives w line (m.registers n) (m.registers x)) b
      act (At line d x i) e b = sets d (row.element_of_array line (m.registers x) (m.registers i)) (element_gives w line (m.registers x) (m.registers i)) b
      act (Put line x i y) e b = sets x (row.with_element line (m.registers x) (m.registers i) (m.registers y))
          (with_element_gives w line (m.registers x) (m.registers i) (m.registers y)) b
      act (Size d r) e b = sets d (row.size_told (m.registers r)) (size_gives w (m.registers r)) b
      act (Cat line d x y) e b = sets d (row.concatenated line (m.registers x) (m.registers y)) (concatenated_gives w line (m.registers x) (m.registers y)) b
      act (Sum d r) e b = sets d (row.summed (m.registers r)) (summed_gives w (m.registers r)) b
      act (Bits line d r) e b = sets d (row.bits_extracted w line (m.registers r)) (bits_gives w line (m.registers r)) b
      act (Lookup line d a i) e b = sets d (row.looked_up w line (m.registers a) (m.registers i)) (looked_up_gives w line (m.registers a) (m.registers i)) b
      act (Declassify d r) e b = sets d (row.declassified w (m.registers r)) (declassified_gives w (m.registers r)) b
      act (Argument line kind text d) e b = sets d (asked_for kind.secret (kind_shape kind) line (input_named w text))
          (asked_gives w kind.secret (kind_shape kind) line (input_named w text)) b
      act (Publish text r) e b = along (row.published w text (m.registers r)) (λ u. at (m.pc + 1) m) (published_gives w text (m.registers r)) b
          (λ u. moved (m.pc + 1)) (λ u. omega arith) (λ u. refl)
      act (Assert line r) e b = along (row.asserted line (m.registers r)) (λ u. at (m.pc + 1) m) (asserted_gives w line (m.registers r)) b
          (λ u. moved (m.pc + 1)) (λ u. omega arith) (λ u. refl)
      act (Branch r v target) e b =
          onward k (row.tested (m.registers r) s) (λ o. at (either (same_truth o v) target (m.pc + 1)) m) (λ o s1 q.
          let less = worth_less L s1.left s.left (test_paid (m.registers r) s o s1 q) in
          ih (at (either (same_truth o v) target (m.pc + 1)) m) s1 (moved _) (omega (arith, l, less, b, g.short)))
      act (Jump target) e b = along (done (tt {0})) (λ u. at target m) (gives_done {Q = Any {A = Unit {0}}} tt) b (λ u. moved target)
          (λ u. g.forward m.pc target e) (λ u. refl)
      act (Call line f d xs) e b = calls line (sum (map array_elements (values_at m.registers xs))) f d (values_at m.registers xs) b
          (nat_lt (length m.stack) limit)
      act (Return r) e b = back m.stack (m.registers r) g.callers refl b
      act ReturnNone e b = back m.stack nothing g.callers refl b

      go : (o : Option Step) → slice_get m.steps m.pc ≡ o → Stops k (step w p o m s)
      go None e = (_, refl)
      go (Some i) e = act i e (here_below m.steps m.pc i e)

  ends : (k : ℕ) (m : Machine) (s : Stage) → IsGood L m → potential L m s < k → Ends k m s
  unfolding exec
  ends zero m s g l = absurd (omega arith)
  ends (suc k) m s g l = after_one k m s g l (λ m' s' g' l'. ends k m' s' g' l')

  pub starts : (s : Stage) → Ends (fuel p s.left) (start p) s
  starts s =
      let paid = worth_is L s.left in
      ends (fuel p s.left) (start p) s (record { forward = steps_forward p fine 0; short = steps_longest p 0; callers = tt }) (omega (arith, paid))

module _ (w : World) (p : List Function) where
  more_fuel : (k j : ℕ) (m : Machine) (s : Stage) (x : RunStop × Stage) → k ≤ j → exec w p k m s ≡ Some x → exec w p j m s ≡ Some x
  unfolding exec
  more_fuel zero j m s x l e = absurd (none-some _ e)
  more_fuel (suc k) zero m s x l e = absurd (omega arith)
  more_fuel (suc k) (suc j) m s x l e = go (step w p (slice_get m.steps m.pc) m s) e (λ m' s' e'. more_fuel k j m' s' x (omega arith) e')
    where
      go : (r : Run Machine) → further r (exec w p k) ≡ Some x → ((m' : Machine) (s' : Stage) → exec w p k m' s' ≡ Some x → exec w p j m' s' ≡ Some x)
          → further r (exec w p j) ≡ Some x
      go (Ok y) e ih = ih y.0 y.1 e
      go (Err y) e ih = e

-- a run stops once: where it stops with any fuel, it stops so with its own
pub one_end : (w : World) (p : List Function) → AreForward p → (s : Stage) (x : RunStop × Stage) → (k : ℕ) × (exec w p k (start p) s ≡ Some x) → stopped_or s
    (exec w p (fuel p s.left) (start p) s) ≡ x
one_end w p fine s x h =
    let f = starts w p fine s in
    ap (stopped_or s) f.1 ∙ same (go f.0 f.1 (cases_lt h.0 (fuel p s.left)))
  where
    same : {y z : RunStop × Stage} → ◌≡◌ {A = Option (RunStop × Stage)} (Some y) (Some z) → y ≡ z
    same e = ap (stopped_or s) e

    go : (y : RunStop × Stage) → exec w p (fuel p s.left) (start p) s ≡ Some y → (h.0 < fuel p s.left) ⊎ (fuel p s.left ≤ h.0)
        → ◌≡◌ {A = Option (RunStop × Stage)}
        (Some y) (Some x)
    go y e (inl l) = sym e ∙ more_fuel w p h.0 (fuel p s.left) (start p) s x (omega arith) h.1
    go y e (inr l) = sym (more_fuel w p (fuel p s.left) h.0 (start p) s y l e) ∙ h.1
