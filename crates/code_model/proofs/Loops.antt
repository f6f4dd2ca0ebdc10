-- Loops: each turn is charged, so that the turns that evaluation counts are no bound.
use Rattle.std.proofs.Common.{◌≡◌, ℕ, zero, suc, ◌+◌, ◌-◌, ◌<◌, ◌≤◌, List, length, Some, Ok, Err, Bool, true, false, cond, refl, ap, ◌∙◌, arith}
use Rattle.std.specs.Prelude.{slice_get, nat_le}
use Rattle.std.proofs.lemmas.Bool.{leb-true}
use Rattle.sc_text.specs.declared.end.Ending.TheVariants as ending
use Rattle.program_trees.specs.TypedTree.{TypedTree}
use Rattle.blind_evaluation.specs.Effects.{World, Stage, Ended, Effect, ◌>>=◌, carry, done}
use Rattle.blind_evaluation.specs.Values.{Value, is_true}
use Rattle.blind_evaluation.specs.Operations.{tested}
use Rattle.blind_evaluation.specs.Evaluation.{Frame, Calls, StatementContext, gives_private, either, value, Flow, goes, returns, stops, skips, turned}
use Rattle.blind_evaluation.specs.Evaluation.{turns, repeats}
use Rattle.verified_code.specs.Steps.{Step, Branch, Function}
use Rattle.code_model.specs.Machine.{Caller, Machine, limit, same_truth}
use Rattle.code_model.specs.Expressions.{Numbers, stands_at}
use Rattle.code_model.proofs.Places.{HasAt}
use Rattle.code_model.proofs.Follows.{Follows, follow, comes_none, Runs}
use Rattle.code_model.proofs.Near.{holds_kept, Branched, branch_runs}
use Rattle.code_model.proofs.Standing.{base, Stands, Went, next_step, Evaluated, here_code, Expressed, evaluates}

-- a test costs
pub test_paid : (v : Value) (s : Stage) (o : Bool) (s2 : Stage) → tested v s ≡ Ok (o, s2) → s2.left < s.left
test_paid v s o s2 e = paid (nat_le 1 s.left) refl e
  where
    paid : (c : Bool) → nat_le 1 s.left ≡ c → carry (cond c (Ok (tt {0}, record s { left = s.left - 1 })) (Err (Ended ending.Budget, s)))
        (λ u. done (is_true v)) ≡ Ok (o, s2) → s2.left < s.left
    paid true l e =
        let q : 1 ≤ s.left = leb-true 1 s.left l in
        let z : ◌≡◌ {A = Bool × Stage} (is_true v, record s { left = s.left - 1 }) (o, s2) = cc in
        let y : s.left - 1 ≡ s2.left = ap (λ r. (r.1).left) z in
        omega arith
    paid false l e = cc

module _ (w : World) (p : List Function) (number : Numbers) (calls : Calls) (d : ℕ) (place : StatementContext) (code : List Step) (stack : List Caller)
    (room : length stack + d ≡ limit) where
  abbrev At : ℕ → Frame → Machine → Type 0
  At = Stands w p number calls d place code stack room

  abbrev Leads : (x y to : ℕ) → Flow → Machine → Type 0
  Leads = Went w p number calls d place code stack room

  abbrev test_code : (t pc : ℕ) → TypedTree → List Step
  test_code = here_code w p number calls d place code stack room

  -- the test of a condition, and the branch after it
  tests : (t pt target : ℕ) (e : TypedTree) (fr : Frame) (m : Machine) (s : Stage) (f : Bool → Effect Flow) (Q : Flow → Machine → Type 0) → Expressed w p
      number calls d place code stack room e → base w p number calls d place code stack room ≤ t
      → HasAt code pt (test_code t pt e) → slice_get code (pt + length (test_code t pt e)) ≡ Some (Branch (stands_at place.here e t) true target) → At pt fr m
      → ((o : Bool) (m2 : Machine) (s2 : Stage) → s2.left < s.left → At (either (same_truth o true) target (pt + length (test_code t pt e) + 1)) fr m2
      → Follows w p m2 s2 (f o s2) Q)
      → Follows w p m s ((value w calls place.here e fr >>= λ v. tested v >>= f) s) Q
  tests t pt target e fr m s f Q ev le has brn h k =
      follow w p m s (value w calls place.here e fr s) (λ v. tested v >>= f) (Evaluated w p number calls d place code stack room
      (pt + length (test_code t pt e)) fr (stands_at place.here e t) (gives_private place.here e)) Q
      ((evaluates w p number calls d place code stack room e t pt fr m ev le has h).from s)
      (λ v m1 s1 l1 e1 h1.
      follow w p m1 s1 (tested v s1) f (λ o m'. Branched m1 (either (same_truth o true) target (m1.pc + 1)) m') Q
      ((branch_runs (stands_at place.here e t) true target v m1 h1.value' (next_step w p number calls d place code stack room h1.standing brn)).from s1)
      (λ o m2 s2 l2 e2 h2.
      let paid = test_paid v s1 o s2 e2 in
      k o m2 s2 (omega (arith, paid, l1)) (
        h2.steps ∙ h1.standing.0,
        h2.pc ∙ ap (λ z. either (same_truth o true) target (z + 1)) h1.standing.1,
        h2.stack ∙ h1.standing.2,
        holds_kept
            (base w p number calls d place code stack room) (omega arith) h1.standing.3 (λ i l. h2.registers i),
      )))

  -- a loop, from its test on
  pub turns_run : (x y out over again t pc py pt : ℕ) (e : TypedTree) (st b : Frame → Effect Flow) → Expressed w p number calls d place code stack room e
      → base w p number calls d place code stack room ≤ t
      → HasAt code pt (test_code t pt e) → slice_get code (pt + length (test_code t pt e)) ≡ Some (Branch (stands_at place.here e t) true (pc + 1))
      → ((fr : Frame) (m : Machine) → At (pc + 1) fr m → Runs w p m (b fr) (Leads out over py))
      → ((fr : Frame) (m : Machine) → At py fr m → Runs w p m (st fr) (Leads out again pt))
      → out ≡ pt + length (test_code t pt e) + 1 → over ≡ py → again ≡ pt
      → (k : ℕ) (fr : Frame) (m : Machine) (s : Stage) → s.left < k → At pt fr m → Follows w p m s (turns k (value w calls place.here e) st b fr s)
      (Leads x y (pt + length (test_code t pt e) + 1))
  unfolding turns
  turns_run x y out over again t pc py pt e st b ev le has brn ib ist ex ey ez zero fr m s less h = absurd (omega arith)
  turns_run x y out over again t pc py pt e st b ev le has brn ib ist ex ey ez (suc k) fr m s less h =
      tests t pt (pc + 1) e fr m s _ Q ev le has brn h (λ o m2 s2 l2 h2.
      branch o m2 s2 (omega arith) h2 (λ fr3 m3 s3 less3 h3. turns_run x y out over again t pc py pt e st b ev le has brn ib ist ex ey ez k fr3 m3 s3
      less3 h3))
    where
      Q : Flow → Machine → Type 0
      Q = Leads x y (pt + length (test_code t pt e) + 1)

      rest : Frame → Effect Flow
      rest = turns k (value w calls place.here e) st b

      Again : Type 0
      Again = (fr3 : Frame) (m3 : Machine) (s3 : Stage) → s3.left < k → At pt fr3 m3 → Follows w p m3 s3 (rest fr3 s3) Q

      behind_step : (g : Flow) (m3 : Machine) (s3 : Stage) → s3.left < k → Leads out again pt g m3 → Again → Follows w p m3 s3 (turned g rest s3) Q
      behind_step (goes fr3) m3 s3 l h ih = ih fr3 m3 s3 l h
      behind_step (skips fr3) m3 s3 l h ih = ih fr3 m3 s3 l (h.0, h.1 ∙ ez, h.2, h.3)
      behind_step (stops fr3) m3 s3 l h ih = (m3, omega arith, comes_none w p m3 s3, (h.0, h.1 ∙ ex, h.2, h.3))
      behind_step (returns v) m3 s3 l h ih = (m3, omega arith, comes_none w p m3 s3, h)

      stepping : (fr3 : Frame) (m3 : Machine) (s3 : Stage) → s3.left < k → At py fr3 m3 → Again → Follows w p m3 s3 ((st fr3 >>= λ h. turned h rest) s3) Q
      stepping fr3 m3 s3 l h ih = follow w p m3 s3 (st fr3 s3) (λ h. turned h rest) (Leads out again pt) Q ((ist fr3 m3 h).from s3)
          (λ g m4 s4 l4 e4 h4. behind_step g m4 s4 (omega arith) h4 ih)

      behind_body : (g : Flow) (m3 : Machine) (s3 : Stage) → s3.left < k → Leads out over py g m3 → Again → Follows w p m3 s3
          (turned g (λ f. st f >>= λ h. turned h rest) s3) Q
      behind_body (goes fr3) m3 s3 l h ih = stepping fr3 m3 s3 l h ih
      behind_body (skips fr3) m3 s3 l h ih = stepping fr3 m3 s3 l (h.0, h.1 ∙ ey, h.2, h.3) ih
      behind_body (stops fr3) m3 s3 l h ih = (m3, omega arith, comes_none w p m3 s3, (h.0, h.1 ∙ ex, h.2, h.3))
      behind_body (returns v) m3 s3 l h ih = (m3, omega arith, comes_none w p m3 s3, h)

      branch : (o : Bool) (m2 : Machine) (s2 : Stage) → s2.left < k → At (either (same_truth o true) (pc + 1) (pt + length (test_code t pt e) + 1)) fr m2
          → Again → Follows w p m2 s2 (either o (b fr >>= λ g. turned g (λ f. st f >>= λ h. turned h rest)) (done (goes fr)) s2) Q
      branch false m2 s2 l h ih = (m2, omega arith, comes_none w p m2 s2, h)
      branch true m2 s2 l h ih = follow w p m2 s2 (b fr s2) _ (Leads out over py) Q ((ib fr m2 h).from s2)
          (λ g m3 s3 l3 e3 h3. behind_body g m3 s3 (omega arith)
          h3 ih)

  -- a loop whose body comes first
  pub repeats_run : (x y out again t pc pt : ℕ) (e : TypedTree) (b : Frame → Effect Flow) → Expressed w p number calls d place code stack room e →
      base w p
      number
      calls d place code stack room ≤ t
      → HasAt code pt (test_code t pt e) → slice_get code (pt + length (test_code t pt e)) ≡ Some (Branch (stands_at place.here e t) true pc)
      → ((fr : Frame) (m : Machine) → At pc fr m → Runs w p m (b fr) (Leads out again pt))
      → out ≡ pt + length (test_code t pt e) + 1 → again ≡ pt
      → (k : ℕ) (fr : Frame) (m : Machine) (s : Stage) → s.left < k → At pc fr m → Follows w p m s (repeats k (value w calls place.here e) b fr s)
      (Leads x y (pt + length (test_code t pt e) + 1))
  unfolding repeats
  repeats_run x y out again t pc pt e b ev le has brn ib ex ez zero fr m s less h = absurd (omega arith)
  repeats_run x y out again t pc pt e b ev le has brn ib ex ez (suc k) fr m s less h =
      follow w p m s (b fr s) _ (Leads out again pt) Q ((ib fr m h).from s) (λ g m3 s3 l3 e3 h3.
      behind_body g m3 s3 (omega arith) h3 (λ fr4 m4 s4 less4 h4. repeats_run x y out again t pc pt e b ev le has brn ib ex ez k fr4 m4 s4 less4 h4))
    where
      Q : Flow → Machine → Type 0
      Q = Leads x y (pt + length (test_code t pt e) + 1)

      rest : Frame → Effect Flow
      rest = repeats k (value w calls place.here e) b

      Again : Type 0
      Again = (fr3 : Frame) (m3 : Machine) (s3 : Stage) → s3.left < k → At pc fr3 m3 → Follows w p m3 s3 (rest fr3 s3) Q

      branch : (o : Bool) (fr3 : Frame) (m2 : Machine) (s2 : Stage) → s2.left < k → At (either (same_truth o true) pc (pt + length (test_code t pt e) + 1))
          fr3 m2 → Again → Follows w p m2 s2 (either o (rest fr3) (done (goes fr3)) s2) Q
      branch false fr3 m2 s2 l h ih = (m2, omega arith, comes_none w p m2 s2, h)
      branch true fr3 m2 s2 l h ih = ih fr3 m2 s2 l h

      testing : (fr3 : Frame) (m3 : Machine) (s3 : Stage) → s3.left < suc k → At pt fr3 m3 → Again → Follows w p m3 s3
          ((value w calls place.here e fr3 >>= λ v. tested v >>= λ o. either o (rest fr3) (done (goes fr3))) s3) Q
      testing fr3 m3 s3 l h ih = tests t pt pc e fr3 m3 s3 (λ o. either o (rest fr3) (done (goes fr3))) Q ev le has brn h
          (λ o m2 s2 l2 h2. branch o fr3 m2 s2 (omega arith) h2 ih)

      behind_body : (g : Flow) (m3 : Machine) (s3 : Stage) → s3.left < suc k → Leads out again pt g m3 → Again → Follows w p m3 s3
          (turned g (λ f. value w calls place.here e f >>= λ v. tested v >>= λ o. either o (rest f) (done (goes f))) s3) Q
      behind_body (goes fr3) m3 s3 l h ih = testing fr3 m3 s3 l h ih
      behind_body (skips fr3) m3 s3 l h ih = testing fr3 m3 s3 l (h.0, h.1 ∙ ez, h.2, h.3) ih
      behind_body (stops fr3) m3 s3 l h ih = (m3, omega arith, comes_none w p m3 s3, (h.0, h.1 ∙ ex, h.2, h.3))
      behind_body (returns v) m3 s3 l h ih = (m3, omega arith, comes_none w p m3 s3, h)
