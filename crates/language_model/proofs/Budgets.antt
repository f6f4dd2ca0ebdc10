-- Whether a budget reaches the cost of a run decides all that the run depends on it.
use Rattle.std.proofs.Common.{◌≡◌, ◌≢◌, ℕ, ◌+◌, ◌-◌, ◌<◌, ◌≤◌, ◌⊎◌, inl, inr, List, Bool, true, false, cond, Ok, Err, refl, sym, ◌∙◌, ap, subst, arith}
use Rattle.std.specs.Prelude.{nat_le}
use Rattle.std.proofs.lemmas.Bool.{cases_lt}
use Rattle.sc_text.specs.declared.end.Ending.TheVariants.{Done, Trap, Budget, Tape}
use Rattle.reached_instances.specs.TypedPrograms.{TypedProgramTree}
use Rattle.language_model.specs.Effects.{World, Stage, RunStop, Ended, Short, Run}
use Rattle.language_model.specs.Values.{Value}
use Rattle.language_model.specs.Reports.{Report, dealing, beginning, reported, report_of, not_dealt, evaluated}
use Rattle.language_model.specs.Beginnings.{Begins, IsBeginning}
use Rattle.language_model.proofs.Walk.{main_of}
use Rattle.language_model.proofs.Onward.{begins_none}
use Rattle.language_model.proofs.Kept.{cost_kept}
use Rattle.language_model.proofs.Steady.{later, is_budget, PastEnd, Past, Exceeds, FollowsEnd, Follows, program_steady}

is_budget_if : (e : RunStop) → is_budget e ≡ true → e ≡ Ended Budget
is_budget_if (Ended Budget) q = refl
is_budget_if (Ended Done) q = cc
is_budget_if (Ended (Trap kind line)) q = cc
is_budget_if (Ended (Tape owner need have)) q = cc
is_budget_if Short q = cc

isnt_budget : (e : RunStop) → e ≢ Ended Budget → is_budget e ≡ false
isnt_budget (Ended Budget) n = absurd (n refl)
isnt_budget (Ended Done) n = refl
isnt_budget (Ended (Trap kind line)) n = refl
isnt_budget (Ended (Tape owner need have)) n = refl
isnt_budget Short n = refl

-- ---- two reports, where the second run has k more of budget

record Beside (budget k : ℕ) (r r' : Report) : Type 0 where
  same : is_budget r.stop ≡ false → r' ≡ r
  dearer : is_budget r.stop ≡ true → is_budget r'.stop ≡ false → budget < r'.cost
  begins : IsBeginning r r'

module _ (w : World) (budget k : ℕ) where
  abbrev report : Run Value → Report
  report r = report_of w budget r

  abbrev report' : Run Value → Report
  report' r = report_of w (budget + k) r

  same_cost : (e : RunStop) (s : Stage) → reported w (budget + k) e (later k s) ≡ reported w budget e s
  same_cost e s =
      let left : budget + k - (s.left + k) ≡ budget - s.left = omega arith in
      ap (λ c. record { stop = e; cost = c; dealt = dealing w; drawn = s.drawn; events = s.events; opened = s.opened; gates = s.gates }) left

  reports_same : (r r' : Run Value) → Follows k r r' → is_budget (report r).stop ≡ false → report' r' ≡ report r
  reports_same (Ok x) r' h n = ap report' h ∙ same_cost (Ended Done) x.1
  reports_same (Err e) r' h n = go (is_budget e.0) refl h
    where
      go : (c : Bool) → is_budget e.0 ≡ c → FollowsEnd c k e r' → report' r' ≡ report (Err e)
      go true q h = cc
      go false q h = ap report' h ∙ same_cost e.0 e.1

  past_dearer : (r : Run Value) → Past k r → is_budget (report' r).stop ≡ false → budget < (report' r).cost
  past_dearer (Ok x) l n = omega arith
  past_dearer (Err e) l n = let past : e.1.left < k = subst (λ c. PastEnd c k e.1) n l in omega arith

  reports_dearer : (r r' : Run Value) → Follows k r r' → is_budget (report r).stop ≡ true → is_budget (report' r').stop ≡ false → budget < (report' r').cost
  reports_dearer (Ok x) r' h q n = cc
  reports_dearer (Err e) r' h q n = let exceeds : Exceeds k e.1 r' = subst (λ c. FollowsEnd c k e r') q h in past_dearer r' exceeds.past n

  -- a report says what the last stage has
  goes_on : (t : Stage) (r : Run Value) (a : Report) → a.events ≡ t.events → a.opened ≡ t.opened → a.gates ≡ t.gates → Exceeds k t r → IsBeginning a (report' r)
  goes_on t (Ok x) a e o g h =
      record {
        events = subst (λ z. Begins z x.1.events) (sym e) h.events;
        opened = subst (λ z. Begins z x.1.opened) (sym o) h.opened;
        gates =
            subst (λ z. Begins z x.1.gates) (sym g) h.gates;
      }
  goes_on t (Err x) a e o g h =
      record {
        events = subst (λ z. Begins z x.1.events) (sym e) h.events;
        opened = subst (λ z. Begins z x.1.opened) (sym o) h.opened;
        gates =
            subst (λ z. Begins z x.1.gates) (sym g) h.gates;
      }

  begins_so : (a b : Report) → b ≡ a → IsBeginning a b
  begins_so a b e = record {
    events = begins_none a.events b.events (ap (λ z. z.events) e);
    opened =
        begins_none a.opened b.opened (ap (λ z. z.opened) e);
    gates = begins_none a.gates b.gates (ap (λ z. z.gates) e);
  }

  reports_begin : (r r' : Run Value) → Follows k r r' → IsBeginning (report r) (report' r')
  reports_begin (Ok x) r' h = begins_so (report (Ok x)) (report' r') (reports_same (Ok x) r' h refl)
  reports_begin (Err e) r' h = go (is_budget e.0) refl h
    where
      go : (c : Bool) → is_budget e.0 ≡ c → FollowsEnd c k e r' → IsBeginning (report (Err e)) (report' r')
      go true q f = goes_on e.1 r' (report (Err e)) refl refl refl f
      go false q f = begins_so (report (Err e)) (report' r') (reports_same (Err e) r' h q)

  beside : (p : TypedProgramTree) (answers : List ℕ) → Beside budget k (evaluated w p budget answers) (evaluated w p (budget + k) answers)
  beside p answers = go (nat_le (dealing w) w.dealer)
    where
      follows : Follows k (main_of w p (beginning budget answers)) (main_of w p (beginning (budget + k) answers))
      follows = (program_steady w (budget + 1) (budget + k + 1) p).from (beginning budget answers) k (omega arith) (omega arith)

      go : (c : Bool) → Beside budget k (cond c (report (main_of w p (beginning budget answers))) (not_dealt w))
          (cond c (report' (main_of w p (beginning (budget + k) answers))) (not_dealt w))
      go true = record {
        same = reports_same (main_of w p (beginning budget answers)) (main_of w p (beginning (budget + k) answers)) follows;
        dearer = reports_dearer (main_of w p (beginning budget answers)) (main_of w p (beginning (budget + k) answers)) follows;
        begins = reports_begin (main_of w p (beginning budget answers)) (main_of w p (beginning (budget + k) answers)) follows;
      }
      go false = record { same = λ n. refl; dearer = λ q n. cc; begins = begins_so (not_dealt w) (not_dealt w) refl }

-- ---- any two budgets

module _ (runs : ℕ → Report) (beside_more : (budget k : ℕ) → Beside budget k (runs budget) (runs (budget + k)))
    (kept : (budget : ℕ) → (runs budget).cost ≤ budget) where
  beside_any : (less more : ℕ) → less ≤ more → Beside less (more - less) (runs less) (runs more)
  beside_any less more l =
      let same : less + (more - less) ≡ more = omega arith in
      subst (λ z. Beside less (more - less) (runs less) (runs z)) same (beside_more less (more - less))

  runs_same : (budget other : ℕ) → is_budget (runs budget).stop ≡ false → (runs budget).cost ≤ other → runs other ≡ runs budget
  runs_same budget other n l = go (cases_lt other budget)
    where
      from_less : Beside other (budget - other) (runs other) (runs budget) → (c : Bool) → is_budget (runs other).stop ≡ c → runs other ≡ runs budget
      from_less h true q = absurd (omega (arith, l, h.dearer q n))
      from_less h false q = sym (h.same q)

      go : (other < budget) ⊎ (budget ≤ other) → runs other ≡ runs budget
      go (inl less) = from_less (beside_any other budget (omega arith)) (is_budget (runs other).stop) refl
      go (inr more) = (beside_any budget other more).same n

  runs_stop : (budget other : ℕ) → is_budget (runs budget).stop ≡ false → other < (runs budget).cost → is_budget (runs other).stop ≡ true
  runs_stop budget other n l = go (beside_any other budget (omega (arith, l, kept budget))) (is_budget (runs other).stop) refl
    where
      go : Beside other (budget - other) (runs other) (runs budget) → (c : Bool) → is_budget (runs other).stop ≡ c → is_budget (runs other).stop ≡ true
      go h true q = q
      go h false q = absurd (omega (arith, l, kept other, ap (λ r. r.cost) (h.same q)))

-- ---- the laws

runs_of : World → TypedProgramTree → List ℕ → ℕ → Report
runs_of w p answers budget = evaluated w p budget answers

beside_of : (w : World) (p : TypedProgramTree) (answers : List ℕ) (budget k : ℕ)
    → Beside budget k (runs_of w p answers budget) (runs_of w p answers (budget + k))
unfolding runs_of
beside_of w p answers budget k = beside w budget k p answers

kept_of : (w : World) (p : TypedProgramTree) (answers : List ℕ) (budget : ℕ) → (runs_of w p answers budget).cost ≤ budget
unfolding runs_of
kept_of w p answers budget = cost_kept w p budget answers

pub budgets_same : (w : World) (p : TypedProgramTree) (budget other : ℕ) (answers : List ℕ) → (evaluated w p budget answers).stop ≢ Ended Budget
    → (evaluated w p budget answers).cost ≤ other → evaluated w p other answers ≡ evaluated w p budget answers
unfolding runs_of
budgets_same w p budget other answers n l =
    runs_same (runs_of w p answers) (beside_of w p answers) (kept_of w p answers) budget other (isnt_budget (evaluated w p budget answers).stop n) l

pub budgets_stop : (w : World) (p : TypedProgramTree) (budget other : ℕ) (answers : List ℕ) → (evaluated w p budget answers).stop ≢ Ended Budget
    → other < (evaluated w p budget answers).cost → (evaluated w p other answers).stop ≡ Ended Budget
unfolding runs_of
budgets_stop w p budget other answers n l =
    is_budget_if (evaluated w p other answers).stop
    (runs_stop (runs_of w p answers) (beside_of w p answers) (kept_of w p answers) budget other (isnt_budget (evaluated w p budget answers).stop n) l)

pub budgets_begin : (w : World) (p : TypedProgramTree) (less more : ℕ) (answers : List ℕ) → less ≤ more
    → IsBeginning (evaluated w p less answers) (evaluated w p more answers)
unfolding runs_of
budgets_begin w p less more answers l = (beside_any (runs_of w p answers) (beside_of w p answers) (kept_of w p answers) less more l).begins
