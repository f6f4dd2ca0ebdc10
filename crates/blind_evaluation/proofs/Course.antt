-- The whole run takes the same course.
use Rattle.std.proofs.Common.{◌≡◌, ℕ, ◌-◌, List, [], ◌++◌, Ok, Err, Bool, true, false, cond, refl, sym, ap, ◌∙◌, subst}
use Rattle.std.specs.Prelude.{nat_le, slice_get}
use Rattle.sc_text.specs.declared.end.Ending.TheVariants as ending
use Rattle.sc_text.specs.declared.end.TapeOwner.TheVariants.{Dealer}
use Rattle.program_trees.specs.TypedPrograms.{TypedProgramTree}
use Rattle.language_model.specs.Effects.{Stage, Run, Ended}
use Rattle.language_model.specs.Values.{Value}
use Rattle.language_model.specs.Evaluation.{body_of, call_at, deepest}
use Rattle.language_model.specs.Reports.{Report, dealing, beginning, report_of, not_dealt, Offered, eval, blind}
use Rattle.blind_evaluation.specs.Courses.{LikeEvents, TakeSameCourse, IsEnded}
use Rattle.blind_evaluation.proofs.Alike.{SameOutcome, opened_by}
use Rattle.blind_evaluation.proofs.AlikeValues.{LikeValues, no_more}
use Rattle.blind_evaluation.proofs.Rows.{clear, unseen}
use Rattle.blind_evaluation.proofs.Inputs.{same_dealing}
use Rattle.blind_evaluation.proofs.Statements.{body_alike, calls_alike}

module _ (p : TypedProgramTree) (o : Offered) (budget : ℕ) where
  clear_run : Run Value
  clear_run = body_of (clear o) (call_at (clear o) p.functions (deepest - 1)) p.functions (slice_get p.functions 0) [] [] (beginning budget [])

  unseen_run : List ℕ → Run Value
  unseen_run answers = body_of (unseen o) (call_at (unseen o) p.functions (deepest - 1)) p.functions (slice_get p.functions 0) [] [] (beginning budget answers)

  reported_opened : (r : Run Value) → opened_by r ≡ (report_of (clear o) budget r).opened
  reported_opened (Ok x) = refl
  reported_opened (Err x) = refl

  outcome : (more : List ℕ) → SameOutcome LikeValues more clear_run (unseen_run ((report_of (clear o) budget clear_run).opened ++ more))
  unfolding clear_run unseen_run
  outcome more =
      let t = (body_alike o (call_at (clear o) p.functions (deepest - 1)) (call_at (unseen o) p.functions (deepest - 1))
      (calls_alike o p.functions (deepest - 1)) p.functions (slice_get p.functions 0) [] no_more).from (beginning budget []) in
      subst (λ words. SameOutcome LikeValues more clear_run (unseen_run (words ++ more))) (sym t.opened ∙ reported_opened clear_run) (t.same more [] tt)

  same_report : (more : List ℕ) (r q : Run Value) → SameOutcome LikeValues more r q
      → TakeSameCourse (report_of (clear o) budget r) (report_of (unseen o) budget q)
  same_report more (Ok x) (Ok y) b = record {
    stop = refl;
    cost = ap (λ (s : Stage). budget - s.left) (sym b.1.stage);
    dealt = sym (same_dealing o);
    events = subst (λ (s : Stage). LikeEvents x.1.events s.events) (sym b.1.stage) b.1.like;
    drawn = ap (λ (s : Stage). s.drawn) (sym b.1.stage);
    opened = ap (λ (s : Stage). s.opened) (sym b.1.stage);
    gates = ap (λ (s : Stage). s.gates) (sym b.1.stage);
  }
  same_report more (Ok x) (Err y) b = absurd b
  same_report more (Err x) (Ok y) b = absurd b
  same_report more (Err x) (Err y) b = record {
    stop = b.1;
    cost = ap (λ (s : Stage). budget - s.left) (sym b.2.stage);
    dealt = sym (same_dealing o);
    events = subst (λ (s : Stage). LikeEvents x.1.events s.events) (sym b.2.stage) b.2.like;
    drawn = ap (λ (s : Stage). s.drawn) (sym b.2.stage);
    opened = ap (λ (s : Stage). s.opened) (sym b.2.stage);
    gates = ap (λ (s : Stage). s.gates) (sym b.2.stage);
  }

  not_short : (more : List ℕ) (r q : Run Value) → SameOutcome LikeValues more r q → IsEnded (report_of (unseen o) budget q).stop
  not_short more (Ok x) (Ok y) b = tt
  not_short more (Ok x) (Err y) b = absurd b
  not_short more (Err x) (Ok y) b = absurd b
  not_short more (Err x) (Err y) b = subst IsEnded b.1 b.0

  not_dealt_same : TakeSameCourse (not_dealt (clear o)) (not_dealt (unseen o))
  not_dealt_same = record {
    stop = ap (λ n. Ended (ending.Tape Dealer n o.dealer)) (sym (same_dealing o));
    cost = refl;
    dealt = refl;
    drawn =
        refl;
    events = tt;
    opened = refl;
    gates = refl;
  }

  pub same_course : (more : List ℕ) → TakeSameCourse (eval p o budget) (blind p o ((eval p o budget).opened ++ more) budget)
  unfolding clear_run unseen_run
  same_course more =
      subst (λ n. TakeSameCourse (eval p o budget)
      (cond (nat_le n o.dealer) (report_of (unseen o) budget (unseen_run ((eval p o budget).opened ++ more))) (not_dealt (unseen o))))
      (sym (same_dealing o))
      (dealt (nat_le (dealing (clear o)) o.dealer))
    where
      report : Bool → Report
      report b = cond b (report_of (clear o) budget clear_run) (not_dealt (clear o))

      dealt : (b : Bool) → TakeSameCourse (report b) (cond b (report_of (unseen o) budget (unseen_run ((report b).opened ++ more))) (not_dealt (unseen o)))
      dealt true = same_report more clear_run (unseen_run ((report_of (clear o) budget clear_run).opened ++ more)) (outcome more)
      dealt false = not_dealt_same

  pub never_short : (more : List ℕ) → IsEnded (blind p o ((eval p o budget).opened ++ more) budget).stop
  unfolding clear_run unseen_run
  never_short more =
      subst (λ n. IsEnded (cond (nat_le n o.dealer) (report_of (unseen o) budget (unseen_run ((eval p o budget).opened ++ more)))
      (not_dealt (unseen o))).stop) (sym (same_dealing o))
      (dealt (nat_le (dealing (clear o)) o.dealer))
    where
      dealt : (b : Bool) → IsEnded
          (cond b (report_of (unseen o) budget (unseen_run ((cond b (report_of (clear o) budget clear_run) (not_dealt (clear o))).opened ++ more)))
          (not_dealt (unseen o))).stop
      dealt true = not_short more clear_run (unseen_run ((report_of (clear o) budget clear_run).opened ++ more)) (outcome more)
      dealt false = tt
