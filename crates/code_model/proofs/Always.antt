-- A body that always returns gives a value back wherever it ends.
use Rattle.std.proofs.Common.{◌≡◌, ℕ, zero, suc, ◌+◌, List, Some, None, Ok, Err, Bool, true, false, ◌&&◌, ◌||◌, refl, ap, ◌∙◌}
use Rattle.program_trees.specs.TypedStatements.{TypedStatementTree, TypedStatementTrees, empty_statement, block_statement, if_statement, loop_statement, do_statement}
use Rattle.program_trees.specs.TypedStatements.{break_statement, continue_statement, return_statement, assert_statement, store_statement, default_statement}
use Rattle.program_trees.specs.TypedStatements.{fill_statement, input_statement, element_statement, publish_statement, evaluate_statement}
use Rattle.program_trees.specs.TypedStatements as Statements'
use Rattle.program_trees.specs.TypedTree.{TypedTree}
use Rattle.reached_instances.specs.declared.instance.BoundDomain.{BoundDomain}
use Rattle.reached_instances.specs.Domains.{Setting}
use Rattle.sc_text.specs.declared.end.Ending.{Ending}
use Rattle.sc_text.specs.declared.end.Ending.TheVariants as ending
use Rattle.blind_evaluation.specs.Effects.{World, Stage, Run, Effect, ◌>>=◌, carry, done, end}
use Rattle.blind_evaluation.specs.Values.{Value, size}
use Rattle.blind_evaluation.specs.Operations.{charged, no_traps, tested, wanted, asserted, published, filled, with_element}
use Rattle.blind_evaluation.specs.Evaluation.{Frame, put, Calls, StatementContext, slot_is_private, slot_shape, asked_for, input_named, either, value}
use Rattle.blind_evaluation.specs.Evaluation.{Flow, goes, returns}
use Rattle.blind_evaluation.specs.Evaluation.{stops, skips, then_do, turned, turns, repeats, stored, execute, execute_all}
use Rattle.code_model.specs.Fit.{IsFitStatement, AreFitStatements, always_returns, one_returns}

-- where a statement leads, inside of a loop or not, that always returns or not
abbrev pub Leads : (inside always : Bool) → Flow → Type 0
Leads inside always (goes fr) = always ≡ false
Leads inside always (returns v) = Unit {0}
Leads inside always (stops fr) = inside ≡ true
Leads inside always (skips fr) = inside ≡ true

abbrev pub LeadsAt : (inside always : Bool) → Run Flow → Type 0
LeadsAt inside always (Ok x) = Leads inside always x.0
LeadsAt inside always (Err e) = Unit {0}

pub record Yields (inside always : Bool) (c : Effect Flow) : Type 0 where
  pub from : (s : Stage) → LeadsAt inside always (c s)

yields_done : {inside always : Bool} {g : Flow} → Leads inside always g → Yields inside always (done g)
yields_done h = record { from = λ s. h }

yields_end : {inside always : Bool} (e : Ending) → Yields inside always (end e)
yields_end e = record { from = λ s. tt }

yields_after : {A : Type 0} {inside always : Bool} (c : Effect A) (f : A → Effect Flow) → ((a : A) → Yields inside always (f a)) → Yields inside always
    (c >>= f)
yields_after {A = A} {inside = inside} {always = always} c f k = record { from = λ s. go (c s) }
  where
    go : (r : Run A) → LeadsAt inside always (carry r f)
    go (Ok x) = (k x.0).from x.1
    go (Err e) = tt

yields_then : {inside always always' : Bool} {c : Effect Flow} {f : Flow → Effect Flow} → Yields inside always c
    → ((g : Flow) → Leads inside always g → Yields inside always' (f g)) → Yields inside always' (c >>= f)
yields_then {inside = inside} {always = always} {always' = always'} {c = c} {f = f} h k = record { from = λ s. go (c s) (h.from s) }
  where
    go : (r : Run Flow) → LeadsAt inside always r → LeadsAt inside always' (carry r f)
    go (Ok x) h = (k x.0 h).from x.1
    go (Err e) h = tt

-- all that goes on is a statement that need not return
yields_less : {inside : Bool} (always always' : Bool) {c : Effect Flow} → (always ≡ false → always' ≡ false) → Yields inside always c → Yields inside always' c
yields_less {inside = inside} always always' {c = c} l h = record { from = λ s. go (c s) (h.from s) }
  where
    flow : (g : Flow) → Leads inside always g → Leads inside always' g
    flow (goes fr) h = l h
    flow (returns v) h = tt
    flow (stops fr) h = h
    flow (skips fr) h = h

    go : (r : Run Flow) → LeadsAt inside always r → LeadsAt inside always' r
    go (Ok x) h = flow x.0 h
    go (Err e) h = tt

-- after the body of a loop
yields_loop : {inside : Bool} (g : Flow) (f : Frame → Effect Flow) → ((fr : Frame) → Yields inside false (f fr)) → Yields inside false (turned g f)
yields_loop (goes fr) f h = h fr
yields_loop (skips fr) f h = h fr
yields_loop (stops fr) f h = yields_done refl
yields_loop (returns v) f h = yields_done tt

pub turns_yield : {inside : Bool} (n : ℕ) (condition : Frame → Effect Value) (st b : Frame → Effect Flow) (fr : Frame) → Yields inside false
    (turns n condition st b fr)
unfolding turns
turns_yield zero condition st b fr = yields_end ending.Budget
turns_yield {inside = inside} (suc n) condition st b fr = yields_after (condition fr) (λ v. tested v >>= λ o. turn o)
    (λ v. yields_after (tested v) turn (λ o. go o (λ f. turns_yield n condition st b f)))
  where
    rest : Frame → Effect Flow
    rest = turns n condition st b

    stepping : Frame → Effect Flow
    stepping f = st f >>= λ h. turned h rest

    turn : Bool → Effect Flow
    turn o = either o (b fr >>= λ g. turned g stepping) (done (goes fr))

    go : (o : Bool) → ((f : Frame) → Yields inside false (rest f)) → Yields inside false (turn o)
    go true ih = yields_after (b fr) (λ g. turned g stepping)
        (λ g. yields_loop g stepping (λ f. yields_after (st f) (λ h. turned h rest) (λ h. yields_loop h rest ih)))
    go false ih = yields_done refl

pub repeats_yield : {inside : Bool} (n : ℕ) (condition : Frame → Effect Value) (b : Frame → Effect Flow) (fr : Frame) → Yields inside false
    (repeats n condition b fr)
unfolding repeats
repeats_yield zero condition b fr = yields_end ending.Budget
repeats_yield {inside = inside} (suc n) condition b fr = yields_after (b fr) (λ g. turned g testing)
    (λ g. yields_loop g testing (λ f. yields_after (condition f) (λ v. tested v >>= λ o. turn o f)
    (λ v. yields_after (tested v) (λ o. turn o f) (λ o. go o f (λ f'. repeats_yield n condition b f')))))
  where
    rest : Frame → Effect Flow
    rest = repeats n condition b

    turn : Bool → Frame → Effect Flow
    turn o f = either o (rest f) (done (goes f))

    testing : Frame → Effect Flow
    testing f = condition f >>= λ v. tested v >>= λ o. turn o f

    go : (o : Bool) (f : Frame) → ((f' : Frame) → Yields inside false (rest f')) → Yields inside false (turn o f)
    go true f ih = ih f
    go false f ih = yields_done refl

and_false : (a b : Bool) → a ≡ false → (a && b) ≡ false
and_false false b h = refl
and_false true b h = absurd (clash h)
  where
    clash : true ≡ false → ⊥
    clash h = cc

and_false_right : (a b : Bool) → b ≡ false → (a && b) ≡ false
and_false_right false b h = refl
and_false_right true b h = h

or_false : (a b : Bool) → a ≡ false → b ≡ false → (a || b) ≡ false
or_false a b h k = ap (λ z. z || b) h ∙ k

module _ (Known : ℕ → List BoundDomain → Type 0) (w : World) (calls : Calls) (place : StatementContext) where
  abbrev evaluated : TypedTree → Frame → Effect Value
  evaluated e fr = value w calls place.here e fr

  stored_yields : {inside : Bool} (here : Setting) (k : ℕ) (x : Value) (fr : Frame) → Yields inside false (stored here k x fr)
  stored_yields here k x fr = yields_after (wanted (slot_is_private here k) x) (λ v. charged no_traps (size v) >>= λ u. done (goes (put k v fr)))
      (λ v. yields_after (charged no_traps (size v)) (λ u. done (goes (put k v fr))) (λ u. yields_done refl))

  -- two operands, and a store in a slot
  sets_yield : {inside : Bool} (k : ℕ) (a b : TypedTree) (c : Value → Value → Effect Value) (fr : Frame) → Yields inside false
      (evaluated a fr >>= λ j. evaluated b fr >>= λ x. wanted (slot_is_private place.here k) x >>= λ v. c j v >>= λ z. done (goes (put k z fr)))
  sets_yield k a b c fr =
      yields_after (evaluated a fr) _ (λ j. yields_after (evaluated b fr) _ (λ x. yields_after (wanted (slot_is_private place.here k) x) _
      (λ v. yields_after (c j v) (λ z. done (goes (put k z fr))) (λ z. yields_done refl))))

  -- an expression, something with its value, and on
  goes_on : {inside : Bool} (e : TypedTree) (c : Value → Effect (Unit {0})) (fr : Frame) → Yields inside false
      (evaluated e fr >>= λ v. c v >>= λ u. done (goes fr))
  goes_on e c fr = yields_after (evaluated e fr) (λ v. c v >>= λ u. done (goes fr)) (λ v. yields_after (c v) (λ u. done (goes fr)) (λ u. yields_done refl))

  choice : {inside : Bool} (o : Bool) (a b : TypedStatementTree) (m n : Effect Flow) → Yields inside (always_returns a) m → Yields inside (always_returns b) n
      → Yields inside (always_returns a && always_returns b) (either o m n)
  choice true a b m n h k = yields_less (always_returns a) (always_returns a && always_returns b) (and_false (always_returns a) (always_returns b)) h
  choice false a b m n h k = yields_less (always_returns b) (always_returns a && always_returns b) (and_false_right (always_returns a) (always_returns b)) k

  sequence : {inside : Bool} (a b : Bool) (f : Frame → Effect Flow) → ((fr : Frame) → Yields inside b (f fr)) → (g : Flow) → Leads inside a g → Yields inside
      (a || b) (then_do g f)
  sequence a b f k (goes fr1) h = yields_less b (a || b) (or_false a b h) (k fr1)
  sequence a b f k (returns v) h = yields_done tt
  sequence a b f k (stops fr1) h = yields_done h
  sequence a b f k (skips fr1) h = yields_done h

  mutual
    unfolding execute execute_all

    statement_yields : (i : Bool) (c : TypedStatementTree) → IsFitStatement Known place i c → (fr : Frame)
        → Yields i (always_returns c) (execute w calls place c fr)
    statement_yields i empty_statement fit fr = yields_done refl
    statement_yields i (block_statement cs) fit fr = statements_yield i cs fit fr
    statement_yields i (if_statement e a b) fit fr =
        yields_after (evaluated e fr) (λ v. tested v >>= λ o. either o (execute w calls place a fr) (execute w calls place b fr))
        (λ v. yields_after (tested v) (λ o. either o (execute w calls place a fr) (execute w calls place b fr))
        (λ o. choice o a b (execute w calls place a fr) (execute w calls place b fr) (statement_yields i a fit.1 fr) (statement_yields i b fit.2 fr)))
    statement_yields i (loop_statement e step body) fit fr =
        record {
          from = λ s. (turns_yield {inside = i} (s.left + 1) (value w calls place.here e) (execute w calls place step) (execute w calls place body)
              fr).from s;
        }
    statement_yields i (do_statement body e) fit fr = record
        { from = λ s. (repeats_yield {inside = i} (s.left + 1) (value w calls place.here e) (execute w calls place body) fr).from s }
    statement_yields i break_statement fit fr = yields_done fit
    statement_yields i continue_statement fit fr = yields_done fit
    statement_yields i (return_statement None) fit fr = yields_done tt
    statement_yields i (return_statement (Some e)) fit fr = yields_after (evaluated e fr) (λ x. wanted place.secret_result x >>= λ v. done (returns v))
        (λ x. yields_after (wanted place.secret_result x) (λ v. done (returns v)) (λ v. yields_done tt))
    statement_yields i (assert_statement line e) fit fr = goes_on e (asserted line) fr
    statement_yields i (store_statement k e) fit fr = yields_after (evaluated e fr) (λ x. stored place.here k x fr) (λ x. stored_yields place.here k x fr)
    statement_yields i (default_statement k) fit fr = stored_yields place.here k _ fr
    statement_yields i (fill_statement line k n e) fit fr = sets_yield k n e (filled line) fr
    statement_yields i (input_statement line k text) fit fr =
        yields_after (asked_for (slot_is_private place.here k) (slot_shape place.here k) line (input_named w text)) (λ x. stored place.here k x fr)
        (λ x. stored_yields place.here k x fr)
    statement_yields i (element_statement line k j e) fit fr = sets_yield k j e (with_element line (fr k)) fr
    statement_yields i (publish_statement text e) fit fr = goes_on e (published w text) fr
    statement_yields i (evaluate_statement e) fit fr = yields_after (evaluated e fr) (λ v. done (goes fr)) (λ v. yields_done refl)

    pub statements_yield : (i : Bool) (cs : TypedStatementTrees) → AreFitStatements Known place i cs → (fr : Frame) → Yields i (one_returns cs)
        (execute_all w calls place cs fr)
    statements_yield i Statements'.none fit fr = yields_done refl
    statements_yield i (Statements'.also c cs) fit fr = yields_then (statement_yields i c fit.0 fr)
        (sequence (always_returns c) (one_returns cs) (execute_all w calls place cs) (λ fr1. statements_yield i cs fit.1 fr1))
