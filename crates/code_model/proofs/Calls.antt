-- A call of an instance does what evaluation's call does.
use Rattle.std.proofs.Common.{◌≡◌, ℕ, zero, suc, ◌+◌, ◌*◌, List, [], ◌∷◌, ◌++◌, length, Some, None, Ok, Err, Bool, true, false, refl, sym, ap}
use Rattle.std.proofs.Common.{◌∙◌, subst, arith}
use Rattle.std.specs.Prelude.{slice_get, nat_lt, map, sum}
use Rattle.std.proofs.lemmas.Bool.{lt-ltb, le-ltb}
use Rattle.sc_text.specs.declared.end.Ending.TheVariants as ending
use Rattle.sc_text.specs.declared.end.TrapKind.TheVariants as trap
use Rattle.program_trees.specs.declared.typed_function.Returned.{Returned}
use Rattle.program_trees.specs.declared.typed_function.Returned.TheVariants as given
use Rattle.program_trees.specs.TypedPrograms.{TypedFunctionTree}
use Rattle.reached_instances.specs.declared.instance.BoundDomain.{BoundDomain}
use Rattle.reached_instances.specs.Domains.{given_domain}
use Rattle.blind_evaluation.specs.Effects.{World, Stage, Run, Effect, ◌>>=◌, carry, done, end, charge, test}
use Rattle.blind_evaluation.specs.Values.{Value}
use Rattle.blind_evaluation.specs.Evaluation.{Calls, StatementContext, is_private, nothing, slots_of, array_elements, Flow, goes, returns, stops, skips}
use Rattle.blind_evaluation.specs.Evaluation.{execute_all, entered, result_of, place_in, body_of, call_at}
use Rattle.blind_evaluation.proofs.Onward.{onward_charge}
use Rattle.verified_code.specs.Steps.{Step, Function}
use Rattle.code_model.specs.Machine.{Caller, Machine, step, received, caller_of, entering, limit, resume, values_at}
use Rattle.code_model.specs.Expressions.{Numbers}
use Rattle.code_model.specs.Statements.{first_free, statements_depth, statements_code}
use Rattle.code_model.specs.Programs.{last_step, body_end, function_code}
use Rattle.code_model.specs.Fit.{gives_value, IsFitFunction, one_returns}
use Rattle.code_model.proofs.Places.{HasAt, has_front, has_back, has_all}
use Rattle.code_model.proofs.Gives.{GivesAt, Gives, Any, IsSecret, gives_bind, gives_any}
use Rattle.code_model.proofs.Follows.{Follows, follow, Runs, runs_bind, runs_done, runs_more, moves, silent}
use Rattle.code_model.proofs.Expressions.{result_secret, ArgumentsFit, Next, CallsRun}
use Rattle.code_model.proofs.Lengths.{statements_length}
use Rattle.code_model.proofs.Standing.{Went, next_step}
use Rattle.code_model.proofs.Statements.{statements_run}
use Rattle.code_model.proofs.Always as always
use Rattle.code_model.proofs.Entered.{begins_holding}

assoc : {A B C : Type 0} (r : Run A) (f : A → Effect B) (g : B → Effect C) → carry (carry r f) g ≡ carry r (λ a. f a >>= g)
assoc (Ok x) f g = refl
assoc (Err x) f g = refl

module _ (w : World) (p : List Function) (number : Numbers) (fs : List TypedFunctionTree) (Known : ℕ → List BoundDomain → Type 0) where
  -- an instance of the program, with its code
  pub record IsKnown (k : ℕ) (b : List BoundDomain) : Type 0 where
    pub called : TypedFunctionTree
    pub there : slice_get fs k ≡ Some called
    pub code : slice_get p (number k b) ≡ Some (function_code number fs called b)
    pub fit : IsFitFunction Known fs called b

  module _ (all : (k : ℕ) (b : List BoundDomain) → Known k b → IsKnown k b) where
    -- the machine stands at a step that returns this
    abbrev pub Returns : List Caller → Bool → Value → Machine → Type 0
    Returns stack secret v m = (m.stack ≡ stack) × ((s : Stage) → step w p (slice_get m.steps m.pc) m s ≡ resume m.stack v s) × IsSecret secret v

    pub body_runs : (calls : Calls) (d : ℕ) (ok : CallsRun w p number fs Known d calls) (k : ℕ) (b : List BoundDomain) (kn : IsKnown k b) (xs : List Value)
        (stack : List Caller) (m : Machine) → ArgumentsFit b kn.called.slots xs → length stack + d ≡ limit
        → m.steps ≡ (function_code number fs kn.called b).steps → m.pc ≡ 0 → m.stack ≡ stack
        → ((i : ℕ) → m.registers i ≡ (entering (Some (function_code number fs kn.called b)) None xs m).registers i)
        → Runs w p m (body_of w calls fs (Some kn.called) b xs) (Returns stack (is_private (given_domain b kn.called.given)))
    body_runs calls d ok k b kn xs stack m fits room hs hp hk hr =
        record {
          from = λ s. follow w p m s (c s) (λ g. done (result_of g)) Behind Post (runs.from s)
              (λ g m1 s1 l e h. (ending' g m1 h (closed s g s1 e)).from s1);
        }
      where
        f : TypedFunctionTree
        f = kn.called

        pl : StatementContext
        pl = place_in fs f b

        c : Effect Flow
        c = execute_all w calls pl f.body (entered b f.slots xs)

        finish : ℕ
        finish = body_end number fs f b

        cs : List Step
        cs = statements_code number pl (first_free f.slots) finish finish 0 f.body

        e0 : finish ≡ 0 + length cs
        e0 = omega (arith, statements_length number pl f.body (first_free f.slots) finish finish 0 0 0 0)

        last : Step
        last = last_step f.given (first_free f.slots + 12 * statements_depth f.body)

        code : List Step
        code = cs ++ last ∷ []

        Behind : Flow → Machine → Type 0
        Behind = Went w p number calls d pl code stack room finish finish (0 + length cs)

        Post : Value → Machine → Type 0
        Post = Returns stack (is_private (given_domain b f.given))

        has : HasAt code 0 code
        has = has_all code []

        end_at : slice_get code (0 + length cs) ≡ Some last
        end_at = (has_back code 0 cs (last ∷ []) has).0

        runs : Runs w p m c Behind
        runs = statements_run w p number fs Known calls d ok pl refl code stack room f.body false kn.fit.body finish finish (first_free f.slots) 0
            (entered b f.slots xs)
            m (omega arith) (has_front code 0 cs (last ∷ []) has) (hs, hp, hk, begins_holding fs f b xs m.registers fits hr)

        closed : (s : Stage) (g : Flow) (s1 : Stage) → c s ≡ Ok (g, s1) → always.Leads false (one_returns f.body) g
        closed s g s1 e = subst (always.LeadsAt false (one_returns f.body)) e
            ((always.statements_yield Known w calls pl false f.body kn.fit.body (entered b f.slots xs)).from s)

        clash : false ≡ true → ⊥
        clash h = cc

        -- it falls off its end only where nothing is given back
        falls_step : (g : Returned) → (gives_value g ≡ true → one_returns f.body ≡ true) → one_returns f.body ≡ false → (m1 : Machine) (s : Stage)
            → step w p (Some (last_step g (first_free f.slots + 12 * statements_depth f.body))) m1 s ≡ resume m1.stack nothing s
        falls_step given.Nothing r h m1 s = refl
        falls_step (given.Value x) r h m1 s = absurd (clash (sym h ∙ r refl))

        falls_secret : (g : Returned) → (gives_value g ≡ true → one_returns f.body ≡ true) → one_returns f.body ≡ false
            → IsSecret (is_private (given_domain b g)) nothing
        falls_secret given.Nothing r h = refl
        falls_secret (given.Value x) r h = absurd (clash (sym h ∙ r refl))

        ending' : (g : Flow) (m1 : Machine) → Behind g m1 → always.Leads false (one_returns f.body) g → Runs w p m1 (done (result_of g)) Post
        ending' (goes fr) m1 h q =
            runs_done (
              h.2,
              λ s. ap (λ o. step w p o m1 s) (next_step w p number calls d pl code stack room h end_at) ∙ falls_step f.given kn.fit.returns q m1 s,
              falls_secret f.given kn.fit.returns q,
            )
        ending' (returns v) m1 h q = runs_done h
        ending' (stops fr) m1 h q = absurd (clash q)
        ending' (skips fr) m1 h q = absurd (clash q)

    pub calls_run : (d : ℕ) → CallsRun w p number fs Known d (call_at w fs d)
    unfolding call_at result_secret
    calls_run zero line k b t args m known at_call fits room =
        let full : nat_lt (length m.stack) limit ≡ false = le-ltb (length m.stack) limit (omega arith) in
        let called = entering (slice_get p (number k b)) t (values_at m.registers args) m in
        moves m (λ s. carry (charge 1 s) (λ u. end (ending.Trap trap.Depth line))) (λ v. m) (λ v. ⊥) _
        (λ s. ap (λ o. step w p o m s) at_call ∙ ap (λ z. carry (charge 1 s)
        (λ u. test z trap.Depth line >>= λ u. charge (sum (map array_elements (values_at m.registers args))) >>= λ u. done called)) full ∙ sym
        (assoc (charge 1 s) (λ u. end (ending.Trap trap.Depth line)) (λ v. done m)))
        (record { from = λ s. over s (charge 1 s) })
        (λ v q. absurd q)
      where
        over : (s : Stage) (r : Run (Unit {0})) → GivesAt s (carry {B = Value} r (λ u. end (ending.Trap trap.Depth line))) (λ v. ⊥)
        over s (Ok x) = tt
        over s (Err x) = tt
    calls_run (suc d) line k b t args m known at_call fits room =
        let free : nat_lt (length m.stack) limit ≡ true = lt-ltb (length m.stack) limit (omega arith) in
        let kn = all k b known in
        let xs = values_at m.registers args in
        let n = sum (map array_elements xs) in
        let caller : Caller = caller_of t m in
        let code = function_code number fs kn.called b in
        let to : Machine = entering (Some code) t xs m in
        let back : Value → Machine = λ v. record { steps = m.steps; pc = m.pc + 1; registers = received t v m.registers; stack = m.stack } in
        let secret = is_private (given_domain b kn.called.given) in
        subst (λ z. Runs w p m (charge 1 >>= λ u. charge n >>= λ u. body_of w (call_at w fs d) fs z b xs) (Next t m (result_secret z b))) (sym kn.there)
        (regroup m n (body_of w (call_at w fs d) fs (Some kn.called) b xs) (Next t m secret)
        (runs_bind (moves m (charge 1 >>= λ u. charge n) (λ u. to) (Any {A = Unit {0}}) (λ u m'. m' ≡ to)
        (λ s. ap (λ o. step w p o m s) at_call
        ∙ ap (λ z. carry (charge 1 s) (λ u. test z trap.Depth line >>= λ u. charge n >>= λ u. done (entering (slice_get p (number k b)) t xs m))) free
        ∙ ap (λ z. carry (charge 1 s) (λ u. charge n >>= λ u. done (entering z t xs m))) kn.code
        ∙ sym (assoc (charge 1 s) (λ u. charge n) (λ u. done to)))
        (charges n) (λ u q. refl))
        (λ u m1 e1.
        runs_more (subst (λ z. Runs w p z (body_of w (call_at w fs d) fs (Some kn.called) b xs) (Returns (caller ∷ m.stack) secret)) (sym e1)
        (body_runs (call_at w fs d) d (calls_run d) k b kn xs (caller ∷ m.stack) to (subst (λ o. ArgumentsFit b (slots_of o) xs) kn.there fits) (omega arith)
        refl refl refl (λ i. refl)))
        (λ v m2 h2. silent m2 (back v) v (Next t m secret) (λ s. h2.1 s ∙ ap (λ z. resume z v s) h2.0)
        (record { steps = refl; stack = refl; pc = refl; registers = λ i. refl; private = h2.2 })))))
      where
        charges : (n : ℕ) → Gives (charge 1 >>= λ u. charge n) (Any {A = Unit {0}})
        charges n = gives_bind (gives_any w (onward_charge 1)) (λ a q. gives_any w (onward_charge n))

        regroup : (m : Machine) (n : ℕ) (c : Effect Value) (Post : Value → Machine → Type 0) → Runs w p m ((charge 1 >>= λ u. charge n) >>= λ u. c) Post
            → Runs w p
            m (charge 1 >>= λ u. charge n >>= λ u. c) Post
        regroup m n c Post h = record { from = λ s. subst (λ r. Follows w p m s r Post) (assoc (charge 1 s) (λ u. charge n) (λ u. c)) (h.from s) }
