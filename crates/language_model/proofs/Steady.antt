-- A run with more budget does the same as one with less, until this one's budget is used up.
use Rattle.std.proofs.Common.{◌≡◌, ℕ, zero, suc, ◌+◌, ◌-◌, ◌<◌, ◌≤◌, List, Bool, true, false, cond, Ok, Err, refl, sym, ap, subst, arith}
use Rattle.std.specs.Prelude.{nat_le, length, take, drop}
use Rattle.std.proofs.lemmas.Bool.{leb-true, leb-false}
use Rattle.sc_text.specs.declared.end.Ending.{Ending}
use Rattle.sc_text.specs.declared.end.Ending.TheVariants.{Budget, Tape}
use Rattle.sc_text.specs.declared.end.TrapKind.{TrapKind}
use Rattle.sc_text.specs.declared.end.TapeOwner.{TapeOwner}
use Rattle.sc_text.specs.declared.end.TapeOwner.TheVariants.{Miner1, Miner2, Miner3}
use Rattle.sc_text.specs.declared.event.Event.{Event}
use Rattle.sc_text.specs.declared.event.Event.TheVariants as event
use Rattle.plans.specs.Gate.{Gate}
use Rattle.reached_instances.specs.TypedPrograms.{TypedProgramTree}
use Rattle.language_model.specs.Effects.{Words, World, Stage, RunStop, Ended, Short, Run, Effect, ◌>>=◌, carry, done, end, charge, test, fits, draw}
use Rattle.language_model.specs.Effects.{gate, next_number, put_gates, emit, next_answers, show}
use Rattle.language_model.specs.Values.{Value, elements_of, is_true, plain}
use Rattle.language_model.specs.Operations.{read_answer, publication, tested}
use Rattle.language_model.specs.Evaluation.{Frame, either, Flow, goes, returns, stops, skips, turned, turns, repeats}
use Rattle.language_model.specs.Beginnings.{Begins}
use Rattle.language_model.proofs.Walk.{IsLaw, main_of, program_holds}
use Rattle.language_model.proofs.Onward.{stage_of, begins_none, begins_then, Onward, onward_bind, onward_done, onward_end, onward_charge, onward_test}
use Rattle.language_model.proofs.Onward.{onward_draw, onward_gate, onward_number, onward_gates, onward_emit, onward_answers, onward_show}
use Rattle.language_model.proofs.Onward.{turns_onward, repeats_onward, onward_turns, onward_repeats}

-- the same place in a run with so much more budget
abbrev pub later : ℕ → Stage → Stage
later k s = record s { left = s.left + k }

abbrev pub is_budget : RunStop → Bool
is_budget (Ended Budget) = true
is_budget stop = false

-- a run has used up the k of budget that it had more, or its budget doesn't suffice either
abbrev pub PastEnd : Bool → ℕ → Stage → Type 0
PastEnd true k u = Unit {0}
PastEnd false k u = u.left < k

abbrev pub Past : {A : Type 0} → ℕ → Run A → Type 0
Past k (Ok x) = x.1.left < k
Past k (Err e) = PastEnd (is_budget e.0) k e.1

-- a run that goes on past the stage t, at which one with k less of budget has none left
pub record Exceeds {A : Type 0} (k : ℕ) (t : Stage) (r : Run A) : Type 0 where
  pub past : Past k r
  pub events : Begins t.events (stage_of r).events
  pub opened : Begins t.opened (stage_of r).opened
  pub gates : Begins t.gates (stage_of r).gates

abbrev pub FollowsEnd : {A : Type 0} → Bool → ℕ → RunStop × Stage → Run A → Type 0
FollowsEnd true k e r = Exceeds k e.1 r
FollowsEnd false k e r = r ≡ Err (e.0, later k e.1)

-- the run of more budget beside that of less
abbrev pub Follows : {A : Type 0} → ℕ → Run A → Run A → Type 0
Follows k (Ok x) r = r ≡ Ok (x.0, later k x.1)
Follows k (Err e) r = FollowsEnd (is_budget e.0) k e r

-- from stages with less than n and n' of budget left
pub record Steady (w : World) (n n' : ℕ) {A : Type 0} (m m' : Effect A) : Type 0 where
  pub before : Onward w m
  pub after : Onward w m'
  pub from : (s : Stage) (k : ℕ) → s.left < n → s.left + k < n' → Follows k (m s) (m' (later k s))

-- ---- from step to step

past_of : {A : Type 0} (k : ℕ) (r : Run A) → (stage_of r).left < k → Past k r
past_of k (Ok x) l = l
past_of k (Err e) l = go (is_budget e.0)
  where
    go : (c : Bool) → PastEnd c k e.1
    go true = tt
    go false = l

exceeds_then : {A B : Type 0} (w : World) (k : ℕ) (t : Stage) (r : Run A) (f : A → Effect B) → ((a : A) → Onward w (f a)) → Exceeds k t r
    → Exceeds k t (carry r f)
exceeds_then w k t (Ok x) f o h =
    let went = (o x.0).from x.1 in
    let u = stage_of (f x.0 x.1) in
    record {
      past = past_of k (f x.0 x.1) (omega (arith, went.left, h.past));
      events = begins_then t.events x.1.events u.events h.events went.events;
      opened = begins_then t.opened x.1.opened u.opened h.opened went.opened;
      gates = begins_then t.gates x.1.gates u.gates h.gates went.gates;
    }
exceeds_then w k t (Err e) f o h = record { past = h.past; events = h.events; opened = h.opened; gates = h.gates }

-- what follows needs to agree only where the first part came to its end
follows_then : {A B : Type 0} (w : World) (k : ℕ) (r r' : Run A) (f f' : A → Effect B) → ((a : A) → Onward w (f' a)) → Follows k r r'
    → ((a : A) (t : Stage) → r ≡ Ok (a, t) → Follows k (f a t) (f' a (later k t))) → Follows k (carry r f) (carry r' f')
follows_then w k (Ok x) r' f f' o h j = subst (λ z. Follows k (f x.0 x.1) (carry z f')) (sym h) (j x.0 x.1 refl)
follows_then {A = A} {B = B} w k (Err e) r' f f' o h j = go (is_budget e.0) h
  where
    go : (c : Bool) → FollowsEnd {A = A} c k e r' → FollowsEnd {A = B} c k e (carry r' f')
    go true h = exceeds_then w k e.1 r' f' o h
    go false h = ap (λ z. carry z f') h

steady_bind : {w : World} {n n' : ℕ} {A B : Type 0} {m m' : Effect A} {f f' : A → Effect B} → Steady w n n' m m'
    → ((a : A) → Steady w n n' (f a) (f' a)) → Steady w n n' (m >>= f) (m' >>= f')
steady_bind {w = w} {n = n} {n' = n'} {A = A} {m = m} {m' = m'} {f = f} {f' = f'} h j = record {
  before = onward_bind h.before (λ a. (j a).before);
  after = onward_bind h.after (λ a. (j a).after);
  from = λ s k l l'. follows_then w k (m s) (m' (later k s)) f f' (λ a. (j a).after) (h.from s k l l')
      (λ a t e. (j a).from t k (lower s k t a e l) (lower_too s k t a e l'));
}
  where
    fallen : (s t : Stage) (a : A) → m s ≡ Ok (a, t) → t.left ≤ s.left
    fallen s t a e = omega (arith, (h.before.from s).left, ap (λ z. (stage_of z).left) e)

    lower : (s : Stage) (k : ℕ) (t : Stage) (a : A) → m s ≡ Ok (a, t) → s.left < n → t.left < n
    lower s k t a e l = omega (arith, fallen s t a e)

    lower_too : (s : Stage) (k : ℕ) (t : Stage) (a : A) → m s ≡ Ok (a, t) → s.left + k < n' → t.left + k < n'
    lower_too s k t a e l = omega (arith, fallen s t a e)

steady_less : {w : World} {n n' : ℕ} {A : Type 0} {m m' : Effect A} (p p' : ℕ) → p ≤ n → p' ≤ n' → Steady w n n' m m' → Steady w p p' m m'
steady_less p p' i j h = record { before = h.before; after = h.after; from = λ s k l l'. h.from s k (omega arith) (omega arith) }

-- ---- the steps

steady_done : {w : World} {n n' : ℕ} {A : Type 0} (a : A) → Steady w n n' (done a) (done a)
steady_done a = record { before = onward_done a; after = onward_done a; from = λ s k l l'. refl }

stops_so : (A : Type 0) (k : ℕ) (e : RunStop) (s : Stage) → Follows {A = A} k (Err (e, s)) (Err (e, later k s))
stops_so A k e s = go (is_budget e) refl
  where
    go : (c : Bool) → is_budget e ≡ c → FollowsEnd {A = A} c k (e, s) (Err (e, later k s))
    go true q = record {
      past = subst (λ z. PastEnd z k (later k s)) (sym q) tt;
      events = begins_none s.events s.events refl;
      opened =
          begins_none s.opened s.opened refl;
      gates = begins_none s.gates s.gates refl;
    }
    go false q = refl

steady_end : {w : World} {n n' : ℕ} {A : Type 0} (e : Ending) → Steady w n n' (end {A = A} e) (end {A = A} e)
steady_end e = record { before = onward_end e; after = onward_end e; from = λ s k l l'. stops_so _ k (Ended e) s }

charge_follows : (n k : ℕ) (s : Stage) → Follows k (charge n s) (charge n (later k s))
charge_follows n k s = go (nat_le n s.left) (nat_le n (s.left + k)) refl refl
  where
    go : (c c' : Bool) → nat_le n s.left ≡ c → nat_le n (s.left + k) ≡ c'
        → Follows {A = Unit {0}} k (cond c (Ok (tt, record s { left = s.left - n })) (Err (Ended Budget, s)))
        (cond c' (Ok (tt, record s { left = s.left + k - n })) (Err (Ended Budget, later k s)))
    go true true e e' =
        let l : n ≤ s.left = leb-true n s.left e in
        let same : s.left + k - n ≡ s.left - n + k = omega arith in
        ap (λ z. Ok (tt, record s { left = z })) same
    go true false e e' =
        let l : n ≤ s.left = leb-true n s.left e in
        let g : s.left + k < n = leb-false n (s.left + k) e' in
        absurd (omega arith)
    go false true e e' =
        let g : s.left < n = leb-false n s.left e in
        let l : n ≤ s.left + k = leb-true n (s.left + k) e' in
        record {
          past = omega arith;
          events = begins_none s.events s.events refl;
          opened = begins_none s.opened s.opened refl;
          gates =
              begins_none s.gates s.gates refl;
        }
    go false false e e' = stops_so (Unit {0}) k (Ended Budget) s

steady_charge : {w : World} {n n' : ℕ} (c : ℕ) → Steady w n n' (charge c) (charge c)
steady_charge c = record { before = onward_charge c; after = onward_charge c; from = λ s k l l'. charge_follows c k s }

steady_test : {w : World} {n n' : ℕ} (b : Bool) (kind : TrapKind) (line : ℕ) → Steady w n n' (test b kind line) (test b kind line)
steady_test true kind line = record { before = onward_test true kind line; after = onward_test true kind line; from = λ s k l l'. refl }
steady_test false kind line = record { before = onward_test false kind line; after = onward_test false kind line; from = λ s k l l'. refl }

fits_follow : {B : Type 0} (k : ℕ) (owner : TapeOwner) (need have : ℕ) (f f' : Unit {0} → Effect B) (s : Stage)
    → Follows k (f tt s) (f' tt (later k s)) → Follows k (carry (fits owner need have s) f) (carry (fits owner need have (later k s)) f')
fits_follow k owner need have f f' s h = go (nat_le need have)
  where
    go : (c : Bool) → Follows k (carry (cond c (Ok (tt, s)) (Err (Ended (Tape owner need have), s))) f)
        (carry (cond c (Ok (tt, later k s)) (Err (Ended (Tape owner need have), later k s))) f')
    go true = h
    go false = refl

steady_draw : (w : World) {n n' : ℕ} (c : Words) → Steady w n n' (draw w c) (draw w c)
steady_draw w c = record {
  before = onward_draw w c;
  after = onward_draw w c;
  from = λ s k l l'. fits_follow k Miner1 (s.drawn.first + c.first) w.lengths.first _ _ s
      (fits_follow k Miner2 (s.drawn.second + c.second) w.lengths.second _ _ s (fits_follow k Miner3 (s.drawn.third + c.third) w.lengths.third _ _ s refl));
}

steady_gate : {w : World} {n n' : ℕ} (g : Gate) → Steady w n n' (gate g) (gate g)
steady_gate g = record { before = onward_gate g; after = onward_gate g; from = λ s k l l'. refl }

steady_number : {w : World} {n n' : ℕ} → Steady w n n' next_number next_number
steady_number = record { before = onward_number; after = onward_number; from = λ s k l l'. refl }

steady_gates : {w : World} {n n' : ℕ} (gs : List Gate) → Steady w n n' (put_gates gs) (put_gates gs)
steady_gates gs = record { before = onward_gates gs; after = onward_gates gs; from = λ s k l l'. refl }

steady_emit : {w : World} {n n' : ℕ} (e : Event) → Steady w n n' (emit e) (emit e)
steady_emit e = record { before = onward_emit e; after = onward_emit e; from = λ s k l l'. refl }

steady_show : {w : World} {n n' : ℕ} (words : List ℕ) → Steady w n n' (show words) (show words)
steady_show words = record { before = onward_show words; after = onward_show words; from = λ s k l l'. refl }

steady_answers : {w : World} {n n' : ℕ} (c : ℕ) → Steady w n n' (next_answers c) (next_answers c)
steady_answers c = record { before = onward_answers c; after = onward_answers c; from = λ s k l l'. go s k (nat_le c (length s.answers)) }
  where
    go : (s : Stage) (k : ℕ) (b : Bool)
        → Follows k (cond b (Ok (take c s.answers, record s { answers = drop c s.answers })) (Err (Short, s)))
        (cond b (Ok (take c s.answers, record s { answers = drop c s.answers; left = s.left + k })) (Err (Short, later k s)))
    go s k true = refl
    go s k false = refl

-- ---- loops: each turn has a test, and this is charged

tested_falls : (v : Value) (s : Stage) (b : Bool) (t : Stage) → tested v s ≡ Ok (b, t) → t.left < s.left
tested_falls v s b t e = go (nat_le 1 s.left) refl e
  where
    go : (c : Bool) → nat_le 1 s.left ≡ c
        → ◌≡◌ {A = Run Bool} (carry {A = Unit {0}} (cond c (Ok (tt, record s { left = s.left - 1 })) (Err (Ended Budget, s))) (λ _. done (is_true v)))
        (Ok (b, t)) → t.left < s.left
    go true q e =
        let l : 1 ≤ s.left = leb-true 1 s.left q in
        let f : s.left - 1 ≡ t.left = ap (λ z. (stage_of z).left) e in
        omega arith
    go false q e = cc

steady_tested : {w : World} {n n' : ℕ} {A : Type 0} (v : Value) (f f' : Bool → Effect A) → ((b : Bool) → Steady w n n' (f b) (f' b))
    → Steady w (suc n) (suc n') (tested v >>= f) (tested v >>= f')
steady_tested {w = w} {n = n} {n' = n'} v f f' h = record {
  before = onward_bind test_onward (λ b. (h b).before);
  after = onward_bind test_onward (λ b. (h b).after);
  from = λ s k l l'. follows_then w k (tested v s) (tested v (later k s)) f f' (λ b. (h b).after) (test_follows s k)
      (λ b t e. (h b).from t k (lower s b t e l) (lower_too s k b t e l'));
}
  where
    test_onward : Onward w (tested v)
    test_onward = onward_bind (onward_charge 1) (λ _. onward_done (is_true v))

    test_follows : (s : Stage) (k : ℕ) → Follows k (tested v s) (tested v (later k s))
    test_follows s k = follows_then w k (charge 1 s) (charge 1 (later k s)) _ _ (λ _. onward_done (is_true v)) (charge_follows 1 k s) (λ a t e. refl)

    lower : (s : Stage) (b : Bool) (t : Stage) → tested v s ≡ Ok (b, t) → s.left < suc n → t.left < n
    lower s b t e l = omega (arith, tested_falls v s b t e)

    lower_too : (s : Stage) (k : ℕ) (b : Bool) (t : Stage) → tested v s ≡ Ok (b, t) → s.left + k < suc n' → t.left + k < n'
    lower_too s k b t e l = omega (arith, tested_falls v s b t e)

steady_either : {w : World} {n n' : ℕ} {A : Type 0} (b : Bool) {m m' q q' : Effect A} → Steady w n n' m m' → Steady w n n' q q'
    → Steady w n n' (either b m q) (either b m' q')
steady_either true h j = h
steady_either false h j = j

steady_turned : {w : World} {n n' : ℕ} (g : Flow) (f f' : Frame → Effect Flow) → ((fr : Frame) → Steady w n n' (f fr) (f' fr))
    → Steady w n n' (turned g f) (turned g f')
steady_turned (goes fr) f f' h = h fr
steady_turned (skips fr) f f' h = h fr
steady_turned (stops fr) f f' h = steady_done (goes fr)
steady_turned (returns v) f f' h = steady_done (returns v)

module _ (w : World) (condition condition' : Frame → Effect Value) (step step' body body' : Frame → Effect Flow) where
  record IsSteadyLoop (n n' : ℕ) : Type 0 where
    tests : (fr : Frame) → Steady w n n' (condition fr) (condition' fr)
    steps : (fr : Frame) → Steady w n n' (step fr) (step' fr)
    turn : (fr : Frame) → Steady w n n' (body fr) (body' fr)

  loop_less : (n n' p p' : ℕ) → p ≤ n → p' ≤ n' → IsSteadyLoop n n' → IsSteadyLoop p p'
  loop_less n n' p p' i j h = record {
    tests = λ fr. steady_less p p' i j (h.tests fr);
    steps = λ fr. steady_less p p' i j (h.steps fr);
    turn =
        λ fr. steady_less p p' i j (h.turn fr);
  }

  turns_steady : (n n' : ℕ) → IsSteadyLoop n n' → (fr : Frame) → Steady w n n' (turns n condition step body fr) (turns n' condition' step' body' fr)
  unfolding turns
  turns_steady zero n' h fr = record {
    before = turns_onward w zero condition step body (λ f. (h.tests f).before) (λ f. (h.steps f).before) (λ f. (h.turn f).before) fr;
    after = turns_onward w n' condition' step' body' (λ f. (h.tests f).after) (λ f. (h.steps f).after) (λ f. (h.turn f).after) fr;
    from = λ s k l l'. absurd (omega arith);
  }
  turns_steady (suc n) zero h fr = record {
    before = turns_onward w (suc n) condition step body (λ f. (h.tests f).before) (λ f. (h.steps f).before) (λ f. (h.turn f).before) fr;
    after = turns_onward w zero condition' step' body' (λ f. (h.tests f).after) (λ f. (h.steps f).after) (λ f. (h.turn f).after) fr;
    from = λ s k l l'. absurd (omega arith);
  }
  turns_steady (suc n) (suc n') h fr =
      let less = loop_less (suc n) (suc n') n n' (omega arith) (omega arith) h in
      steady_bind (h.tests fr) (λ v. steady_tested v _ _ (λ t. steady_either t
      (steady_bind (less.turn fr) (λ g. steady_turned g _ _ (λ f. steady_bind (less.steps f) (λ q. steady_turned q _ _ (turns_steady n n' less)))))
      (steady_done (goes fr))))

  repeats_steady : (n n' : ℕ) → IsSteadyLoop n n' → (fr : Frame) → Steady w n n' (repeats n condition body fr) (repeats n' condition' body' fr)
  unfolding repeats
  repeats_steady zero n' h fr = record {
    before = repeats_onward w zero condition body (λ f. (h.tests f).before) (λ f. (h.turn f).before) fr;
    after = repeats_onward w n' condition' body' (λ f. (h.tests f).after) (λ f. (h.turn f).after) fr;
    from = λ s k l l'. absurd (omega arith);
  }
  repeats_steady (suc n) zero h fr = record {
    before = repeats_onward w (suc n) condition body (λ f. (h.tests f).before) (λ f. (h.turn f).before) fr;
    after = repeats_onward w zero condition' body' (λ f. (h.tests f).after) (λ f. (h.turn f).after) fr;
    from = λ s k l l'. absurd (omega arith);
  }
  repeats_steady (suc n) (suc n') h fr =
      let less = loop_less (suc n) (suc n') n n' (omega arith) (omega arith) h in
      steady_bind (h.turn fr) (λ g. steady_turned g _ _
      (λ f. steady_bind (h.tests f) (λ v. steady_tested v _ _ (λ t. steady_either t (repeats_steady n n' less f) (steady_done (goes f))))))

steady_turns : {w : World} {n n' : ℕ} {condition condition' : Frame → Effect Value} {step step' body body' : Frame → Effect Flow}
    → ((fr : Frame) → Steady w n n' (condition fr) (condition' fr)) → ((fr : Frame) → Steady w n n' (step fr) (step' fr))
    → ((fr : Frame) → Steady w n n' (body fr) (body' fr)) → (fr : Frame)
    → Steady w n n' (λ s. turns (s.left + 1) condition step body fr s) (λ s. turns (s.left + 1) condition' step' body' fr s)
steady_turns {w = w} {n = n} {n' = n'} {condition = c} {condition' = c'} {step = st} {step' = st'} {body = b} {body' = b'} hc hs hb fr = record {
  before = onward_turns w (λ f. (hc f).before) (λ f. (hs f).before) (λ f. (hb f).before) fr;
  after = onward_turns w (λ f. (hc f).after) (λ f. (hs f).after) (λ f. (hb f).after) fr;
  from = λ s k l l'. (turns_steady w c c' st st' b b' (s.left + 1) (s.left + k + 1)
      (loop_less w c c' st st' b b' n n' (s.left + 1) (s.left + k + 1) (omega arith) (omega arith) (record { tests = hc; steps = hs; turn = hb }))
      fr).from s k (omega arith) (omega arith);
}

steady_repeats : {w : World} {n n' : ℕ} {condition condition' : Frame → Effect Value} {body body' : Frame → Effect Flow}
    → ((fr : Frame) → Steady w n n' (condition fr) (condition' fr)) → ((fr : Frame) → Steady w n n' (body fr) (body' fr)) → (fr : Frame)
    → Steady w n n' (λ s. repeats (s.left + 1) condition body fr s) (λ s. repeats (s.left + 1) condition' body' fr s)
steady_repeats {w = w} {n = n} {n' = n'} {condition = c} {condition' = c'} {body = b} {body' = b'} hc hb fr = record {
  before = onward_repeats w (λ f. (hc f).before) (λ f. (hb f).before) fr;
  after = onward_repeats w (λ f. (hc f).after) (λ f. (hb f).after) fr;
  from = λ s k l l'. (repeats_steady w c c' b b' b b' (s.left + 1) (s.left + k + 1)
      (loop_less w c c' b b' b b' n n' (s.left + 1) (s.left + k + 1) (omega arith) (omega arith) (record { tests = hc; steps = hb; turn = hb }))
      fr).from s k (omega arith) (omega arith);
}

-- ---- whole programs

pub is_steady : World → (n n' : ℕ) → (A : Type 0) → Effect A → Effect A → Type 0
is_steady w n n' A m m' = Steady w n n' m m'

steady_law : (w : World) (n n' : ℕ) → IsLaw w w (is_steady w n n')
unfolding is_steady
steady_law w n n' = record {
  source = refl;
  inputs = refl;
  bind = steady_bind;
  on_done = steady_done;
  on_end = steady_end;
  on_charge = steady_charge;
  on_test = steady_test;
  on_draw = steady_draw w;
  on_gate = steady_gate;
  on_number = steady_number;
  on_gates = steady_gates;
  on_publish = λ x e text elements. steady_emit (publication x e text elements);
  on_answers = steady_answers;
  on_told = λ shape words. let shown = read_answer shape.element words in
      steady_bind (steady_show shown)
      (λ _. steady_bind (steady_emit (event.Open (elements_of (plain shape shown)))) (λ _. steady_done (plain shape shown)));
  on_turns = steady_turns;
  on_repeats = steady_repeats;
}

pub program_steady : (w : World) (n n' : ℕ) (p : TypedProgramTree) → Steady w n n' (main_of w p) (main_of w p)
unfolding is_steady
program_steady w n n' p = program_holds w w (is_steady w n n') (steady_law w n n') p
