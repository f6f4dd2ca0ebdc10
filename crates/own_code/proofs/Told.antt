-- A step that wants words makes the same gates when it is told some.
use Rattle.std.proofs.Common.{◌≡◌, ◌⊎◌, ℕ, ◌+◌, ◌-◌, List, [], Bool, true, false, cond, Some, None, Ok, Err, inl, inr}
use Rattle.std.proofs.Common.{refl, sym, ◌∙◌, ap, subst}
use Rattle.std.specs.Prelude.{length, nat_le, take, drop}
use Rattle.sc_text.specs.declared.end.Ending.TheVariants.{Budget, Tape}
use Rattle.sc_text.specs.declared.end.TapeOwner.{TapeOwner}
use Rattle.sc_text.specs.declared.end.TapeOwner.TheVariants.{Miner1, Miner2, Miner3}
use Rattle.sc_text.specs.declared.event.Event.TheVariants as event
use Rattle.gates.specs.declared.gate.Gate.{Gate}
use Rattle.gates.specs.declared.gate.Gate.TheVariants.{Const, Open}
use Rattle.language_model.specs.Effects.{Words, World, Source, Clear, Answers, Stage, RunStop, Ended, Short, Run, Effect, ◌>>=◌, carry, done, charge}
use Rattle.language_model.specs.Effects.{words_each, fits, drawn_yet, draw, gate, answer, emit, show}
use Rattle.language_model.specs.Values.{Secrecy, Plain, Private, Value, plain, size, ring_for, gate_words, gate_size, elements_of}
use Rattle.named_values.specs.Courses.{IsEnded}
use Rattle.language_model.specs.Operations.{charged, no_traps, number_from, read_answer, revealed, opened_from, declassified}
use Rattle.verified_code.specs.Steps.{Function}
use Rattle.named_values.specs.Machine.{Machine, next, step}
use Rattle.driven_nodes.specs.Steps.{Went, On, Over, Wants, place_of}
use Rattle.code_places.specs.Places.{Place, telling_stage, stopped, went, next_step, answers_told, step_told}
use Rattle.code_places.specs.Laws.{stage_behind}
use Rattle.code_places.proofs.Quiet.{KeptAt, Quiet}
use Rattle.code_places.proofs.QuietSteps.{IsOpening, quiet_or_opening}

-- ---- WHAT DOES NOT READ THE WORDS

abbrev with_words : {A : Type 0} → List ℕ → Run A → Run A
with_words told (Ok x) = Ok (x.0, telling_stage told x.1)
with_words told (Err e) = Err (e.0, telling_stage told e.1)

-- it does the same whatever it is told
record Deaf {A : Type 0} (c : Effect A) : Type 0 where
  from : (s : Stage) (told : List ℕ) → c (telling_stage told s) ≡ with_words told (c (telling_stage [] s))

abbrev gates_behind : {A : Type 0} → Run A → List Gate
gates_behind r = (stage_behind r).gates

-- it makes the same gates
record SameGates {A : Type 0} (c : Effect A) : Type 0 where
  from : (s : Stage) (told : List ℕ) → gates_behind (c (telling_stage told s)) ≡ gates_behind (c (telling_stage [] s))

deaf_bind : {A B : Type 0} {c : Effect A} {f : A → Effect B} → Deaf c → ((a : A) → Deaf (f a)) → Deaf (c >>= f)
deaf_bind {A = A} {c = c} {f = f} h k =
    record {
      from = λ s told.
          ap (λ r. carry r f) (h.from s told)
          ∙ go told (c (telling_stage [] s))
          ∙ ap (λ r. with_words told (carry r f)) (sym (h.from s []));
    }
  where
    go : (told : List ℕ) (r : Run A) → carry (with_words told r) f ≡ with_words told (carry (with_words [] r) f)
    go told (Ok x) = (k x.0).from x.1 told
    go told (Err e) = refl

same_bind : {A B : Type 0} {c : Effect A} {f : A → Effect B} → Deaf c → ((a : A) → SameGates (f a)) → SameGates (c >>= f)
same_bind {A = A} {c = c} {f = f} h k =
    record {
      from = λ s told.
          ap (λ r. gates_behind (carry r f)) (h.from s told)
          ∙ go told (c (telling_stage [] s))
          ∙ ap (λ r. gates_behind (carry r f)) (sym (h.from s []));
    }
  where
    go : (told : List ℕ) (r : Run A) → gates_behind (carry (with_words told r) f) ≡ gates_behind (carry (with_words [] r) f)
    go told (Ok x) = (k x.0).from x.1 told
    go told (Err e) = refl

same_then : {A B : Type 0} {c : Effect A} (g : A → B) → SameGates c → SameGates (c >>= λ a. done (g a))
same_then {A = A} {c = c} g h =
    record {
      from = λ s told.
          sym (kept (c (telling_stage told s)))
          ∙ h.from s told
          ∙ kept (c (telling_stage [] s));
    }
  where
    kept : (r : Run A) → gates_behind r ≡ gates_behind (carry r (λ a. done (g a)))
    kept (Ok x) = refl
    kept (Err e) = refl

-- ---- THE PARTS OF AN OPENING

deaf_if : {A : Type 0} (told : List ℕ) (b : Bool) (x y : Run A) → cond b (with_words told x) (with_words told y) ≡ with_words told (cond b x y)
deaf_if told true x y = refl
deaf_if told false x y = refl

deaf_charge : (n : ℕ) → Deaf (charge n)
deaf_charge n =
    record {
      from = λ s told. deaf_if told (nat_le n s.left) (Ok (tt, record s { left = s.left - n; answers = [] })) (Err (Ended Budget, telling_stage [] s));
    }

deaf_fits : (owner : TapeOwner) (need have : ℕ) → Deaf (fits owner need have)
deaf_fits owner need have =
    record {
      from = λ s told. deaf_if told (nat_le need have) (Ok (tt, telling_stage [] s)) (Err (Ended (Tape owner need have), telling_stage [] s));
    }

deaf_untrapped : (n : ℕ) → Deaf (charged no_traps n)
deaf_untrapped n =
    deaf_bind (deaf_charge 1) (λ _. deaf_bind {c = no_traps} (record { from = λ s told. refl }) (λ _. deaf_charge (n - 1)))

deaf_draw : (w : World) (n : Words) → Deaf (draw w n)
deaf_draw w n =
    deaf_bind {c = drawn_yet} (record { from = λ s told. refl }) (λ d.
    deaf_bind (deaf_fits Miner1 (d.first + n.first) w.lengths.first) (λ _.
    deaf_bind (deaf_fits Miner2 (d.second + n.second) w.lengths.second) (λ _.
    deaf_bind (deaf_fits Miner3 (d.third + n.third) w.lengths.third) (λ _. record { from = λ s told. refl }))))

deaf_gate : (g : Gate) → Deaf (gate g)
deaf_gate g = record { from = λ s told. refl }

deaf_number : (x : Secrecy) (words : List ℕ) → Deaf (number_from x words)
deaf_number (Private (Some k)) words = record { from = λ s told. refl }
deaf_number (Private None) words = deaf_gate (Const words)
deaf_number Plain words = deaf_gate (Const words)

-- ---- AN OPENING

module _ (w : World) (v : Value) where
  abbrev opening : List ℕ → Effect Value
  opening words =
      show (read_answer v.shape.element words) >>= λ _. emit (event.Open (elements_of (plain v.shape (read_answer v.shape.element words)))) >>= λ _.
      done (plain v.shape (read_answer v.shape.element words))

  revealed_gates : (s : Stage) (told : List ℕ) → gates_behind (revealed w v (telling_stage told s)) ≡ s.gates
  revealed_gates s told = by w.source
    where
      taken :
          (enough : Bool) →
          gates_behind
          (carry (cond enough (Ok (take (size v) told, record s { answers = drop (size v) told })) (Err (Short, telling_stage told s))) opening)
          ≡ s.gates
      taken true = refl
      taken false = refl

      by : (source : Source) → gates_behind (carry (answer source v.words (telling_stage told s)) opening) ≡ s.gates
      by Clear = refl
      by Answers = taken (nat_le (size v) (length told))

  revealed_same : SameGates (revealed w v)
  revealed_same = record { from = λ s told. revealed_gates s told ∙ sym (revealed_gates s []) }

  opened_same : (x : Secrecy) → SameGates (opened_from w x v)
  opened_same Plain = record { from = λ s told. refl }
  opened_same (Private k) =
      same_bind (deaf_draw w (words_each (gate_size v.shape.element (size v)))) (λ _.
      same_bind (deaf_number v.secrecy (gate_words v.shape.element v.words)) (λ u.
      same_bind (deaf_gate (Open (ring_for v.shape.element) u)) (λ _. revealed_same)))

  declassified_same : SameGates (declassified w v)
  declassified_same = same_bind (deaf_untrapped (size v)) (λ _. opened_same v.secrecy)

-- ---- A STEP

module _ (w : World) (c : List Function) (p : Place) where
  abbrev heard : List ℕ → Stage
  heard told = telling_stage (answers_told told (next_step p.machine) p.machine) p.stage

  abbrev run_told : List ℕ → Run Machine
  run_told told = step w c (next_step p.machine) p.machine (heard told)

  stopped_gates : (m : Machine) (u : Stage) (stop : RunStop) → (place_of (stopped m u stop)).stage.gates ≡ u.gates
  stopped_gates m u (Ended e) = refl
  stopped_gates m u Short = refl

  went_gates : (r : Run Machine) → (place_of (went p.machine r)).stage.gates ≡ gates_behind r
  went_gates (Ok x) = refl
  went_gates (Err e) = stopped_gates p.machine e.1 e.0

  goes_on : {q h : Place} {X : Type 0} → On q ≡ Wants h → X
  goes_on e = cc

  is_over : {q h : Place} {X : Type 0} → Over q ≡ Wants h → X
  is_over e = cc

  never_wants : {X : Type 0} (h : Place) (r : Run Machine) → KeptAt true (telling_stage [] p.stage) r → went p.machine r ≡ Wants h → X
  never_wants h (Ok x) k e = goes_on e
  never_wants {X = X} h (Err x) k e = by x.0 k.0 e
    where
      by : (stop : RunStop) → IsEnded stop → stopped p.machine x.1 stop ≡ Wants h → X
      by (Ended ending) k e = is_over e
      by Short k e = absurd k

  pub same_when_told : (h : Place) (told : List ℕ) → step_told w c p [] ≡ Wants h → (place_of (step_told w c p told)).stage.gates ≡ h.stage.gates
  same_when_told h told is = by (quiet_or_opening w c p.machine (next_step p.machine))
    where
      by : (Quiet true (step w c (next_step p.machine) p.machine) ⊎ IsOpening (next_step p.machine))
          → (place_of (step_told w c p told)).stage.gates ≡ h.stage.gates
      by (inl q) = never_wants h (run_told []) (q.from (telling_stage [] p.stage)) is
      by (inr i) =
          went_gates (run_told told)
          ∙ subst (λ o. gates_behind (step w c o p.machine (heard told)) ≡ gates_behind (step w c o p.machine (telling_stage [] p.stage)))
          (sym i.2) ((same_then (λ v. next i.0 v p.machine) (declassified_same w (p.machine.registers i.1))).from p.stage
          (answers_told told (next_step p.machine) p.machine))
          ∙ sym (went_gates (run_told []))
          ∙ ap (λ (z : Went Place). (place_of z).stage.gates) is
