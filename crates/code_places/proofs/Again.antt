-- A step that wants words has made gates and told nothing, and gates that were made before stand.
use Rattle.std.proofs.Common.{◌≡◌, ℕ, List, Ok, Err, Bool, true, false, cond, inl, inr, ◌⊎◌, Option, Some, refl, sym, ap, ◌∙◌, subst}
use Rattle.std.specs.Prelude.{length, nat_le, take, drop}
use Rattle.sc_text.specs.declared.event.Event.TheVariants as event
use Rattle.gates.specs.declared.gate.Gate.TheVariants.{Open}
use Rattle.language_model.specs.Beginnings.{Begins}
use Rattle.language_model.specs.Effects.{World, Source, Clear, Answers, Stage, RunStop, Ended, Short, Run, Effect, ◌>>=◌, carry, done, words_each}
use Rattle.language_model.specs.Effects.{answer, emit, show}
use Rattle.language_model.specs.Values.{Secrecy, Plain, Private, Value, plain, size, ring_for, gate_size, elements_of}
use Rattle.language_model.specs.Operations.{read_answer, revealed, opened_from, declassified}
use Rattle.language_model.proofs.Onward.{Onward, onward_bind, onward_done, is_onward, onward_law, stage_of, begins_none, begins_then}
use Rattle.language_model.proofs.Walk.{declassified_holds}
use Rattle.verified_code.specs.Steps.{Step, Declassify, Function}
use Rattle.gate_laws.specs.Machine.{Machine, next, step}
use Rattle.code_places.specs.Places.{next_step}
use Rattle.code_places.specs.Laws.{stage_behind, OnlyDeclassifyOpens, HasToldNothing, WantsBeforeItTells}
use Rattle.code_places.proofs.Quiet.{Kept, KeptAt, Quiet, quiet_draw, quiet_gate}
use Rattle.code_places.proofs.QuietRows.{untrapped_quiet, number_quiet}
use Rattle.code_places.proofs.QuietSteps.{IsOpening, quiet_or_opening}

-- ---- WHERE A RUN WANTS WORDS

abbrev OnShort : RunStop → Type 0 → Type 0
OnShort (Ended e) P = Unit {0}
OnShort Short P = P

abbrev UntoldSoFar : {A : Type 0} → Stage → Run A → Type 0
UntoldSoFar s (Ok x) = Unit {0}
UntoldSoFar s (Err e) = OnShort e.0 (HasToldNothing s e.1)

record Redone {A : Type 0} (c : Effect A) : Type 0 where
  from : (s : Stage) → UntoldSoFar s (c s)

more_then : (s t u : Stage) → Kept false s t → HasToldNothing t u → HasToldNothing s u
more_then s t u h k =
    record {
      events = k.events ∙ h.events refl;
      opened = k.opened ∙ h.opened;
      answers = k.answers ∙ h.answers;
      gates = begins_then s.gates t.gates u.gates h.gates k.gates;
    }

redone_behind : {A B : Type 0} {c : Effect A} {f : A → Effect B} → Quiet false c → ((a : A) → Redone (f a)) → Redone (c >>= f)
redone_behind {A = A} {B = B} {c = c} {f = f} q k = record { from = λ s. go s (c s) (q.from s) }
  where
    on : (s t : Stage) (stop : RunStop) (u : Stage) → Kept false s t → OnShort stop (HasToldNothing t u) → OnShort stop (HasToldNothing s u)
    on s t (Ended e) u h g = tt
    on s t Short u h g = more_then s t u h g

    later : (s t : Stage) (r : Run B) → Kept false s t → UntoldSoFar t r → UntoldSoFar s r
    later s t (Ok x) h g = tt
    later s t (Err e) h g = on s t e.0 e.1 h g

    never : (s u : Stage) (stop : RunStop) → KeptAt {A = A} false s (Err (stop, u)) → OnShort stop (HasToldNothing s u)
    never s u (Ended e) h = tt
    never s u Short h = absurd h.0

    go : (s : Stage) (r : Run A) → KeptAt false s r → UntoldSoFar s (carry r f)
    go s (Ok x) h = later s x.1 (f x.0 x.1) h ((k x.0).from x.1)
    go s (Err e) h = never s e.1 e.0 h

redone_then : {A B : Type 0} {c : Effect A} (g : A → B) → Redone c → Redone (c >>= λ a. done (g a))
redone_then {A = A} {c = c} g h = record { from = λ s. go s (c s) (h.from s) }
  where
    go : (s : Stage) (r : Run A) → UntoldSoFar s r → UntoldSoFar s (carry r (λ a. done (g a)))
    go s (Ok x) h = tt
    go s (Err e) h = h

no_more : (s : Stage) → HasToldNothing s s
no_more s = record { events = refl; opened = refl; answers = refl; gates = begins_none s.gates s.gates refl }

module _ (w : World) (v : Value) where
  abbrev telling : List ℕ → Effect Value
  telling words =
      show (read_answer v.shape.element words) >>= λ _. emit (event.Open (elements_of (plain v.shape (read_answer v.shape.element words)))) >>= λ _.
      done (plain v.shape (read_answer v.shape.element words))

  revealed_redone : Redone (revealed w v)
  revealed_redone = record { from = λ s. by s w.source }
    where
      taken :
          (s : Stage) (enough : Bool) →
          UntoldSoFar s
          (carry (cond enough (Ok (take (size v) s.answers, record s { answers = drop (size v) s.answers })) (Err (Short, s))) telling)
      taken s true = tt
      taken s false = no_more s

      by : (s : Stage) (source : Source) → UntoldSoFar s (carry (answer source v.words s) telling)
      by s Clear = tt
      by s Answers = taken s (nat_le (size v) (length s.answers))

  opened_redone : (x : Secrecy) → Redone (opened_from w x v)
  opened_redone Plain = record { from = λ s. tt }
  opened_redone (Private k) =
      redone_behind (quiet_draw false w (words_each (gate_size v.shape.element (size v)))) (λ _. redone_behind (number_quiet false v) (λ u.
      redone_behind (quiet_gate false (Open (ring_for v.shape.element) u)) (λ _. revealed_redone)))

  declassified_redone : Redone (declassified w v)
  declassified_redone = redone_behind (untrapped_quiet false (size v)) (λ _. opened_redone v.secrecy)

-- ---- STEPS

module _ (w : World) (c : List Function) where
  quiet_never : {A : Type 0} (s : Stage) (r : Run A) (u : Stage) → KeptAt true s r → r ≡ Err (Short, u) → ⊥
  quiet_never s r u h e = (subst (KeptAt true s) e h).0

  of_short : {A : Type 0} (s : Stage) (r : Run A) (u : Stage) → UntoldSoFar s r → r ≡ Err (Short, u) → HasToldNothing s u
  of_short s r u h e = subst (UntoldSoFar s) e h

  pub wants_before_it_tells : WantsBeforeItTells w c
  wants_before_it_tells m s u e = by (next_step m) (quiet_or_opening w c m (next_step m)) e
    where
      by : (o : Option Step) → (Quiet true (step w c o m) ⊎ IsOpening o) → step w c o m s ≡ Err (Short, u) → HasToldNothing s u
      by o (inl q) e = absurd (quiet_never s (step w c o m s) u (q.from s) e)
      by o (inr i) e =
          of_short s (step w c (Some (Declassify i.0 i.1)) m s) u
          ((redone_then (λ v. next i.0 v m) (declassified_redone w (m.registers i.1))).from s) (ap (λ o. step w c o m s) (sym i.2) ∙ e)

  kept_opened : {A : Type 0} (s : Stage) (r : Run A) → KeptAt true s r → (stage_behind r).opened ≡ s.opened
  kept_opened s (Ok x) h = h.opened
  kept_opened s (Err e) h = h.1.opened

  pub only_declassify_opens : OnlyDeclassifyOpens w c
  only_declassify_opens m s other = by (quiet_or_opening w c m (next_step m))
    where
      by : (Quiet true (step w c (next_step m) m) ⊎ IsOpening (next_step m)) → (stage_behind (step w c (next_step m) m s)).opened ≡ s.opened
      by (inl q) = kept_opened s (step w c (next_step m) m s) (q.from s)
      by (inr i) = absurd (other i.0 i.1 i.2)

  -- ---- GATES STAND

  kept_gates : {A : Type 0} (s : Stage) (r : Run A) → KeptAt true s r → Begins s.gates (stage_of r).gates
  kept_gates s (Ok x) h = h.gates
  kept_gates s (Err e) h = h.1.gates

  opening_onward : (d r : ℕ) (m : Machine) → Onward w (step w c (Some (Declassify d r)) m)
  unfolding is_onward
  opening_onward d r m =
      onward_bind (declassified_holds w w (is_onward w) (onward_law w) (m.registers r)) (λ v. onward_done (next d v m))

  pub gates_stand : (o : Option Step) (m : Machine) (s : Stage) → Begins s.gates (stage_of (step w c o m s)).gates
  gates_stand o m s = by (quiet_or_opening w c m o)
    where
      by : (Quiet true (step w c o m) ⊎ IsOpening o) → Begins s.gates (stage_of (step w c o m s)).gates
      by (inl q) = kept_gates s (step w c o m s) (q.from s)
      by (inr i) =
          subst (λ o. Begins s.gates (stage_of (step w c o m s)).gates) (sym i.2) ((opening_onward i.0 i.1 m).from s).gates
