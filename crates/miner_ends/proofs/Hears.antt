-- Effects that do the same where they are told more words than they take, and leave those.
use Rattle.std.proofs.Common.{◌≡◌, ℕ, ◌+◌, ◌-◌, ◌≤◌, List, ◌++◌, Bool, true, false, cond, Ok, Err, refl, sym, ap, ◌∙◌, subst, arith, length-append}
use Rattle.std.specs.Prelude.{length, nat_le, take, drop}
use Rattle.std.proofs.lemmas.Bool.{leb-true, le-leb}
use Rattle.std.proofs.lemmas.List.{take-append-le, drop-append-le}
use Rattle.sc_text.specs.declared.end.Ending.{Ending}
use Rattle.sc_text.specs.declared.end.Ending.TheVariants.{Budget, Tape}
use Rattle.sc_text.specs.declared.end.TrapKind.{TrapKind}
use Rattle.sc_text.specs.declared.end.TapeOwner.{TapeOwner}
use Rattle.sc_text.specs.declared.end.TapeOwner.TheVariants.{Miner1, Miner2, Miner3}
use Rattle.sc_text.specs.declared.event.Event.{Event}
use Rattle.gates.specs.declared.gate.Gate.{Gate}
use Rattle.program_trees.specs.declared.kinds.Shape.{Shape}
use Rattle.language_model.specs.Effects.{Words, World, Stage, RunStop, Ended, Short, Run, Effect, ◌>>=◌, carry, done, end, charge, test, fits, draw}
use Rattle.language_model.specs.Effects.{drawn_yet, gate, next_number, put_gates, emit, next_answers}
use Rattle.language_model.specs.Values.{Value}
use Rattle.language_model.specs.Operations.{publication}
use Rattle.language_model.specs.Evaluation.{Frame, Flow, turns, repeats}
use Rattle.language_model.proofs.Loops.{IsFlow, turns_flow, repeats_flow}
use Rattle.language_model.proofs.Walk.{IsLaw, told_open}

-- the same stage, told more words
abbrev pub longer : List ℕ → Stage → Stage
longer more s = record s { answers = s.answers ++ more }

abbrev pub EndsSo : {A : Type 0} → List ℕ → RunStop → Stage → Run A → Type 0
EndsSo more (Ended e) u r = r ≡ Err (Ended e, longer more u)
EndsSo more Short u r = Unit {0}

abbrev pub HearsAt : {A : Type 0} → List ℕ → Run A → Run A → Type 0
HearsAt more (Ok x) r = r ≡ Ok (x.0, longer more x.1)
HearsAt more (Err e) r = EndsSo more e.0 e.1 r

pub record Hears {A : Type 0} (m m' : Effect A) : Type 0 where
  pub from : (s : Stage) (more : List ℕ) → HearsAt more (m s) (m' (longer more s))

pub hears_bind : {A B : Type 0} {m m' : Effect A} {f f' : A → Effect B} → Hears m m' → ((a : A) → Hears (f a) (f' a)) → Hears (m >>= f) (m' >>= f')
hears_bind {A = A} {B = B} {m = m} {m' = m'} {f = f} {f' = f'} h k =
    record { from = λ s more. go more (m s) (m' (longer more s)) (h.from s more) }
  where
    stop : (more : List ℕ) (stop : RunStop) (u : Stage) (r : Run A) → EndsSo {A = A} more stop u r → EndsSo {A = B} more stop u (carry r f')
    stop more (Ended e) u r h = ap (λ z. carry z f') h
    stop more Short u r h = tt

    go : (more : List ℕ) (r q : Run A) → HearsAt more r q → HearsAt more (carry r f) (carry q f')
    go more (Ok x) q e = subst (λ z. HearsAt more (f x.0 x.1) (carry z f')) (sym e) ((k x.0).from x.1 more)
    go more (Err e) q h = stop more e.0 e.1 q h

pub hears_done : {A : Type 0} (a : A) → Hears (done a) (done a)
hears_done a = record { from = λ s more. refl }

pub hears_end : {A : Type 0} (e : Ending) → Hears (end {A = A} e) (end {A = A} e)
hears_end e = record { from = λ s more. refl }

hears_if : {A : Type 0} (more : List ℕ) (b : Bool) (x y x' y' : Run A) → HearsAt more x x' → HearsAt more y y' → HearsAt more (cond b x y) (cond b x' y')
hears_if more true x y x' y' h k = h
hears_if more false x y x' y' h k = k

pub hears_charge : (n : ℕ) → Hears (charge n) (charge n)
hears_charge n =
    record {
      from = λ s more.
          hears_if more (nat_le n s.left) (Ok (tt {0}, record s { left = s.left - n })) (Err (Ended Budget, s))
          (Ok (tt {0}, record s { left = s.left - n; answers = s.answers ++ more })) (Err (Ended Budget, longer more s)) refl refl;
    }

pub hears_test : (b : Bool) (kind : TrapKind) (line : ℕ) → Hears (test b kind line) (test b kind line)
hears_test true kind line = record { from = λ s more. refl }
hears_test false kind line = record { from = λ s more. refl }

hears_fits : (owner : TapeOwner) (need have : ℕ) → Hears (fits owner need have) (fits owner need have)
hears_fits owner need have =
    record {
      from = λ s more.
          hears_if more (nat_le need have) (Ok (tt {0}, s)) (Err (Ended (Tape owner need have), s))
          (Ok (tt {0}, longer more s)) (Err (Ended (Tape owner need have), longer more s)) refl refl;
    }

hears_draw : (w : World) (n : Words) → Hears (draw w n) (draw w n)
hears_draw w n =
    hears_bind {m = drawn_yet} {m' = drawn_yet} (record { from = λ s more. refl }) (λ d.
    hears_bind (hears_fits Miner1 (d.first + n.first) w.lengths.first) (λ _.
    hears_bind (hears_fits Miner2 (d.second + n.second) w.lengths.second) (λ _.
    hears_bind (hears_fits Miner3 (d.third + n.third) w.lengths.third) (λ _.
    record { from = λ s more. refl }))))

hears_gate : (g : Gate) → Hears (gate g) (gate g)
hears_gate g = record { from = λ s more. refl }

hears_number : Hears next_number next_number
hears_number = record { from = λ s more. refl }

hears_gates : (gs : List Gate) → Hears (put_gates gs) (put_gates gs)
hears_gates gs = record { from = λ s more. refl }

hears_emit : (e : Event) → Hears (emit e) (emit e)
hears_emit e = record { from = λ s more. refl }

hears_told : (shape : Shape) (words : List ℕ) → Hears (told_open shape words) (told_open shape words)
hears_told shape words = record { from = λ s more. refl }

abbrev taken_of : ℕ → Stage → List ℕ → Bool → Run (List ℕ)
taken_of n s words b = cond b (Ok (take n words, record s { answers = drop n words })) (Err (Short, record s { answers = words }))

-- those that are there are taken
hears_answers : (n : ℕ) → Hears (next_answers n) (next_answers n)
hears_answers n = record { from = λ s more. go s more (nat_le n (length s.answers)) refl }
  where
    go : (s : Stage) (more : List ℕ) (b : Bool) → nat_le n (length s.answers) ≡ b
        → HearsAt more (taken_of n s s.answers b) (taken_of n s (s.answers ++ more) (nat_le n (length (s.answers ++ more))))
    go s more true e =
        let le : n ≤ length s.answers = leb-true n (length s.answers) e in
        let both : length (s.answers ++ more) ≡ length s.answers + length more = length-append s.answers more in
        let enough : n ≤ length (s.answers ++ more) = omega (arith, le, both) in
        ap (taken_of n s (s.answers ++ more)) (le-leb n (length (s.answers ++ more)) enough)
        ∙ ap (λ ws. Ok (ws, record s { answers = drop n (s.answers ++ more) })) (take-append-le n s.answers more le)
        ∙ ap (λ ws. Ok (take n s.answers, record s { answers = ws })) (drop-append-le n s.answers more le)
    go s more false e = tt

-- ---- the law of rows

unfoldable pub is_hearing : (A : Type 0) → Effect A → Effect A → Type 0
is_hearing A m m' = Hears m m'

hears_flow : IsFlow is_hearing
unfolding is_hearing
hears_flow = record { bind = hears_bind; on_done = hears_done; on_end = hears_end; on_charge = hears_charge }

turns_hear : (n : ℕ) (condition condition' : Frame → Effect Value) (step step' body body' : Frame → Effect Flow)
    → ((fr : Frame) → Hears (condition fr) (condition' fr)) → ((fr : Frame) → Hears (step fr) (step' fr)) → ((fr : Frame) → Hears (body fr) (body' fr))
    → (fr : Frame) → Hears (turns n condition step body fr) (turns n condition' step' body' fr)
unfolding is_hearing
turns_hear n c c' st st' b b' hc hs hb fr =
    turns_flow is_hearing hears_flow n {condition = c} {condition' = c'} {step = st} {step' = st'} {body = b} {body' = b'} hc hs hb fr

repeats_hear : (n : ℕ) (condition condition' : Frame → Effect Value) (body body' : Frame → Effect Flow)
    → ((fr : Frame) → Hears (condition fr) (condition' fr)) → ((fr : Frame) → Hears (body fr) (body' fr))
    → (fr : Frame) → Hears (repeats n condition body fr) (repeats n condition' body' fr)
unfolding is_hearing
repeats_hear n c c' b b' hc hb fr =
    repeats_flow is_hearing hears_flow n {condition = c} {condition' = c'} {body = b} {body' = b'} hc hb fr

hears_turns : {condition condition' : Frame → Effect Value} {step step' body body' : Frame → Effect Flow}
    → ((fr : Frame) → Hears (condition fr) (condition' fr)) → ((fr : Frame) → Hears (step fr) (step' fr)) → ((fr : Frame) → Hears (body fr) (body' fr))
    → (fr : Frame) → Hears (λ s. turns (s.left + 1) condition step body fr s) (λ s. turns (s.left + 1) condition' step' body' fr s)
hears_turns hc hs hb fr = record { from = λ s more. (turns_hear (s.left + 1) _ _ _ _ _ _ hc hs hb fr).from s more }

hears_repeats : {condition condition' : Frame → Effect Value} {body body' : Frame → Effect Flow}
    → ((fr : Frame) → Hears (condition fr) (condition' fr)) → ((fr : Frame) → Hears (body fr) (body' fr))
    → (fr : Frame) → Hears (λ s. repeats (s.left + 1) condition body fr s) (λ s. repeats (s.left + 1) condition' body' fr s)
hears_repeats hc hb fr = record { from = λ s more. (repeats_hear (s.left + 1) _ _ _ _ hc hb fr).from s more }

pub hears_law : (w : World) → IsLaw w w is_hearing
unfolding is_hearing
hears_law w =
    record {
      source = refl;
      inputs = refl;
      bind = hears_bind;
      on_done = hears_done;
      on_end = hears_end;
      on_charge = hears_charge;
      on_test = hears_test;
      on_draw = hears_draw w;
      on_gate = hears_gate;
      on_number = hears_number;
      on_gates = hears_gates;
      on_publish = λ x e text elements. hears_emit (publication x e text elements);
      on_answers = hears_answers;
      on_told = hears_told;
      on_turns = hears_turns;
      on_repeats = hears_repeats;
    }
