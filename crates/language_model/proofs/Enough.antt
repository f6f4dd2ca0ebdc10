-- Two runs of which neither lacks words do the same, whatever tapes they have.
use Rattle.std.proofs.Common.{◌≡◌, ℕ, ◌+◌, ◌≤◌, Bool, true, false, cond, Ok, Err, refl, sym, ◌∙◌, ap, subst}
use Rattle.std.specs.Prelude.{nat_le}
use Rattle.std.proofs.lemmas.Bool.{le-leb}
use Rattle.sc_text.specs.declared.end.Ending.TheVariants.{Tape}
use Rattle.sc_text.specs.declared.end.TapeOwner.{TapeOwner}
use Rattle.sc_text.specs.declared.end.TapeOwner.TheVariants.{Miner1, Miner2, Miner3}
use Rattle.reached_instances.specs.TypedPrograms.{TypedProgramTree}
use Rattle.language_model.specs.Effects.{Words, World, Stage, Ended, Run, Effect, ◌>>=◌, carry, with_more, fits, take_words, draw}
use Rattle.language_model.specs.Values.{Value}
use Rattle.language_model.specs.Operations.{publication}
use Rattle.language_model.specs.Evaluation.{Frame, Flow, turns, repeats}
use Rattle.language_model.specs.Tapes.{AtMost, lacks_words}
use Rattle.language_model.proofs.Loops.{IsFlow, turns_flow, repeats_flow}
use Rattle.language_model.proofs.Walk.{IsLaw, main_of, program_holds}
use Rattle.language_model.proofs.Onward.{stage_of, at_most_then, Onward, onward_bind, onward_done, onward_end, onward_charge, onward_test}
use Rattle.language_model.proofs.Onward.{onward_draw, onward_gate, onward_number, onward_gates, onward_emit, onward_answers, onward_told}
use Rattle.language_model.proofs.Onward.{onward_turns, onward_repeats}

abbrev pub lacks : {A : Type 0} → Run A → Bool
lacks (Ok x) = false
lacks (Err e) = lacks_words e.0

-- the second run does what the first one does, if its tapes suffice for the first or it lacks no words itself
pub record Enough (w w' : World) {A : Type 0} (m m' : Effect A) : Type 0 where
  pub before : Onward w m
  pub longer : (s : Stage) → lacks (m s) ≡ false → AtMost (stage_of (m s)).drawn w'.lengths → m' s ≡ m s
  pub neither : (s : Stage) → lacks (m s) ≡ false → lacks (m' s) ≡ false → m' s ≡ m s

enough_bind : {w w' : World} {A B : Type 0} {m m' : Effect A} {f f' : A → Effect B} → Enough w w' m m' → ((a : A) → Enough w w' (f a) (f' a))
    → Enough w w' (m >>= f) (m' >>= f')
enough_bind {w = w} {w' = w'} {A = A} {m = m} {m' = m'} {f = f} {f' = f'} h j = record {
  before = onward_bind h.before (λ a. (j a).before);
  longer = λ s. longer_on s (m s) (h.longer s);
  neither = λ s. neither_on s (m s) (m' s) (h.neither s);
}
  where
    longer_on : (s : Stage) (r : Run A) → (lacks r ≡ false → AtMost (stage_of r).drawn w'.lengths → m' s ≡ r) → lacks (carry r f) ≡ false
        → AtMost (stage_of (carry r f)).drawn w'.lengths → carry (m' s) f' ≡ carry r f
    longer_on s (Ok x) h n a =
        let grown = ((j x.0).before.from x.1).drawn in
        ap (λ z. carry z f') (h refl (at_most_then x.1.drawn (stage_of (f x.0 x.1)).drawn w'.lengths grown a)) ∙ (j x.0).longer x.1 n a
    longer_on s (Err e) h n a = ap (λ z. carry z f') (h n a)

    first_had : (r : Run A) → lacks (carry r f') ≡ false → lacks r ≡ false
    first_had (Ok x) n = refl
    first_had (Err e) n = n

    neither_on : (s : Stage) (r r' : Run A) → (lacks r ≡ false → lacks r' ≡ false → r' ≡ r) → lacks (carry r f) ≡ false → lacks (carry r' f') ≡ false
        → carry r' f' ≡ carry r f
    neither_on s (Ok x) r' h n n' =
        let same : r' ≡ Ok x = h refl (first_had r' n') in
        ap (λ z. carry z f') same ∙ (j x.0).neither x.1 n (subst (λ z. lacks (carry z f') ≡ false) same n')
    neither_on s (Err e) r' h n n' = ap (λ z. carry z f') (h n (first_had r' n'))

-- a step that has nothing to do with tapes
enough_same : {w w' : World} {A : Type 0} {m : Effect A} → Onward w m → Enough w w' m m
enough_same h = record { before = h; longer = λ s n a. refl; neither = λ s n n'. refl }

-- ---- words are drawn

fits_had : {B : Type 0} (owner : TapeOwner) (need have : ℕ) (f : Unit {0} → Effect B) (s : Stage) → lacks (carry (fits owner need have s) f) ≡ false
    → carry (fits owner need have s) f ≡ f tt s
fits_had {B = B} owner need have f s = go (nat_le need have)
  where
    go : (c : Bool) → lacks (carry {A = Unit {0}} (cond c (Ok (tt, s)) (Err (Ended (Tape owner need have), s))) f) ≡ false
        → ◌≡◌ {A = Run B} (carry {A = Unit {0}} (cond c (Ok (tt, s)) (Err (Ended (Tape owner need have), s))) f) (f tt s)
    go true n = refl
    go false n = cc

fits_has : {B : Type 0} (owner : TapeOwner) (need have : ℕ) (f : Unit {0} → Effect B) (s : Stage) → need ≤ have → carry (fits owner need have s) f ≡ f tt s
fits_has owner need have f s l = ap (λ c. carry {A = Unit {0}} (cond c (Ok (tt, s)) (Err (Ended (Tape owner need have), s))) f) (le-leb need have l)

module _ (w : World) (n : Words) (s : Stage) where
  third : Effect (Unit {0})
  third = fits Miner3 (s.drawn.third + n.third) w.lengths.third >>= λ _. take_words n

  second : Effect (Unit {0})
  second = fits Miner2 (s.drawn.second + n.second) w.lengths.second >>= λ _. third

  drawn : Run (Unit {0})
  drawn = Ok (tt, record s { drawn = with_more s.drawn n })

  draw_has : AtMost (with_more s.drawn n) w.lengths → draw w n s ≡ drawn
  unfolding third second drawn
  draw_has a =
      fits_has Miner1 (s.drawn.first + n.first) w.lengths.first (λ _. second) s a.0
      ∙ fits_has Miner2 (s.drawn.second + n.second) w.lengths.second (λ _. third) s a.1
      ∙ fits_has Miner3 (s.drawn.third + n.third) w.lengths.third (λ _. take_words n) s a.2

  draw_had : lacks (draw w n s) ≡ false → draw w n s ≡ drawn
  unfolding third second drawn
  draw_had h =
      let one : draw w n s ≡ second s = fits_had Miner1 (s.drawn.first + n.first) w.lengths.first (λ _. second) s h in
      let two : second s ≡ third s = fits_had Miner2 (s.drawn.second + n.second) w.lengths.second (λ _. third) s (subst (λ z. lacks z ≡ false) one h) in
      let three : third s ≡ drawn = fits_had Miner3 (s.drawn.third + n.third) w.lengths.third (λ _. take_words n) s
      (subst (λ z. lacks z ≡ false) (one ∙ two) h) in
      one ∙ two ∙ three

enough_draw : (w w' : World) (n : Words) → Enough w w' (draw w n) (draw w' n)
unfolding drawn
enough_draw w w' n = record {
  before = onward_draw w n;
  longer = λ s h a. let had = draw_had w n s h in draw_has w' n s (subst (λ z. AtMost (stage_of z).drawn w'.lengths) had a) ∙ sym had;
  neither = λ s h h'. draw_had w' n s h' ∙ sym (draw_had w n s h);
}

-- ---- whole programs

pub is_enough : (w w' : World) → (A : Type 0) → Effect A → Effect A → Type 0
is_enough w w' A m m' = Enough w w' m m'

enough_flow : (w w' : World) → IsFlow (is_enough w w')
unfolding is_enough
enough_flow w w' = record {
  bind = enough_bind;
  on_done = λ a. enough_same (onward_done a);
  on_end = λ e. enough_same (onward_end e);
  on_charge =
      λ n. enough_same (onward_charge n);
}

enough_turns : (w w' : World) {condition condition' : Frame → Effect Value} {step step' body body' : Frame → Effect Flow}
    → ((fr : Frame) → Enough w w' (condition fr) (condition' fr)) → ((fr : Frame) → Enough w w' (step fr) (step' fr))
    → ((fr : Frame) → Enough w w' (body fr) (body' fr)) → (fr : Frame)
    → Enough w w' (λ s. turns (s.left + 1) condition step body fr s) (λ s. turns (s.left + 1) condition' step' body' fr s)
unfolding is_enough
enough_turns w w' hc hs hb fr = record {
  before = onward_turns w (λ f. (hc f).before) (λ f. (hs f).before) (λ f. (hb f).before) fr;
  longer = λ s. (turns_flow (is_enough w w') (enough_flow w w') (s.left + 1) hc hs hb fr).longer s;
  neither = λ s. (turns_flow (is_enough w w') (enough_flow w w') (s.left + 1) hc hs hb fr).neither s;
}

enough_repeats : (w w' : World) {condition condition' : Frame → Effect Value} {body body' : Frame → Effect Flow}
    → ((fr : Frame) → Enough w w' (condition fr) (condition' fr)) → ((fr : Frame) → Enough w w' (body fr) (body' fr)) → (fr : Frame)
    → Enough w w' (λ s. repeats (s.left + 1) condition body fr s) (λ s. repeats (s.left + 1) condition' body' fr s)
unfolding is_enough
enough_repeats w w' hc hb fr = record {
  before = onward_repeats w (λ f. (hc f).before) (λ f. (hb f).before) fr;
  longer = λ s. (repeats_flow (is_enough w w') (enough_flow w w') (s.left + 1) hc hb fr).longer s;
  neither = λ s. (repeats_flow (is_enough w w') (enough_flow w w') (s.left + 1) hc hb fr).neither s;
}

enough_law : (w w' : World) → w.source ≡ w'.source → w.inputs ≡ w'.inputs → IsLaw w w' (is_enough w w')
unfolding is_enough
enough_law w w' source inputs = record {
  source = source;
  inputs = inputs;
  bind = enough_bind;
  on_done = λ a. enough_same (onward_done a);
  on_end = λ e. enough_same (onward_end e);
  on_charge = λ n. enough_same (onward_charge n);
  on_test = λ b kind line. enough_same (onward_test b kind line);
  on_draw = enough_draw w w';
  on_gate = λ g. enough_same (onward_gate g);
  on_number = enough_same onward_number;
  on_gates = λ gs. enough_same (onward_gates gs);
  on_publish = λ x e text elements. enough_same (onward_emit (publication x e text elements));
  on_answers = λ n. enough_same (onward_answers n);
  on_told = λ shape words. enough_same (onward_told shape words);
  on_turns = enough_turns w w';
  on_repeats = enough_repeats w w';
}

pub program_enough : (w w' : World) → w.source ≡ w'.source → w.inputs ≡ w'.inputs → (p : TypedProgramTree) → Enough w w' (main_of w p) (main_of w' p)
unfolding is_enough
program_enough w w' source inputs p = program_holds w w' (is_enough w w') (enough_law w w' source inputs) p
