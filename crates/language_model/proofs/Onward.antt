-- What a run has done stays: its budget only shrinks, it draws no more words than there are, and what was told or opened stands.
use Rattle.std.proofs.Common.{◌≡◌, ℕ, ◌+◌, ◌-◌, ◌≤◌, List, [], ◌∷◌, ◌++◌, Bool, true, false, cond, Ok, Err, refl, sym, ◌∙◌, ap, arith, append_assoc, append-nil}
use Rattle.std.specs.Prelude.{nat_le, length, take, drop}
use Rattle.std.proofs.lemmas.Bool.{leb-true}
use Rattle.sc_text.specs.declared.end.Ending.{Ending}
use Rattle.sc_text.specs.declared.end.Ending.TheVariants.{Budget, Tape}
use Rattle.sc_text.specs.declared.end.TrapKind.{TrapKind}
use Rattle.sc_text.specs.declared.end.TapeOwner.{TapeOwner}
use Rattle.sc_text.specs.declared.end.TapeOwner.TheVariants.{Miner1, Miner2, Miner3}
use Rattle.sc_text.specs.declared.event.Event.{Event}
use Rattle.sc_text.specs.declared.event.Event.TheVariants as event
use Rattle.plans.specs.Gate.{Gate}
use Rattle.reached_instances.specs.TypedPrograms.{TypedProgramTree}
use Rattle.reached_instances.specs.Shape.{Shape}
use Rattle.language_model.specs.Effects.{Words, World, Stage, Ended, Short, Run, Effect, ◌>>=◌, carry, done, end, charge, test, with_more, fits, draw}
use Rattle.language_model.specs.Effects.{gate, next_number, put_gates, emit, next_answers, show}
use Rattle.language_model.specs.Beginnings.{Begins}
use Rattle.language_model.specs.Tapes.{AtMost}
use Rattle.language_model.specs.Values.{Value, elements_of, plain}
use Rattle.language_model.specs.Operations.{read_answer, publication}
use Rattle.language_model.specs.Evaluation.{Frame, Flow, turns, repeats}
use Rattle.language_model.proofs.Loops.{IsFlow, turns_flow, repeats_flow}
use Rattle.language_model.proofs.Walk.{IsLaw, main_of, program_holds, told_open}

abbrev pub stage_of : {A : Type 0} → Run A → Stage
stage_of (Ok x) = x.1
stage_of (Err e) = e.1

at_most_same : (a : Words) → AtMost a a
at_most_same a = (omega arith, omega arith, omega arith)

pub at_most_then : (a b c : Words) → AtMost a b → AtMost b c → AtMost a c
at_most_then a b c h k = (omega (arith, h, k), omega (arith, h, k), omega (arith, h, k))

pub begins_none : {A : Type 0} (xs ys : List A) → ys ≡ xs → Begins xs ys
begins_none xs ys e = ([], e ∙ sym (append-nil xs))

pub begins_then : {A : Type 0} (xs ys zs : List A) → Begins xs ys → Begins ys zs → Begins xs zs
begins_then xs ys zs h k = (h.0 ++ k.0, k.1 ∙ ap (λ z. z ++ k.0) h.1 ∙ append_assoc xs h.0 k.0)

pub record Went (w : World) (s u : Stage) : Type 0 where
  pub left : u.left ≤ s.left
  pub drawn : AtMost s.drawn u.drawn
  pub tapes : AtMost s.drawn w.lengths → AtMost u.drawn w.lengths
  pub events : Begins s.events u.events
  pub opened : Begins s.opened u.opened
  pub gates : Begins s.gates u.gates

went_same : (w : World) (s u : Stage) → u.left ≤ s.left → u.drawn ≡ s.drawn → u.events ≡ s.events → u.opened ≡ s.opened → u.gates ≡ s.gates → Went w s u
went_same w s u l d e o g =
    record {
      left = l;
      drawn = (omega (arith, ap (λ z. z.first) d), omega (arith, ap (λ z. z.second) d), omega (arith, ap (λ z. z.third) d));
      tapes =
          λ h. (omega (arith, h, ap (λ z. z.first) d), omega (arith, h, ap (λ z. z.second) d), omega (arith, h, ap (λ z. z.third) d));
      events =
          begins_none s.events u.events e;
      opened = begins_none s.opened u.opened o;
      gates = begins_none s.gates u.gates g;
    }

went_none : (w : World) (s : Stage) → Went w s s
went_none w s = went_same w s s (omega arith) refl refl refl refl

pub went_then : (w : World) (s t u : Stage) → Went w s t → Went w t u → Went w s u
went_then w s t u a b =
    record {
      left = omega (arith, a.left, b.left);
      drawn = at_most_then s.drawn t.drawn u.drawn a.drawn b.drawn;
      tapes =
          λ h. b.tapes (a.tapes h);
      events = begins_then s.events t.events u.events a.events b.events;
      opened =
          begins_then s.opened t.opened u.opened a.opened b.opened;
      gates = begins_then s.gates t.gates u.gates a.gates b.gates;
    }

pub record Onward (w : World) {A : Type 0} (m : Effect A) : Type 0 where
  pub from : (s : Stage) → Went w s (stage_of (m s))

pub onward_bind : {w : World} {A B : Type 0} {m : Effect A} {f : A → Effect B} → Onward w m → ((a : A) → Onward w (f a)) → Onward w (m >>= f)
onward_bind {w = w} {A = A} {m = m} {f = f} h k = record { from = λ s. go s (m s) (h.from s) }
  where
    go : (s : Stage) (r : Run A) → Went w s (stage_of r) → Went w s (stage_of (carry r f))
    go s (Ok x) g = went_then w s x.1 (stage_of (f x.0 x.1)) g ((k x.0).from x.1)
    go s (Err e) g = g

pub onward_done : {w : World} {A : Type 0} (a : A) → Onward w (done a)
onward_done {w = w} a = record { from = λ s. went_none w s }

pub onward_end : {w : World} {A : Type 0} (e : Ending) → Onward w (end {A = A} e)
onward_end {w = w} e = record { from = λ s. went_none w s }

went_if : {A : Type 0} (w : World) (s : Stage) (c : Bool) (a b : Run A) → Went w s (stage_of a) → Went w s (stage_of b) → Went w s (stage_of (cond c a b))
went_if w s true a b h k = h
went_if w s false a b h k = k

pub onward_charge : {w : World} (n : ℕ) → Onward w (charge n)
onward_charge {w = w} n =
    record {
      from = λ s. went_if w s (nat_le n s.left) (Ok (tt, record s { left = s.left - n })) (Err (Ended Budget, s))
          (went_same w s (record s { left = s.left - n }) (omega arith) refl refl refl refl) (went_none w s);
    }

pub onward_test : {w : World} (b : Bool) (kind : TrapKind) (line : ℕ) → Onward w (test b kind line)
onward_test {w = w} true kind line = record { from = λ s. went_none w s }
onward_test {w = w} false kind line = record { from = λ s. went_none w s }

-- ---- words are drawn where the tapes have them

fits_then : {B : Type 0} (w : World) (owner : TapeOwner) (need have : ℕ) (f : Unit {0} → Effect B) (s : Stage)
    → (need ≤ have → Went w s (stage_of (f tt s))) → Went w s (stage_of (carry (fits owner need have s) f))
fits_then w owner need have f s k = go (nat_le need have) refl
  where
    go : (c : Bool) → nat_le need have ≡ c → Went w s (stage_of (carry (cond c (Ok (tt, s)) (Err (Ended (Tape owner need have), s))) f))
    go true e = k (leb-true need have e)
    go false e = went_none w s

pub onward_draw : (w : World) (n : Words) → Onward w (draw w n)
onward_draw w n = record {
  from = λ s. fits_then w Miner1 (s.drawn.first + n.first) w.lengths.first _ s
      (λ a. fits_then w Miner2 (s.drawn.second + n.second) w.lengths.second _ s
      (λ b. fits_then w Miner3 (s.drawn.third + n.third) w.lengths.third _ s (λ c. drawn s a b c)));
}
  where
    drawn : (s : Stage) → s.drawn.first + n.first ≤ w.lengths.first → s.drawn.second + n.second ≤ w.lengths.second
        → s.drawn.third + n.third ≤ w.lengths.third → Went w s (record s { drawn = with_more s.drawn n })
    drawn s a b c = record {
      left = omega arith;
      drawn = (omega arith, omega arith, omega arith);
      tapes = λ h. (a, b, c);
      events =
          begins_none s.events s.events refl;
      opened = begins_none s.opened s.opened refl;
      gates = begins_none s.gates s.gates refl;
    }

-- ---- gates, and what is told

pub onward_gate : {w : World} (g : Gate) → Onward w (gate g)
onward_gate {w = w} g = record {
  from =
      λ s. record {
        left = omega arith;
        drawn = at_most_same s.drawn;
        tapes = λ h. h;
        events = begins_none s.events s.events refl;
        opened =
            begins_none s.opened s.opened refl;
        gates = (g ∷ [], refl);
      };
}

pub onward_number : {w : World} → Onward w next_number
onward_number {w = w} = record { from = λ s. went_none w s }

pub onward_gates : {w : World} (gs : List Gate) → Onward w (put_gates gs)
onward_gates {w = w} gs = record {
  from =
      λ s. record {
        left = omega arith;
        drawn = at_most_same s.drawn;
        tapes = λ h. h;
        events = begins_none s.events s.events refl;
        opened =
            begins_none s.opened s.opened refl;
        gates = (gs, refl);
      };
}

pub onward_emit : {w : World} (e : Event) → Onward w (emit e)
onward_emit {w = w} e =
    record {
      from = λ s. record {
        left = omega arith;
        drawn = at_most_same s.drawn;
        tapes = λ h. h;
        events = (e ∷ [], refl);
        opened =
            begins_none s.opened s.opened refl;
        gates = begins_none s.gates s.gates refl;
      };
    }

pub onward_answers : {w : World} (n : ℕ) → Onward w (next_answers n)
onward_answers {w = w} n =
    record {
      from = λ s. went_if w s (nat_le n (length s.answers)) (Ok (take n s.answers, record s { answers = drop n s.answers })) (Err (Short, s))
          (went_same w s (record s { answers = drop n s.answers }) (omega arith) refl refl refl refl) (went_none w s);
    }

pub onward_show : {w : World} (words : List ℕ) → Onward w (show words)
onward_show {w = w} words =
    record {
      from = λ s. record {
        left = omega arith;
        drawn = at_most_same s.drawn;
        tapes = λ h. h;
        events =
            begins_none s.events s.events refl;
        opened = (words, refl);
        gates = begins_none s.gates s.gates refl;
      };
    }

pub onward_told : {w : World} (shape : Shape) (words : List ℕ) → Onward w (told_open shape words)
onward_told shape words =
    let shown = read_answer shape.element words in
    onward_bind (onward_show shown) (λ _. onward_bind (onward_emit (event.Open (elements_of (plain shape shown)))) (λ _. onward_done (plain shape shown)))

-- ---- whole programs

unfoldable pub is_onward : World → (A : Type 0) → Effect A → Effect A → Type 0
is_onward w A m m' = Onward w m

onward_flow : (w : World) → IsFlow (is_onward w)
unfolding is_onward
onward_flow w = record { bind = onward_bind; on_done = onward_done; on_end = onward_end; on_charge = onward_charge }

pub turns_onward : (w : World) (n : ℕ) (condition : Frame → Effect Value) (step body : Frame → Effect Flow) → ((fr : Frame) → Onward w (condition fr))
    → ((fr : Frame) → Onward w (step fr)) → ((fr : Frame) → Onward w (body fr)) → (fr : Frame) → Onward w (turns n condition step body fr)
unfolding is_onward
turns_onward w n c st b hc hs hb fr =
    turns_flow (is_onward w) (onward_flow w) n {condition = c} {condition' = c} {step = st} {step' = st} {body = b} {body' = b} hc hs hb fr

pub repeats_onward : (w : World) (n : ℕ) (condition : Frame → Effect Value) (body : Frame → Effect Flow) → ((fr : Frame) → Onward w (condition fr))
    → ((fr : Frame) → Onward w (body fr)) → (fr : Frame) → Onward w (repeats n condition body fr)
unfolding is_onward
repeats_onward w n c b hc hb fr = repeats_flow (is_onward w) (onward_flow w) n {condition = c} {condition' = c} {body = b} {body' = b} hc hb fr

pub onward_turns : (w : World) {condition : Frame → Effect Value} {step body : Frame → Effect Flow} → ((fr : Frame) → Onward w (condition fr))
    → ((fr : Frame) → Onward w (step fr)) → ((fr : Frame) → Onward w (body fr)) → (fr : Frame) → Onward w (λ s. turns (s.left + 1) condition step body fr s)
onward_turns w hc hs hb fr = record { from = λ s. (turns_onward w (s.left + 1) _ _ _ hc hs hb fr).from s }

pub onward_repeats : (w : World) {condition : Frame → Effect Value} {body : Frame → Effect Flow} → ((fr : Frame) → Onward w (condition fr))
    → ((fr : Frame) → Onward w (body fr)) → (fr : Frame) → Onward w (λ s. repeats (s.left + 1) condition body fr s)
onward_repeats w hc hb fr = record { from = λ s. (repeats_onward w (s.left + 1) _ _ hc hb fr).from s }

pub onward_law : (w : World) → IsLaw w w (is_onward w)
unfolding is_onward
onward_law w = record {
  source = refl;
  inputs = refl;
  bind = onward_bind;
  on_done = onward_done;
  on_end = onward_end;
  on_charge = onward_charge;
  on_test = onward_test;
  on_draw = onward_draw w;
  on_gate = onward_gate;
  on_number = onward_number;
  on_gates = onward_gates;
  on_publish = λ x e text elements. onward_emit (publication x e text elements);
  on_answers = onward_answers;
  on_told = onward_told;
  on_turns = onward_turns w;
  on_repeats = onward_repeats w;
}

pub program_onward : (w : World) (p : TypedProgramTree) → Onward w (main_of w p)
unfolding is_onward
program_onward w p = program_holds w w (is_onward w) (onward_law w) p
