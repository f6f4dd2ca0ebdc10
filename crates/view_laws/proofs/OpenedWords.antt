-- What a run opens is what it tells: step by step, the words that are opened are those of the openings among its events.
use Rattle.std.proofs.Common.{◌≡◌, ℕ, ◌+◌, ◌-◌, ◌<◌, ◌%◌, ◌^◌, zero, suc, List, [], ◌∷◌, ◌++◌, Bool, true, false, cond, Ok, Err, refl, sym, ◌∙◌, ap, map}
use Rattle.std.proofs.Common.{arith, append-nil}
use Rattle.std.specs.Prelude.{nat_le, nat_lt, length, take, drop}
use Rattle.std.proofs.lemmas.Bool.{leb-true, ltb-true}
use Rattle.std.proofs.lemmas.Grind.{flat_map-append}
use Rattle.std.proofs.Math.Nat.{mod-lt}
use Rattle.sc_text.specs.declared.elements.Element.{Element}
use Rattle.sc_text.specs.declared.end.Ending.{Ending}
use Rattle.sc_text.specs.declared.end.Ending.TheVariants.{Budget, Tape}
use Rattle.sc_text.specs.declared.end.TrapKind.{TrapKind}
use Rattle.sc_text.specs.declared.end.TapeOwner.{TapeOwner}
use Rattle.sc_text.specs.declared.end.TapeOwner.TheVariants.{Miner1, Miner2, Miner3}
use Rattle.sc_text.specs.declared.event.Event.{Event}
use Rattle.sc_text.specs.declared.event.Event.TheVariants as event
use Rattle.sc_text.specs.Elements.{element_word}
use Rattle.program_trees.specs.declared.expression.DataType.{DataType}
use Rattle.program_trees.specs.declared.expression.DataType.TheVariants as datatype
use Rattle.program_trees.specs.declared.kinds.Shape.{Shape}
use Rattle.program_trees.specs.TypedPrograms.{TypedProgramTree}
use Rattle.language_model.specs.Effects.{Words, World, Stage, Ended, Short, Run, Effect, ◌>>=◌, carry, done, end, charge, test, fits, draw}
use Rattle.language_model.specs.Effects.{emit, next_answers}
use Rattle.language_model.specs.Values.{Secrecy, Plain, Private, Value, element_of, elements_of, plain, printed_kind}
use Rattle.language_model.specs.Operations.{read_answer, publication}
use Rattle.language_model.specs.Evaluation.{Frame, Flow, turns, repeats}
use Rattle.language_model.specs.Reports.{dealing, beginning, report_of, not_dealt, evaluated}
use Rattle.language_model.proofs.Loops.{IsFlow, turns_flow, repeats_flow}
use Rattle.language_model.proofs.Onward.{stage_of}
use Rattle.language_model.proofs.Walk.{IsLaw, main_of, program_holds, told_open}
use Rattle.view_reader.specs.Opened.{opened_words}
use Rattle.program_views.specs.Views.{openings}

-- ---- the words of openings

abbrev told : List Event → List ℕ
told events = opened_words (openings events)

openings-more : (es : List Event) (e : Event) → openings (es ++ e ∷ []) ≡ openings es ++ openings (e ∷ [])
openings-more [] e = refl
openings-more (event.Open elements ∷ es) e = ap (λ z. elements ∷ z) (openings-more es e)
openings-more (event.Publish text elements ∷ es) e = openings-more es e
openings-more (event.Hand text kind elements ∷ es) e = openings-more es e

told-more : (es : List Event) (e : Event) → told (es ++ e ∷ []) ≡ told es ++ told (e ∷ [])
told-more es e = ap opened_words (openings-more es e) ∙ flat_map-append (map element_word) (openings es) (openings (e ∷ []))

truth-again : (x : ℕ) → element_word (element_of datatype.Bool (x % 2)) ≡ x % 2
truth-again x = go (x % 2) (mod-lt x (omega arith))
  where
    go : (n : ℕ) → n < 2 → element_word (element_of datatype.Bool n) ≡ n
    go zero h = refl
    go (suc zero) h = refl
    go (suc (suc n)) h = absurd (omega (arith, h))

number-again : (x : ℕ) → element_word (element_of datatype.Int64 x) ≡ x
number-again x = go (nat_le (2 ^ 63) x) (nat_lt x (2 ^ 64)) refl refl
  where
    go : (a b : Bool) → nat_le (2 ^ 63) x ≡ a → nat_lt x (2 ^ 64) ≡ b → element_word (element_of datatype.Int64 x) ≡ x
    go true true e f =
        let high = leb-true (2 ^ 63) x e in
        let low = ltb-true x (2 ^ 64) f in
        rw (e, f) (omega (arith, high, low))
    go true false e f = rw (e, f) refl
    go false b e f = rw e refl

-- the elements that are told have the words that are opened
words-again : (kind : DataType) (words : List ℕ) → map element_word (map (element_of kind) (read_answer kind words)) ≡ read_answer kind words
words-again kind [] = none kind
  where
    none : (kind : DataType) → map element_word (map (element_of kind) (read_answer kind [])) ≡ read_answer kind []
    none datatype.Uint64 = refl
    none datatype.Int64 = refl
    none datatype.Bool = refl
words-again datatype.Uint64 (x ∷ xs) = ap (λ z. x ∷ z) (words-again datatype.Uint64 xs)
words-again datatype.Int64 (x ∷ xs) = ap (λ z. z ∷ map element_word (map (element_of datatype.Int64) xs)) (number-again x)
    ∙ ap (λ z. x ∷ z) (words-again datatype.Int64 xs)
words-again datatype.Bool (x ∷ xs) = ap (λ z. z ∷ map element_word (map (element_of datatype.Bool) (read_answer datatype.Bool xs))) (truth-again x)
    ∙ ap (λ z. x % 2 ∷ z) (words-again datatype.Bool xs)

-- ---- step by step

abbrev Alike : Stage → Type 0
Alike s = s.opened ≡ told s.events

record Tells {A : Type 0} (m : Effect A) : Type 0 where
  from : (s : Stage) → Alike s → Alike (stage_of (m s))

tells_bind : {A B : Type 0} {m : Effect A} {f : A → Effect B} → Tells m → ((a : A) → Tells (f a)) → Tells (m >>= f)
tells_bind {A = A} {m = m} {f = f} h k = record { from = λ s a. go (m s) (h.from s a) }
  where
    go : (r : Run A) → Alike (stage_of r) → Alike (stage_of (carry r f))
    go (Ok x) a = (k x.0).from x.1 a
    go (Err e) a = a

tells_done : {A : Type 0} (a : A) → Tells (done a)
tells_done a = record { from = λ s h. h }

tells_end : {A : Type 0} (e : Ending) → Tells (end {A = A} e)
tells_end e = record { from = λ s h. h }

alike_if : {A : Type 0} (c : Bool) (a b : Run A) → Alike (stage_of a) → Alike (stage_of b) → Alike (stage_of (cond c a b))
alike_if true a b h k = h
alike_if false a b h k = k

tells_charge : (n : ℕ) → Tells (charge n)
tells_charge n = record { from = λ s h. alike_if (nat_le n s.left) (Ok (tt, record s { left = s.left - n })) (Err (Ended Budget, s)) h h }

tells_test : (b : Bool) (kind : TrapKind) (line : ℕ) → Tells (test b kind line)
tells_test true kind line = record { from = λ s h. h }
tells_test false kind line = record { from = λ s h. h }

fits_then : {B : Type 0} (owner : TapeOwner) (need have : ℕ) (f : Unit {0} → Effect B) (s : Stage)
    → Alike s → Alike (stage_of (f tt s)) → Alike (stage_of (carry (fits owner need have s) f))
fits_then {B = B} owner need have f s h k = go (nat_le need have)
  where
    go : (c : Bool) → Alike (stage_of (carry (cond c (Ok (tt, s)) (Err (Ended (Tape owner need have), s))) f))
    go true = k
    go false = h

tells_draw : (w : World) (n : Words) → Tells (draw w n)
tells_draw w n = record {
  from = λ s h. fits_then Miner1 (s.drawn.first + n.first) w.lengths.first _ s h
      (fits_then Miner2 (s.drawn.second + n.second) w.lengths.second _ s h
      (fits_then Miner3 (s.drawn.third + n.third) w.lengths.third _ s h h));
}

tells_answers : (n : ℕ) → Tells (next_answers n)
tells_answers n = record {
  from = λ s h. alike_if (nat_le n (length s.answers)) (Ok (take n s.answers, record s { answers = drop n s.answers })) (Err (Short, s)) h h;
}

tells_publish : (x : Secrecy) (e : DataType) (text : List ℕ) (elements : List Element) → Tells (emit (publication x e text elements))
tells_publish Plain e text elements = record { from = λ s h. h ∙ sym (told-more s.events (event.Publish text elements) ∙ append-nil (told s.events)) }
tells_publish (Private k) e text elements = record { from = λ s h. h ∙ sym (told-more s.events (event.Hand text (printed_kind e) elements) ∙ append-nil (told s.events)) }

tells_told : (shape : Shape) (words : List ℕ) → Tells (told_open shape words)
tells_told shape words = record {
  from = λ s h. let shown = read_answer shape.element words in
      ap (λ z. z ++ shown) h ∙ ap (λ z. told s.events ++ z) (sym (append-nil _ ∙ words-again shape.element words))
      ∙ sym (told-more s.events (event.Open (elements_of (plain shape shown))));
}

-- ---- whole programs

unfoldable does_tell : (A : Type 0) → Effect A → Effect A → Type 0
does_tell A m m' = Tells m

tells_flow : IsFlow does_tell
unfolding does_tell
tells_flow = record { bind = tells_bind; on_done = tells_done; on_end = tells_end; on_charge = tells_charge }

tells_turns : {condition : Frame → Effect Value} {step body : Frame → Effect Flow} → ((fr : Frame) → Tells (condition fr))
    → ((fr : Frame) → Tells (step fr)) → ((fr : Frame) → Tells (body fr)) → (fr : Frame) → Tells (λ s. turns (s.left + 1) condition step body fr s)
unfolding does_tell
tells_turns {condition = c} {step = st} {body = b} hc hs hb fr = record {
  from = λ s h. (turns_flow does_tell tells_flow (s.left + 1) {condition = c} {condition' = c} {step = st} {step' = st} {body = b} {body' = b} hc hs hb fr).from
      s h;
}

tells_repeats : {condition : Frame → Effect Value} {body : Frame → Effect Flow} → ((fr : Frame) → Tells (condition fr))
    → ((fr : Frame) → Tells (body fr)) → (fr : Frame) → Tells (λ s. repeats (s.left + 1) condition body fr s)
unfolding does_tell
tells_repeats {condition = c} {body = b} hc hb fr = record {
  from = λ s h. (repeats_flow does_tell tells_flow (s.left + 1) {condition = c} {condition' = c} {body = b} {body' = b} hc hb fr).from s h;
}

tells_law : (w : World) → IsLaw w w does_tell
unfolding does_tell
tells_law w = record {
  source = refl;
  inputs = refl;
  bind = tells_bind;
  on_done = tells_done;
  on_end = tells_end;
  on_charge = tells_charge;
  on_test = tells_test;
  on_draw = tells_draw w;
  on_gate = λ g. record { from = λ s h. h };
  on_number = record { from = λ s h. h };
  on_gates = λ gs. record { from = λ s h. h };
  on_publish = tells_publish;
  on_answers = tells_answers;
  on_told = tells_told;
  on_turns = tells_turns;
  on_repeats = tells_repeats;
}

program_tells : (w : World) (p : TypedProgramTree) → Tells (main_of w p)
unfolding does_tell
program_tells w p = program_holds w w does_tell (tells_law w) p

report_tells : (w : World) (budget : ℕ) (r : Run Value) → Alike (stage_of r) → (report_of w budget r).opened ≡ told (report_of w budget r).events
report_tells w budget (Ok x) h = h
report_tells w budget (Err e) h = h

pub opened_is_told : (w : World) (p : TypedProgramTree) (budget : ℕ) (answers : List ℕ)
    → (evaluated w p budget answers).opened ≡ opened_words (openings (evaluated w p budget answers).events)
opened_is_told w p budget answers = go (nat_le (dealing w) w.dealer)
  where
    go : (c : Bool) → (cond c (report_of w budget (main_of w p (beginning budget answers))) (not_dealt w)).opened
        ≡ told (cond c (report_of w budget (main_of w p (beginning budget answers))) (not_dealt w)).events
    go true = report_tells w budget (main_of w p (beginning budget answers)) ((program_tells w p).from (beginning budget answers) refl)
    go false = refl
