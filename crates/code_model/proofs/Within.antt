-- A machine that runs code whose steps fit stays within it, and its registers keep their kinds.
use Rattle.std.proofs.Common.{◌≡◌, ℕ, zero, suc, ◌+◌, ◌<◌, List, [], ◌∷◌, length, Option, Some, None, Bool, true, false, refl, sym, ap, ◌∙◌, subst, arith}
use Rattle.std.specs.Prelude.{slice_get, map, sum, nat_lt}
use Rattle.std.proofs.lemmas.Option.{none-some, same_Some}
use Rattle.sc_text.specs.declared.end.Ending.TheVariants as ending
use Rattle.sc_text.specs.declared.end.TrapKind.TheVariants as trap
use Rattle.blind_evaluation.specs.Effects.{World, Effect, ◌>>=◌, done, charge, test}
use Rattle.blind_evaluation.specs.Values.{Value, size, never_stored}
use Rattle.blind_evaluation.specs.Operations as row
use Rattle.blind_evaluation.specs.Evaluation.{Frame, put, array_elements, either, asked_for, input_named, nothing}
use Rattle.bytecode.specs.declared.kind.Kind.{Kind}
use Rattle.verified_code.specs.Steps.{kind_shape, Step, Literal, Move, Store, Binary, Not, Cast, Classify, Fill, At, Put, Size, Cat, Sum, Bits, Lookup, Declassify}
use Rattle.verified_code.specs.Steps.{Argument, Publish, Assert, Branch, Jump, Call, Return, ReturnNone, Function}
use Rattle.code_model.specs.Machine.{Caller, Machine, at, next, values_at, begun, filled_with, kinds_of, steps_of, entering, limit, received, resume}
use Rattle.code_model.specs.Machine.{same_truth, step, begin_at, start}
use Rattle.code_model.specs.Kinded.{IsOf, AreSingle, public_scalar, HasKind, ArgumentsHave, ResultFits, StepFits, is_return, IsFitting, IsIn, RegistersFit}
use Rattle.code_model.specs.Kinded.{AreWithin, IsWithin}
use Rattle.code_model.proofs.Places.{put_all}
use Rattle.code_model.proofs.Makes.{Makes, makes_done, makes_end, makes_bind, makes_after}
use Rattle.code_model.proofs.KindRows.{operated_kind, negated_kind, cast_kind, classified_kind}
use Rattle.code_model.proofs.KindRows.{filled_kind, element_kind, with_element_kind, size_kind, concatenated_kind, summed_kind, bits_kind, looked_up_kind, declassified_kind}
use Rattle.code_model.proofs.KindRows.{asked_kind}

found : {A : Type 0} (xs : List A) (k : ℕ) → k < length xs → (x : A) × (slice_get xs k ≡ Some x)
found [] k l = absurd (omega arith)
found (x ∷ xs) zero l = (x, refl)
found (x ∷ xs) (suc k) l = found xs k (omega arith)

-- ---- REGISTERS

put_fits : (kinds : List Kind) (d : ℕ) (k : Kind) (v : Value) (registers : Frame) → HasKind kinds d k → IsOf k v → RegistersFit kinds registers
    → RegistersFit kinds (put d v registers)
put_fits kinds d k v registers e q h = put_all (λ i z. (k' : Kind) → HasKind kinds i k' → IsOf k' z) d v registers
    (λ k' f. subst (λ z. IsOf z v) (same_Some _ _ (sym e ∙ f)) q) h

never_stored_is : (k : Kind) → IsOf k (never_stored k.secret (kind_shape k))
never_stored_is k = go k.secret k.array
  where
    go : (b a : Bool) → IsOf (record { secret = b; element = k.element; array = a })
        (never_stored b (kind_shape (record { secret = b; element = k.element; array = a })))
    go true true = record { secret = refl; shape = refl; single = λ e. cc }
    go true false = record { secret = refl; shape = refl; single = λ e. refl }
    go false true = record { secret = refl; shape = refl; single = λ e. cc }
    go false false = record { secret = refl; shape = refl; single = λ e. refl }

abbrev AreOf : List Kind → List Value → Type 0
AreOf ks [] = Unit {0}
AreOf [] (x ∷ xs) = ⊥
AreOf (k ∷ ks) (x ∷ xs) = IsOf k x × AreOf ks xs

filled_fits : (ks : List Kind) (xs : List Value) → AreOf ks xs → RegistersFit ks (filled_with ks xs)
filled_fits ks [] h r k e = subst (λ o. IsOf k (begun o)) (sym e) (never_stored_is k)
filled_fits [] (x ∷ xs) h r k e = absurd h
filled_fits (k' ∷ ks) (x ∷ xs) h zero k e = subst (λ z. IsOf z x) (same_Some _ _ e) h.0
filled_fits (k' ∷ ks) (x ∷ xs) h (suc r) k e = filled_fits ks xs h.1 r k e

arguments_are : (kinds : List Kind) (rs : List ℕ) (ks : List Kind) (registers : Frame) → RegistersFit kinds registers → ArgumentsHave kinds rs ks → AreOf ks
    (values_at registers rs)
arguments_are kinds [] ks registers h a = tt
arguments_are kinds (r ∷ rs) [] registers h a = absurd a
arguments_are kinds (r ∷ rs) (k ∷ ks) registers h a = (h r k a.0, arguments_are kinds rs ks registers h a.1)

-- ---- STEPS

module _ (w : World) (p : List Function) (fits : (f : Function) → IsIn p f → IsFitting p f) (singles : AreSingle w.inputs) where
  module _ (m : Machine) (h : IsWithin p m) where
    -- the same function, with other registers
    going : (d : ℕ) (k : Kind) (v : Value) → m.pc + 1 < length h.own.steps → HasKind h.own.kinds d k → IsOf k v → IsWithin p (next d v m)
    going d k v l e q = record {
      own = h.own;
      there = h.there;
      steps = h.steps;
      place = l;
      registers = put_fits h.own.kinds d k v m.registers e q
          h.registers;
      callers = h.callers;
    }

    moving : (pc : ℕ) → pc < length h.own.steps → IsWithin p (at pc m)
    moving pc l = record { own = h.own; there = h.there; steps = h.steps; place = l; registers = h.registers; callers = h.callers }

    sets : (d : ℕ) (k : Kind) (c : Effect Value) → m.pc + 1 < length h.own.steps → HasKind h.own.kinds d k → Makes c (IsOf k) → Makes
        (c >>= λ v. done (next d v m)) (IsWithin p)
    sets d k c l e q = makes_bind c (λ v. done (next d v m)) (IsOf k) q (λ v z. makes_done (going d k v l e z))

    entered : (g : ℕ) (f : Function) (d : Option ℕ) (args : List ℕ) → slice_get p g ≡ Some f → m.pc + 1 < length h.own.steps → ArgumentsHave h.own.kinds args
        f.kinds → ResultFits h.own.kinds d f.gives → IsWithin p (entering (slice_get p g) d (values_at m.registers args) m)
    entered g f d args e l a r =
        record {
          own = f;
          there = (g, e);
          steps = ap steps_of e;
          place = (fits f (g, e)).some;
          registers = subst (λ z. RegistersFit f.kinds (filled_with (kinds_of z) (values_at m.registers args))) (sym e)
              (filled_fits f.kinds (values_at m.registers args) (arguments_are h.own.kinds args f.kinds m.registers h.registers a));
          callers = (h.own, h.there, h.steps, l, h.registers, r, h.callers);
        }

    -- where a call comes back to
    back : (stack : List Caller) (given : Option Kind) (v : Value) → AreWithin p given stack → ((k : Kind) → given ≡ Some k → IsOf k v) → Makes
        (resume stack v) (IsWithin p)
    back [] given v a q = makes_end ending.Done
    back (c ∷ cs) given v a q = makes_done (record { own = a.0; there = a.1; steps = a.2; place = a.3; registers = go c.result a.5; callers = a.6 })
      where
        go : (d : Option ℕ) → ResultFits a.0.kinds d given → RegistersFit a.0.kinds (received d v c.registers)
        go None r = a.4
        go (Some d) r = put_fits a.0.kinds d r.0 v c.registers r.2 (q r.0 r.1) a.4

    chosen : (o : Bool) (x y : ℕ) → x < length h.own.steps → y < length h.own.steps → either o x y < length h.own.steps
    chosen true x y l k = l
    chosen false x y l k = k

    act : (i : Step) → StepFits p h.own i → (is_return i ≡ false → m.pc + 1 < length h.own.steps) → Makes (step w p (Some i) m) (IsWithin p)
    act (Literal d e n) f g = makes_done (going d (public_scalar e) _ (g refl) f (record { secret = refl; shape = refl; single = λ z. refl }))
    act (Move d r) f g = makes_done (going d f.0 (m.registers r) (g refl) f.2 (h.registers r f.0 f.1))
    act (Store d r) f g = makes_after (row.charged row.no_traps (size (m.registers r))) _
        (λ u. makes_done (going d f.0 (m.registers r) (g refl) f.2 (h.registers r f.0 f.1)))
    act (Binary line op ds d a b) f g =
        sets d _ (row.operated w line op ds (m.registers a) (m.registers b)) (g refl) f.6 (operated_kind w line op ds f.0 f.1 (m.registers a) (m.registers b)
        (h.registers a f.0 f.2) (h.registers b f.1 f.3) f.4 f.5)
    act (Not d r) f g = sets d f.0 (row.negated (m.registers r)) (g refl) f.2 (negated_kind w f.0 (m.registers r) (h.registers r f.0 f.1))
    act (Cast c d r) f g = sets d _ (row.cast_to w c (m.registers r)) (g refl) f.3 (cast_kind w c f.0 f.1 (m.registers r) (h.registers r _ f.2))
    act (Classify d r) f g = sets d _ (row.classified (m.registers r)) (g refl) f.2 (classified_kind w f.0 (m.registers r) (h.registers r f.0 f.1))
    act (Fill line d n x) f g = sets d _ (row.filled line (m.registers n) (m.registers x)) (g refl) f.2
        (filled_kind w line (m.registers n) f.0 (m.registers x) (h.registers x f.0 f.1))
    act (At line d a i) f g = sets d _ (row.element_of_array line (m.registers a) (m.registers i)) (g refl) f.2
        (element_kind w line f.0 (m.registers a) (m.registers i) (h.registers a f.0 f.1))
    act (Put line a i x) f g = sets a f.0 (row.with_element line (m.registers a) (m.registers i) (m.registers x)) (g refl) f.1
        (with_element_kind w line f.0 (m.registers a) (m.registers i) (m.registers x) (h.registers a f.0 f.1) f.2)
    act (Size d r) f g = sets d _ (row.size_told (m.registers r)) (g refl) f (size_kind w (m.registers r))
    act (Cat line d a b) f g = sets d f.0 (row.concatenated line (m.registers a) (m.registers b)) (g refl) f.4
        (concatenated_kind w line f.0 (m.registers a) (m.registers b) (h.registers a f.0 f.1) (h.registers b f.0 f.2) f.3)
    act (Sum d r) f g = sets d _ (row.summed (m.registers r)) (g refl) f.2 (summed_kind w f.0 (m.registers r) (h.registers r f.0 f.1))
    act (Bits line d r) f g = sets d _ (row.bits_extracted w line (m.registers r)) (g refl) f.2 (bits_kind w line f.0 (m.registers r) (h.registers r f.0 f.1))
    act (Lookup line d a i) f g =
        sets d _ (row.looked_up w line (m.registers a) (m.registers i)) (g refl) f.4
        (looked_up_kind w line f.0 f.1 (m.registers a) (m.registers i) (h.registers a f.0 f.2) (h.registers i f.1 f.3))
    act (Declassify d r) f g = sets d _ (row.declassified w (m.registers r)) (g refl) f.2 (declassified_kind w f.0 (m.registers r) (h.registers r f.0 f.1))
    act (Argument line k text d) f g = sets d k (asked_for k.secret (kind_shape k) line (input_named w text)) (g refl) f (asked_kind w k line text singles)
    act (Publish text r) f g = makes_after (row.published w text (m.registers r)) _ (λ u. makes_done (moving (m.pc + 1) (g refl)))
    act (Assert line r) f g = makes_after (row.asserted line (m.registers r)) _ (λ u. makes_done (moving (m.pc + 1) (g refl)))
    act (Branch r b target) f g = makes_after (row.tested (m.registers r)) _ (λ o. makes_done (moving _ (chosen (same_truth o b) target (m.pc + 1) f (g refl))))
    act (Jump target) f g = makes_done (moving target f)
    act (Call line k d args) f g =
        makes_after (charge 1) _ (λ u. makes_after (test (nat_lt (length m.stack) limit) trap.Depth line) _
        (λ u. makes_after (charge (sum (map array_elements (values_at m.registers args)))) _ (λ u.
        makes_done (entered k f.0 d args f.1 (g refl) f.2 f.3))))
    act (Return r) f g = back m.stack h.own.gives (m.registers r) h.callers (λ k e. subst (λ z. IsOf z (m.registers r)) (same_Some _ _ (sym f.1 ∙ e))
        (h.registers r f.0 f.2))
    act ReturnNone f g = back m.stack h.own.gives nothing h.callers (λ k e. absurd (none-some _ (sym f ∙ e)))

    -- the next step is there, and the machine stays within the code
    pub next_there : (i : Step) × (slice_get m.steps m.pc ≡ Some i)
    next_there = let x = found h.own.steps m.pc h.place in (x.0, ap (λ z. slice_get z m.pc) h.steps ∙ x.1)

    pub stays_within : Makes (step w p (slice_get m.steps m.pc) m) (IsWithin p)
    stays_within =
        let x = found h.own.steps m.pc h.place in
        let fit = fits h.own h.there in
        subst (λ o. Makes (step w p o m) (IsWithin p)) (sym (ap (λ z. slice_get z m.pc) h.steps ∙ x.1))
        (act x.0 (fit.fits m.pc x.0 x.1) (fit.goes_on m.pc x.0 x.1))

-- where `main` is there, it begins so
pub begins_within : {p : List Function} → ((f : Function) → IsIn p f → IsFitting p f) → (main : Function) → slice_get p 0 ≡ Some main → IsWithin p (start p)
begins_within {p = p} fits main e =
    subst (λ o. IsWithin p (begin_at o)) (sym e) (record {
      own = main;
      there = (0, e);
      steps = refl;
      place = (fits main (0, e)).some;
      registers = filled_fits
          main.kinds [] tt;
      callers = tt;
    })
