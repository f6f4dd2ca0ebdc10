-- Steps of code keep a machine standing.
use Rattle.std.proofs.Common.{◌≡◌, ℕ, zero, suc, ◌+◌, List, [], ◌∷◌, ◌++◌, length, Option, Some, None, Ok, Err, Bool, true, false, refl, sym, ap, ◌∙◌}
use Rattle.std.proofs.Common.{subst, arith}
use Rattle.std.specs.Prelude.{slice_get, map, sum, nat_lt, IsTrue}
use Rattle.sc_text.specs.declared.end.Ending.{Ending}
use Rattle.sc_text.specs.declared.end.Ending.TheVariants as ending
use Rattle.sc_text.specs.declared.end.TrapKind.TheVariants as trap
use Rattle.program_trees.specs.declared.expression.DataType.{DataType}
use Rattle.program_trees.specs.declared.expression.DataType.TheVariants.{Uint64}
use Rattle.program_trees.specs.declared.expression.DataType.TheVariants as datatype
use Rattle.shared_plans.specs.Shares as shares
use Rattle.shared_plans.specs.GateRuns.{GateRun}
use Rattle.language_model.specs.Effects.{World, Stage, Run, Effect, ◌>>=◌, carry, done, end}
use Rattle.language_model.specs.Values.{Value, is_secret, plain, size, never_stored}
use Rattle.language_model.specs.Operations as row
use Rattle.language_model.specs.Evaluation.{Frame, put, nothing, array_elements, either, asked_for, input_named}
use Rattle.program_trees.specs.declared.operators.BinaryOperator.{BinaryOperator}
use Rattle.program_trees.specs.declared.operators.Operands.{Operands}
use Rattle.program_trees.specs.Shapes.{shape_of}
use Rattle.bytecode.specs.declared.kind.Kind.{Kind}
use Rattle.verified_code.specs.Steps.{kind_shape, Step, Literal, Move, Store, Binary, Not, Cast, Classify, Fill, At, Put, Size, Cat, Sum, Bits, Lookup, Declassify}
use Rattle.verified_code.specs.Steps.{Argument, Publish, Assert, Branch, Jump, Call, Return, ReturnNone, Function}
use Rattle.code_model.specs.Machine.{Caller, Machine, at, next, values_at, begun, behind_first, filled_with, kinds_of, limit, received, resume}
use Rattle.code_model.specs.Machine.{same_truth, step, begin_at}
use Rattle.code_model.specs.Kinded.{IsWithin, HasKind, cast_source}
use Rattle.code_model.proofs.Places.{put_all}
use Rattle.gate_laws.specs.Facts.{IsProper, none_of, Fact, AllStand, facts_of, run_at, IsAt, Grows, ComesAt, Suits}
use Rattle.gate_laws.specs.Dealt.{bound, Dealt}
use Rattle.verified_code.specs.Fitting.{is_number}
use Rattle.gate_laws.specs.Rows.{secrecy_suits, OperandsSuit, IsOfElements, IsOfNumbers}
use Rattle.gate_laws.specs.Offers.{AreOffered}
use Rattle.gate_laws.specs.Machines.{ValueStands, FrameStands, CallersStand, MachineStands, ArrivesAt, HasElement, HasNumbers, StepTakes}
use Rattle.gate_laws.proofs.Effects.{all_still, grows_then, stays, both_stand, charge_suits, test_suits}
use Rattle.gate_laws.proofs.Parts.{plain_charge, classified_suits}
use Rattle.gate_laws.proofs.Ranges.{below_none, one_below}
use Rattle.gate_laws.proofs.Meanings.{some_bound}
use Rattle.gate_laws.proofs.Binary.{operated_suits}
use Rattle.gate_laws.proofs.Unary.{negated_suits, cast_suits, size_suits, summed_suits, bits_suits}
use Rattle.gate_laws.proofs.Arrays.{concatenated_suits, element_suits, filled_suits, with_element_suits}
use Rattle.gate_laws.proofs.Lookups.{looked_up_suits}
use Rattle.gate_laws.proofs.Openings.{declassified_suits}
use Rattle.gate_laws.proofs.Told.{published_suits, tested_suits, asserted_suits, literal_proper, asked_suits}

-- ---- REGISTERS

pub nothing_stands : (r : GateRun) → ValueStands r nothing
nothing_stands r = (tt, literal_proper Uint64 0 (omega arith))

begun_stands : (r : GateRun) (o : Option Kind) → ValueStands r (begun o)
begun_stands r None = nothing_stands r
begun_stands r (Some k) = go k.secret k.array
  where
    go : (b a : Bool) → ValueStands r (never_stored b (kind_shape (record { secret = b; element = k.element; array = a })))
    go true true = (tt, record { range = below_none (bound k.element) (some_bound k.element); small = omega arith })
    go true false = (tt, record { range = one_below (bound k.element) 0 (some_bound k.element); small = omega arith })
    go false true = (tt, record { range = below_none (bound k.element) (some_bound k.element); small = omega arith })
    go false false = (tt, record { range = one_below (bound k.element) 0 (some_bound k.element); small = omega arith })

abbrev ValuesStand : GateRun → List Value → Type 0
ValuesStand r [] = Unit {0}
ValuesStand r (x ∷ xs) = ValueStands r x × ValuesStand r xs

filled_stands : (r : GateRun) (kinds : List Kind) (xs : List Value) → ValuesStand r xs → FrameStands r (filled_with kinds xs)
filled_stands r kinds [] h k = begun_stands r (slice_get kinds k)
filled_stands r kinds (x ∷ xs) h zero = h.0
filled_stands r kinds (x ∷ xs) h (suc k) = filled_stands r (behind_first kinds) xs h.1 k

values_stand : (r : GateRun) (registers : Frame) (rs : List ℕ) → FrameStands r registers → ValuesStand r (values_at registers rs)
values_stand r registers [] h = tt
values_stand r registers (k ∷ ks) h = (h k, values_stand r registers ks h)

put_stands : (r : GateRun) (d : ℕ) (v : Value) (registers : Frame) → ValueStands r v → FrameStands r registers → FrameStands r (put d v registers)
put_stands r d v registers q h = put_all (λ i z. ValueStands r z) d v registers q h

pub start_stands : (r : GateRun) (f : Option Function) → MachineStands r (begin_at f)
start_stands r f = record { registers = filled_stands r (kinds_of f) [] tt; callers = tt }

module _ (w : World) (d : Dealt) where
  -- ---- LATER STAGES

  module _ (s u : Stage) (kinds later : List shares.Kind) (g : Grows w d s u kinds later) where
    frame_still : (registers : Frame) → FrameStands (run_at w d kinds s) registers → FrameStands (run_at w d later u) registers
    frame_still registers h = λ k. (all_still w d s u kinds later (facts_of (registers k)) g (h k).0, (h k).1)

    callers_still : (cs : List Caller) → CallersStand (run_at w d kinds s) cs → CallersStand (run_at w d later u) cs
    callers_still [] h = tt
    callers_still (c ∷ cs) h = (frame_still c.registers h.0, callers_still cs h.1)

    machine_still : (m : Machine) → MachineStands (run_at w d kinds s) m → MachineStands (run_at w d later u) m
    machine_still m h = record { registers = frame_still m.registers h.registers; callers = callers_still m.stack h.callers }

  -- ---- ONE EFFECT, AND THEN

  -- from where this machine and these facts stand
  pub record Leads (m : Machine) (fs : List Fact) (c : Effect Machine) : Type 0 where
    pub from : (kinds : List shares.Kind) (s : Stage) → IsAt w d kinds none_of s → MachineStands (run_at w d kinds s) m → AllStand (run_at w d kinds s) fs
        → ArrivesAt w d s kinds (c s)

  leads_bind :
      {A : Type 0} {m : Machine} {fs gs : List Fact} {c : Effect A} {f : A → Effect Machine} {F : A → List Fact} {R : A → Type 0}
      → Suits w d gs none_of c none_of F R
      → ((r : GateRun) → MachineStands r m → AllStand r gs) → ((a : A) → R a → Leads m (F a) (f a)) → Leads m fs (c >>= f)
  leads_bind {A = A} {m = m} {c = c} {f = f} {F = F} {R = R} h t k = record
      { from = λ kinds s at stands facts. go kinds s stands (c s) (h.from kinds s at (t (run_at w d kinds s) stands)) }
    where
      behind : (kinds more : List shares.Kind) (s t : Stage) → Grows w d s t kinds more → (r : Run Machine) → ArrivesAt w d t more r → ArrivesAt w d s kinds r
      behind kinds more s t g (Ok y) n = record {
        later = n.later;
        grown = grows_then w d s t y.1 kinds more n.later g n.grown;
        stage = n.stage;
        stands =
            n.stands;
      }
      behind kinds more s t g (Err e) n =
          record { later = n.later; grown = grows_then w d s t e.1 kinds more n.later g n.grown; stage = n.stage; facts = n.facts; sure = n.sure }

      go : (kinds : List shares.Kind) (s : Stage) → MachineStands (run_at w d kinds s) m → (r : Run A) → ComesAt w d s kinds r none_of F R
          → ArrivesAt w d s kinds (carry r f)
      go kinds s stands (Ok x) n =
          behind kinds n.later s x.1 n.grown (f x.0 x.1) ((k x.0 n.sure).from n.later x.1 n.stage (machine_still s x.1 kinds n.later n.grown m stands) n.facts)
      go kinds s stands (Err e) n = n

  leads_done : {m m' : Machine} {fs : List Fact} → ((r : GateRun) → MachineStands r m → AllStand r fs → MachineStands r m') → Leads m fs (done m')
  leads_done h = record {
    from = λ kinds s at stands facts. record {
      later = kinds;
      grown = stays w d s s kinds refl;
      stage = at;
      stands = h
          (run_at w d kinds s) stands facts;
    };
  }

  leads_end : {m : Machine} {fs : List Fact} (e : Ending) → Leads m fs (end {A = Machine} e)
  leads_end e = record { from = λ kinds s at stands facts. record { later = kinds; grown = stays w d s s kinds refl; stage = at; facts = tt; sure = tt } }

  set_stands : (m : Machine) (to : ℕ) (v : Value) (r : GateRun) → MachineStands r m → ValueStands r v → MachineStands r (next to v m)
  set_stands m to v r h q = record { registers = put_stands r to v m.registers q h.registers; callers = h.callers }

  -- the value that a row gives goes to a register
  leads_set : (m : Machine) (to : ℕ) (gs : List Fact) (c : Effect Value) → Suits w d gs none_of c none_of facts_of IsProper
      → ((r : GateRun) → MachineStands r m → AllStand r gs)
      → Leads m [] (c >>= λ v. done (next to v m))
  leads_set m to gs c h t = leads_bind h t (λ v proper. leads_done (λ r stands facts. set_stands m to v r stands (facts, proper)))

  moved_stands : (m : Machine) (pc : ℕ) (r : GateRun) → MachineStands r m → MachineStands r (at pc m)
  moved_stands m pc r h = record { registers = h.registers; callers = h.callers }

  resumed : (m : Machine) (stack : List Caller) (v : Value) → ((r : GateRun) → MachineStands r m → CallersStand r stack × ValueStands r v)
      → Leads m [] (resume stack v)
  resumed m [] v h = leads_end ending.Done
  resumed m (c ∷ cs) v h = leads_done (λ r stands facts. let x = h r stands in record { registers = go c.result r x.0.0 x.1; callers = x.0.1 })
    where
      go : (o : Option ℕ) (r : GateRun) → FrameStands r c.registers → ValueStands r v → FrameStands r (received o v c.registers)
      go None r a q = a
      go (Some to) r a q = put_stands r to v c.registers q a

  -- ---- STEPS

  module _ (p : List Function) (m : Machine) (h : IsWithin p m) (proper : (k : ℕ) → IsProper (m.registers k)) (offered : AreOffered d 0 w.inputs) where
    own : (r : ℕ) (run : GateRun) → MachineStands run m → AllStand run (facts_of (m.registers r))
    own r run st = (st.registers r).0

    two : (a b : ℕ) (run : GateRun) → MachineStands run m → AllStand run (facts_of (m.registers a) ++ facts_of (m.registers b))
    two a b run st = both_stand run (facts_of (m.registers a)) (facts_of (m.registers b)) (own a run st) (own b run st)

    element_is : (r : ℕ) (k : Kind) → HasKind h.own.kinds r k → (m.registers r).shape.element ≡ k.element
    element_is r k e = ap (λ z. z.element) (h.registers r k e).shape

    of_element : (r : ℕ) (e : DataType) → HasElement h.own.kinds r e → IsOfElements e (m.registers r)
    of_element r e x = record { proper = proper r; element = element_is r x.0 x.1 ∙ x.2 }

    of_numbers : (r : ℕ) → HasNumbers h.own.kinds r → IsOfNumbers (m.registers r)
    of_numbers r x = record { proper = proper r; numbers = subst (λ e. IsTrue (is_number e)) (sym (element_is r x.0 x.1)) x.2 }

    operands : (line : ℕ) (op : BinaryOperator) (ds : Operands) (to a b : ℕ) → StepTakes h.own.kinds (Binary line op ds to a b)
        → OperandsSuit op ds (m.registers a) (m.registers b)
    operands line op ds to a b t =
        let x = h.registers a t.0 t.2 in
        let y = h.registers b t.1 t.3 in
        record {
          left = proper a;
          right = proper b;
          left_element = element_is a t.0 t.2 ∙ t.4;
          right_element = element_is b t.1 t.3 ∙ t.5;
          left_single = λ e. x.single (t.6 ∙ e);
          right_single = λ e. y.single (t.7 ∙ e);
          secrecy = subst (λ z. secrecy_suits op z (is_secret (m.registers b).secrecy)) (sym x.secret)
              (subst (λ z. secrecy_suits op t.0.secret z) (sym y.secret) t.8);
        }

    moving : (pc : ℕ) (fs : List Fact) → Leads m fs (done (at pc m))
    moving pc fs = leads_done (λ run st facts. moved_stands m pc run st)

    pub act : (i : Step) → StepTakes h.own.kinds i → Leads m [] (step w p (Some i) m)
    act (Literal to e n) t = leads_done (λ run st facts. set_stands m to (plain (shape_of e false) (n ∷ [])) run st (tt, literal_proper e n t))
    act (Move to r) t = leads_done (λ run st facts. set_stands m to (m.registers r) run st (st.registers r))
    act (Store to r) t =
        leads_bind (plain_charge w d [] (size (m.registers r))) (λ run st. tt)
        (λ _ _. leads_done (λ run st facts. set_stands m to (m.registers r) run st (st.registers r)))
    act (Binary line op ds to a b) t =
        leads_set m to (facts_of (m.registers a) ++ facts_of (m.registers b)) (row.operated w line op ds (m.registers a) (m.registers b))
        (operated_suits w d line op ds (m.registers a) (m.registers b) (operands line op ds to a b t)) (two a b)
    act (Not to r) t =
        leads_set m to (facts_of (m.registers r)) (row.negated (m.registers r)) (negated_suits w d (m.registers r) (of_element r datatype.Bool t)) (own r)
    act (Cast c to r) t =
        leads_set m to (facts_of (m.registers r)) (row.cast_to w c (m.registers r)) (cast_suits w d (m.registers r) c (of_element r (cast_source c) t)) (own r)
    act (Classify to r) t = leads_set m to (facts_of (m.registers r)) (row.classified (m.registers r)) (classified_suits w d (m.registers r) (proper r)) (own r)
    act (Fill line to n x) t =
        leads_set m to (facts_of (m.registers x)) (row.filled line (m.registers n) (m.registers x))
        (filled_suits w d (m.registers x) (proper x) line (m.registers n) ((h.registers x t.0 t.1).single t.2)) (own x)
    act (At line to a i) t =
        leads_set m to (facts_of (m.registers a)) (row.element_of_array line (m.registers a) (m.registers i))
        (element_suits w d (m.registers a) (proper a) line (m.registers i)) (own a)
    act (Put line a i x) t =
        leads_set m a (facts_of (m.registers a) ++ facts_of (m.registers x)) (row.with_element line (m.registers a) (m.registers i) (m.registers x))
        (with_element_suits w d (m.registers a) (m.registers x) (proper a) (proper x) (element_is x t.1 t.3 ∙ t.4 ∙ sym (element_is a t.0 t.2))
        ((h.registers x t.1 t.3).single t.5) line (m.registers i)) (two a x)
    act (Size to r) t = leads_set m to (facts_of (m.registers r)) (row.size_told (m.registers r)) (size_suits w d (m.registers r) (proper r)) (own r)
    act (Cat line to a b) t =
        leads_set m to (facts_of (m.registers a) ++ facts_of (m.registers b)) (row.concatenated line (m.registers a) (m.registers b))
        (concatenated_suits w d (m.registers a) (m.registers b) (proper a) (proper b) (element_is b t.1 t.3 ∙ t.4 ∙ sym (element_is a t.0 t.2)) line) (two a b)
    act (Sum to r) t = leads_set m to (facts_of (m.registers r)) (row.summed (m.registers r)) (summed_suits w d (m.registers r) (of_numbers r t)) (own r)
    act (Bits line to r) t =
        leads_set m to (facts_of (m.registers r)) (row.bits_extracted w line (m.registers r)) (bits_suits w d (m.registers r) line (of_element r Uint64 t))
        (own r)
    act (Lookup line to a i) t =
        leads_set m to (facts_of (m.registers a) ++ facts_of (m.registers i)) (row.looked_up w line (m.registers a) (m.registers i))
        (looked_up_suits w d (m.registers a) (m.registers i) (of_numbers a t.0) (of_element i Uint64 t.1) line) (two a i)
    act (Declassify to r) t =
        leads_set m to (facts_of (m.registers r)) (row.declassified w (m.registers r)) (declassified_suits w d (m.registers r) (proper r)) (own r)
    act (Argument line k text to) t =
        leads_set m to [] (asked_for k.secret (kind_shape k) line (input_named w text)) (asked_suits w d k.secret (kind_shape k) line text offered)
        (λ run st. tt)
    act (Publish text r) t = leads_bind (published_suits w d (m.registers r) (proper r) text) (own r) (λ _ _. moving (m.pc + 1) [])
    act (Assert line r) t = leads_bind (asserted_suits w d [] line (m.registers r)) (λ run st. tt) (λ _ _. moving (m.pc + 1) [])
    act (Branch r b target) t = leads_bind (tested_suits w d [] (m.registers r)) (λ run st. tt) (λ o _. moving (either (same_truth o b) target (m.pc + 1)) [])
    act (Jump target) t = moving target []
    act (Call line g to args) t =
        leads_bind (charge_suits w d [] 1) (λ run st. tt) (λ _ _. leads_bind (test_suits w d [] (nat_lt (length m.stack) limit) trap.Depth line)
        (λ run st. tt) (λ _ _.
        leads_bind (charge_suits w d [] (sum (map array_elements (values_at m.registers args)))) (λ run st. tt) (λ _ _.
        leads_done (λ run st facts. record {
          registers = filled_stands run (kinds_of (slice_get p g)) (values_at m.registers args) (values_stand run m.registers args st.registers);
          callers = (st.registers, st.callers);
        }))))
    act (Return r) t = resumed m m.stack (m.registers r) (λ run st. (st.callers, st.registers r))
    act ReturnNone t = resumed m m.stack nothing (λ run st. (st.callers, nothing_stands run))
