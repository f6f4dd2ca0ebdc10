-- A step of code takes values that its machine names, and names no others after it, but for those that it makes.
use Rattle.std.proofs.Common.{ℕ, zero, suc, ◌+◌, inl, inr, List, [], ◌∷◌, length, Option, Some, None, Ok, Err, false, arith}
use Rattle.std.specs.Prelude.{slice_get, map, sum, nat_lt}
use Rattle.sc_text.specs.declared.end.Ending.TheVariants as ending
use Rattle.sc_text.specs.declared.end.TrapKind.TheVariants as trap
use Rattle.program_trees.specs.declared.expression.DataType.TheVariants.{Uint64}
use Rattle.program_trees.specs.Shapes.{shape_of}
use Rattle.bytecode.specs.declared.kind.Kind.{Kind}
use Rattle.language_model.specs.Effects.{World, Stage, RunStop, Run, Effect, ◌>>=◌, done}
use Rattle.language_model.specs.Values.{Value, plain, size}
use Rattle.language_model.specs.Evaluation.{Frame, put, nothing, array_elements, either, input_named}
use Rattle.verified_code.specs.Steps.{kind_shape, Step, Literal, Move, Store, Binary, Not, Cast, Classify, Fill, At, Put, Size, Cat, Sum, Bits, Lookup}
use Rattle.verified_code.specs.Steps.{Declassify, Argument, Publish, Assert, Branch, Jump, Call, Return, ReturnNone, Function}
use Rattle.code_model.specs.Machine.{Caller, Machine, at, next, values_at, begun, behind_first, filled_with, kinds_of, limit, received, resume}
use Rattle.code_model.specs.Machine.{same_truth, step, further, exec}
use Rattle.code_model.proofs.Places.{put_all}
use Rattle.named_values.specs.Named.{Numbers, or_from, CallersName, MachineNames, AreAmong}
use Rattle.named_values.specs.Laws.{Grows, Arrives, StepTakesWhatIsNamed, Ends, RunTakesWhatIsNamed}
use Rattle.named_values.proofs.Effects.{HasFrom, Comes, Naming, grows_then, naming_bind, naming_done, naming_end, charge_naming, test_naming}
use Rattle.named_values.proofs.Rows.{Names, plain_names, never_names, plain_charge, classified_naming, declassified_naming, operated_naming, negated_naming}
use Rattle.named_values.proofs.Rows.{cast_naming, size_naming, summed_naming, bits_naming, element_naming, filled_naming, published_naming, concatenated_naming}
use Rattle.named_values.proofs.Rows.{looked_up_naming, with_element_naming, tested_naming, asserted_naming, asked_naming}

-- ---- REGISTERS

-- registers, callers and a machine in which all numbers are among these
abbrev FrameIn : Numbers → Frame → Type 0
FrameIn N registers = (r : ℕ) → Names N (registers r)

abbrev CallersIn : Numbers → List Caller → Type 0
CallersIn N [] = Unit {0}
CallersIn N (c ∷ cs) = FrameIn N c.registers × CallersIn N cs

record MachineIn (N : Numbers) (m : Machine) : Type 0 where
  registers : FrameIn N m.registers
  callers : CallersIn N m.stack

module _ (N : Numbers) where
  nothing_names : Names N nothing
  nothing_names = plain_names N (shape_of Uint64 false) (0 ∷ [])

  begun_names : (o : Option Kind) → Names N (begun o)
  begun_names None = nothing_names
  begun_names (Some k) = never_names N k.secret (kind_shape k)

  abbrev AllName : List Value → Type 0
  AllName [] = Unit {0}
  AllName (x ∷ xs) = Names N x × AllName xs

  filled_names : (kinds : List Kind) (xs : List Value) → AllName xs → FrameIn N (filled_with kinds xs)
  filled_names kinds [] h k = begun_names (slice_get kinds k)
  filled_names kinds (x ∷ xs) h zero = h.0
  filled_names kinds (x ∷ xs) h (suc k) = filled_names (behind_first kinds) xs h.1 k

  values_name : (registers : Frame) (rs : List ℕ) → FrameIn N registers → AllName (values_at registers rs)
  values_name registers [] h = tt
  values_name registers (r ∷ rs) h = (h r, values_name registers rs h)

  put_names : (d : ℕ) (v : Value) (registers : Frame) → Names N v → FrameIn N registers → FrameIn N (put d v registers)
  put_names d v registers q h = put_all (λ i z. Names N z) d v registers q h

  received_names : (d : Option ℕ) (v : Value) (registers : Frame) → Names N v → FrameIn N registers → FrameIn N (received d v registers)
  received_names None v registers q h = h
  received_names (Some d) v registers q h = put_names d v registers q h

  -- ---- STEPS

  module _ (m : Machine) (h : MachineIn N m) where
    set_names : (d : ℕ) (v : Value) → Names N v → MachineIn N (next d v m)
    set_names d v q = record { registers = put_names d v m.registers q h.registers; callers = h.callers }

    -- the value that a row gives goes to a register
    setting : {c : Effect Value} (d : ℕ) → Naming N c (Names N) → Naming N (c >>= λ v. done (next d v m)) (MachineIn N)
    setting d g = naming_bind g (λ v q. naming_done (set_names d v q))

    moving : (pc : ℕ) → Naming N (done (at pc m)) (MachineIn N)
    moving pc = naming_done (record { registers = h.registers; callers = h.callers })

    resumed : (stack : List Caller) (v : Value) → CallersIn N stack → Names N v → Naming N (resume stack v) (MachineIn N)
    resumed [] v cs q = naming_end ending.Done
    resumed (c ∷ cs) v k q = naming_done (record { registers = received_names c.result v c.registers q k.0; callers = k.1 })

    own : (r : ℕ) → Names N (m.registers r)
    own r = h.registers r

    act : (w : World) (p : List Function) (i : Option Step) → Naming N (step w p i m) (MachineIn N)
    act w p None = naming_end ending.Done
    act w p (Some (Literal d e n)) = naming_done (set_names d (plain (shape_of e false) (n ∷ [])) (plain_names N (shape_of e false) (n ∷ [])))
    act w p (Some (Move d r)) = naming_done (set_names d (m.registers r) (own r))
    act w p (Some (Store d r)) = naming_bind (plain_charge N (size (m.registers r))) (λ _ _. naming_done (set_names d (m.registers r) (own r)))
    act w p (Some (Binary line op ds d a b)) = setting d (operated_naming N w op ds (m.registers a) (m.registers b) (own a) (own b) line)
    act w p (Some (Not d r)) = setting d (negated_naming N (m.registers r) (own r))
    act w p (Some (Cast c d r)) = setting d (cast_naming N (m.registers r) (own r) w c)
    act w p (Some (Classify d r)) = setting d (classified_naming N (m.registers r) (own r))
    act w p (Some (Fill line d n x)) = setting d (filled_naming N (m.registers x) (own x) line (m.registers n))
    act w p (Some (At line d a i)) = setting d (element_naming N (m.registers a) (own a) line (m.registers i))
    act w p (Some (Put line a i x)) = setting a (with_element_naming N (m.registers a) (m.registers x) (own a) (own x) line (m.registers i))
    act w p (Some (Size d r)) = setting d (size_naming N (m.registers r) (own r))
    act w p (Some (Cat line d a b)) = setting d (concatenated_naming N (m.registers a) (m.registers b) (own a) (own b) line)
    act w p (Some (Sum d r)) = setting d (summed_naming N (m.registers r) (own r))
    act w p (Some (Bits line d r)) = setting d (bits_naming N (m.registers r) (own r) w line)
    act w p (Some (Lookup line d a i)) = setting d (looked_up_naming N w line (m.registers a) (m.registers i) (own a) (own i))
    act w p (Some (Declassify d r)) = setting d (declassified_naming N w (m.registers r) (own r))
    act w p (Some (Argument line kind text d)) = setting d (asked_naming N kind.secret (kind_shape kind) line (input_named w text))
    act w p (Some (Publish text r)) = naming_bind (published_naming N (m.registers r) (own r) w text) (λ _ _. moving (m.pc + 1))
    act w p (Some (Assert line r)) = naming_bind (asserted_naming N line (m.registers r)) (λ _ _. moving (m.pc + 1))
    act w p (Some (Branch r b target)) = naming_bind (tested_naming N (m.registers r)) (λ t _. moving (either (same_truth t b) target (m.pc + 1)))
    act w p (Some (Jump target)) = moving target
    act w p (Some (Call line g d args)) =
        naming_bind (charge_naming 1) (λ _ _. naming_bind (test_naming (nat_lt (length m.stack) limit) trap.Depth line) (λ _ _.
        naming_bind (charge_naming (sum (map array_elements (values_at m.registers args)))) (λ _ _.
        naming_done (record {
          registers = filled_names (kinds_of (slice_get p g)) (values_at m.registers args) (values_name m.registers args h.registers);
          callers = (h.registers, h.callers);
        }))))
    act w p (Some (Return r)) = resumed m.stack (m.registers r) h.callers (own r)
    act w p (Some ReturnNone) = resumed m.stack nothing h.callers nothing_names

-- ---- MACHINES BY WHAT THEY NAME

module _ (N : Numbers) where
  callers_in : (cs : List Caller) → AreAmong (CallersName cs) N → CallersIn N cs
  callers_in [] h = tt
  callers_in (c ∷ cs) h = (λ r k e. h k (inl (r, e)), callers_in cs (λ k x. h k (inr x)))

  callers_among : (cs : List Caller) → CallersIn N cs → AreAmong (CallersName cs) N
  callers_among [] h k x = absurd x
  callers_among (c ∷ cs) h k (inl x) = h.0 x.0 k x.1
  callers_among (c ∷ cs) h k (inr x) = callers_among cs h.1 k x

  machine_in : (m : Machine) → AreAmong (MachineNames m) N → MachineIn N m
  machine_in m h = record { registers = λ r k e. h k (inl (r, e)); callers = callers_in m.stack (λ k x. h k (inr x)) }

  machine_among : (m : Machine) → MachineIn N m → AreAmong (MachineNames m) N
  machine_among m h k (inl x) = h.registers x.0 k x.1
  machine_among m h k (inr x) = callers_among m.stack h.callers k x

  arrived : (s : Stage) (r : Run Machine) → Comes N s r (MachineIn N) → Arrives N s r
  arrived s (Ok x) h = (h.0, machine_among x.0 h.1)
  arrived s (Err e) h = h

  module _ (w : World) (c : List Function) where
    -- numbers among which are those that the machine names
    pub step_within : (m : Machine) (s : Stage) → AreAmong (MachineNames m) N → HasFrom N s.made → Arrives N s (step w c (slice_get m.steps m.pc) m s)
    step_within m s h new =
        let next = slice_get m.steps m.pc in
        arrived s (step w c next m s) ((act N m (machine_in m h) w c next).from s new)

    walk : (k : ℕ) (m : Machine) (s : Stage) → MachineIn N m → HasFrom N s.made → Ends N s (exec w c k m s)
    unfolding exec
    walk zero m s h new = tt
    walk (suc k) m s h new = go (step w c (slice_get m.steps m.pc) m s) ((act N m h w c (slice_get m.steps m.pc)).from s new) (walk k)
      where
        behind : (t : Stage) (o : Option (RunStop × Stage)) → Grows N s t → Ends N t o → Ends N s o
        behind t None g e = tt
        behind t (Some x) g e = grows_then N s t x.1 g e

        go : (r : Run Machine) → Comes N s r (MachineIn N)
            → ((m : Machine) (s : Stage) → MachineIn N m → HasFrom N s.made → Ends N s (exec w c k m s))
            → Ends N s (further r (exec w c k))
        go (Ok x) a rest =
            behind x.1 (exec w c k x.0 x.1) a.0 (rest x.0 x.1 a.1 (λ n le. let e = a.0.made in new n (omega (arith, e, le))))
        go (Err e) a rest = a

    pub run_within : (k : ℕ) (m : Machine) (s : Stage) → AreAmong (MachineNames m) N → HasFrom N s.made → Ends N s (exec w c k m s)
    run_within k m s h new = walk k m s (machine_in m h) new

pub take_named : (w : World) (c : List Function) (m : Machine) (s : Stage) → StepTakesWhatIsNamed w c m s
take_named w c m s = step_within (or_from (MachineNames m) s.made) w c m s (λ k h. inl h) (λ k le. inr le)

pub all_take_named : (w : World) (c : List Function) (k : ℕ) (m : Machine) (s : Stage) → RunTakesWhatIsNamed w c k m s
all_take_named w c k m s = run_within (or_from (MachineNames m) s.made) w c k m s (λ k h. inl h) (λ k le. inr le)
