-- What each step does: the effect of its row of the language, and then the next step.
use Rattle.std.specs.Prelude.{ℕ, zero, suc, ◌+◌, false, List, [], ◌∷◌, length, drop, map, sum, nat_lt, Option, Some, None, unwrap_or, Ok, Err}
use Rattle.std.specs.List.{slice_get}
use Rattle.sc_text.specs.declared.end.Ending.TheVariants as ending
use Rattle.sc_text.specs.declared.end.TrapKind.TheVariants as trap
use Rattle.program_trees.specs.Shapes.{shape_of}
use Rattle.blind_evaluation.specs.Effects.{World, Stage, RunStop, Run, Effect, ◌>>=◌, done, end, charge, test}
use Rattle.blind_evaluation.specs.Values.{Value, plain, never_stored, size}
use Rattle.blind_evaluation.specs.Operations as row
use Rattle.blind_evaluation.specs.Evaluation.{Frame, put, nothing, array_elements, either, asked_for, input_named}
pub use Rattle.blind_evaluation.specs.Evaluation.{same_truth}
use Rattle.bytecode.specs.declared.kind.Kind.{Kind}
use Rattle.verified_code.specs.Steps.{kind_shape, Step, Literal, Move, Store, Binary, Not, Cast, Classify, Fill, At, Put, Size, Cat, Sum, Bits, Lookup, Declassify}
use Rattle.verified_code.specs.Steps.{Argument, Publish, Assert, Branch, Jump, Call, Return, ReturnNone, Function}

-- where a call comes back to, and the register of its result
pub record Caller : Type 0 where
  pub steps : List Step
  pub pc : ℕ
  pub registers : Frame
  pub result : Option ℕ

-- the steps of the function that runs, the place of the next one, the registers, and who called
pub record Machine : Type 0 where
  pub steps : List Step
  pub pc : ℕ
  pub registers : Frame
  pub stack : List Caller

abbrev pub at : ℕ → Machine → Machine
at pc m = record m { pc = pc }

-- a value goes to a register, and the next step comes
abbrev pub next : ℕ → Value → Machine → Machine
next d v m = record m { pc = m.pc + 1; registers = put d v m.registers }

-- so does what an effect gives
abbrev pub into : ℕ → Machine → Value → Effect Machine
into d m v = done (next d v m)

abbrev pub values_at : Frame → List ℕ → List Value
values_at registers rs = map registers rs

-- ---- CALLS

-- what a register begins as
abbrev pub begun : Option Kind → Value
begun None = nothing
begun (Some k) = never_stored k.secret (kind_shape k)

abbrev pub behind_first : {A : Type 0} → List A → List A
behind_first = drop 1

-- the registers of a called function: its arguments, and then what each begins as
abbrev pub filled_with : List Kind → List Value → Frame
filled_with kinds [] k = begun (slice_get kinds k)
filled_with kinds (x ∷ xs) zero = x
filled_with kinds (x ∷ xs) (suc k) = filled_with (behind_first kinds) xs k

-- the code of a function that isn't there
abbrev pub nothing_code : Function
nothing_code = record { parameters = 0; gives = None; kinds = []; steps = [] }

abbrev pub kinds_of : Option Function → List Kind
kinds_of f = (unwrap_or f nothing_code).kinds

abbrev pub steps_of : Option Function → List Step
steps_of f = (unwrap_or f nothing_code).steps

abbrev pub caller_of : Option ℕ → Machine → Caller
caller_of d m = record { steps = m.steps; pc = m.pc + 1; registers = m.registers; result = d }

abbrev pub entering : Option Function → (result : Option ℕ) → List Value → Machine → Machine
entering f d xs m =
    record { steps = steps_of f; pc = 0; registers = filled_with (kinds_of f) xs; stack = caller_of d m ∷ m.stack }

-- calls that may stand in one another beside `main`
abbrev pub limit : ℕ
limit = 63

-- a result goes to its register, if it has one
abbrev pub received : Option ℕ → Value → Frame → Frame
received None v fr = fr
received (Some d) v fr = put d v fr

-- where `main` gives back, the run is done
abbrev pub resume : List Caller → Value → Effect Machine
resume [] v = end ending.Done
resume (c ∷ cs) v = done (record { steps = c.steps; pc = c.pc; registers = received c.result v c.registers; stack = cs })

-- ---- ONE STEP

-- after the last step, where verified code never comes, the run is done
abbrev pub step : World → List Function → Option Step → Machine → Effect Machine
step w p None m = end ending.Done
step w p (Some (Literal d element n)) m = done (next d (plain (shape_of element false) (n ∷ [])) m)
step w p (Some (Move d r)) m = done (next d (m.registers r) m)
step w p (Some (Store d r)) m = do
  _ ← row.charged row.no_traps (size (m.registers r))
  done (next d (m.registers r) m)
step w p (Some (Binary line op ds d a b)) m = row.operated w line op ds (m.registers a) (m.registers b) >>= into d m
step w p (Some (Not d r)) m = row.negated (m.registers r) >>= into d m
step w p (Some (Cast c d r)) m = row.cast_to w c (m.registers r) >>= into d m
step w p (Some (Classify d r)) m = row.classified (m.registers r) >>= into d m
step w p (Some (Fill line d n x)) m = row.filled line (m.registers n) (m.registers x) >>= into d m
step w p (Some (At line d a i)) m = row.element_of_array line (m.registers a) (m.registers i) >>= into d m
step w p (Some (Put line a i x)) m = row.with_element line (m.registers a) (m.registers i) (m.registers x) >>= into a m
step w p (Some (Size d r)) m = row.size_told (m.registers r) >>= into d m
step w p (Some (Cat line d a b)) m = row.concatenated line (m.registers a) (m.registers b) >>= into d m
step w p (Some (Sum d r)) m = row.summed (m.registers r) >>= into d m
step w p (Some (Bits line d r)) m = row.bits_extracted w line (m.registers r) >>= into d m
step w p (Some (Lookup line d a i)) m = row.looked_up w line (m.registers a) (m.registers i) >>= into d m
step w p (Some (Declassify d r)) m = row.declassified w (m.registers r) >>= into d m
step w p (Some (Argument line kind text d)) m = asked_for kind.secret (kind_shape kind) line (input_named w text) >>= into d m
step w p (Some (Publish text r)) m = do
  _ ← row.published w text (m.registers r)
  done (at (m.pc + 1) m)
step w p (Some (Assert line r)) m = do
  _ ← row.asserted line (m.registers r)
  done (at (m.pc + 1) m)
step w p (Some (Branch r b target)) m = row.tested (m.registers r) >>= λ t. done (at (either (same_truth t b) target (m.pc + 1)) m)
step w p (Some (Jump target)) m = done (at target m)
step w p (Some (Call line g d args)) m = do
  _ ← charge 1
  _ ← test (nat_lt (length m.stack) limit) trap.Depth line
  _ ← charge (sum (map array_elements (values_at m.registers args)))
  done (entering (slice_get p g) d (values_at m.registers args) m)
step w p (Some (Return r)) m = resume m.stack (m.registers r)
step w p (Some ReturnNone) m = resume m.stack nothing

-- ---- A RUN OF CODE

abbrev pub further : {A : Type 0} → Run A → (A → Stage → Option (RunStop × Stage)) → Option (RunStop × Stage)
further (Ok x) f = f x.0 x.1
further (Err e) f = Some e

-- at most so many steps: why the run stopped and where it stood, if it did
unfoldable pub exec : World → List Function → ℕ → Machine → Stage → Option (RunStop × Stage)
exec w p zero m s = None
exec w p (suc k) m s = further (step w p (slice_get m.steps m.pc) m s) (exec w p k)

abbrev pub begin_at : Option Function → Machine
begin_at f = record { steps = steps_of f; pc = 0; registers = filled_with (kinds_of f) []; stack = [] }

-- `main` is number 0, and is called without arguments
abbrev pub start : List Function → Machine
start p = begin_at (slice_get p 0)
