-- Steps of code whose lines have 32 bits: each end can be written, and so to the end of a run.
use Rattle.std.proofs.Common.{◌≡◌, ℕ, zero, suc, ◌+◌, ◌<◌, ◌^◌, List, [], ◌∷◌, length, Option, Some, None, Ok, Err, Bool, true, false, refl}
use Rattle.std.proofs.Common.{arith}
use Rattle.std.specs.Prelude.{IsTrue, nat_lt, nat_le, slice_get, sum, map, if◌then◌else◌}
use Rattle.sc_text.specs.declared.end.TrapKind.TheVariants as trap
use Rattle.language_model.specs.Effects.{World, Stage, RunStop, Run, Effect, ◌>>=◌, carry, done}
use Rattle.program_trees.specs.Shapes.{shape_of}
use Rattle.language_model.specs.Values.{Value, plain, size}
use Rattle.language_model.specs.Evaluation.{nothing, array_elements, either, input_named}
use Rattle.language_model.specs.Reports.{dealing, beginning, not_dealt}
use Rattle.verified_code.specs.Steps.{Step, Literal, Move, Store, Binary, Not, Cast, Classify, Fill, At, Put, Size, Cat, Sum, Bits, Lookup, Declassify}
use Rattle.verified_code.specs.Steps.{Argument, Publish, Assert, Branch, Jump, Call, Return, ReturnNone, Function, kind_shape}
use Rattle.code_model.specs.Machine.{Caller, Machine, values_at, steps_of, entering, limit, same_truth, resume, step, exec, further, start, at, next}
use Rattle.code_model.specs.Meaning.{fuel, stopped_or, report_at, mean_in}
use Rattle.code_model.specs.Kinded.{IsIn}
use Rattle.written_code.specs.Says.{StepSays}
use Rattle.view_laws.specs.Ends.{HasRoom, CanBeWritten}
use Rattle.view_laws.proofs.Effects.{IsWithin, Comes, Ends, untrapped_ends, on_charge, on_test}
use Rattle.view_laws.proofs.Rows.{classified_ends, declassified_ends, operated_ends, negated_ends, cast_ends, size_ends, summed_ends, bits_end}
use Rattle.view_laws.proofs.Rows.{concatenated_ends, looked_up_ends, element_ends, with_element_ends, filled_ends, published_ends, tested_ends, asserted_ends, asked_ends}

abbrev pub is_line : ℕ → Bool
is_line n = nat_lt n (2 ^ 32)

below : (line : ℕ) → IsTrue (is_line line) → line < 2 ^ 32
below line h = grind (arith, h)

-- ---- THE STEPS OF A MACHINE

module _ (is_word : ℕ → Bool) (is_text : List ℕ → Bool) where
  abbrev pub AllSay : List Step → Type 0
  AllSay steps = (place : ℕ) (i : Step) → slice_get steps place ≡ Some i → StepSays is_word is_line is_text i

  abbrev pub HaveLines : List Function → Type 0
  HaveLines c = (f : Function) → IsIn c f → AllSay f.steps

  abbrev pub CallersSay : List Caller → Type 0
  CallersSay [] = Unit {0}
  CallersSay (c ∷ cs) = AllSay c.steps × CallersSay cs

  pub record Says (m : Machine) : Type 0 where
    pub own : AllSay m.steps
    pub callers : CallersSay m.stack

  none_say : AllSay []
  none_say place i e = cc

  steps_say : (c : List Function) → HaveLines c → (g : ℕ) (o : Option Function) → slice_get c g ≡ o → AllSay (steps_of o)
  steps_say c lines g None e = none_say
  steps_say c lines g (Some f) e = lines f (g, e)

  module _ (w : World) (budget : ℕ) (room : HasRoom w budget) (c : List Function) (lines : HaveLines c) where
    abbrev Goes : Run Machine → Type 0
    Goes (Ok x) = IsWithin w budget room x.1 × Says x.0
    Goes (Err e) = CanBeWritten e.0

    record Leads (m : Effect Machine) : Type 0 where
      from : (s : Stage) → IsWithin w budget room s → Goes (m s)

    to : (m : Machine) → Says m → Leads (done m)
    to m says = record { from = λ s within. (within, says) }

    by : {A : Type 0} {m : Effect A} {f : A → Effect Machine} → Ends w budget room m → ((a : A) → Leads (f a)) → Leads (m >>= f)
    by {A = A} {m = m} {f = f} h k = record { from = λ s within. go (m s) (h.from s within) }
      where
        go : (r : Run A) → Comes w budget room r → Goes (carry r f)
        go (Ok x) come = (k x.0).from x.1 come
        go (Err e) come = come

    resumed : (stack : List Caller) (v : Value) → CallersSay stack → Leads (resume stack v)
    resumed [] v says = record { from = λ s within. tt }
    resumed (x ∷ xs) v says = to _ (record { own = says.0; callers = says.1 })

    module _ (m : Machine) (says : Says m) where
      stays : (d : ℕ) (v : Value) → Leads (done (next d v m))
      stays d v = to (next d v m) (record { own = says.own; callers = says.callers })

      jumps : (pc : ℕ) → Leads (done (at pc m))
      jumps pc = to (at pc m) (record { own = says.own; callers = says.callers })

      leads : (o : Option Step) → ((i : Step) → o ≡ Some i → StepSays is_word is_line is_text i) → Leads (step w c o m)
      leads None h = record { from = λ s within. tt }
      leads (Some (Literal d e n)) h = stays d (plain (shape_of e false) (n ∷ []))
      leads (Some (Move d r)) h = stays d (m.registers r)
      leads (Some (Store d r)) h = by (untrapped_ends w budget room (size (m.registers r))) (λ _. stays d (m.registers r))
      leads (Some (Binary line op ds d a b)) h =
          by (operated_ends w budget room line op ds (m.registers a) (m.registers b) (below line (h _ refl))) (λ v. stays d v)
      leads (Some (Not d r)) h = by (negated_ends w budget room (m.registers r)) (λ v. stays d v)
      leads (Some (Cast x d r)) h = by (cast_ends w budget room x (m.registers r)) (λ v. stays d v)
      leads (Some (Classify d r)) h = by (classified_ends w budget room (m.registers r)) (λ v. stays d v)
      leads (Some (Fill line d n x)) h =
          by (filled_ends w budget room line (m.registers n) (m.registers x) (below line (h _ refl))) (λ v. stays d v)
      leads (Some (At line d a i)) h =
          by (element_ends w budget room line (m.registers a) (m.registers i) (below line (h _ refl))) (λ v. stays d v)
      leads (Some (Put line a i x)) h =
          by (with_element_ends w budget room line (m.registers a) (m.registers i) (m.registers x) (below line (h _ refl))) (λ v. stays a v)
      leads (Some (Size d r)) h = by (size_ends w budget room (m.registers r)) (λ v. stays d v)
      leads (Some (Cat line d a b)) h =
          by (concatenated_ends w budget room line (m.registers a) (m.registers b) (below line (h _ refl))) (λ v. stays d v)
      leads (Some (Sum d r)) h = by (summed_ends w budget room (m.registers r)) (λ v. stays d v)
      leads (Some (Bits line d r)) h = by (bits_end w budget room line (m.registers r) (below line (h _ refl))) (λ v. stays d v)
      leads (Some (Lookup line d a i)) h =
          by (looked_up_ends w budget room line (m.registers a) (m.registers i) (below line (h _ refl))) (λ v. stays d v)
      leads (Some (Declassify d r)) h = by (declassified_ends w budget room (m.registers r)) (λ v. stays d v)
      leads (Some (Argument line kind text d)) h =
          by (asked_ends w budget room kind.secret (kind_shape kind) line (input_named w text) (below line (h _ refl).0)) (λ v. stays d v)
      leads (Some (Publish text r)) h = by (published_ends w budget room text (m.registers r)) (λ _. jumps (m.pc + 1))
      leads (Some (Assert line r)) h = by (asserted_ends w budget room line (m.registers r) (below line (h _ refl))) (λ _. jumps (m.pc + 1))
      leads (Some (Branch r b target)) h =
          by (tested_ends w budget room (m.registers r)) (λ t. jumps (either (same_truth t b) target (m.pc + 1)))
      leads (Some (Jump target)) h = jumps target
      leads (Some (Call line g d args)) h =
          by (on_charge w budget room 1)
          (λ _. by (on_test w budget room (nat_lt (length m.stack) limit) trap.Depth line (below line (h _ refl)))
          (λ _. by (on_charge w budget room (sum (map array_elements (values_at m.registers args))))
          (λ _. to (entering (slice_get c g) d (values_at m.registers args) m)
          (record { own = steps_say c lines g (slice_get c g) refl; callers = (says.own, says.callers) }))))
      leads (Some (Return r)) h = resumed m.stack (m.registers r) says.callers
      leads (Some ReturnNone) h = resumed m.stack nothing says.callers

    -- ---- A RUN

    abbrev EndsSo : Option (RunStop × Stage) → Type 0
    EndsSo None = Unit {0}
    EndsSo (Some x) = CanBeWritten x.0

    runs : (k : ℕ) (m : Machine) (s : Stage) → Says m → IsWithin w budget room s → EndsSo (exec w c k m s)
    unfolding exec
    runs zero m s says within = tt
    runs (suc k) m s says within =
        go (step w c (slice_get m.steps m.pc) m s) ((leads m says (slice_get m.steps m.pc) (λ i e. says.own m.pc i e)).from s within)
        (λ m s says within. runs k m s says within)
      where
        go : (r : Run Machine) → Goes r → ((m : Machine) (s : Stage) → Says m → IsWithin w budget room s → EndsSo (exec w c k m s))
            → EndsSo (further r (exec w c k))
        go (Ok x) goes rest = rest x.0 x.1 goes.1 goes.0
        go (Err e) goes rest = goes

    starts : Says (start c)
    starts = record { own = steps_say c lines 0 (slice_get c 0) refl; callers = tt }

    pub code_ends : (answers : List ℕ) → CanBeWritten (mean_in w c budget answers).stop
    code_ends answers = both (nat_le (dealing w) w.dealer)
      where
        begun : Stage
        begun = beginning budget answers

        stopped : (o : Option (RunStop × Stage)) → EndsSo o → CanBeWritten (report_at w budget (stopped_or begun o)).stop
        stopped None h = tt
        stopped (Some x) h = h

        both : (b : Bool)
            → CanBeWritten (if b then report_at w budget (stopped_or begun (exec w c (fuel c budget) (start c) begun)) else not_dealt w).stop
        both true =
            stopped (exec w c (fuel c budget) (start c) begun)
            (runs (fuel c budget) (start c) begun starts (record { left = omega arith; drawn = (omega arith, omega arith, omega arith) }))
        both false = (room.dealt, room.dealer)
