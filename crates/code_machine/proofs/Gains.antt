-- Steps only gain.
use Rattle.std.proofs.Common.{ℕ, ◌+◌, List, [], ◌∷◌, Option, Some, None, Ok, Err}
use Rattle.sc_text.specs.declared.end.Ending.TheVariants as ending
use Rattle.sc_text.specs.declared.end.TrapKind.TheVariants as trap
use Rattle.language_model.specs.Effects.{World, Stage, Run, Effect, ◌>>=◌, done}
use Rattle.language_model.specs.Values.{Value, size}
use Rattle.language_model.specs.Evaluation.{either, nothing}
use Rattle.language_model.proofs.Walk as walk
use Rattle.language_model.proofs.Onward.{Onward, Went, is_onward, onward_law, stage_of}
use Rattle.verified_code.specs.Steps.{kind_shape, Step, Literal, Move, Store, Binary, Not, Cast, Classify, Fill, At, Put, Size, Cat, Sum, Bits, Lookup}
use Rattle.verified_code.specs.Steps.{Declassify, Argument, Publish, Assert, Branch, Jump, Call, Return, ReturnNone, Function}
use Rattle.named_values.specs.Machine.{Caller, Machine, at, next, resume, same_truth, step}
use Rattle.code_machine.specs.Marks.{HasGained, reached}

module _ (w : World) (p : List Function) (m : Machine) where
  abbrev law : walk.IsLaw w w (is_onward w)
  law = onward_law w

  abbrev On : {A : Type 0} → Effect A → Type 0
  On {A = A} e = is_onward w A e e

  -- a value goes to a register
  sets : (d : ℕ) (e : Effect Value) → On e → On (e >>= λ v. done (next d v m))
  sets d e h = law.bind h (λ v. law.on_done _)

  -- a place comes
  goes : {A : Type 0} (e : Effect A) (to : A → Machine) → On e → On (e >>= λ a. done (to a))
  goes e to h = law.bind h (λ a. law.on_done _)

  back : (cs : List Caller) (v : Value) → On (resume cs v)
  back [] v = law.on_end ending.Done
  back (c ∷ cs) v = law.on_done _

  act : (o : Option Step) → On (step w p o m)
  act None = law.on_end ending.Done
  act (Some (Literal d e n)) = law.on_done _
  act (Some (Move d r)) = law.on_done _
  act (Some (Store d r)) = goes _ _ (walk.untrapped_holds w w (is_onward w) law (size (m.registers r)))
  act (Some (Binary line op ds d a b)) = sets d _ (walk.operated_holds w w (is_onward w) law line op ds (m.registers a) (m.registers b))
  act (Some (Not d r)) = sets d _ (walk.negated_holds w w (is_onward w) law (m.registers r))
  act (Some (Cast c d r)) = sets d _ (walk.cast_holds w w (is_onward w) law c (m.registers r))
  act (Some (Classify d r)) = sets d _ (walk.classified_holds w w (is_onward w) law (m.registers r).secrecy (m.registers r))
  act (Some (Fill line d n x)) = sets d _ (walk.filled_holds w w (is_onward w) law line (m.registers n) (m.registers x))
  act (Some (At line d a i)) = sets d _ (walk.element_holds w w (is_onward w) law line (m.registers a) (m.registers i))
  act (Some (Put line a i x)) = sets a _ (walk.with_element_holds w w (is_onward w) law line (m.registers a) (m.registers i) (m.registers x))
  act (Some (Size d r)) = sets d _ (walk.size_holds w w (is_onward w) law (m.registers r))
  act (Some (Cat line d a b)) = sets d _ (walk.concatenated_holds w w (is_onward w) law line (m.registers a) (m.registers b))
  act (Some (Sum d r)) = sets d _ (walk.summed_holds w w (is_onward w) law (m.registers r))
  act (Some (Bits line d r)) = sets d _ (walk.bits_holds w w (is_onward w) law line (m.registers r))
  act (Some (Lookup line d a i)) = sets d _ (walk.looked_up_holds w w (is_onward w) law line (m.registers a) (m.registers i))
  act (Some (Declassify d r)) = sets d _ (walk.declassified_holds w w (is_onward w) law (m.registers r))
  act (Some (Argument line k text d)) = sets d _ (walk.input_holds w w (is_onward w) law k.secret (kind_shape k) line text)
  act (Some (Publish text r)) = goes _ _ (walk.published_holds w w (is_onward w) law text (m.registers r))
  act (Some (Assert line r)) = goes _ _ (walk.asserted_holds w w (is_onward w) law line (m.registers r))
  act (Some (Branch r b target)) = goes _ (λ t. at (either (same_truth t b) target (m.pc + 1)) m) (walk.tested_holds w w (is_onward w) law (m.registers r))
  act (Some (Jump target)) = law.on_done _
  act (Some (Call line g d args)) = law.bind (law.on_charge 1)
      (λ u. law.bind (law.on_test _ trap.Depth line) (λ u. law.bind (law.on_charge _) (λ u. law.on_done _)))
  act (Some (Return r)) = back m.stack (m.registers r)
  act (Some ReturnNone) = back m.stack nothing

  as-law : {A : Type 0} (e : Effect A) → On e → Onward w e
  unfolding is_onward
  as-law e h = h

  gained : (s : Stage) (r : Run Machine) → Went w s (stage_of r) → HasGained s (reached r)
  gained s (Ok x) h = record { gates = h.gates; events = h.events; opened = h.opened }
  gained s (Err x) h = record { gates = h.gates; events = h.events; opened = h.opened }

  pub step-gains : (o : Option Step) (s : Stage) → HasGained s (reached (step w p o m s))
  step-gains o s = gained s (step w p o m s) ((as-law (step w p o m) (act o)).from s)
