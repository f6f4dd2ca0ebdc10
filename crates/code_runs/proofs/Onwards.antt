-- No step draws more words than the tapes have.
use Rattle.std.proofs.Common.{List, [], ◌∷◌, Option, Some, None}
use Rattle.std.specs.Prelude.{length, map, sum, nat_lt}
use Rattle.sc_text.specs.declared.end.Ending.TheVariants as ending
use Rattle.sc_text.specs.declared.end.TrapKind.TheVariants as trap
use Rattle.language_model.specs.Effects.{World}
use Rattle.language_model.specs.Values.{Value, size}
use Rattle.language_model.specs.Evaluation.{nothing, array_elements, input_named}
use Rattle.language_model.proofs.Walk as walk
use Rattle.language_model.proofs.Onward.{Onward, is_onward, onward_law, onward_bind, onward_done, onward_end, onward_charge, onward_test}
use Rattle.verified_code.specs.Steps.{kind_shape, Step, Literal, Move, Store, Binary, Not, Cast, Classify, Fill, At, Put, Size, Cat, Sum, Bits, Lookup, Declassify}
use Rattle.verified_code.specs.Steps.{Argument, Publish, Assert, Branch, Jump, Call, Return, ReturnNone, Function}
use Rattle.code_model.specs.Machine.{Caller, Machine, values_at, limit, resume, step}

module _ (w : World) (c : List Function) (m : Machine) where
  abbrev law : walk.IsLaw w w (is_onward w)
  law = onward_law w

  back_onward : (stack : List Caller) (v : Value) → Onward w (resume stack v)
  back_onward [] v = onward_end ending.Done
  back_onward (x ∷ xs) v = onward_done _

  pub step_onward : (i : Option Step) → Onward w (step w c i m)
  unfolding is_onward
  step_onward None = onward_end ending.Done
  step_onward (Some (Literal d e n)) = onward_done _
  step_onward (Some (Move d r)) = onward_done _
  step_onward (Some (Store d r)) = onward_bind (walk.untrapped_holds w w (is_onward w) law (size (m.registers r))) (λ _. onward_done _)
  step_onward (Some (Binary line op ds d a b)) =
      onward_bind (walk.operated_holds w w (is_onward w) law line op ds (m.registers a) (m.registers b)) (λ _. onward_done _)
  step_onward (Some (Not d r)) = onward_bind (walk.negated_holds w w (is_onward w) law (m.registers r)) (λ _. onward_done _)
  step_onward (Some (Cast k d r)) = onward_bind (walk.cast_holds w w (is_onward w) law k (m.registers r)) (λ _. onward_done _)
  step_onward (Some (Classify d r)) = onward_bind (walk.classified_holds w w (is_onward w) law (m.registers r).secrecy (m.registers r)) (λ _. onward_done _)
  step_onward (Some (Fill line d n x)) = onward_bind (walk.filled_holds w w (is_onward w) law line (m.registers n) (m.registers x)) (λ _. onward_done _)
  step_onward (Some (At line d a i)) = onward_bind (walk.element_holds w w (is_onward w) law line (m.registers a) (m.registers i)) (λ _. onward_done _)
  step_onward (Some (Put line a i x)) =
      onward_bind (walk.with_element_holds w w (is_onward w) law line (m.registers a) (m.registers i) (m.registers x)) (λ _. onward_done _)
  step_onward (Some (Size d r)) = onward_bind (walk.size_holds w w (is_onward w) law (m.registers r)) (λ _. onward_done _)
  step_onward (Some (Cat line d a b)) = onward_bind (walk.concatenated_holds w w (is_onward w) law line (m.registers a) (m.registers b)) (λ _. onward_done _)
  step_onward (Some (Sum d r)) = onward_bind (walk.summed_holds w w (is_onward w) law (m.registers r)) (λ _. onward_done _)
  step_onward (Some (Bits line d r)) = onward_bind (walk.bits_holds w w (is_onward w) law line (m.registers r)) (λ _. onward_done _)
  step_onward (Some (Lookup line d a i)) =
      onward_bind (walk.looked_up_holds w w (is_onward w) law line (m.registers a) (m.registers i)) (λ _. onward_done _)
  step_onward (Some (Declassify d r)) = onward_bind (walk.declassified_holds w w (is_onward w) law (m.registers r)) (λ _. onward_done _)
  step_onward (Some (Argument line k text d)) =
      onward_bind (walk.asked_holds w w (is_onward w) law k.secret (kind_shape k) line (input_named w text)) (λ _. onward_done _)
  step_onward (Some (Publish text r)) = onward_bind (walk.published_holds w w (is_onward w) law text (m.registers r)) (λ _. onward_done _)
  step_onward (Some (Assert line r)) = onward_bind (walk.asserted_holds w w (is_onward w) law line (m.registers r)) (λ _. onward_done _)
  step_onward (Some (Branch r b target)) = onward_bind (walk.tested_holds w w (is_onward w) law (m.registers r)) (λ _. onward_done _)
  step_onward (Some (Jump target)) = onward_done _
  step_onward (Some (Call line g d args)) =
      onward_bind (onward_charge 1) (λ _. onward_bind (onward_test (nat_lt (length m.stack) limit) trap.Depth line) (λ _.
      onward_bind (onward_charge (sum (map array_elements (values_at m.registers args)))) (λ _. onward_done _)))
  step_onward (Some (Return r)) = back_onward m.stack (m.registers r)
  step_onward (Some ReturnNone) = back_onward m.stack nothing
