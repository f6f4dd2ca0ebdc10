-- Each step does the same where it is told more words than it takes.
use Rattle.std.proofs.Common.{List, [], ◌∷◌, Option, Some, None}
use Rattle.std.specs.Prelude.{length, map, sum, nat_lt}
use Rattle.sc_text.specs.declared.end.Ending.TheVariants as ending
use Rattle.sc_text.specs.declared.end.TrapKind.TheVariants as trap
use Rattle.language_model.specs.Effects.{World}
use Rattle.language_model.specs.Values.{Value, size}
use Rattle.language_model.specs.Evaluation.{nothing, array_elements, input_named}
use Rattle.language_model.proofs.Walk as walk
use Rattle.miner_ends.proofs.Hears.{Hears, is_hearing, hears_law, hears_bind, hears_done, hears_end, hears_charge, hears_test}
use Rattle.verified_code.specs.Steps.{kind_shape, Step, Literal, Move, Store, Binary, Not, Cast, Classify, Fill, At, Put, Size, Cat, Sum, Bits, Lookup, Declassify}
use Rattle.verified_code.specs.Steps.{Argument, Publish, Assert, Branch, Jump, Call, Return, ReturnNone, Function}
use Rattle.code_model.specs.Machine.{Caller, Machine, values_at, limit, resume, step}

module _ (w : World) (c : List Function) (m : Machine) where
  abbrev law : walk.IsLaw w w is_hearing
  law = hears_law w

  back_hears : (stack : List Caller) (v : Value) → Hears (resume stack v) (resume stack v)
  back_hears [] v = hears_end ending.Done
  back_hears (x ∷ xs) v = hears_done _

  pub step_hears : (i : Option Step) → Hears (step w c i m) (step w c i m)
  unfolding is_hearing
  step_hears None = hears_end ending.Done
  step_hears (Some (Literal d e n)) = hears_done _
  step_hears (Some (Move d r)) = hears_done _
  step_hears (Some (Store d r)) = hears_bind (walk.untrapped_holds w w is_hearing law (size (m.registers r))) (λ _. hears_done _)
  step_hears (Some (Binary line op ds d a b)) =
      hears_bind (walk.operated_holds w w is_hearing law line op ds (m.registers a) (m.registers b)) (λ _. hears_done _)
  step_hears (Some (Not d r)) = hears_bind (walk.negated_holds w w is_hearing law (m.registers r)) (λ _. hears_done _)
  step_hears (Some (Cast k d r)) = hears_bind (walk.cast_holds w w is_hearing law k (m.registers r)) (λ _. hears_done _)
  step_hears (Some (Classify d r)) = hears_bind (walk.classified_holds w w is_hearing law (m.registers r).secrecy (m.registers r)) (λ _. hears_done _)
  step_hears (Some (Fill line d n x)) = hears_bind (walk.filled_holds w w is_hearing law line (m.registers n) (m.registers x)) (λ _. hears_done _)
  step_hears (Some (At line d a i)) = hears_bind (walk.element_holds w w is_hearing law line (m.registers a) (m.registers i)) (λ _. hears_done _)
  step_hears (Some (Put line a i x)) =
      hears_bind (walk.with_element_holds w w is_hearing law line (m.registers a) (m.registers i) (m.registers x)) (λ _. hears_done _)
  step_hears (Some (Size d r)) = hears_bind (walk.size_holds w w is_hearing law (m.registers r)) (λ _. hears_done _)
  step_hears (Some (Cat line d a b)) = hears_bind (walk.concatenated_holds w w is_hearing law line (m.registers a) (m.registers b)) (λ _. hears_done _)
  step_hears (Some (Sum d r)) = hears_bind (walk.summed_holds w w is_hearing law (m.registers r)) (λ _. hears_done _)
  step_hears (Some (Bits line d r)) = hears_bind (walk.bits_holds w w is_hearing law line (m.registers r)) (λ _. hears_done _)
  step_hears (Some (Lookup line d a i)) =
      hears_bind (walk.looked_up_holds w w is_hearing law line (m.registers a) (m.registers i)) (λ _. hears_done _)
  step_hears (Some (Declassify d r)) = hears_bind (walk.declassified_holds w w is_hearing law (m.registers r)) (λ _. hears_done _)
  step_hears (Some (Argument line k text d)) =
      hears_bind (walk.asked_holds w w is_hearing law k.secret (kind_shape k) line (input_named w text)) (λ _. hears_done _)
  step_hears (Some (Publish text r)) = hears_bind (walk.published_holds w w is_hearing law text (m.registers r)) (λ _. hears_done _)
  step_hears (Some (Assert line r)) = hears_bind (walk.asserted_holds w w is_hearing law line (m.registers r)) (λ _. hears_done _)
  step_hears (Some (Branch r b target)) = hears_bind (walk.tested_holds w w is_hearing law (m.registers r)) (λ _. hears_done _)
  step_hears (Some (Jump target)) = hears_done _
  step_hears (Some (Call line g d args)) =
      hears_bind (hears_charge 1) (λ _. hears_bind (hears_test (nat_lt (length m.stack) limit) trap.Depth line) (λ _.
      hears_bind (hears_charge (sum (map array_elements (values_at m.registers args)))) (λ _. hears_done _)))
  step_hears (Some (Return r)) = back_hears m.stack (m.registers r)
  step_hears (Some ReturnNone) = back_hears m.stack nothing
