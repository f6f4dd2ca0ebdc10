-- Each step of code does today what it did in the first version, but for the random words that it draws.
use Rattle.std.proofs.Common.{ℕ, List, [], ◌∷◌, Option, Some, None}
use Rattle.std.specs.Prelude.{length, map, sum, nat_lt}
use Rattle.sc_text.specs.declared.end.Ending.TheVariants as ending
use Rattle.sc_text.specs.declared.end.TrapKind.TheVariants as trap
use Rattle.gates.specs.declared.gate.Gate.TheVariants.{Open, Result}
use Rattle.program_trees.specs.declared.operators.BinaryOperator.{BinaryOperator}
use Rattle.program_trees.specs.declared.operators.Operands.{Operands}
use Rattle.language_model.specs.Effects.{World}
use Rattle.language_model.specs.Values.{Secrecy, Plain, Private, Value, size, ring_for, elements_of, visible_words}
use Rattle.language_model.specs.Words as W
use Rattle.language_model.specs.Operations as row
use Rattle.language_model.specs.Evaluation.{nothing, array_elements, input_named}
use Rattle.language_model.proofs.Walk as walk
use Rattle.verified_code.specs.Steps.{kind_shape, Step, Literal, Move, Store, Binary, Not, Cast, Classify, Fill, At, Put, Size, Cat, Sum, Bits, Lookup, Declassify}
use Rattle.verified_code.specs.Steps.{Argument, Publish, Assert, Branch, Jump, Call, Return, ReturnNone, Function}
use Rattle.code_model.specs.Machine.{Caller, Machine, values_at, limit, resume, step}
use Rattle.first_version.specs.Rows as first
use Rattle.first_version.specs.Meaning.{step_v1}
use Rattle.first_version.proofs.Beside.{Beside, is_beside, beside_law, beside_bind, beside_done, beside_end, beside_charge, beside_test, beside_draw, beside_gate}
use Rattle.first_version.proofs.Beside.{beside_emit}

module _ (w : World) where
  abbrev law : walk.IsLaw w w is_beside
  law = beside_law w

  opened_beside : (x : Secrecy) (v : Value) → Beside (first.opened_from w x v) (row.opened_from w x v)
  unfolding is_beside
  opened_beside Plain v = beside_done v
  opened_beside (Private k) v =
      beside_bind (beside_draw w _ _) (λ _. beside_bind (walk.number_holds w w is_beside law v) (λ u.
      beside_bind (beside_gate (Open (ring_for v.shape.element) u)) (λ _. walk.revealed_holds w w is_beside law v)))

  declassified_beside : (v : Value) → Beside (first.declassified w v) (row.declassified w v)
  unfolding is_beside
  declassified_beside v = beside_bind (walk.untrapped_holds w w is_beside law (size v)) (λ _. opened_beside v.secrecy v)

  handed_beside : (x : Secrecy) (v : Value) → Beside (first.handed_over w x v) (row.handed_over w x v)
  unfolding is_beside
  handed_beside Plain v = beside_done tt
  handed_beside (Private k) v =
      beside_bind (beside_draw w _ _) (λ _. beside_bind (walk.number_holds w w is_beside law v) (λ u.
      beside_bind (beside_gate (Result (ring_for v.shape.element) u)) (λ _. beside_done tt)))

  published_beside : (text : List ℕ) (v : Value) → Beside (first.published w text v) (row.published w text v)
  unfolding is_beside
  published_beside text v =
      beside_bind (walk.untrapped_holds w w is_beside law (size v)) (λ _. beside_bind (handed_beside v.secrecy v) (λ _.
      beside_emit (row.publication v.secrecy v.shape.element text (elements_of v))))

  private_beside : (op : BinaryOperator) (ds : Operands) (x y : Value) → Beside (first.private_result w op ds x y) (row.private_result w op ds x y)
  unfolding is_beside
  private_beside op ds x y =
      let n = W.result_size ds x y in
      beside_bind (beside_draw w _ _) (λ _. beside_bind (walk.number_holds w w is_beside law x) (λ j.
      beside_bind (walk.number_holds w w is_beside law y) (λ k.
      beside_bind (walk.stretched_holds w w is_beside law x.shape.element (row.is_scalar_left ds) n j) (λ u.
      beside_bind (walk.stretched_holds w w is_beside law y.shape.element (row.is_scalar_right ds) n k) (λ v.
      beside_bind (walk.operator_gates_hold w w is_beside law op n u v) (λ r. beside_done _))))))

  combined_beside : (a b : Secrecy) (op : BinaryOperator) (ds : Operands) (x y : Value)
      → Beside (first.combined_from a b w op ds x y) (row.combined_from a b w op ds x y)
  unfolding is_beside
  combined_beside Plain b op ds x y = walk.combined_holds w w is_beside law Plain b op ds x y
  combined_beside (Private j) Plain op ds x y = walk.combined_holds w w is_beside law (Private j) Plain op ds x y
  combined_beside (Private j) (Private k) op ds x y = private_beside op ds x y

  operated_beside : (line : ℕ) (op : BinaryOperator) (ds : Operands) (x y : Value) → Beside (first.operated w line op ds x y) (row.operated w line op ds x y)
  unfolding is_beside
  operated_beside line op ds x y =
      beside_bind (walk.charged_holds w w is_beside law (row.operator_traps line op ds x y) (W.result_size ds x y)
      (law.bind (law.on_test (W.are_alike ds x y) trap.Length line) (λ _. law.on_test (W.may_divide op (visible_words y)) trap.Div line))) (λ _.
      combined_beside x.secrecy y.secrecy op ds x y)

  back_beside : (stack : List Caller) (v : Value) → Beside (resume stack v) (resume stack v)
  back_beside [] v = beside_end ending.Done
  back_beside (x ∷ xs) v = beside_done _

  module _ (c : List Function) (m : Machine) where
    pub step_beside : (i : Option Step) → Beside (step_v1 w c i m) (step w c i m)
    unfolding is_beside
    step_beside None = beside_end ending.Done
    step_beside (Some (Literal d e n)) = beside_done _
    step_beside (Some (Move d r)) = beside_done _
    step_beside (Some (Store d r)) = beside_bind (walk.untrapped_holds w w is_beside law (size (m.registers r))) (λ _. beside_done _)
    step_beside (Some (Binary line op ds d a b)) = beside_bind (operated_beside line op ds (m.registers a) (m.registers b)) (λ _. beside_done _)
    step_beside (Some (Not d r)) = beside_bind (walk.negated_holds w w is_beside law (m.registers r)) (λ _. beside_done _)
    step_beside (Some (Cast k d r)) = beside_bind (walk.cast_holds w w is_beside law k (m.registers r)) (λ _. beside_done _)
    step_beside (Some (Classify d r)) = beside_bind (walk.classified_holds w w is_beside law (m.registers r).secrecy (m.registers r)) (λ _. beside_done _)
    step_beside (Some (Fill line d n x)) = beside_bind (walk.filled_holds w w is_beside law line (m.registers n) (m.registers x)) (λ _. beside_done _)
    step_beside (Some (At line d a i)) = beside_bind (walk.element_holds w w is_beside law line (m.registers a) (m.registers i)) (λ _. beside_done _)
    step_beside (Some (Put line a i x)) =
        beside_bind (walk.with_element_holds w w is_beside law line (m.registers a) (m.registers i) (m.registers x)) (λ _. beside_done _)
    step_beside (Some (Size d r)) = beside_bind (walk.size_holds w w is_beside law (m.registers r)) (λ _. beside_done _)
    step_beside (Some (Cat line d a b)) = beside_bind (walk.concatenated_holds w w is_beside law line (m.registers a) (m.registers b)) (λ _. beside_done _)
    step_beside (Some (Sum d r)) = beside_bind (walk.summed_holds w w is_beside law (m.registers r)) (λ _. beside_done _)
    step_beside (Some (Bits line d r)) = beside_bind (walk.bits_holds w w is_beside law line (m.registers r)) (λ _. beside_done _)
    step_beside (Some (Lookup line d a i)) =
        beside_bind (walk.looked_up_holds w w is_beside law line (m.registers a) (m.registers i)) (λ _. beside_done _)
    step_beside (Some (Declassify d r)) = beside_bind (declassified_beside (m.registers r)) (λ _. beside_done _)
    step_beside (Some (Argument line k text d)) =
        beside_bind (walk.asked_holds w w is_beside law k.secret (kind_shape k) line (input_named w text)) (λ _. beside_done _)
    step_beside (Some (Publish text r)) = beside_bind (published_beside text (m.registers r)) (λ _. beside_done _)
    step_beside (Some (Assert line r)) = beside_bind (walk.asserted_holds w w is_beside law line (m.registers r)) (λ _. beside_done _)
    step_beside (Some (Branch r b target)) = beside_bind (walk.tested_holds w w is_beside law (m.registers r)) (λ _. beside_done _)
    step_beside (Some (Jump target)) = beside_done _
    step_beside (Some (Call line g d args)) =
        beside_bind (beside_charge 1) (λ _. beside_bind (beside_test (nat_lt (length m.stack) limit) trap.Depth line) (λ _.
        beside_bind (beside_charge (sum (map array_elements (values_at m.registers args)))) (λ _. beside_done _)))
    step_beside (Some (Return r)) = back_beside m.stack (m.registers r)
    step_beside (Some ReturnNone) = back_beside m.stack nothing
