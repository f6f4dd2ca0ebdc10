-- All steps do the same, whatever gates were made before.
use Rattle.std.proofs.Common.{◌≡◌, List, [], ◌∷◌, ◌++◌, Option, Some, None, Ok, Err, length, drop, sym, ◌∙◌, ap}
use Rattle.std.specs.Prelude.{map, nat_lt, sum}
use Rattle.std.specs.List.{slice_get}
use Rattle.std.proofs.Math.Seq.{drop-append_seam}
use Rattle.sc_text.specs.declared.end.Ending.TheVariants as ending
use Rattle.sc_text.specs.declared.end.TrapKind.TheVariants as trap
use Rattle.gates.specs.declared.gate.Gate.{Gate}
use Rattle.language_model.specs.Effects.{World, Stage, Run}
use Rattle.language_model.proofs.Onward.{stage_of}
use Rattle.language_model.specs.Values.{Value, size}
use Rattle.language_model.specs.Evaluation.{nothing, array_elements, input_named}
use Rattle.verified_code.specs.Steps.{kind_shape, Step, Literal, Move, Store, Binary, Not, Cast, Classify, Fill, At, Put, Size, Cat, Sum, Bits, Lookup}
use Rattle.verified_code.specs.Steps.{Declassify, Argument, Publish, Assert, Branch, Jump, Call, Return, ReturnNone, Function}
use Rattle.code_model.specs.Machine.{Caller, Machine, values_at, limit, resume, step}
use Rattle.named_values.specs.Besides.{ran_behind_others, EarlierGatesChangeNothing}
use Rattle.named_values.proofs.Besides.{ran_with_gates, Besides, besides_bind, besides_done, besides_end, besides_charge, besides_test}
use Rattle.named_values.proofs.BesidesRows.{untrapped_besides, classified_besides, declassified_besides, operated_besides}
use Rattle.named_values.proofs.BesidesRows.{negated_besides, cast_besides, size_besides, summed_besides, bits_besides}
use Rattle.named_values.proofs.BesidesRows.{looked_up_besides, concatenated_besides, element_besides, with_element_besides, filled_besides, tested_besides}
use Rattle.named_values.proofs.BesidesRows.{asserted_besides, asked_besides, published_besides}

resume_besides : (cs : List Caller) (v : Value) → Besides (resume cs v)
resume_besides [] v = besides_end ending.Done
resume_besides (c ∷ cs) v = besides_done _

module _ (w : World) (c : List Function) (m : Machine) where
  pub step_besides : (o : Option Step) → Besides (step w c o m)
  step_besides None = besides_end ending.Done
  step_besides (Some (Literal d element n)) = besides_done _
  step_besides (Some (Move d r)) = besides_done _
  step_besides (Some (Store d r)) = besides_bind (untrapped_besides (size (m.registers r))) (λ _. besides_done _)
  step_besides (Some (Binary line op ds d a b)) =
      besides_bind (operated_besides w line op ds (m.registers a) (m.registers b)) (λ v. besides_done _)
  step_besides (Some (Not d r)) = besides_bind (negated_besides (m.registers r)) (λ v. besides_done _)
  step_besides (Some (Cast k d r)) = besides_bind (cast_besides w k (m.registers r)) (λ v. besides_done _)
  step_besides (Some (Classify d r)) = besides_bind (classified_besides (m.registers r)) (λ v. besides_done _)
  step_besides (Some (Fill line d n x)) =
      besides_bind (filled_besides line (m.registers n) (m.registers x)) (λ v. besides_done _)
  step_besides (Some (At line d a i)) =
      besides_bind (element_besides line (m.registers a) (m.registers i)) (λ v. besides_done _)
  step_besides (Some (Put line a i x)) =
      besides_bind (with_element_besides line (m.registers a) (m.registers i) (m.registers x)) (λ v. besides_done _)
  step_besides (Some (Size d r)) = besides_bind (size_besides (m.registers r)) (λ v. besides_done _)
  step_besides (Some (Cat line d a b)) =
      besides_bind (concatenated_besides line (m.registers a) (m.registers b)) (λ v. besides_done _)
  step_besides (Some (Sum d r)) = besides_bind (summed_besides (m.registers r)) (λ v. besides_done _)
  step_besides (Some (Bits line d r)) = besides_bind (bits_besides w line (m.registers r)) (λ v. besides_done _)
  step_besides (Some (Lookup line d a i)) =
      besides_bind (looked_up_besides w line (m.registers a) (m.registers i)) (λ v. besides_done _)
  step_besides (Some (Declassify d r)) = besides_bind (declassified_besides w (m.registers r)) (λ v. besides_done _)
  step_besides (Some (Argument line kind text d)) =
      besides_bind (asked_besides kind.secret (kind_shape kind) line (input_named w text)) (λ v. besides_done _)
  step_besides (Some (Publish text r)) = besides_bind (published_besides w text (m.registers r)) (λ _. besides_done _)
  step_besides (Some (Assert line r)) = besides_bind (asserted_besides line (m.registers r)) (λ _. besides_done _)
  step_besides (Some (Branch r b target)) = besides_bind (tested_besides (m.registers r)) (λ t. besides_done _)
  step_besides (Some (Jump target)) = besides_done _
  step_besides (Some (Call line g d args)) =
      besides_bind (besides_charge 1) (λ _. besides_bind (besides_test (nat_lt (length m.stack) limit) trap.Depth line) (λ _.
      besides_bind (besides_charge (sum (map array_elements (values_at m.registers args)))) (λ _. besides_done _)))
  step_besides (Some (Return r)) = resume_besides m.stack (m.registers r)
  step_besides (Some ReturnNone) = resume_besides m.stack nothing

-- ---- ITS FURTHER GATES ARE THOSE BEHIND AS MANY AS THERE WERE

further_gates : (s : Stage) (all more : List Gate) → all ≡ s.gates ++ more → more ≡ drop (length s.gates) all
further_gates s all more e = sym (ap (drop (length s.gates)) e ∙ drop-append_seam s.gates more)

with_further : {A : Type 0} (before : List Gate) (s : Stage) (r : Run A) (more : List Gate) → (stage_of r).gates ≡ s.gates ++ more
    → ran_with_gates (before ++ more) r ≡ ran_behind_others before s r
with_further before s (Ok x) more e = ap (λ v. ran_with_gates (before ++ v) (Ok x)) (further_gates s x.1.gates more e)
with_further before s (Err x) more e = ap (λ v. ran_with_gates (before ++ v) (Err x)) (further_gates s x.1.gates more e)

pub earlier_gates_change_nothing :
    (w : World) (c : List Function) (m : Machine) (s : Stage) (before : List Gate) → EarlierGatesChangeNothing w c m s before
earlier_gates_change_nothing w c m s before =
    let h = (step_besides w c m (slice_get m.steps m.pc)).from before s in
    h.same ∙ with_further before s (step w c (slice_get m.steps m.pc) m s) h.more h.gates
