-- Each step is alike in the clear and told the opened words.
use Rattle.std.proofs.Common.{◌≡◌, ℕ, ◌+◌, List, [], ◌∷◌, Option, Some, None, Bool, false, refl, ap}
use Rattle.std.specs.Prelude.{nat_lt, sum, slice_get}
use Rattle.std.specs.List.{AllZip}
use Rattle.std.proofs.lemmas.List.Elements.{length_all_zip}
use Rattle.sc_text.specs.declared.end.Ending.TheVariants as ending
use Rattle.sc_text.specs.declared.end.TrapKind.TheVariants as trap
use Rattle.program_trees.specs.Shapes.{shape_of}
use Rattle.language_model.specs.Values.{Value}
use Rattle.language_model.specs.Evaluation.{either}
use Rattle.language_model.specs.Reports.{Offered}
use Rattle.verified_code.specs.Steps.{kind_shape, Step, Literal, Move, Store, Binary, Not, Cast, Classify, Fill, At, Put, Size, Cat, Sum, Bits}
use Rattle.verified_code.specs.Steps.{Lookup, Declassify}
use Rattle.verified_code.specs.Steps.{Argument, Publish, Assert, Branch, Jump, Call, Return, ReturnNone, Function}
use Rattle.gate_laws.specs.Machine.{Caller, Machine, limit, same_truth, resume, step}
use Rattle.blind_evaluation.proofs.Alike.{Alike, alike_bind, alike_done, same_bind, any_bind, end_alike, charge_alike, charge_equal, test_equal}
use Rattle.blind_evaluation.proofs.AlikeValues.{LikeValues, plains}
use Rattle.blind_evaluation.proofs.Rows.{clear, unseen, sized_alike, classified_alike, negated_alike, size_told_alike, summed_alike}
use Rattle.blind_evaluation.proofs.Rows.{concatenated_alike, element_alike}
use Rattle.blind_evaluation.proofs.Rows.{with_element_alike, filled_alike, tested_alike, asserted_alike, declassified_alike, operated_alike}
use Rattle.blind_evaluation.proofs.Rows.{cast_to_alike}
use Rattle.blind_evaluation.proofs.Rows.{bits_extracted_alike, looked_up_alike, published_alike}
use Rattle.blind_evaluation.proofs.Inputs.{input_like, asked_for_alike}
use Rattle.code_places.specs.Twins.{LikeCaller, LikeMachine}
use Rattle.code_places.proofs.AlikeMachines.{like_at, like_elements, next_like, at_like, behind_like, entering_like, returned_like}

resume_alike : (cs cs' : List Caller) {v v' : Value} → AllZip LikeCaller cs cs' → LikeValues v v' → Alike LikeMachine (resume cs v) (resume cs' v')
resume_alike [] [] l h = end_alike ending.Done
resume_alike [] (c' ∷ cs') l h = absurd l
resume_alike (c ∷ cs) [] l h = absurd l
resume_alike (c ∷ cs) (c' ∷ cs') l h = alike_done (returned_like l.0 l.1 h)

module _ (o : Offered) (c : List Function) {m m' : Machine} (l : LikeMachine m m') where
  -- what is in a register
  abbrev in_register : (r : ℕ) → LikeValues (m.registers r) (m'.registers r)
  in_register r = like_at l.registers r

  branch_alike : (t : Bool) (b : Bool) (target : ℕ) → either (same_truth t b) target (m.pc + 1) ≡ either (same_truth t b) target (m'.pc + 1)
  branch_alike t b target = ap (λ n. either (same_truth t b) target (n + 1)) l.pc

  pub step_alike : (i : Option Step) → Alike LikeMachine (step (clear o) c i m) (step (unseen o) c i m')
  step_alike None = end_alike ending.Done
  step_alike (Some (Literal d element n)) = alike_done (next_like d (plains (shape_of element false) (n ∷ [])) l)
  step_alike (Some (Move d r)) = alike_done (next_like d (in_register r) l)
  step_alike (Some (Store d r)) = any_bind (sized_alike (in_register r)) (λ _ _. alike_done (next_like d (in_register r) l))
  step_alike (Some (Binary line op ds d a b)) =
      alike_bind (operated_alike o line op ds (in_register a) (in_register b)) (λ v v' h. alike_done (next_like d h l))
  step_alike (Some (Not d r)) = alike_bind (negated_alike (in_register r)) (λ v v' h. alike_done (next_like d h l))
  step_alike (Some (Cast k d r)) = alike_bind (cast_to_alike o k (in_register r)) (λ v v' h. alike_done (next_like d h l))
  step_alike (Some (Classify d r)) = alike_bind (classified_alike (in_register r)) (λ v v' h. alike_done (next_like d h l))
  step_alike (Some (Fill line d n x)) =
      alike_bind (filled_alike line (in_register n) (in_register x)) (λ v v' h. alike_done (next_like d h l))
  step_alike (Some (At line d a i)) =
      alike_bind (element_alike line (in_register a) (in_register i)) (λ v v' h. alike_done (next_like d h l))
  step_alike (Some (Put line a i x)) =
      alike_bind (with_element_alike line (in_register a) (in_register i) (in_register x)) (λ v v' h. alike_done (next_like a h l))
  step_alike (Some (Size d r)) = alike_bind (size_told_alike (in_register r)) (λ v v' h. alike_done (next_like d h l))
  step_alike (Some (Cat line d a b)) =
      alike_bind (concatenated_alike line (in_register a) (in_register b)) (λ v v' h. alike_done (next_like d h l))
  step_alike (Some (Sum d r)) = alike_bind (summed_alike (in_register r)) (λ v v' h. alike_done (next_like d h l))
  step_alike (Some (Bits line d r)) = alike_bind (bits_extracted_alike o line (in_register r)) (λ v v' h. alike_done (next_like d h l))
  step_alike (Some (Lookup line d a i)) =
      alike_bind (looked_up_alike o line (in_register a) (in_register i)) (λ v v' h. alike_done (next_like d h l))
  step_alike (Some (Declassify d r)) = alike_bind (declassified_alike o (in_register r)) (λ v v' h. alike_done (next_like d h l))
  step_alike (Some (Argument line kind text d)) =
      alike_bind (asked_for_alike kind.secret (kind_shape kind) line (input_like o text)) (λ v v' h. alike_done (next_like d h l))
  step_alike (Some (Publish text r)) = any_bind (published_alike o text (in_register r)) (λ _ _. alike_done (behind_like l))
  step_alike (Some (Assert line r)) = any_bind (asserted_alike line (in_register r)) (λ _ _. alike_done (behind_like l))
  step_alike (Some (Branch r b target)) =
      same_bind (tested_alike (in_register r)) (λ t. alike_done (at_like (branch_alike t b target) l))
  step_alike (Some (Jump target)) = alike_done (at_like refl l)
  step_alike (Some (Call line g d args)) =
      any_bind (charge_alike 1) (λ _ _.
      any_bind (test_equal trap.Depth line (ap (λ n. nat_lt n limit) (length_all_zip LikeCaller m.stack m'.stack l.stack))) (λ _ _.
      any_bind (charge_equal (ap sum (like_elements l.registers args))) (λ _ _. alike_done (entering_like (slice_get c g) d args l))))
  step_alike (Some (Return r)) = resume_alike m.stack m'.stack l.stack (in_register r)
  step_alike (Some ReturnNone) = resume_alike m.stack m'.stack l.stack (plains (shape_of _ false) _)
