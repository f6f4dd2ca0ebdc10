-- All steps but an opening are quiet.
use Rattle.std.proofs.Common.{◌≡◌, ◌⊎◌, ℕ, List, [], ◌∷◌, Option, Some, None, inl, inr, refl, length, true}
use Rattle.std.specs.Prelude.{map, nat_lt, sum}
use Rattle.sc_text.specs.declared.end.Ending.TheVariants as ending
use Rattle.sc_text.specs.declared.end.TrapKind.TheVariants as trap
use Rattle.language_model.specs.Effects.{World}
use Rattle.language_model.specs.Values.{Value, size}
use Rattle.language_model.specs.Evaluation.{nothing, array_elements, input_named}
use Rattle.verified_code.specs.Steps.{kind_shape, Step, Literal, Move, Store, Binary, Not, Cast, Classify, Fill, At, Put, Size, Cat, Sum, Bits}
use Rattle.verified_code.specs.Steps.{Lookup, Declassify}
use Rattle.verified_code.specs.Steps.{Argument, Publish, Assert, Branch, Jump, Call, Return, ReturnNone, Function}
use Rattle.gate_laws.specs.Machine.{Caller, Machine, values_at, limit, resume, step}
use Rattle.code_places.proofs.Quiet.{Quiet, quiet_bind, quiet_done, quiet_end, quiet_charge, quiet_test}
use Rattle.code_places.proofs.QuietRows.{untrapped_quiet, classified_quiet, operated_quiet, negated_quiet, cast_quiet, size_quiet}
use Rattle.code_places.proofs.QuietRows.{summed_quiet, bits_quiet, looked_up_quiet}
use Rattle.code_places.proofs.QuietRows.{concatenated_quiet, element_quiet, with_element_quiet, filled_quiet, tested_quiet, asserted_quiet}
use Rattle.code_places.proofs.QuietRows.{asked_quiet, published_quiet}

abbrev pub IsOpening : Option Step → Type 0
IsOpening o = (d : ℕ) × (r : ℕ) × (o ≡ Some (Declassify d r))

resume_quiet : (cs : List Caller) (v : Value) → Quiet true (resume cs v)
resume_quiet [] v = quiet_end true ending.Done
resume_quiet (c ∷ cs) v = quiet_done true _

module _ (w : World) (c : List Function) (m : Machine) where
  pub quiet_or_opening : (o : Option Step) → Quiet true (step w c o m) ⊎ IsOpening o
  quiet_or_opening None = inl (quiet_end true ending.Done)
  quiet_or_opening (Some (Literal d element n)) = inl (quiet_done true _)
  quiet_or_opening (Some (Move d r)) = inl (quiet_done true _)
  quiet_or_opening (Some (Store d r)) = inl (quiet_bind true (untrapped_quiet true (size (m.registers r))) (λ _. quiet_done true _))
  quiet_or_opening (Some (Binary line op ds d a b)) =
      inl (quiet_bind true (operated_quiet true w line op ds (m.registers a) (m.registers b)) (λ v. quiet_done true _))
  quiet_or_opening (Some (Not d r)) = inl (quiet_bind true (negated_quiet true (m.registers r)) (λ v. quiet_done true _))
  quiet_or_opening (Some (Cast k d r)) = inl (quiet_bind true (cast_quiet true w k (m.registers r)) (λ v. quiet_done true _))
  quiet_or_opening (Some (Classify d r)) = inl (quiet_bind true (classified_quiet true (m.registers r)) (λ v. quiet_done true _))
  quiet_or_opening (Some (Fill line d n x)) =
      inl (quiet_bind true (filled_quiet true line (m.registers n) (m.registers x)) (λ v. quiet_done true _))
  quiet_or_opening (Some (At line d a i)) =
      inl (quiet_bind true (element_quiet true line (m.registers a) (m.registers i)) (λ v. quiet_done true _))
  quiet_or_opening (Some (Put line a i x)) =
      inl (quiet_bind true (with_element_quiet true line (m.registers a) (m.registers i) (m.registers x)) (λ v. quiet_done true _))
  quiet_or_opening (Some (Size d r)) = inl (quiet_bind true (size_quiet true (m.registers r)) (λ v. quiet_done true _))
  quiet_or_opening (Some (Cat line d a b)) =
      inl (quiet_bind true (concatenated_quiet true line (m.registers a) (m.registers b)) (λ v. quiet_done true _))
  quiet_or_opening (Some (Sum d r)) = inl (quiet_bind true (summed_quiet true (m.registers r)) (λ v. quiet_done true _))
  quiet_or_opening (Some (Bits line d r)) = inl (quiet_bind true (bits_quiet true w line (m.registers r)) (λ v. quiet_done true _))
  quiet_or_opening (Some (Lookup line d a i)) =
      inl (quiet_bind true (looked_up_quiet true w line (m.registers a) (m.registers i)) (λ v. quiet_done true _))
  quiet_or_opening (Some (Declassify d r)) = inr (d, r, refl)
  quiet_or_opening (Some (Argument line kind text d)) =
      inl (quiet_bind true (asked_quiet true kind.secret (kind_shape kind) line (input_named w text)) (λ v. quiet_done true _))
  quiet_or_opening (Some (Publish text r)) = inl (quiet_bind true (published_quiet w text (m.registers r)) (λ _. quiet_done true _))
  quiet_or_opening (Some (Assert line r)) = inl (quiet_bind true (asserted_quiet true line (m.registers r)) (λ _. quiet_done true _))
  quiet_or_opening (Some (Branch r b target)) = inl (quiet_bind true (tested_quiet true (m.registers r)) (λ t. quiet_done true _))
  quiet_or_opening (Some (Jump target)) = inl (quiet_done true _)
  quiet_or_opening (Some (Call line g d args)) =
      inl (quiet_bind true (quiet_charge true 1) (λ _. quiet_bind true (quiet_test true (nat_lt (length m.stack) limit) trap.Depth line) (λ _.
      quiet_bind true (quiet_charge true (sum (map array_elements (values_at m.registers args)))) (λ _. quiet_done true _))))
  quiet_or_opening (Some (Return r)) = inl (resume_quiet m.stack (m.registers r))
  quiet_or_opening (Some ReturnNone) = inl (resume_quiet m.stack nothing)
