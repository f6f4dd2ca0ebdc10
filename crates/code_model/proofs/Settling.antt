-- The instruction of a step that is right settles to it again.
use Rattle.std.proofs.Common.{◌≡◌, ℕ, ◌<◌, ◌≤◌, List, [], length, Option, Some, None, cond, refl, ap, ap₂, ◌∙◌, arith, inl}
use Rattle.std.specs.Prelude.{unwrap_or}
use Rattle.std.proofs.lemmas.Bool.{ne_eqb}
use Rattle.std.proofs.lemmas.Option.{slice_get_within}
use Rattle.sc_text.specs.Lists.{Among}
use Rattle.program_trees.specs.Operators.{operands_of, cast_between}
use Rattle.bytecode.specs.declared.kind.Kind.{Kind}
use Rattle.verified_code.specs.Fitting.{kind_at}
use Rattle.verified_code.specs.Settled.{result_at, binary_step, settle}
use Rattle.verified_code.specs.Steps.{Step, Function, Literal, Move, Store, Binary, Not, Cast, Classify, Fill, At, Put, Size, Cat, Sum, Bits, Lookup, Declassify}
use Rattle.verified_code.specs.Steps.{Argument, Publish, Assert, Branch, Jump, Call, Return, ReturnNone}
use Rattle.code_model.specs.Kinded.{ResultFits, left_array, right_array}
use Rattle.code_model.specs.Instructions.{nowhere, operator_number, register_or_nowhere, step_names, instruction}
use Rattle.code_model.specs.Right.{kind, operand_element, IsRight}
use Rattle.code_model.proofs.KindTests.{its_kind, operator_back, operands_back, cast_back, bit_back}
use Rattle.code_model.proofs.Names.{name_found}

-- a register is not the number for none
result_back : (ks : List Kind) (d : Option ℕ) (g : Option Kind) → length ks ≤ nowhere → ResultFits ks d g → result_at (register_or_nowhere d) ≡ d
result_back ks None g few h = refl
result_back ks (Some d) g few h =
    let below : d < nowhere = let l = slice_get_within ks d h.0 h.2 in omega (arith, l, few) in
    ap (λ b. cond b None (Some d)) (ne_eqb d nowhere (λ e. omega (arith, e, below)))

module _ (names : List (List ℕ)) (c : List Function) (ks : List Kind) (gives : Option Kind) (count : ℕ) (few : length ks ≤ nowhere) where
  pub settles : (i : Step) → IsRight c ks gives count i → ((text : List ℕ) → Among text (step_names i) → Among text names)
      → settle names ks (instruction names i) ≡ i
  settles (Literal d e n) h m = ap (λ k. Literal d k.element n) (its_kind ks d _ h.0)
  settles (Move d r) h m = refl
  settles (Store d r) h m = refl
  settles (Binary line op ds d a b) h m =
      let q = operator_number op in
      let x = kind h.0 (operand_element op) (left_array ds) in
      let y = kind h.1 (operand_element op) (right_array ds) in
      ap (λ k. binary_step k (kind_at ks b) q d a b line) (its_kind ks a x h.2) ∙ ap (λ k. binary_step x k q d a b line) (its_kind ks b y h.3)
      ∙ ap (λ o. Binary line o (operands_of (left_array ds) (right_array ds)) d a b) (operator_back op) ∙ ap (λ o. Binary line op o d a b) (operands_back ds)
  settles (Not d r) h m = refl
  settles (Cast x d r) h m =
      ap₂ (λ k l. Cast (cast_between k.element l.element) d r) (its_kind ks r _ h.2) (its_kind ks d _ h.3) ∙ ap (λ z. Cast z d r) (cast_back x)
  settles (Classify d r) h m = refl
  settles (Fill line d n x) h m = refl
  settles (At line d a i) h m = refl
  settles (Put line a i x) h m = refl
  settles (Size d r) h m = refl
  settles (Cat line d a b) h m = refl
  settles (Sum d r) h m = refl
  settles (Bits line d r) h m = refl
  settles (Lookup line d a i) h m = refl
  settles (Declassify d r) h m = refl
  settles (Argument line k text d) h m =
      ap₂ (λ z t. Argument line z (unwrap_or t []) d) (its_kind ks d k h) (name_found text names (m text (inl refl)))
  settles (Publish text r) h m = ap (λ t. Publish (unwrap_or t []) r) (name_found text names (m text (inl refl)))
  settles (Assert line r) h m = refl
  settles (Branch r b target) h m = ap (λ z. Branch r z target) (bit_back b)
  settles (Jump target) h m = refl
  settles (Call line g d arguments) h m = ap (λ o. Call line g o arguments) (result_back ks d h.0.gives few h.3)
  settles (Return r) h m = refl
  settles ReturnNone h m = refl
