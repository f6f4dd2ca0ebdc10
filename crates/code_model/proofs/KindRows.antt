-- Of which kind the values are that rows give, where their operands are of theirs.
use Rattle.std.proofs.Common.{◌≡◌, ℕ, List, length, Bool, true, false}
use Rattle.std.proofs.Common.{◌||◌, refl, sym, ap, ◌∙◌}
use Rattle.program_trees.specs.declared.expression.DataType.TheVariants.{Uint64}
use Rattle.program_trees.specs.declared.expression.DataType.TheVariants as datatype
use Rattle.program_trees.specs.declared.kinds.Shape.{Shape}
use Rattle.program_trees.specs.declared.operators.BinaryOperator.{BinaryOperator}
use Rattle.program_trees.specs.declared.operators.Operands.{Operands}
use Rattle.program_trees.specs.declared.operators.Cast as casts
use Rattle.program_trees.specs.Shapes.{shape_of}
use Rattle.blind_evaluation.specs.Effects.{World}
use Rattle.blind_evaluation.specs.Values.{Value, is_secret}
use Rattle.blind_evaluation.specs.Operations as row
use Rattle.blind_evaluation.specs.Evaluation.{input_named, asked_for}
use Rattle.bytecode.specs.declared.kind.Kind.{Kind}
use Rattle.verified_code.specs.Steps.{kind_shape}
use Rattle.verified_code.specs.Fitting.{looked_up_of}
use Rattle.code_model.specs.Kinds.{kind_of}
use Rattle.code_model.specs.Kinded.{IsOf, AreSingle, with_secret, with_array, public_scalar, cast_source, cast_target, left_array, right_array}
use Rattle.code_model.proofs.Gives.{IsSecret, class_gives, operated_gives, negated_gives, cast_gives, summed_gives, bits_gives, concatenated_gives}
use Rattle.code_model.proofs.Gives.{looked_up_gives, element_gives, with_element_gives, filled_gives, size_gives, declassified_gives, asked_gives}
use Rattle.code_model.proofs.Makes.{Makes, makes_of, makes_both}
use Rattle.code_model.proofs.ShapeRows.{IsShaped, input_there, operated_makes, negated_makes, cast_makes, classified_makes}
use Rattle.code_model.proofs.ShapeRows.{filled_makes, element_makes, with_element_makes, size_makes, summed_makes, bits_makes, looked_up_makes, concatenated_makes}
use Rattle.code_model.proofs.ShapeRows.{declassified_makes, asked_makes}

shape_array : (k : Kind) (v : Value) → IsOf k v → v.shape.array ≡ k.array
shape_array k v h = ap (λ z. z.array) h.shape

shape_element : (k : Kind) (v : Value) → IsOf k v → v.shape.element ≡ k.element
shape_element k v h = ap (λ z. z.element) h.shape

-- of one element, if its shape is no array's
singled : (k : Kind) (v : Value) → IsOf k v → v.shape.array ≡ false → length v.words ≡ 1
singled k v h e = h.single (sym (shape_array k v h) ∙ e)

-- secrecy and shape make a kind
kinded : (k : Kind) (shape : Shape) (v : Value) → IsSecret k.secret v → IsShaped shape v → shape ≡ kind_shape k → IsOf k v
kinded k shape v q h e = record { secret = q; shape = h.same ∙ e; single = λ a. h.single (ap (λ z. z.array) e ∙ a) }

same_twice : (b : Bool) → (b || b) ≡ b
same_twice true = refl
same_twice false = refl

module _ (w : World) where
  pub operated_kind : (line : ℕ) (op : BinaryOperator) (ds : Operands) (a b : Kind) (x y : Value) → IsOf a x → IsOf b y → a.array ≡ left_array ds → b.array
      ≡ right_array ds → Makes (row.operated w line op ds x y) (IsOf (kind_of (a.secret || b.secret) (row.result_shape op ds)))
  operated_kind line op ds a b x y h k e f =
      let result : Kind = kind_of (a.secret || b.secret) (row.result_shape op ds) in
      makes_both (IsOf result) (makes_of (operated_gives w line op ds x y)) (operated_makes w line op ds x y (λ z. h.single (e ∙ z)) (λ z. k.single (f ∙ z)))
      (λ v p q. kinded result (row.result_shape op ds) v (p ∙ ap (λ z. z || is_secret y.secrecy) h.secret ∙ ap (λ z. a.secret || z) k.secret) q refl)

  pub negated_kind : (k : Kind) (x : Value) → IsOf k x → Makes (row.negated x) (IsOf k)
  negated_kind k x h = makes_both (IsOf k) (makes_of (negated_gives w x)) (negated_makes w x (singled k x h))
      (λ v p q. kinded k x.shape v (p ∙ h.secret) q h.shape)

  pub cast_kind : (c : casts.Cast) (b a : Bool) (x : Value) → IsOf (record { secret = b; element = cast_source c; array = a }) x → Makes (row.cast_to w c x)
      (IsOf (record { secret = b; element = cast_target c; array = a }))
  cast_kind c b a x h =
      let source : Kind = record { secret = b; element = cast_source c; array = a } in
      let target : Kind = record { secret = b; element = cast_target c; array = a } in
      makes_both (IsOf target) (makes_of (cast_gives w c x)) (cast_makes w c x (shape_element source x h) (singled source x h))
      (λ v p q. kinded target (row.cast_shape c x.shape.array) v (p ∙ h.secret) q (ap (row.cast_shape c) (shape_array source x h)))

  pub classified_kind : (k : Kind) (x : Value) → IsOf k x → Makes (row.classified x) (IsOf (with_secret true k))
  classified_kind k x h = makes_both (IsOf (with_secret true k)) (makes_of (class_gives w x)) (classified_makes w x (singled k x h))
      (λ v p q. kinded (with_secret true k) x.shape v p q h.shape)

  pub filled_kind : (line : ℕ) (n : Value) (k : Kind) (x : Value) → IsOf k x → Makes (row.filled line n x) (IsOf (with_array true k))
  filled_kind line n k x h =
      makes_both (IsOf (with_array true k)) (makes_of (filled_gives w line n x)) (filled_makes w line n x)
      (λ v p q. kinded (with_array true k) (shape_of x.shape.element true) v (p ∙ h.secret) q (ap (λ z. shape_of z true) (shape_element k x h)))

  pub element_kind : (line : ℕ) (k : Kind) (x i : Value) → IsOf k x → Makes (row.element_of_array line x i) (IsOf (with_array false k))
  element_kind line k x i h =
      makes_both (IsOf (with_array false k)) (makes_of (element_gives w line x i)) (element_makes w line x i)
      (λ v p q. kinded (with_array false k) (shape_of x.shape.element false) v (p ∙ h.secret) q (ap (λ z. shape_of z false) (shape_element k x h)))

  pub with_element_kind : (line : ℕ) (k : Kind) (x i y : Value) → IsOf k x → k.array ≡ true → Makes (row.with_element line x i y) (IsOf k)
  with_element_kind line k x i y h e =
      makes_both (IsOf k) (makes_of (with_element_gives w line x i y)) (with_element_makes w line x i y (shape_array k x h ∙ e))
      (λ v p q. kinded k x.shape v (p ∙ h.secret) q h.shape)

  pub size_kind : (x : Value) → Makes (row.size_told x) (IsOf (public_scalar Uint64))
  size_kind x = makes_both (IsOf (public_scalar Uint64)) (makes_of (size_gives w x)) (size_makes w x)
      (λ v p q. kinded (public_scalar Uint64) (shape_of Uint64 false) v p q refl)

  pub concatenated_kind : (line : ℕ) (k : Kind) (x y : Value) → IsOf k x → IsOf k y → k.array ≡ true → Makes (row.concatenated line x y) (IsOf k)
  concatenated_kind line k x y h j e =
      makes_both (IsOf k) (makes_of (concatenated_gives w line x y)) (concatenated_makes w line x y (shape_array k x h ∙ e))
      (λ v p q. kinded k x.shape v (p ∙ ap (λ z. z || is_secret y.secrecy) h.secret ∙ ap (λ z. k.secret || z) j.secret ∙ same_twice k.secret) q h.shape)

  pub summed_kind : (k : Kind) (x : Value) → IsOf k x → Makes (row.summed x) (IsOf (with_array false k))
  summed_kind k x h =
      makes_both (IsOf (with_array false k)) (makes_of (summed_gives w x)) (summed_makes w x)
      (λ v p q. kinded (with_array false k) (shape_of x.shape.element false) v (p ∙ h.secret) q (ap (λ z. shape_of z false) (shape_element k x h)))

  pub bits_kind : (line : ℕ) (k : Kind) (x : Value) → IsOf k x → Makes (row.bits_extracted w line x)
      (IsOf (with_array true (with_secret k.secret (public_scalar datatype.Bool))))
  bits_kind line k x h =
      let result = with_array true (with_secret k.secret (public_scalar datatype.Bool)) in
      makes_both (IsOf result) (makes_of (bits_gives w line x)) (bits_makes w line x) (λ v p q. kinded result (shape_of datatype.Bool true) v (p ∙ h.secret)
      q refl)

  pub looked_up_kind : (line : ℕ) (k l : Kind) (a i : Value) → IsOf k a → IsOf l i → Makes (row.looked_up w line a i) (IsOf (looked_up_of k l))
  looked_up_kind line k l a i h j =
      makes_both (IsOf (looked_up_of k l)) (makes_of (looked_up_gives w line a i)) (looked_up_makes w line a i (singled l i j))
      (λ v p q. kinded (looked_up_of k l) (shape_of a.shape.element i.shape.array) v p q
      (ap (λ z. shape_of z i.shape.array) (shape_element k a h) ∙ ap (shape_of k.element) (shape_array l i j)))

  pub declassified_kind : (k : Kind) (x : Value) → IsOf k x → Makes (row.declassified w x) (IsOf (with_secret false k))
  declassified_kind k x h =
      makes_both (IsOf (with_secret false k)) (makes_of (declassified_gives w x)) (declassified_makes w x (singled k x h))
      (λ v p q. kinded (with_secret false k) x.shape v p q h.shape)

  pub asked_kind : (k : Kind) (line : ℕ) (text : List ℕ) → AreSingle w.inputs → Makes (asked_for k.secret (kind_shape k) line (input_named w text)) (IsOf k)
  asked_kind k line text singles =
      makes_both (IsOf k) (makes_of (asked_gives w k.secret (kind_shape k) line (input_named w text)))
      (asked_makes w k.secret (kind_shape k) line (input_named w text) (λ x e. singles x.0 (input_there 0 text w.inputs x e)))
      (λ v p q. kinded k (kind_shape k) v p q refl)
