-- The kind of the value of a well-typed expression.
use Rattle.std.proofs.Common.{◌≡◌, Some, Bool, true, false, not, ◌&&◌, ◌||◌, refl, sym, ap, ap₂, ◌∙◌}
use Rattle.std.specs.Prelude.{is_some}
use Rattle.std.proofs.lemmas.Option.{none-some, same_Some}
use Rattle.program_trees.specs.declared.expression.DataType.{DataType}
use Rattle.program_trees.specs.declared.expression.DataType.TheVariants.{Uint64, Int64}
use Rattle.program_trees.specs.declared.expression.DataType.TheVariants as datatype
use Rattle.program_trees.specs.declared.kinds.Shape.{Shape}
use Rattle.program_trees.specs.declared.operators.Operands.{Operands}
use Rattle.program_trees.specs.declared.operators.Operands.TheVariants.{Scalars, ArrayAndScalar, ScalarAndArray, Arrays}
use Rattle.program_trees.specs.declared.operators.OperatorSign.{OperatorSign}
use Rattle.program_trees.specs.declared.operators.OperatorSign.TheVariants as word
use Rattle.program_trees.specs.declared.operators.BinaryOperator.{BinaryOperator}
use Rattle.program_trees.specs.declared.operators.BinaryOperator.TheVariants.{Words, Ints, Bools}
use Rattle.program_trees.specs.declared.typed_function.Returned.{Returned}
use Rattle.program_trees.specs.declared.typed_function.Returned.TheVariants.{Nothing, Value}
use Rattle.program_trees.specs.Operators.{element_made}
use Rattle.program_trees.specs.Shapes.{shape_of}
use Rattle.program_trees.specs.TypedTree.{TypedTree, word_node, truth_node, zero_node, slot_node, call_node, size_node, cat_node, sum_node, bits_node}
use Rattle.program_trees.specs.TypedTree.{lookup_node, element_node, not_node, cast_node, binary_node, cut_node, declassify_node}
use Rattle.reached_instances.specs.declared.instance.BoundDomain.{BoundDomain}
use Rattle.reached_instances.specs.declared.instance.BoundDomain.TheVariants.{Public, Private}
use Rattle.reached_instances.specs.Domains.{Setting, joined_domain}
use Rattle.language_model.specs.Operations.{is_product, result_shape, cast_shape}
use Rattle.language_model.specs.Evaluation.{is_private, shape_at}
use Rattle.verified_code.specs.Fitting as fitting
use Rattle.code_model.specs.Fit.{MayStand}
use Rattle.code_model.specs.Kinds.{returned_shape, called_shape, shape_in}
use Rattle.code_model.specs.Kinded.{left_array, right_array}
use Rattle.code_model.specs.Expressions.{lacks, mixes}
use Rattle.code_model.specs.Right.{operand_element, has_operator}
use Rattle.well_typed.specs.Kinds.{IsNumber, GoesTo, operand_of, is_for_public, MayOperate, left_is_array, right_is_array}
use Rattle.well_typed.specs.Expressions.{Gives, shape_given}
use Rattle.lowered_code.proofs.Standing.{clash}

-- ---- SHAPES

pub result_is : (op : BinaryOperator) (ds : Operands) → result_shape op ds ≡ shape_of (element_made op) (left_is_array ds || right_is_array ds)
result_is op Scalars = refl
result_is op ArrayAndScalar = refl
result_is op ScalarAndArray = refl
result_is op Arrays = refl

returned_is : (g : Returned) (s : Shape) → shape_given g ≡ Some s → returned_shape g ≡ s
returned_is Nothing s e = absurd (none-some _ e)
returned_is (Value v) s e = same_Some v.shape s e

module _ (here : Setting) where
  pub shape_is : (e : TypedTree) (s : Shape) → Gives here e (Some s) → shape_in here e ≡ s
  shape_is (word_node n) s h = sym (same_Some s _ h.1)
  shape_is (truth_node b) s h = sym (same_Some s _ h)
  shape_is zero_node s h = sym (same_Some s _ h.1)
  shape_is (slot_node k) s h = ap shape_at h.1 ∙ sym (same_Some s h.0.shape h.2)
  shape_is (call_node line k es) s h = ap called_shape h.1 ∙ returned_is h.0.given s (sym h.3)
  shape_is (size_node e) s h = sym (same_Some s _ h.2)
  shape_is (cat_node line a b) s h = shape_is a _ h.1 ∙ sym (same_Some s _ h.4)
  shape_is (sum_node e) s h = ap (λ (z : Shape). shape_of z.element false) (shape_is e _ h.1) ∙ sym (same_Some s _ h.3)
  shape_is (bits_node line e) s h = sym (same_Some s _ h.2)
  shape_is (lookup_node line a i) s h =
      ap₂ (λ (x y : Shape). shape_of x.element y.array) (shape_is a _ h.2) (shape_is i _ h.3) ∙ sym (same_Some s _ h.7)
  shape_is (element_node line a i) s h = ap (λ (z : Shape). shape_of z.element false) (shape_is a _ h.1) ∙ sym (same_Some s _ h.4)
  shape_is (not_node e) s h = shape_is e _ h.1 ∙ sym (same_Some s _ h.2)
  shape_is (cast_node c e) s h = ap (λ (z : Shape). cast_shape c z.array) (shape_is e _ h.1) ∙ sym (same_Some s _ h.2)
  shape_is (binary_node line op ds a b) s h = result_is op ds ∙ sym (same_Some s _ h.4)
  shape_is (cut_node c a b) s h = sym (same_Some s _ h.3)
  shape_is (declassify_node e) s h = shape_is e h.0 h.1 ∙ sym (same_Some s _ h.2)

-- ---- SECRECY

pub goes_may : (g w : BoundDomain) → GoesTo g w → MayStand (is_private g) (is_private w)
goes_may Public w h = λ e. absurd (clash e)
goes_may (Private k) Public h = absurd h
goes_may (Private k) (Private m) h = λ e. refl

pub joined_private : (a b : BoundDomain) → is_private (joined_domain a b) ≡ (is_private a || is_private b)
joined_private Public b = refl
joined_private (Private k) b = refl

pub left_may : (a b : BoundDomain) → MayStand (is_private a) (is_private (joined_domain a b))
left_may Public b = λ e. absurd (clash e)
left_may (Private k) b = λ e. refl

pub right_may : (a b : BoundDomain) → MayStand (is_private b) (is_private (joined_domain a b))
right_may Public b = λ e. e
right_may (Private k) b = λ e. refl

-- ---- OPERATORS

pub operand_is : (op : BinaryOperator) → operand_of op ≡ operand_element op
operand_is (Words op) = refl
operand_is (Ints op) = refl
operand_is (Bools op) = refl

pub left_is : (ds : Operands) → left_is_array ds ≡ left_array ds
left_is Scalars = refl
left_is ArrayAndScalar = refl
left_is ScalarAndArray = refl
left_is Arrays = refl

pub right_is : (ds : Operands) → right_is_array ds ≡ right_array ds
right_is Scalars = refl
right_is ArrayAndScalar = refl
right_is ScalarAndArray = refl
right_is Arrays = refl

-- numbers, with or without a sign
pub number_is : (e : DataType) → IsNumber e → fitting.is_number e ≡ true
number_is Uint64 h = refl
number_is Int64 h = refl
number_is datatype.Bool h = absurd h

public_clash : (d : BoundDomain) → d ≡ Public → is_private d ≡ true → ⊥
public_clash d e h = clash (sym (ap is_private e) ∙ h)

-- the sign of an operator that may be used where its result is private
sign_allowed : (op : OperatorSign) (d : BoundDomain) → (is_for_public op ≡ true → d ≡ Public) → is_private d ≡ true → fitting.is_hidden_sign op ≡ true
sign_allowed word.Add d m h = refl
sign_allowed word.Subtract d m h = refl
sign_allowed word.Multiply d m h = refl
sign_allowed word.Divide d m h = absurd (public_clash d (m refl) h)
sign_allowed word.Remainder d m h = absurd (public_clash d (m refl) h)
sign_allowed word.Equal d m h = refl
sign_allowed word.NotEqual d m h = refl
sign_allowed word.Less d m h = refl
sign_allowed word.LessOrEqual d m h = refl
sign_allowed word.Greater d m h = refl
sign_allowed word.GreaterOrEqual d m h = refl
sign_allowed word.And d m h = absurd (public_clash d (m refl) h)
sign_allowed word.Or d m h = absurd (public_clash d (m refl) h)
sign_allowed word.Xor d m h = absurd (public_clash d (m refl) h)

pub private_allowed : (op : BinaryOperator) (d : BoundDomain) → MayOperate op d → is_private d ≡ true → fitting.may_be_private op ≡ true
private_allowed (Words op) d m h = sign_allowed op d m h
private_allowed (Ints op) d m h = sign_allowed op d m.1 h
private_allowed (Bools op) d m h = refl

-- and that there is
pub operator_there : (op : BinaryOperator) (d : BoundDomain) → MayOperate op d → has_operator op ≡ true
operator_there (Words op) d m = refl
operator_there (Ints op) d m = ap is_some m.0
operator_there (Bools op) d m = refl

-- what is classified beside a private operand is private then
abbrev pub behind_mixing : BinaryOperator → (this other : Bool) → Bool
behind_mixing op this other = mixes op this other || this

pub mixed_or : (op : BinaryOperator) (ga gb : Bool) → (behind_mixing op ga gb || behind_mixing op gb ga) ≡ (ga || gb)
mixed_or op ga gb = go (is_product op) ga gb
  where
    go : (p ga gb : Bool) → (((not p && lacks gb ga) || ga) || ((not p && lacks ga gb) || gb)) ≡ (ga || gb)
    go true true true = refl
    go true true false = refl
    go true false true = refl
    go true false false = refl
    go false true true = refl
    go false true false = refl
    go false false true = refl
    go false false false = refl

pub secrecy_fits : (op : BinaryOperator) (ga gb : Bool) → ((ga || gb) ≡ true → fitting.may_be_private op ≡ true)
    → fitting.secrecy_fits op (behind_mixing op ga gb) (behind_mixing op gb ga) ≡ true
secrecy_fits op ga gb h = go (is_product op) (fitting.is_product op) refl ga gb (fitting.may_be_private op) h
  where
    go : (p q : Bool) → q ≡ p → (ga gb m : Bool) → ((ga || gb) ≡ true → m ≡ true) →
        ((fitting.same_truth ((not p && lacks gb ga) || ga) ((not p && lacks ga gb) || gb) || q)
        && (not (((not p && lacks gb ga) || ga) || ((not p && lacks ga gb) || gb)) || m)) ≡ true
    go true true e true true m h = h refl
    go true true e true false m h = h refl
    go true true e false true m h = h refl
    go true true e false false m h = refl
    go false false e true true m h = h refl
    go false false e true false m h = h refl
    go false false e false true m h = h refl
    go false false e false false m h = refl
    go true false e ga gb m h = absurd (clash e)
    go false true e ga gb m h = absurd (clash (sym e))
