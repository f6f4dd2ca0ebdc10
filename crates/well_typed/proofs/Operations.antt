-- Binary operators: which one a sign means on operands that the checker has typed, and its node.
use Rattle.std.proofs.Common.{◌≡◌, ℕ, ◌++◌, ◌⊎◌, inl, inr, refl, sym, ap, ap₂, ◌∙◌, subst, Option, Some, None, Bool, true, false}
use Rattle.std.specs.Prelude.{◌||◌}
use Rattle.program_trees.specs.declared.expression.DataType.{DataType}
use Rattle.program_trees.specs.declared.expression.DataType.TheVariants.{Uint64, Int64}
use Rattle.program_trees.specs.declared.expression.DataType.TheVariants as datatype
use Rattle.program_trees.specs.declared.expression.Operator.{Operator}
use Rattle.program_trees.specs.declared.expression.Operator.TheVariants.{Add, Subtract, Multiply, Divide, Remainder, Equal, NotEqual, Less, LessOrEqual}
use Rattle.program_trees.specs.declared.expression.Operator.TheVariants.{Greater, GreaterOrEqual, And, Or, Xor, AndAlso, OrElse}
use Rattle.program_trees.specs.Programs.{ProgramTree}
use Rattle.domain_types.specs.declared.value_type.Protection.{Protection}
use Rattle.domain_types.specs.declared.value_type.Protection.TheVariants as checked
use Rattle.domain_types.specs.declared.value_type.ValueType.{ValueType}
use Rattle.domain_types.specs.Typing.{OperatesOn, IsOperation}
use Rattle.program_trees.specs.declared.kinds.Shape.{Shape}
use Rattle.program_trees.specs.declared.operators.OperatorSign.TheVariants as word
use Rattle.program_trees.specs.declared.operators.BoolOperator.TheVariants as truth
use Rattle.program_trees.specs.declared.operators.BinaryOperator.{BinaryOperator}
use Rattle.program_trees.specs.declared.operators.BinaryOperator.TheVariants.{Words, Ints, Bools}
use Rattle.program_trees.specs.declared.operators.Connective.{Connective}
use Rattle.program_trees.specs.declared.operators.Operands.{Operands}
use Rattle.program_trees.specs.declared.operators.Operands.TheVariants.{Scalars, ArrayAndScalar, ScalarAndArray, Arrays}
use Rattle.program_trees.specs.TypedTree.{binary_node, cut_node}
use Rattle.program_trees.specs.Operators.{operator_on, element_made, operands_of, may_cut_short}
use Rattle.program_trees.specs.Shapes.{shape_of}
use Rattle.name_resolution.specs.Values.{TypedValue, operation_node, operation_made}
use Rattle.name_resolution.proofs.SoundValues.{some_is}
use Rattle.program_typing.proofs.TreesOfValues.{no_number, no_bits}
use Rattle.reached_instances.specs.Domains.{Setting, domain, joined_domain}
use Rattle.reached_instances.specs.Calls.{calls}
use Rattle.well_typed.specs.Kinds.{scalar, Meet, operand_of, MayOperate, left_is_array, right_is_array}
use Rattle.well_typed.specs.Expressions.{Gives}
use Rattle.well_typed.specs.Laws.{bound_domain}
use Rattle.well_typed.proofs.Bindings.{meets_meet, meets_joined}
use Rattle.well_typed.proofs.SlotsWritten.{shape_in}
use Rattle.well_typed.proofs.Typed.{Good, gives_as, AreChecked, both_checked}

-- an operator that is right for operands of this data type, where the result is of the domain d and the data type r
record Suits (o : BinaryOperator) (t : DataType) (d : Protection) (r : DataType) : Type 0 where
  pub operand : operand_of o ≡ t
  pub result : element_made o ≡ r
  pub allowed : MayOperate o (bound_domain d)

-- the one that the sign means
abbrev Means : Operator → (t : DataType) → Protection → DataType → BinaryOperator → Type 0
Means sign t d r o = operator_on sign t t ≡ Some o → Suits o t d r

suits : (o b : BinaryOperator) (t : DataType) (d : Protection) (r : DataType) → Suits o t d r → Some o ≡ Some b → Suits b t d r
suits o b t d r s e = subst (λ z. Suits z t d r) (some_is o b e) s

word_public : (d : Protection) → (Uint64 ≡ datatype.Bool) ⊎ ((Uint64 ≡ Uint64) × (d ≡ checked.Public)) → d ≡ checked.Public
word_public d (inl e) = cc
word_public d (inr e) = e.1

operator_suits : (sign : Operator) (t : DataType) (d : Protection) (r : DataType) (o : BinaryOperator) → OperatesOn sign t d r → Means sign t d r o
operator_suits Add Uint64 d r o h e = suits (Words word.Add) o Uint64 d r (record { operand = refl; result = sym h.1; allowed = λ n. cc }) e
operator_suits Add Int64 d r o h e = suits (Ints word.Add) o Int64 d r (record { operand = refl; result = sym h.1; allowed = (refl, λ n. cc) }) e
operator_suits Add datatype.Bool d r o h e = absurd (no_number h.0)
operator_suits Subtract Uint64 d r o h e = suits (Words word.Subtract) o Uint64 d r (record { operand = refl; result = sym h.1; allowed = λ n. cc }) e
operator_suits Subtract Int64 d r o h e =
    suits (Ints word.Subtract) o Int64 d r (record { operand = refl; result = sym h.1; allowed = (refl, λ n. cc) }) e
operator_suits Subtract datatype.Bool d r o h e = absurd (no_number h.0)
operator_suits Multiply Uint64 d r o h e = suits (Words word.Multiply) o Uint64 d r (record { operand = refl; result = sym h.1; allowed = λ n. cc }) e
operator_suits Multiply Int64 d r o h e =
    suits (Ints word.Multiply) o Int64 d r (record { operand = refl; result = sym h.1; allowed = (refl, λ n. cc) }) e
operator_suits Multiply datatype.Bool d r o h e = absurd (no_number h.0)
operator_suits Divide Uint64 d r o h e =
    suits (Words word.Divide) o Uint64 d r (record { operand = refl; result = sym h.1; allowed = λ n. ap bound_domain h.2 }) e
operator_suits Divide Int64 d r o h e =
    suits (Ints word.Divide) o Int64 d r (record { operand = refl; result = sym h.1; allowed = (refl, λ n. ap bound_domain h.2) }) e
operator_suits Divide datatype.Bool d r o h e = absurd (no_number h.0)
operator_suits Remainder Uint64 d r o h e =
    suits (Words word.Remainder) o Uint64 d r (record { operand = refl; result = sym h.1; allowed = λ n. ap bound_domain h.2 }) e
operator_suits Remainder Int64 d r o h e =
    suits (Ints word.Remainder) o Int64 d r (record { operand = refl; result = sym h.1; allowed = (refl, λ n. ap bound_domain h.2) }) e
operator_suits Remainder datatype.Bool d r o h e = absurd (no_number h.0)
operator_suits Equal Uint64 d r o h e = suits (Words word.Equal) o Uint64 d r (record { operand = refl; result = sym h; allowed = λ n. cc }) e
operator_suits Equal Int64 d r o h e = suits (Ints word.Equal) o Int64 d r (record { operand = refl; result = sym h; allowed = (refl, λ n. cc) }) e
operator_suits Equal datatype.Bool d r o h e = suits (Bools truth.Equal) o datatype.Bool d r (record { operand = refl; result = sym h; allowed = tt }) e
operator_suits NotEqual Uint64 d r o h e = suits (Words word.NotEqual) o Uint64 d r (record { operand = refl; result = sym h; allowed = λ n. cc }) e
operator_suits NotEqual Int64 d r o h e =
    suits (Ints word.NotEqual) o Int64 d r (record { operand = refl; result = sym h; allowed = (refl, λ n. cc) }) e
operator_suits NotEqual datatype.Bool d r o h e = suits (Bools truth.NotEqual) o datatype.Bool d r (record { operand = refl; result = sym h; allowed = tt }) e
operator_suits Less Uint64 d r o h e = suits (Words word.Less) o Uint64 d r (record { operand = refl; result = sym h.1; allowed = λ n. cc }) e
operator_suits Less Int64 d r o h e = suits (Ints word.Less) o Int64 d r (record { operand = refl; result = sym h.1; allowed = (refl, λ n. cc) }) e
operator_suits Less datatype.Bool d r o h e = absurd (no_number h.0)
operator_suits LessOrEqual Uint64 d r o h e = suits (Words word.LessOrEqual) o Uint64 d r (record { operand = refl; result = sym h.1; allowed = λ n. cc }) e
operator_suits LessOrEqual Int64 d r o h e =
    suits (Ints word.LessOrEqual) o Int64 d r (record { operand = refl; result = sym h.1; allowed = (refl, λ n. cc) }) e
operator_suits LessOrEqual datatype.Bool d r o h e = absurd (no_number h.0)
operator_suits Greater Uint64 d r o h e = suits (Words word.Greater) o Uint64 d r (record { operand = refl; result = sym h.1; allowed = λ n. cc }) e
operator_suits Greater Int64 d r o h e =
    suits (Ints word.Greater) o Int64 d r (record { operand = refl; result = sym h.1; allowed = (refl, λ n. cc) }) e
operator_suits Greater datatype.Bool d r o h e = absurd (no_number h.0)
operator_suits GreaterOrEqual Uint64 d r o h e =
    suits (Words word.GreaterOrEqual) o Uint64 d r (record { operand = refl; result = sym h.1; allowed = λ n. cc }) e
operator_suits GreaterOrEqual Int64 d r o h e =
    suits (Ints word.GreaterOrEqual) o Int64 d r (record { operand = refl; result = sym h.1; allowed = (refl, λ n. cc) }) e
operator_suits GreaterOrEqual datatype.Bool d r o h e = absurd (no_number h.0)
operator_suits And Uint64 d r o h e =
    suits (Words word.And) o Uint64 d r (record { operand = refl; result = sym h.0; allowed = λ n. ap bound_domain (word_public d h.1) }) e
operator_suits And Int64 d r o h e = absurd (no_bits d h.1)
operator_suits And datatype.Bool d r o h e = suits (Bools truth.And) o datatype.Bool d r (record { operand = refl; result = sym h.0; allowed = tt }) e
operator_suits Or Uint64 d r o h e =
    suits (Words word.Or) o Uint64 d r (record { operand = refl; result = sym h.0; allowed = λ n. ap bound_domain (word_public d h.1) }) e
operator_suits Or Int64 d r o h e = absurd (no_bits d h.1)
operator_suits Or datatype.Bool d r o h e = suits (Bools truth.Or) o datatype.Bool d r (record { operand = refl; result = sym h.0; allowed = tt }) e
operator_suits Xor Uint64 d r o h e =
    suits (Words word.Xor) o Uint64 d r (record { operand = refl; result = sym h.0; allowed = λ n. ap bound_domain (word_public d h.1) }) e
operator_suits Xor Int64 d r o h e = absurd (no_bits d h.1)
operator_suits Xor datatype.Bool d r o h e = suits (Bools truth.Xor) o datatype.Bool d r (record { operand = refl; result = sym h.0; allowed = tt }) e
operator_suits AndAlso Uint64 d r o h e = let no = h.0 in cc
operator_suits AndAlso Int64 d r o h e = let no = h.0 in cc
operator_suits AndAlso datatype.Bool d r o h e = suits (Bools truth.And) o datatype.Bool d r (record { operand = refl; result = sym h.1; allowed = tt }) e
operator_suits OrElse Uint64 d r o h e = let no = h.0 in cc
operator_suits OrElse Int64 d r o h e = let no = h.0 in cc
operator_suits OrElse datatype.Bool d r o h e = suits (Bools truth.Or) o datatype.Bool d r (record { operand = refl; result = sym h.1; allowed = tt }) e

-- WHICH OPERANDS ARE ARRAYS

left_told : (a b : Bool) → left_is_array (operands_of a b) ≡ a
left_told false false = refl
left_told true false = refl
left_told false true = refl
left_told true true = refl

right_told : (a b : Bool) → right_is_array (operands_of a b) ≡ b
right_told false false = refl
right_told true false = refl
right_told false true = refl
right_told true true = refl

-- only scalars, and truth values, are cut short
record IsCut (sign : Operator) (ds : Operands) : Type 0 where
  pub scalars : ds ≡ Scalars
  pub truths : (t : DataType) (d : Protection) (r : DataType) → OperatesOn sign t d r → (t ≡ datatype.Bool) × (r ≡ datatype.Bool)

is_cut : (sign : Operator) (ds : Operands) (c : Connective) → may_cut_short sign ds ≡ Some c → IsCut sign ds
is_cut Add ds c e = cc
is_cut Subtract ds c e = cc
is_cut Multiply ds c e = cc
is_cut Divide ds c e = cc
is_cut Remainder ds c e = cc
is_cut Equal ds c e = cc
is_cut NotEqual ds c e = cc
is_cut Less ds c e = cc
is_cut LessOrEqual ds c e = cc
is_cut Greater ds c e = cc
is_cut GreaterOrEqual ds c e = cc
is_cut And ds c e = cc
is_cut Or ds c e = cc
is_cut Xor ds c e = cc
is_cut AndAlso Scalars c e = record { scalars = refl; truths = λ t d r h. (h.0, h.1) }
is_cut AndAlso ArrayAndScalar c e = cc
is_cut AndAlso ScalarAndArray c e = cc
is_cut AndAlso Arrays c e = cc
is_cut OrElse Scalars c e = record { scalars = refl; truths = λ t d r h. (h.0, h.1) }
is_cut OrElse ArrayAndScalar c e = cc
is_cut OrElse ScalarAndArray c e = cc
is_cut OrElse Arrays c e = cc

-- THE NODE

module _ (p : ProgramTree) (w : Setting) (line : ℕ) (sign : Operator) (a b : TypedValue) (x y z : ValueType) (g : Good p w a x) (h : Good p w b y)
    (op : IsOperation sign x y z) where
  seen : joined_domain (domain w a.tree) (domain w b.tree) ≡ bound_domain z.domain
  seen = ap (λ d. joined_domain d (domain w b.tree)) g.seen_by ∙ ap (joined_domain (bound_domain x.domain)) h.seen_by
      ∙ meets_joined x.domain y.domain z.domain op.meets

  meet : Meet (domain w a.tree) (domain w b.tree)
  meet = subst (λ d. Meet d (domain w b.tree)) (sym g.seen_by)
      (subst (Meet (bound_domain x.domain)) (sym h.seen_by) (meets_meet x.domain y.domain z.domain op.meets))

  abbrev operands : Operands
  operands = operands_of a.shape.array b.shape.array

  left_array : left_is_array operands ≡ x.array
  left_array = left_told a.shape.array b.shape.array ∙ ap (λ (s : Shape). s.array) g.shape

  right_array : right_is_array operands ≡ y.array
  right_array = right_told a.shape.array b.shape.array ∙ ap (λ (s : Shape). s.array) h.shape

  some_array : left_is_array operands || right_is_array operands ≡ z.array
  some_array = ap₂ (λ s t. s || t) left_array right_array ∙ sym op.dimension

  called_both : AreChecked p (calls w a.tree ++ calls w b.tree)
  called_both = both_checked p (calls w a.tree) (calls w b.tree) g.called h.called

  gives_binary : (o : BinaryOperator) → Suits o x.element z.domain z.element → Gives w (binary_node line o operands a.tree b.tree) (Some (shape_in z))
  gives_binary o s =
      let left : shape_in x ≡ shape_of (operand_of o) (left_is_array operands) = ap₂ shape_of (sym s.operand) (sym left_array) in
      let right : shape_in y ≡ shape_of (operand_of o) (right_is_array operands) = ap₂ shape_of (sym op.same ∙ sym s.operand) (sym right_array) in (
        gives_as w a.tree (shape_in x) (shape_of (operand_of o) (left_is_array operands)) g.gives left,
        gives_as w b.tree (shape_in y) (shape_of (operand_of o) (right_is_array operands)) h.gives right,
        meet,
        subst (MayOperate o) (sym seen) s.allowed,
        ap Some (ap₂ shape_of (sym s.result) (sym some_array)),
      )

  gives_cut : (c : Connective) → IsCut sign operands → Gives w (cut_node c a.tree b.tree) (Some (shape_in z))
  gives_cut c cut =
      let truths = cut.truths x.element z.domain z.element op.operates in
      let left : x.array ≡ false = sym left_array ∙ ap left_is_array cut.scalars in
      let right : y.array ≡ false = sym right_array ∙ ap right_is_array cut.scalars in
      let result : z.array ≡ false = op.dimension ∙ ap₂ (λ s t. s || t) left right in (
        gives_as w a.tree (shape_in x) (scalar datatype.Bool) g.gives (ap₂ shape_of truths.0 left),
        gives_as w b.tree (shape_in y) (scalar datatype.Bool) h.gives (ap₂ shape_of (sym op.same ∙ truths.0) right),
        meet,
        ap Some (ap₂ shape_of truths.1 result),
      )

  pub good_operation : (o : BinaryOperator) → operator_on sign a.shape.element b.shape.element ≡ Some o → Good p w (operation_made line sign a b o) z
  good_operation o on = go (may_cut_short sign operands) refl
    where
      means : operator_on sign x.element x.element ≡ Some o
      means = ap₂ (operator_on sign) (sym (ap (λ (s : Shape). s.element) g.shape)) (op.same ∙ sym (ap (λ (s : Shape). s.element) h.shape)) ∙ on

      is_suited : Suits o x.element z.domain z.element
      is_suited = operator_suits sign x.element z.domain z.element o op.operates means

      shape_is : shape_of (element_made o) (a.shape.array || b.shape.array) ≡ shape_in z
      shape_is = ap₂ shape_of is_suited.result
          (ap₂ (λ s t. s || t) (ap (λ (s : Shape). s.array) g.shape) (ap (λ (s : Shape). s.array) h.shape) ∙ sym op.dimension)

      go : (c : Option Connective) → may_cut_short sign operands ≡ c
          → Good p w (record { tree = operation_node line o a b c; shape = shape_of (element_made o) (a.shape.array || b.shape.array) }) z
      go None e = record { shape = shape_is; gives = gives_binary o is_suited; seen_by = seen; called = called_both }
      go (Some c) e = record { shape = shape_is; gives = gives_cut c (is_cut sign operands c e); seen_by = seen; called = called_both }
