-- An expression of the program as a typed one. Nothing where a name or a number of arguments doesn't fit, or where no operator is
-- for such operands. Domains play no part here.
use Rattle.std.specs.Prelude.{ℕ, Bool, true, false, ◌||◌, nat_eq, if◌then◌else◌, List, [], ◌∷◌, length, map, Option, Some, None, option_map, option_and_then}
use Rattle.program_trees.specs.declared.expression.DataType.{DataType}
use Rattle.program_trees.specs.declared.expression.DataType.TheVariants.{Uint64}
use Rattle.program_trees.specs.declared.expression.DataType.TheVariants as datatype
use Rattle.program_trees.specs.declared.expression.Operator.{Operator}
use Rattle.program_trees.specs.declared.function.ResultType.{ResultType}
use Rattle.program_trees.specs.declared.function.ResultType.TheVariants as returned
use Rattle.program_trees.specs.Tree.{Tree, Trees, number, truth, variable, call, index, parentheses, negation, cast, binary, declassify}
use Rattle.program_trees.specs.Tree as Tree'
use Rattle.declarations.specs.declared.built_in.BuiltIn.{BuiltIn}
use Rattle.declarations.specs.declared.built_in.BuiltIn.TheVariants.{Size, Cat, Sum, BitExtract, Lookup}
use Rattle.declarations.specs.Declarations.{Declared, Callee, built_in, defined, callee}
use Rattle.program_trees.specs.declared.kinds.Shape.{Shape}
use Rattle.program_trees.specs.Shapes.{shape_of}
use Rattle.program_trees.specs.declared.operators.BinaryOperator.{BinaryOperator}
use Rattle.program_trees.specs.declared.operators.Connective.{Connective}
use Rattle.program_trees.specs.TypedTree.{TypedTree, word_node, truth_node, slot_node, call_node, size_node, cat_node, sum_node, bits_node, lookup_node, element_node}
use Rattle.program_trees.specs.TypedTree.{not_node, cast_node, binary_node, cut_node, declassify_node, typed_trees_of}
use Rattle.program_trees.specs.Operators.{operator_on, element_made, operands_of, may_cut_short, cast_between}
use Rattle.name_resolution.specs.Scopes.{Variable, Scope, variable_named, shape_written}

-- an expression that gives a value, and the shape of the value
pub record TypedValue : Type 0 where
  pub tree : TypedTree
  pub shape : Shape

abbrev pub made : TypedTree → DataType → (array : Bool) → TypedValue
made t element array = record { tree = t; shape = shape_of element array }

-- of two parts, where both are there
abbrev pub of_both : {A B C : Type 0} → (A → B → Option C) → Option A → Option B → Option C
of_both rule (Some a) (Some b) = rule a b
of_both rule _ _ = None

-- one before others
abbrev pub and_more : {A : Type 0} → A → List A → Option (List A)
and_more a more = Some (a ∷ more)

-- what is made of each of a list, where all are there
abbrev pub all_of : {A B : Type 0} → (A → Option B) → List A → Option (List B)
all_of f [] = Some []
all_of f (a ∷ more) = of_both and_more (f a) (all_of f more)

-- the one value of a list, and the two
abbrev pub only : {A : Type 0} → List A → Option A
only [] = None
only (a ∷ []) = Some a
only (a ∷ b ∷ cs) = None

abbrev pub pair : {A : Type 0} → List A → Option (A × A)
pair [] = None
pair (a ∷ []) = None
pair (a ∷ b ∷ []) = Some (a, b)
pair (a ∷ b ∷ c ∷ ds) = None

abbrev pub variable_value : Variable → TypedValue
variable_value v = record { tree = slot_node v.known.slot; shape = v.known.shape }

abbrev pub element_value : ℕ → TypedValue → TypedValue → Option TypedValue
element_value line a i = Some (made (element_node line a.tree i.tree) a.shape.element false)

abbrev pub negated : TypedValue → TypedValue
negated v = record { tree = not_node v.tree; shape = v.shape }

abbrev pub cast_value : DataType → TypedValue → TypedValue
cast_value element v = made (cast_node (cast_between v.shape.element element) v.tree) element v.shape.array

abbrev pub declassified_value : TypedValue → TypedValue
declassified_value v = record { tree = declassify_node v.tree; shape = v.shape }

-- OPERATORS

abbrev pub operation_node : ℕ → BinaryOperator → TypedValue → TypedValue → Option Connective → TypedTree
operation_node line op a b None = binary_node line op (operands_of a.shape.array b.shape.array) a.tree b.tree
operation_node line op a b (Some c) = cut_node c a.tree b.tree

abbrev pub operation_made : ℕ → Operator → TypedValue → TypedValue → BinaryOperator → TypedValue
operation_made line sign a b op =
    made (operation_node line op a b (may_cut_short sign (operands_of a.shape.array b.shape.array))) (element_made op) (a.shape.array || b.shape.array)

abbrev pub operation : ℕ → Operator → TypedValue → TypedValue → Option TypedValue
operation line sign a b = option_map (operation_made line sign a b) (operator_on sign a.shape.element b.shape.element)

-- CALLS

-- a call, and the shape of what it gives back, if it does
pub record TypedCall : Type 0 where
  pub tree : TypedTree
  pub gives : Option Shape

abbrev pub gives_value : TypedValue → TypedCall
gives_value v = record { tree = v.tree; gives = Some v.shape }

abbrev pub with_shape : TypedTree → Shape → TypedValue
with_shape t s = record { tree = t; shape = s }

-- a void call gives no value
abbrev pub value_given : TypedCall → Option TypedValue
value_given c = option_map (with_shape c.tree) c.gives

abbrev pub shape_returned : ResultType → Option Shape
shape_returned returned.Void = None
shape_returned (returned.Value t) = Some (shape_written t)

abbrev pub tree_of_value : TypedValue → TypedTree
tree_of_value v = v.tree

-- the elements of an array at an index, or at each of an array of indices
abbrev pub looked_up : ℕ → TypedValue → TypedValue → TypedValue
looked_up line a i = made (lookup_node line a.tree i.tree) a.shape.element i.shape.array

abbrev pub built_in_value : ℕ → BuiltIn → List TypedValue → Option TypedValue
built_in_value line Size (a ∷ []) = Some (made (size_node a.tree) Uint64 false)
built_in_value line Cat (a ∷ b ∷ []) = Some (made (cat_node line a.tree b.tree) a.shape.element true)
built_in_value line Sum (a ∷ []) = Some (made (sum_node a.tree) a.shape.element false)
built_in_value line BitExtract (a ∷ []) = Some (made (bits_node line a.tree) datatype.Bool true)
built_in_value line Lookup (a ∷ i ∷ []) = Some (looked_up line a i)
built_in_value line _ _ = None

-- a function of the program is called by its number
abbrev pub called : ℕ → Callee → List TypedValue → Option TypedCall
called line (built_in b) vs = option_map gives_value (built_in_value line b vs)
called line (defined k f) vs =
    if nat_eq (length f.parameters) (length vs) then
    Some (record { tree = call_node line k (typed_trees_of (map tree_of_value vs)); gives = shape_returned f.returned })
    else None

-- EXPRESSIONS

abbrev mutual
  pub value : Declared → Scope → Tree → Option TypedValue
  value d s (number p n) = Some (made (word_node n) Uint64 false)
  value d s (truth p b) = Some (made (truth_node b) datatype.Bool false)
  value d s (variable p x) = option_map variable_value (variable_named s x)
  value d s (call p x es) = option_and_then value_given (of_both (called p.line) (callee d x) (values d s es))
  value d s (index p a i) = of_both (element_value p.line) (value d s a) (value d s i)
  value d s (parentheses p e) = value d s e
  value d s (negation p e) = option_map negated (value d s e)
  value d s (cast p t e) = option_map (cast_value t) (value d s e)
  value d s (binary p op a b) = of_both (operation p.line op) (value d s a) (value d s b)
  value d s (declassify p e) = option_map declassified_value (value d s e)
  value d s _ = None

  -- the arguments of a call
  pub values : Declared → Scope → Trees → Option (List TypedValue)
  values d s Tree'.none = Some []
  values d s (Tree'.also e es) = of_both and_more (value d s e) (values d s es)

-- a call as a statement of its own may give nothing
abbrev pub call_made : Declared → Scope → ℕ → List ℕ → Trees → Option TypedCall
call_made d s line x es = of_both (called line) (callee d x) (values d s es)
