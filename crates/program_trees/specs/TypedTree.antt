-- Typed expressions as values: the same trees without pointers.
use Rattle.std.specs.Prelude.{ℕ, Bool, List, [], ◌∷◌}
use Rattle.program_trees.specs.declared.operators.BinaryOperator.{BinaryOperator}
use Rattle.program_trees.specs.declared.operators.Connective.{Connective}
use Rattle.program_trees.specs.declared.operators.Operands.{Operands}
use Rattle.program_trees.specs.declared.operators.Cast.{Cast}
use Rattle.program_trees.specs.declared.typed_expression.TypedExpression.{TypedExpression}
use Rattle.program_trees.specs.declared.typed_expression.TypedExpression.TheOpen as Open
use Rattle.program_trees.specs.declared.typed_expression.TypedExpression.TheOpen.{TypedExpression-F}
use Rattle.program_trees.specs.declared.typed_expression.TypedExpression.TheFolds.{fold-TypedExpression}

mutual
  pub data TypedTree : Type 0 where
    word_node : (word : ℕ) → TypedTree
    truth_node : Bool → TypedTree
    zero_node : TypedTree
    slot_node : (slot : ℕ) → TypedTree
    call_node : (line function : ℕ) → TypedTrees → TypedTree
    size_node : TypedTree → TypedTree
    cat_node : (line : ℕ) → (left right : TypedTree) → TypedTree
    sum_node : TypedTree → TypedTree
    bits_node : (line : ℕ) → TypedTree → TypedTree
    lookup_node : (line : ℕ) → (array index : TypedTree) → TypedTree
    element_node : (line : ℕ) → (array position : TypedTree) → TypedTree
    not_node : TypedTree → TypedTree
    cast_node : Cast → TypedTree → TypedTree
    binary_node : (line : ℕ) → BinaryOperator → Operands → (left right : TypedTree) → TypedTree
    cut_node : Connective → (left right : TypedTree) → TypedTree
    declassify_node : TypedTree → TypedTree

  pub data TypedTrees : Type 0 where
    none : TypedTrees
    also : TypedTree → TypedTrees → TypedTrees

abbrev pub typed_trees_of : List TypedTree → TypedTrees
typed_trees_of [] = none
typed_trees_of (t ∷ ts) = also t (typed_trees_of ts)

-- one node, with the trees of its children in their places
abbrev pub typed_layer : TypedExpression-F TypedTree → TypedTree
typed_layer (Open.Word n) = word_node n
typed_layer (Open.Truth b) = truth_node b
typed_layer Open.Zero = zero_node
typed_layer (Open.Variable k) = slot_node k
typed_layer (Open.Call line k es) = call_node line k (typed_trees_of es.items)
typed_layer (Open.Size e) = size_node e.value
typed_layer (Open.Cat line a b) = cat_node line a.value b.value
typed_layer (Open.Sum e) = sum_node e.value
typed_layer (Open.BitExtract line e) = bits_node line e.value
typed_layer (Open.Lookup line a i) = lookup_node line a.value i.value
typed_layer (Open.Element line a i) = element_node line a.value i.value
typed_layer (Open.Not e) = not_node e.value
typed_layer (Open.Cast c e) = cast_node c e.value
typed_layer (Open.Binary line op ds a b) = binary_node line op ds a.value b.value
typed_layer (Open.CutShort c a b) = cut_node c a.value b.value
typed_layer (Open.Declassify e) = declassify_node e.value

abbrev pub typed_tree : TypedExpression → TypedTree
typed_tree = fold-TypedExpression TypedTree typed_layer
