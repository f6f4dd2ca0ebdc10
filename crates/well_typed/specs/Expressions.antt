-- Which expressions are well typed, and the shape of what they give. Who may see it is `domain` of the reached instances.
use Rattle.std.specs.Prelude.{◌≡◌, ◌<◌, ◌^◌, Bool, true, ◌||◌, List, [], ◌∷◌, length, take, Option, Some, None}
use Rattle.std.specs.List.{slice_get}
use Rattle.program_trees.specs.declared.expression.DataType.{DataType}
use Rattle.program_trees.specs.declared.expression.DataType.TheVariants.{Uint64, Int64}
use Rattle.program_trees.specs.declared.expression.DataType.TheVariants as datatype
use Rattle.program_trees.specs.declared.kinds.Shape.{Shape}
use Rattle.program_trees.specs.declared.kinds.Slot.{Slot}
use Rattle.program_trees.specs.declared.typed_function.Returned.{Returned}
use Rattle.program_trees.specs.declared.typed_function.Returned.TheVariants.{Nothing, Value}
use Rattle.program_trees.specs.Operators.{element_made}
use Rattle.program_trees.specs.TypedTree.{TypedTree, TypedTrees, word_node, truth_node, zero_node, slot_node, call_node, size_node, cat_node, sum_node, bits_node}
use Rattle.program_trees.specs.TypedTree.{lookup_node, element_node, not_node, cast_node, binary_node, cut_node, declassify_node}
use Rattle.program_trees.specs.TypedTree as Tree'
use Rattle.program_trees.specs.TypedPrograms.{TypedFunctionTree}
use Rattle.program_trees.specs.Shapes.{shape_of}
use Rattle.reached_instances.specs.declared.instance.BoundDomain.{BoundDomain}
use Rattle.reached_instances.specs.declared.instance.BoundDomain.TheVariants.{Public}
use Rattle.reached_instances.specs.Domains.{Setting, is_private, domain, domains, joined_domain, domain_under, binding_of}
use Rattle.well_typed.specs.Kinds.{scalar, array, IsNumber, GoesTo, Meet, operand_of, MayOperate, left_is_array, right_is_array}

-- the shape of what a function gives back, if it does
abbrev pub shape_given : Returned → Option Shape
shape_given Nothing = None
shape_given (Value s) = Some s.shape

abbrev mutual
  -- an expression is well typed where it stands, and gives a value of this shape, or nothing
  pub Gives : Setting → TypedTree → Option Shape → Type 0
  Gives w (word_node n) g = (n < 2 ^ 64) × (g ≡ Some (scalar Uint64))
  Gives w (truth_node b) g = g ≡ Some (scalar datatype.Bool)
  -- it fills a variable, so there is one
  Gives w zero_node g = (0 < length w.slots) × (g ≡ Some (scalar Int64))
  Gives w (slot_node k) g = (s : Slot) × (slice_get w.slots k ≡ Some s) × (g ≡ Some s.shape)
  Gives w (call_node line k es) g =
      (f : TypedFunctionTree) × (slice_get w.functions k ≡ Some f)
      × AreTaken w (binding_of f (domains w es)) (take f.parameters f.slots) es × (g ≡ shape_given f.given)
  Gives w (size_node e) g = (t : DataType) × Gives w e (Some (array t)) × (g ≡ Some (scalar Uint64))
  Gives w (cat_node line a b) g =
      (t : DataType) × Gives w a (Some (array t)) × Gives w b (Some (array t)) × Meet (domain w a) (domain w b) × (g ≡ Some (array t))
  Gives w (sum_node e) g = (t : DataType) × Gives w e (Some (array t)) × IsNumber t × (g ≡ Some (scalar t))
  Gives w (bits_node line e) g = (b : Bool) × Gives w e (Some (shape_of Uint64 b)) × (g ≡ Some (array datatype.Bool))
  Gives w (lookup_node line a i) g =
      (t : DataType) × (b : Bool) × Gives w a (Some (array t)) × Gives w i (Some (shape_of Uint64 b)) × IsNumber t
      × Meet (domain w a) (domain w i) × (is_private (joined_domain (domain w a) (domain w i)) ≡ true) × (g ≡ Some (shape_of t b))
  Gives w (element_node line a i) g =
      (t : DataType) × Gives w a (Some (array t)) × Gives w i (Some (scalar Uint64)) × (domain w i ≡ Public) × (g ≡ Some (scalar t))
  Gives w (not_node e) g = (b : Bool) × Gives w e (Some (shape_of datatype.Bool b)) × (g ≡ Some (shape_of datatype.Bool b))
  Gives w (cast_node c e) g = (b : Bool) × Gives w e (Some (shape_of c.given b)) × (g ≡ Some (shape_of c.wanted b))
  Gives w (binary_node line op ds a b) g =
      Gives w a (Some (shape_of (operand_of op) (left_is_array ds))) × Gives w b (Some (shape_of (operand_of op) (right_is_array ds)))
      × Meet (domain w a) (domain w b) × MayOperate op (joined_domain (domain w a) (domain w b))
      × (g ≡ Some (shape_of (element_made op) (left_is_array ds || right_is_array ds)))
  Gives w (cut_node c a b) g =
      Gives w a (Some (scalar datatype.Bool)) × Gives w b (Some (scalar datatype.Bool)) × Meet (domain w a) (domain w b)
      × (g ≡ Some (scalar datatype.Bool))
  Gives w (declassify_node e) g = (s : Shape) × Gives w e (Some s) × (g ≡ Some s)

  -- each parameter of a function that is bound so takes its argument, and there are as many
  pub AreTaken : Setting → (binding : List BoundDomain) → (parameters : List Slot) → TypedTrees → Type 0
  AreTaken w b [] Tree'.none = Unit {0}
  AreTaken w b [] (Tree'.also e es) = ⊥
  AreTaken w b (s ∷ ss) Tree'.none = ⊥
  AreTaken w b (s ∷ ss) (Tree'.also e es) = Gives w e (Some s.shape) × GoesTo (domain w e) (domain_under b s.domain) × AreTaken w b ss es
