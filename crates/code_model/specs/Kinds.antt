-- The registers of values on their way: how many, and of which kinds.
--
-- Such a value stands in a row of twelve registers, one for each kind. An expression has the row where its code begins for its own value
-- and for that of its first operand, and the rows after it for its further operands: so each row is used again and again. Where a value
-- has to be classified, it is so within its row.
use Rattle.std.specs.Prelude.{ℕ, zero, suc, ◌+◌, max, Bool, true, false, List, [], ◌∷◌, ◌++◌, Option, Some, None}
use Rattle.std.specs.List.{slice_get}
use Rattle.program_trees.specs.declared.expression.DataType.{DataType}
use Rattle.program_trees.specs.declared.expression.DataType.TheVariants.{Uint64, Int64}
use Rattle.program_trees.specs.declared.expression.DataType.TheVariants as datatype
use Rattle.program_trees.specs.declared.kinds.Shape.{Shape}
use Rattle.program_trees.specs.declared.kinds.Slot.{Slot}
use Rattle.program_trees.specs.declared.typed_function.Returned.{Returned}
use Rattle.program_trees.specs.declared.typed_function.Returned.TheVariants as given
use Rattle.program_trees.specs.Shapes.{shape_of}
use Rattle.program_trees.specs.TypedTree.{TypedTree, TypedTrees, truth_node, zero_node, slot_node, call_node, size_node, cat_node, sum_node, bits_node, lookup_node, element_node}
use Rattle.program_trees.specs.TypedTree.{not_node, cast_node, binary_node, cut_node, declassify_node}
use Rattle.program_trees.specs.TypedTree as Tree'
use Rattle.program_trees.specs.TypedPrograms.{TypedFunctionTree}
use Rattle.reached_instances.specs.declared.instance.BoundDomain.{BoundDomain}
use Rattle.reached_instances.specs.Domains.{Setting, domain_under}
use Rattle.blind_evaluation.specs.Operations.{result_shape, cast_shape}
use Rattle.blind_evaluation.specs.Evaluation.{is_private, gives_private, slot_shape, either}
use Rattle.bytecode.specs.declared.kind.Kind.{Kind}

-- ---- HOW MANY

abbrev mutual
  -- how many rows the code of an expression has
  pub depth : TypedTree → ℕ
  depth (call_node line k es) = max (depths es) 1
  depth (size_node e) = depth e
  depth (cat_node line a b) = max (depth a) (1 + depth b)
  depth (sum_node e) = depth e
  depth (bits_node line e) = depth e
  depth (lookup_node line a i) = max (depth a) (1 + depth i)
  depth (element_node line a i) = max (depth a) (1 + depth i)
  depth (not_node e) = depth e
  depth (cast_node c e) = depth e
  depth (binary_node line op ds a b) = max (depth a) (1 + depth b)
  depth (cut_node c a b) = max (depth a) (1 + depth b)
  depth (declassify_node e) = depth e
  depth _ = 1

  -- each argument stands in a row of its own
  pub depths : TypedTrees → ℕ
  depths Tree'.none = 0
  depths (Tree'.also e es) = max (depth e) (1 + depths es)

-- ---- OF WHICH KINDS

abbrev pub kind_of : (secret : Bool) → Shape → Kind
kind_of secret shape = record { secret = secret; element = shape.element; array = shape.array }

abbrev pub returned_shape : Returned → Shape
returned_shape given.Nothing = shape_of Uint64 false
returned_shape (given.Value s) = s.shape

abbrev pub called_shape : Option TypedFunctionTree → Shape
called_shape None = shape_of Uint64 false
called_shape (Some f) = returned_shape f.given

-- the shape of what an expression gives; a function that gives nothing back has a number that nobody reads
abbrev pub shape_in : Setting → TypedTree → Shape
shape_in here (truth_node b) = shape_of datatype.Bool false
shape_in here zero_node = shape_of Int64 false
shape_in here (slot_node k) = slot_shape here k
shape_in here (call_node line k es) = called_shape (slice_get here.functions k)
shape_in here (cat_node line a b) = shape_in here a
shape_in here (sum_node e) = shape_of (shape_in here e).element false
shape_in here (bits_node line e) = shape_of datatype.Bool true
shape_in here (lookup_node line a i) = shape_of (shape_in here a).element (shape_in here i).array
shape_in here (element_node line a i) = shape_of (shape_in here a).element false
shape_in here (not_node e) = shape_in here e
shape_in here (cast_node c e) = cast_shape c (shape_in here e).array
shape_in here (binary_node line op ds a b) = result_shape op ds
shape_in here (cut_node c a b) = shape_of datatype.Bool false
shape_in here (declassify_node e) = shape_in here e
shape_in here _ = shape_of Uint64 false

abbrev pub kind_in : Setting → TypedTree → Kind
kind_in here e = kind_of (gives_private here e) (shape_in here e)

-- its classification
abbrev pub private_kind_in : Setting → TypedTree → Kind
private_kind_in here e = kind_of true (shape_in here e)

abbrev pub truth_kind : (secret : Bool) → Kind
truth_kind secret = kind_of secret (shape_of datatype.Bool false)

-- ---- ROWS

-- the place of a data type in half a row
abbrev pub element_number : DataType → ℕ
element_number Uint64 = 0
element_number Int64 = 2
element_number datatype.Bool = 4

-- the place of a kind in a row
abbrev pub kind_number : Kind → ℕ
kind_number k = either k.secret 6 0 + (element_number k.element + either k.array 1 0)

abbrev pub shape_kinds : (secret : Bool) → List Kind
shape_kinds secret =
    kind_of secret (shape_of Uint64 false) ∷ kind_of secret (shape_of Uint64 true) ∷ kind_of secret (shape_of Int64 false)
    ∷ kind_of secret (shape_of Int64 true) ∷ kind_of secret (shape_of datatype.Bool false) ∷ kind_of secret (shape_of datatype.Bool true) ∷ []

-- After its slots a function that has any has one public register of each shape, which no step writes: a declaration
-- without a value stores what it begins as.
abbrev pub shape_number : Shape → ℕ
shape_number s = element_number s.element + either s.array 1 0

-- the kinds of so many rows
abbrev pub rows_kinds : ℕ → List Kind
rows_kinds zero = []
rows_kinds (suc n) = shape_kinds false ++ (shape_kinds true ++ rows_kinds n)

-- the register for a kind in the row that begins at t
abbrev pub in_row : (t : ℕ) → Kind → ℕ
in_row t k = t + kind_number k

-- ---- SLOTS

abbrev pub slot_kind : List BoundDomain → Slot → Kind
slot_kind b s = kind_of (is_private (domain_under b s.domain)) s.shape
