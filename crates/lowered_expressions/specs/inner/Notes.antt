-- Cited by private functions alone: no contract of another crate rests on it.
-- What is noted of an expression before its code is made: who may see what it gives, its shape, and how many notes there are, its own
-- among them. Those of its operands stand after it, in their order.
use Rattle.std.specs.Prelude.{ℕ, zero, suc, Bool, false, true, List, [], ◌∷◌, ◌++◌, length, take, drop}
use Rattle.program_trees.specs.declared.expression.DataType.TheVariants.{Uint64}
use Rattle.program_trees.specs.declared.expression.DataType.TheVariants as datatype
use Rattle.program_trees.specs.declared.kinds.Shape.{Shape}
use Rattle.program_trees.specs.Shapes.{shape_of}
use Rattle.program_trees.specs.TypedTree.{TypedTree, TypedTrees, word_node, truth_node, zero_node, slot_node, call_node, size_node, cat_node, sum_node, bits_node, lookup_node, element_node}
use Rattle.program_trees.specs.TypedTree.{not_node, cast_node, binary_node, cut_node, declassify_node}
use Rattle.program_trees.specs.TypedTree as Tree'
use Rattle.reached_instances.specs.declared.instance.BoundDomain.{BoundDomain}
use Rattle.reached_instances.specs.declared.instance.BoundDomain.TheVariants.{Public}
use Rattle.reached_instances.specs.Domains.{Setting, domain}
use Rattle.language_model.specs.Operations.{cast_shape}
use Rattle.language_model.specs.Evaluation.{is_private}
use Rattle.bytecode.specs.declared.kind.Kind.{Kind}
use Rattle.code_model.specs.Kinds.{kind_of, shape_in}
use Rattle.lowered_expressions.specs.declared.closing.One.{One}
use Rattle.lowered_expressions.specs.declared.closing.One.TheVariants as ones
use Rattle.lowered_expressions.specs.declared.notes.Given.{Given}
use Rattle.lowered_expressions.specs.declared.notes.Note.{Note}

-- ---- WHAT IS NOTED

abbrev pub given_of : BoundDomain → Shape → Given
given_of d s = record { domain = d; shape = s }

abbrev pub given_in : Setting → TypedTree → Given
given_in here e = given_of (domain here e) (shape_in here e)

-- what an operation on one operand gives
abbrev pub one_given : One → Given → Given
one_given ones.Size g = given_of Public (shape_of Uint64 false)
one_given ones.Sum g = given_of g.domain (shape_of g.shape.element false)
one_given (ones.Bits line) g = given_of g.domain (shape_of datatype.Bool true)
one_given ones.Not g = g
one_given (ones.Cast c) g = given_of g.domain (cast_shape c g.shape.array)
one_given ones.Declassify g = given_of Public g.shape

-- an expression's note in front of those of its operands
abbrev pub noted : Given → List Note → List Note
noted given behind = record { given = given; nodes = suc (length behind) } ∷ behind

abbrev mutual
  pub operands_notes : Setting → TypedTree → List Note
  operands_notes here (word_node n) = []
  operands_notes here (truth_node b) = []
  operands_notes here zero_node = []
  operands_notes here (slot_node k) = []
  operands_notes here (call_node line k es) = arguments_notes here es
  operands_notes here (size_node e) = noted (given_in here e) (operands_notes here e)
  operands_notes here (cat_node line a b) = noted (given_in here a) (operands_notes here a) ++ noted (given_in here b) (operands_notes here b)
  operands_notes here (sum_node e) = noted (given_in here e) (operands_notes here e)
  operands_notes here (bits_node line e) = noted (given_in here e) (operands_notes here e)
  operands_notes here (lookup_node line a i) = noted (given_in here a) (operands_notes here a) ++ noted (given_in here i) (operands_notes here i)
  operands_notes here (element_node line a i) = noted (given_in here a) (operands_notes here a) ++ noted (given_in here i) (operands_notes here i)
  operands_notes here (not_node e) = noted (given_in here e) (operands_notes here e)
  operands_notes here (cast_node c e) = noted (given_in here e) (operands_notes here e)
  operands_notes here (binary_node line op ds a b) = noted (given_in here a) (operands_notes here a) ++ noted (given_in here b) (operands_notes here b)
  operands_notes here (cut_node c a b) = noted (given_in here a) (operands_notes here a) ++ noted (given_in here b) (operands_notes here b)
  operands_notes here (declassify_node e) = noted (given_in here e) (operands_notes here e)

  pub arguments_notes : Setting → TypedTrees → List Note
  arguments_notes here Tree'.none = []
  arguments_notes here (Tree'.also e es) = noted (given_in here e) (operands_notes here e) ++ arguments_notes here es

abbrev pub notes_of : Setting → TypedTree → List Note
notes_of here e = noted (given_in here e) (operands_notes here e)

-- ---- HOW NOTES ARE READ

abbrev pub nothing_noted : Note
nothing_noted = record { given = given_of Public (shape_of Uint64 false); nodes = 0 }

abbrev pub first_note : List Note → Note
first_note [] = nothing_noted
first_note (n ∷ ns) = n

abbrev pub first_is_private : List Note → Bool
first_is_private ns = is_private (first_note ns).given.domain

abbrev pub first_kind : List Note → Kind
first_kind ns = kind_of (first_is_private ns) (first_note ns).given.shape

abbrev pub first_private_kind : List Note → Kind
first_private_kind ns = kind_of true (first_note ns).given.shape

abbrev pub behind_first : List Note → List Note
behind_first [] = []
behind_first (n ∷ ns) = ns

-- the notes of the first expression, and those after them
abbrev pub first_part : List Note → List Note
first_part ns = take (first_note ns).nodes ns

abbrev pub behind_part : List Note → List Note
behind_part ns = drop (first_note ns).nodes ns

-- who may see what so many expressions give, one after another
abbrev pub noted_domains : ℕ → List Note → List BoundDomain
noted_domains zero ns = []
noted_domains (suc n) ns = (first_note ns).given.domain ∷ noted_domains n (behind_part ns)
