-- Parts of the code of expressions.
use Rattle.std.specs.Prelude.{ℕ, ◌+◌, Bool, Option, List, [], ◌∷◌, ◌++◌, length}
use Rattle.program_trees.specs.declared.expression.DataType.TheVariants as datatype
use Rattle.program_trees.specs.declared.operators.BinaryOperator.{BinaryOperator}
use Rattle.program_trees.specs.declared.operators.Operands.{Operands}
use Rattle.program_trees.specs.declared.operators.Connective.{Connective}
use Rattle.program_trees.specs.TypedTree.{TypedTree, TypedTrees, size_node, sum_node, bits_node, not_node, cast_node, declassify_node}
use Rattle.std.specs.List.{slice_get}
use Rattle.reached_instances.specs.Domains.{Setting, domains}
use Rattle.language_model.specs.Words.{truth_word}
use Rattle.language_model.specs.Evaluation.{gives_private, bound_at, slots_of}
use Rattle.verified_code.specs.Steps.{Step, Literal, Move, Binary, Not, Cast, Size, Sum, Bits, Lookup, Declassify, Branch, Jump, Call}
use Rattle.code_model.specs.Expressions.{Numbers, classifying, picked, lacks, mixes, settling, deciding, classified_at, stands_at, expression_code}
use Rattle.code_model.specs.Expressions.{arguments_code, arguments_places}
use Rattle.lowered_expressions.specs.declared.closing.One.{One}
use Rattle.lowered_expressions.specs.declared.closing.One.TheVariants as ones
use Rattle.lowered_expressions.specs.Built.{Built, with_steps, with_step_at}

-- ---- ONE OPERAND

abbrev pub one_node : One → TypedTree → TypedTree
one_node ones.Size e = size_node e
one_node ones.Sum e = sum_node e
one_node (ones.Bits line) e = bits_node line e
one_node ones.Not e = not_node e
one_node (ones.Cast c) e = cast_node c e
one_node ones.Declassify e = declassify_node e

abbrev pub one_step : One → (to source : ℕ) → Step
one_step ones.Size d r = Size d r
one_step ones.Sum d r = Sum d r
one_step (ones.Bits line) d r = Bits line d r
one_step ones.Not d r = Not d r
one_step (ones.Cast c) d r = Cast c d r
one_step ones.Declassify d r = Declassify d r

-- ---- TWO OPERANDS, BEHIND THE CODE OF THE LEFT ONE

-- the right one at its place p; v and u the registers where the two stand, m and n those for their classifications, and d the node's own
abbrev pub binary_rest : (d m n v u p line : ℕ) → BinaryOperator → Operands → (left right : Bool) → (ℕ → List Step) → List Step
binary_rest d m n v u p line op ds ga gb cb =
    let l = mixes op ga gb in
    let r = mixes op gb ga in
    cb p ++ (classifying l m v ++ (classifying r n u ++ Binary line op ds d (picked l m v) (picked r n u) ∷ []))

-- a look-up after both operands: v and u the registers where they stand, m and n those for their classifications
abbrev pub lookup_end : (line d : ℕ) → (left : Bool) → (m v : ℕ) → (right : Bool) → (n u : ℕ) → List Step
lookup_end line d l m v r n u = classifying l m v ++ (classifying r n u ++ Lookup line d (picked l m v) (picked r n u) ∷ [])

-- what stands after the right operand, and ends at a place
abbrev pub cut_end : Connective → (secret : Bool) → (d q u end : ℕ) → List Step
cut_end c secret d q u end =
    Move d u ∷ Jump end ∷ Literal q datatype.Bool (truth_word (deciding c)) ∷ settling secret d q ∷ []

abbrev pub cut_closed : Built → Connective → (secret : Bool) → (d q v u branch : ℕ) → Built
cut_closed b c secret d q v u branch =
    with_step_at (with_steps b (cut_end c secret d q u (length b.pieces + 4))) branch (Branch v (deciding c) (length b.pieces + 2))

-- the branch at p, the right operand after it
abbrev pub cut_rest : (d q v u p : ℕ) → Connective → (secret : Bool) → (ℕ → List Step) → List Step
cut_rest d q v u p c secret cb =
    let pb = p + 1 in
    let pd = pb + length (cb pb) + 2 in
    Branch v (deciding c) pd ∷ (cb pb ++ cut_end c secret d q u (pd + 2))

-- ---- CODE BEHIND A BODY, with registers from the row t on

module _ (number : Numbers) (here : Setting) (b : Built) (t : ℕ) where
  -- an expression's
  abbrev pub with_expression : TypedTree → Built
  with_expression e = with_steps b (expression_code number here t (length b.pieces) e)

  -- an operand's, and its classification where it is wanted private and isn't
  abbrev pub with_operand : (wanted : Bool) → TypedTree → Built
  with_operand wanted e =
      with_steps b
      (expression_code number here t (length b.pieces) e
      ++ classifying (lacks wanted (gives_private here e)) (classified_at here e t) (stands_at here e t))

  -- a call's, with the register of what it gives
  abbrev pub with_call : (line function : ℕ) → (to : Option ℕ) → TypedTrees → Built
  with_call line k to es =
      let bound = bound_at (slice_get here.functions k) (domains here es) in
      let ss = slots_of (slice_get here.functions k) in
      with_steps b
      (arguments_code number here bound ss t (length b.pieces) es
      ++ Call line (number k bound) to (arguments_places number here bound ss t es) ∷ [])
