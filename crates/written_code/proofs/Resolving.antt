-- What is typed of a statement says lines and names of the text.
use Rattle.std.proofs.Common.{◌≡◌, ℕ, List, [], ◌∷◌, length, map, Option, Some, None, Bool, true, false, cond, refl, subst}
use Rattle.std.specs.Prelude.{nat_eq}
use Rattle.sc_text.specs.Name.{is_name}
use Rattle.program_trees.specs.declared.expression.DataType.{DataType}
use Rattle.program_trees.specs.declared.expression.DataType.TheVariants.{Uint64, Int64}
use Rattle.program_trees.specs.declared.expression.DataType.TheVariants as datatype
use Rattle.program_trees.specs.Tree.{Tree, Trees, number, truth, variable, call, index, parentheses, negation, cast, binary, declassify, argument, publish}
use Rattle.program_trees.specs.Tree as Tree'
use Rattle.program_trees.specs.Statements.{DeclarationTree, AssignmentTree, StartTree, starts_with_nothing, starts_with_declaration}
use Rattle.program_trees.specs.Statements.{starts_with_assignment, StepTree}
use Rattle.program_trees.specs.Statements.{steps_by_nothing, steps_by_assignment, steps_by_expression, StatementTree, block, empty, branch, choice, while_loop}
use Rattle.program_trees.specs.Statements.{do_loop, for_loop, breaks, continues, returns, assertion, declaration, assignment, evaluation, StatementTrees}
use Rattle.program_trees.specs.Statements as Statements'
use Rattle.domain_types.specs.BuiltIn.{BuiltIn}
use Rattle.domain_types.specs.BuiltIn.TheVariants.{Size, Cat, Sum, BitExtract, Lookup}
use Rattle.domain_types.specs.Declarations.{Declared, Callee, built_in, defined, callee}
use Rattle.program_trees.specs.declared.operators.BinaryOperator.{BinaryOperator}
use Rattle.program_trees.specs.declared.operators.Connective.{Connective}
use Rattle.program_trees.specs.TypedTree.{TypedTree, call_node, typed_trees_of, truth_node}
use Rattle.program_trees.specs.Operators.{operator_on, operands_of, may_cut_short}
use Rattle.program_trees.specs.TypedStatements.{TypedStatementTree, TypedStatementTrees, none, also, empty_statement, block_statement, if_statement, loop_statement}
use Rattle.program_trees.specs.TypedStatements.{do_statement, break_statement, continue_statement, return_statement, assert_statement, store_statement}
use Rattle.program_trees.specs.TypedStatements.{default_statement, fill_statement, input_statement, element_statement, publish_statement, evaluate_statement}
use Rattle.name_resolution.specs.Scopes.{FunctionScope, Scope, variable_named}
use Rattle.name_resolution.specs.Values.{TypedValue, TypedCall, of_both, variable_value, element_value, negated, cast_value, declassified_value, operation_node}
use Rattle.name_resolution.specs.Values.{operation_made, operation, gives_value, with_shape, value_given, shape_returned, tree_of_value, built_in_value, called}
use Rattle.name_resolution.specs.Values.{and_more, value, values, call_made}
use Rattle.name_resolution.specs.Resolving.{Resolving, ◌>>=◌, done, reading, next_slot, declare, in_block, resolved_value, expression}
use Rattle.name_resolution.specs.Resolving.{named}
use Rattle.name_resolution.specs.Bodies.{calling, evaluated, default_of, from_value, initial, declared, assigned_to, assigned, started, stepped}
use Rattle.name_resolution.specs.Bodies.{condition_of, returned, looped, resolved, resolved_all}
use Rattle.name_resolution.proofs.SoundValues.{mapped, both_there, then_there, some_is}
use Rattle.written_code.specs.Laws.{any_number}
use Rattle.written_code.specs.Says.{TreeSays, TreesSay, StatementSays, StatementsSay}
use Rattle.written_code.specs.WrittenSources.{is_line, IsLine, IsPlaced, ArePlaced, IsPlacedIf, DeclaresPlaced, AssignsPlaced, StartsPlaced, StepsPlaced}
use Rattle.written_code.specs.WrittenSources.{StandsPlaced}
use Rattle.written_code.specs.WrittenSources.{StandPlaced}
use Rattle.written_code.proofs.Making.{Makes, Anything, anything, makes_done, makes_bind, makes_reading, makes_block}

abbrev pub Said : TypedTree → Type 0
Said = TreeSays any_number is_line is_name

-- ---- VALUES

abbrev ValueSaid : TypedValue → Type 0
ValueSaid v = Said v.tree

abbrev CallSaid : TypedCall → Type 0
CallSaid c = Said c.tree

abbrev AllSaid : List TypedValue → Type 0
AllSaid [] = Unit {0}
AllSaid (v ∷ vs) = Said v.tree × AllSaid vs

trees_said : (vs : List TypedValue) → AllSaid vs → TreesSay any_number is_line is_name (typed_trees_of (map tree_of_value vs))
trees_said [] h = tt
trees_said (v ∷ vs) h = (h.0, trees_said vs h.1)

built_in_said : (line : ℕ) (b : BuiltIn) (vs : List TypedValue) (v : TypedValue) → IsLine line → AllSaid vs → built_in_value line b vs ≡ Some v → Said v.tree
built_in_said line Size [] v l h e = cc
built_in_said line Size (a ∷ []) v l h e = subst ValueSaid (some_is _ v e) h.0
built_in_said line Size (a ∷ b ∷ vs) v l h e = cc
built_in_said line Cat [] v l h e = cc
built_in_said line Cat (a ∷ []) v l h e = cc
built_in_said line Cat (a ∷ b ∷ []) v l h e = subst ValueSaid (some_is _ v e) (l, h.0, h.1.0)
built_in_said line Cat (a ∷ b ∷ c ∷ vs) v l h e = cc
built_in_said line Sum [] v l h e = cc
built_in_said line Sum (a ∷ []) v l h e = subst ValueSaid (some_is _ v e) h.0
built_in_said line Sum (a ∷ b ∷ vs) v l h e = cc
built_in_said line BitExtract [] v l h e = cc
built_in_said line BitExtract (a ∷ []) v l h e = subst ValueSaid (some_is _ v e) (l, h.0)
built_in_said line BitExtract (a ∷ b ∷ vs) v l h e = cc
built_in_said line Lookup [] v l h e = cc
built_in_said line Lookup (a ∷ []) v l h e = cc
built_in_said line Lookup (a ∷ i ∷ []) v l h e = subst ValueSaid (some_is _ v e) (l, h.0, h.1.0)
built_in_said line Lookup (a ∷ i ∷ c ∷ vs) v l h e = cc

called_said : (line : ℕ) (k : Callee) (vs : List TypedValue) (c : TypedCall) → IsLine line → AllSaid vs → called line k vs ≡ Some c → Said c.tree
called_said line (built_in b) vs c l h e =
    let m = mapped gives_value (built_in_value line b vs) c e in
    subst CallSaid m.is (built_in_said line b vs m.part l h m.there)
called_said line (defined k f) vs c l h e = go (nat_eq (length f.parameters) (length vs)) e
  where
    made : TypedCall
    made = record { tree = call_node line k (typed_trees_of (map tree_of_value vs)); gives = shape_returned f.returned }

    go : (b : Bool) → cond b (Some made) None ≡ Some c → Said c.tree
    go false g = cc
    go true g = subst CallSaid (some_is made c g) (l, trees_said vs h)

operation_said : (line : ℕ) (op : BinaryOperator) (a b : TypedValue) (c : Option Connective) → IsLine line → Said a.tree → Said b.tree
    → Said (operation_node line op a b c)
operation_said line op a b None l h k = (l, h, k)
operation_said line op a b (Some c) l h k = (h, k)

mutual
  value_said : (d : Declared) (s : Scope) (e : Tree) (v : TypedValue) → IsPlaced e → value d s e ≡ Some v → Said v.tree
  value_said d s (number p w) v p' h = subst ValueSaid (some_is _ v h) refl
  value_said d s (truth p w) v p' h = subst ValueSaid (some_is _ v h) tt
  value_said d s (variable p x) v p' h = let m = mapped variable_value (variable_named s x) v h in subst ValueSaid m.is tt
  value_said d s (call p x es) v p' h =
      let t = then_there value_given (of_both (called p.line) (callee d x) (values d s es)) v h in
      let m = both_there (called p.line) (callee d x) (values d s es) t.part t.there in
      let g = mapped (with_shape t.part.tree) t.part.gives v t.is in
      subst ValueSaid g.is (called_said p.line m.left m.right t.part p'.0 (values_said d s es m.right p'.1 m.right_there) m.is)
  value_said d s (index p a i) v p' h =
      let m = both_there (element_value p.line) (value d s a) (value d s i) v h in
      subst ValueSaid (some_is _ v m.is) (p'.0, value_said d s a m.left p'.1 m.left_there, value_said d s i m.right p'.2 m.right_there)
  value_said d s (parentheses p e) v p' h = value_said d s e v p'.1 h
  value_said d s (negation p e) v p' h = let m = mapped negated (value d s e) v h in subst ValueSaid m.is (value_said d s e m.part p'.1 m.there)
  value_said d s (cast p t e) v p' h = let m = mapped (cast_value t) (value d s e) v h in subst ValueSaid m.is (value_said d s e m.part p'.1 m.there)
  value_said d s (binary p op a c) v p' h =
      let m = both_there (operation p.line op) (value d s a) (value d s c) v h in
      let o = mapped (operation_made p.line op m.left m.right) (operator_on op m.left.shape.element m.right.shape.element) v m.is in
      let x = may_cut_short op (operands_of m.left.shape.array m.right.shape.array) in
      subst ValueSaid o.is (operation_said p.line o.part m.left m.right x p'.0 (value_said d s a m.left p'.1 m.left_there)
      (value_said d s c m.right p'.2 m.right_there))
  value_said d s (declassify p e) v p' h =
      let m = mapped declassified_value (value d s e) v h in subst ValueSaid m.is (value_said d s e m.part p'.1 m.there)
  value_said d s (argument p x) v p' h = cc
  value_said d s (publish p x e) v p' h = cc

  values_said : (d : Declared) (s : Scope) (es : Trees) (vs : List TypedValue) → ArePlaced es → values d s es ≡ Some vs → AllSaid vs
  values_said d s Tree'.none vs p h = subst AllSaid (some_is [] vs h) tt
  values_said d s (Tree'.also e es) vs p h =
      let m = both_there and_more (value d s e) (values d s es) vs h in
      subst AllSaid (some_is _ vs m.is) (value_said d s e m.left p.0 m.left_there, values_said d s es m.right p.1 m.right_there)

-- ---- EXPRESSIONS

expression_made : (d : Declared) (e : Tree) → IsPlaced e → Makes Said (expression d e)
expression_made d e p = makes_reading Said (resolved_value d e) read
  where
    read : (s : FunctionScope) (t : TypedTree) → resolved_value d e s ≡ Some t → Said t
    read s t h =
        let m = mapped tree_of_value (value d s.scope e) t h in
        subst Said m.is (value_said d s.scope e m.part p m.there)

calling_made : (d : Declared) (line : ℕ) (x : List ℕ) (es : Trees) → IsLine line → ArePlaced es → Makes Said (reading (calling d line x es))
calling_made d line x es l p = makes_reading Said (calling d line x es) read
  where
    read : (s : FunctionScope) (t : TypedTree) → calling d line x es s ≡ Some t → Said t
    read s t h =
        let m = mapped (λ (c : TypedCall). c.tree) (call_made d s.scope line x es) t h in
        let b = both_there (called line) (callee d x) (values d s.scope es) m.part m.there in
        subst Said m.is (called_said line b.left b.right m.part l (values_said d s.scope es b.right p b.right_there) b.is)

-- ---- COMMANDS

abbrev pub StandsSaid : TypedStatementTree → Type 0
StandsSaid = StatementSays any_number is_line is_name

abbrev pub StandSaid : TypedStatementTrees → Type 0
StandSaid = StatementsSay any_number is_line is_name

-- a statement made of one expression
one_made : (d : Declared) (e : Tree) (make : TypedTree → TypedStatementTree) → IsPlaced e → ((t : TypedTree) → Said t → StandsSaid (make t))
    → Makes StandsSaid (expression d e >>= λ v. done (make v))
one_made d e make p h =
    makes_bind Said StandsSaid (expression d e) (λ v. done (make v)) (expression_made d e p) (λ v s. makes_done StandsSaid (make v) (h v s))

evaluate_made : (d : Declared) (e : Tree) → IsPlaced e → Makes StandsSaid (expression d e >>= λ v. done (evaluate_statement v))
evaluate_made d e p = one_made d e evaluate_statement p (λ t s. s)

evaluated_made : (d : Declared) (e : Tree) → IsPlaced e → Makes StandsSaid (evaluated d e)
evaluated_made d (number p w) h = evaluate_made d (number p w) h
evaluated_made d (truth p w) h = evaluate_made d (truth p w) h
evaluated_made d (variable p x) h = evaluate_made d (variable p x) h
evaluated_made d (call p x es) h =
    makes_bind Said StandsSaid (reading (calling d p.line x es)) (λ v. done (evaluate_statement v)) (calling_made d p.line x es h.0 h.1)
    (λ v s. makes_done StandsSaid (evaluate_statement v) s)
evaluated_made d (index p a i) h = evaluate_made d (index p a i) h
evaluated_made d (parentheses p e) h = evaluate_made d (parentheses p e) h
evaluated_made d (negation p e) h = evaluate_made d (negation p e) h
evaluated_made d (cast p t e) h = evaluate_made d (cast p t e) h
evaluated_made d (binary p op a b) h = evaluate_made d (binary p op a b) h
evaluated_made d (declassify p e) h = evaluate_made d (declassify p e) h
evaluated_made d (argument p x) h = evaluate_made d (argument p x) h
evaluated_made d (publish p x e) h = one_made d e (publish_statement x) h.2 (λ t s. (h.1, s))

-- ---- DECLARATIONS

store_made : (d : Declared) (k : ℕ) (e : Tree) → IsPlaced e → Makes StandsSaid (expression d e >>= λ v. done (store_statement k v))
store_made d k e p = one_made d e (store_statement k) p (λ t s. s)

from_value_made : (d : Declared) (k : ℕ) (e : Tree) → IsPlaced e → Makes StandsSaid (from_value d k e)
from_value_made d k (number p w) h = store_made d k (number p w) h
from_value_made d k (truth p w) h = store_made d k (truth p w) h
from_value_made d k (variable p x) h = store_made d k (variable p x) h
from_value_made d k (call p x es) h = store_made d k (call p x es) h
from_value_made d k (index p a i) h = store_made d k (index p a i) h
from_value_made d k (parentheses p e) h = store_made d k (parentheses p e) h
from_value_made d k (negation p e) h = store_made d k (negation p e) h
from_value_made d k (cast p t e) h = store_made d k (cast p t e) h
from_value_made d k (binary p op a b) h = store_made d k (binary p op a b) h
from_value_made d k (declassify p e) h = store_made d k (declassify p e) h
from_value_made d k (argument p x) h = makes_done StandsSaid (input_statement p.line k x) (h.0, h.1)
from_value_made d k (publish p x e) h = store_made d k (publish p x e) h

default_said : (element : DataType) → Said (default_of element)
default_said Uint64 = refl
default_said Int64 = tt
default_said datatype.Bool = tt

initial_made : (d : Declared) (line k : ℕ) (element : DataType) (size value : Option Tree) → IsLine line → IsPlacedIf size → IsPlacedIf value
    → Makes StandsSaid (initial d line k element size value)
initial_made d line k element None None l h v = makes_done StandsSaid (default_statement k) tt
initial_made d line k element None (Some e) l h v = from_value_made d k e v
initial_made d line k element (Some n) None l h v =
    one_made d n (λ m. fill_statement line k m (default_of element)) h (λ t s. (l, s, default_said element))
initial_made d line k element (Some n) (Some e) l h v =
    makes_bind Said StandsSaid (expression d n) (λ m. expression d e >>= λ v. done (fill_statement line k m v)) (expression_made d n h)
    (λ m s. one_made d e (λ v. fill_statement line k m v) v (λ t z. (l, s, z)))

declared_made : (d : Declared) (t : DeclarationTree) → DeclaresPlaced t → Makes StandsSaid (declared d t)
declared_made d t h =
    makes_bind Anything StandsSaid next_slot _ (anything next_slot) (λ k u.
    makes_bind StandsSaid StandsSaid (initial d t.declared.place.line k t.declared.element t.size t.value) _
    (initial_made d t.declared.place.line k t.declared.element t.size t.value h.0 h.1 h.2) (λ c s.
    makes_bind Anything StandsSaid (declare t.variable t.declared) _ (anything (declare t.variable t.declared)) (λ x z. makes_done StandsSaid c s)))

-- ---- ASSIGNMENTS

assigned_to_made : (d : Declared) (line k : ℕ) (i : Option Tree) (e : Tree) → IsLine line → IsPlacedIf i → IsPlaced e
    → Makes StandsSaid (assigned_to d line k i e)
assigned_to_made d line k None e l h p = store_made d k e p
assigned_to_made d line k (Some i) e l h p =
    makes_bind Said StandsSaid (expression d i) (λ j. expression d e >>= λ v. done (element_statement line k j v)) (expression_made d i h)
    (λ j s. one_made d e (λ v. element_statement line k j v) p (λ t z. (l, s, z)))

assigned_made : (d : Declared) (a : AssignmentTree) → AssignsPlaced a → Makes StandsSaid (assigned d a)
assigned_made d a h =
    makes_bind Anything StandsSaid (named a.target.variable.text) _ (anything (named a.target.variable.text)) (λ x u.
    assigned_to_made d a.target.variable.place.line x.slot a.target.index a.value h.0 h.1 h.2)

-- ---- STATEMENTS

empty_made : Makes StandsSaid (done empty_statement)
empty_made = makes_done StandsSaid empty_statement tt

started_made : (d : Declared) (a : StartTree) → StartsPlaced a → Makes StandsSaid (started d a)
started_made d starts_with_nothing h = empty_made
started_made d (starts_with_declaration t) h = declared_made d t h
started_made d (starts_with_assignment a) h = assigned_made d a h

stepped_made : (d : Declared) (b : StepTree) → StepsPlaced b → Makes StandsSaid (stepped d b)
stepped_made d steps_by_nothing h = empty_made
stepped_made d (steps_by_assignment a) h = assigned_made d a h
stepped_made d (steps_by_expression e) h = evaluated_made d e h

condition_made : (d : Declared) (e : Option Tree) → IsPlacedIf e → Makes Said (condition_of d e)
condition_made d None h = makes_done Said (truth_node _) tt
condition_made d (Some e) h = expression_made d e h

returned_made : (d : Declared) (e : Option Tree) → IsPlacedIf e → Makes StandsSaid (returned d e)
returned_made d None h = makes_done StandsSaid (return_statement None) tt
returned_made d (Some e) h = one_made d e (λ v. return_statement (Some v)) h (λ t s. s)

looped_made : (d : Declared) (a : StartTree) (e : Option Tree) (b : StepTree) (body : Resolving TypedStatementTree) → StartsPlaced a → IsPlacedIf e
    → StepsPlaced b → Makes StandsSaid body
    → Makes StandsSaid (looped d a e b body)
looped_made d a e b body ha he hb h =
    makes_bind StandsSaid StandsSaid (started d a) _ (started_made d a ha) (λ x sx.
    makes_bind Said StandsSaid (condition_of d e) _ (condition_made d e he) (λ v sv.
    makes_bind StandsSaid StandsSaid (stepped d b) _ (stepped_made d b hb) (λ c sc.
    makes_bind StandsSaid StandsSaid (in_block body) _ (makes_block StandsSaid body h) (λ y sy.
    makes_done StandsSaid (block_statement (also x (also (loop_statement v c y) none))) (sx, ((sv, sc, sy), tt))))))

mutual
  statement_made : (d : Declared) (t : StatementTree) → StandsPlaced t → Makes StandsSaid (resolved d t)
  statement_made d (block p ss) h =
      makes_bind StandSaid StandsSaid (in_block (resolved_all d ss)) _ (makes_block StandSaid (resolved_all d ss) (statements_made d ss h))
      (λ cs s. makes_done StandsSaid (block_statement cs) s)
  statement_made d (empty p) h = empty_made
  statement_made d (branch p e body) h =
      makes_bind Said StandsSaid (expression d e) _ (expression_made d e h.0) (λ v sv.
      makes_bind StandsSaid StandsSaid (in_block (resolved d body)) _ (makes_block StandsSaid (resolved d body) (statement_made d body h.1)) (λ c s.
      makes_done StandsSaid (if_statement v c empty_statement) (sv, s, tt)))
  statement_made d (choice p e body otherwise) h =
      makes_bind Said StandsSaid (expression d e) _ (expression_made d e h.0) (λ v sv.
      makes_bind StandsSaid StandsSaid (in_block (resolved d body)) _ (makes_block StandsSaid (resolved d body) (statement_made d body h.1)) (λ b sb.
      makes_bind StandsSaid StandsSaid (in_block (resolved d otherwise)) _ (makes_block StandsSaid (resolved d otherwise) (statement_made d otherwise h.2))
      (λ c sc. makes_done StandsSaid (if_statement v b c) (sv, sb, sc))))
  statement_made d (while_loop p e body) h =
      makes_bind Said StandsSaid (expression d e) _ (expression_made d e h.0) (λ v sv.
      makes_bind StandsSaid StandsSaid (in_block (resolved d body)) _ (makes_block StandsSaid (resolved d body) (statement_made d body h.1)) (λ c s.
      makes_done StandsSaid (loop_statement v empty_statement c) (sv, tt, s)))
  statement_made d (do_loop p body e) h =
      makes_bind StandsSaid StandsSaid (in_block (resolved d body)) _ (makes_block StandsSaid (resolved d body) (statement_made d body h.0)) (λ c s.
      makes_bind Said StandsSaid (expression d e) _ (expression_made d e h.1) (λ v sv. makes_done StandsSaid (do_statement c v) (s, sv)))
  statement_made d (for_loop p a e b body) h =
      makes_block StandsSaid (looped d a e b (resolved d body))
      (looped_made d a e b (resolved d body) h.0 h.1 h.2 (statement_made d body h.3))
  statement_made d (breaks p) h = makes_done StandsSaid break_statement tt
  statement_made d (continues p) h = makes_done StandsSaid continue_statement tt
  statement_made d (returns p e) h = returned_made d e h
  statement_made d (assertion p e) h = one_made d e (assert_statement p.line) h.1 (λ t s. (h.0, s))
  statement_made d (declaration t) h = declared_made d t h
  statement_made d (assignment a) h = assigned_made d a h
  statement_made d (evaluation e) h = evaluated_made d e h

  pub statements_made : (d : Declared) (ts : StatementTrees) → StandPlaced ts → Makes StandSaid (resolved_all d ts)
  statements_made d Statements'.none h = makes_done StandSaid none tt
  statements_made d (Statements'.also t ts) h =
      makes_bind StandsSaid StandSaid (resolved d t) _ (statement_made d t h.0) (λ c s.
      makes_bind StandSaid StandSaid (resolved_all d ts) _ (statements_made d ts h.1) (λ cs ss. makes_done StandSaid (also c cs) (s, ss)))
