-- What is typed of a statement has at most as many statements that make steps as the statement has nodes.
use Rattle.std.proofs.Common.{ℕ, ◌+◌, ◌≤◌, Option, Some, None, arith}
use Rattle.program_trees.specs.declared.expression.DataType.{DataType}
use Rattle.program_trees.specs.Tree.{Tree, number, truth, variable, call, index, parentheses, negation, cast, binary, declassify, argument, publish}
use Rattle.program_trees.specs.Statements.{DeclarationTree, AssignmentTree, StartTree, starts_with_nothing, starts_with_declaration}
use Rattle.program_trees.specs.Statements.{starts_with_assignment, StepTree}
use Rattle.program_trees.specs.Statements.{steps_by_nothing, steps_by_assignment, steps_by_expression, StatementTree, block, empty, branch, choice, while_loop}
use Rattle.program_trees.specs.Statements.{do_loop, for_loop, breaks, continues, returns, assertion, declaration, assignment, evaluation, StatementTrees}
use Rattle.program_trees.specs.Statements as Statements'
use Rattle.domain_types.specs.Declarations.{Declared}
use Rattle.program_trees.specs.TypedTree.{TypedTree}
use Rattle.program_trees.specs.TypedStatements.{TypedStatementTree, TypedStatementTrees, none, also, empty_statement, block_statement, if_statement, loop_statement}
use Rattle.program_trees.specs.TypedStatements.{do_statement, break_statement, continue_statement, return_statement, assert_statement, store_statement}
use Rattle.program_trees.specs.TypedStatements.{default_statement, fill_statement, input_statement, element_statement, publish_statement, evaluate_statement}
use Rattle.name_resolution.specs.Sizes.{nodes, optional_nodes, declaration_nodes, assignment_nodes, start_nodes, step_nodes, statement_nodes, statements_nodes}
use Rattle.name_resolution.specs.Resolving.{Resolving, ◌>>=◌, done, reading, next_slot, declare, in_block, expression, named}
use Rattle.name_resolution.specs.Bodies.{calling, evaluated, default_of, from_value, initial, declared, assigned_to, assigned, started, stepped}
use Rattle.name_resolution.specs.Bodies.{condition_of, returned, looped, resolved, resolved_all}
use Rattle.written_code.proofs.Counts.{count, counts}
use Rattle.written_code.proofs.Making.{Makes, Anything, anything, makes_done, makes_bind, makes_block}

abbrev pub AtMost : ℕ → TypedStatementTree → Type 0
AtMost n c = count c ≤ n

abbrev pub AllAtMost : ℕ → TypedStatementTrees → Type 0
AllAtMost n cs = counts cs ≤ n

wider : (n k : ℕ) (m : Resolving TypedStatementTree) → n ≤ k → Makes (AtMost n) m → Makes (AtMost k) m
wider n k m l h = record { from = λ s a q e. let x = h.from s a q e in omega (arith, l, x) }

-- what is made after something, whatever this is
behind : {A : Type 0} (n : ℕ) (m : Resolving A) (f : A → Resolving TypedStatementTree) → ((a : A) → Makes (AtMost n) (f a)) → Makes (AtMost n) (m >>= f)
behind n m f h = makes_bind Anything (AtMost n) m f (anything m) (λ a u. h a)

-- a statement made of one expression
one_counted : (d : Declared) (e : Tree) (n : ℕ) (make : TypedTree → TypedStatementTree) → ((t : TypedTree) → count (make t) ≤ n)
    → Makes (AtMost n) (expression d e >>= λ v. done (make v))
one_counted d e n make h = behind n (expression d e) _ (λ v. makes_done (AtMost n) (make v) (h v))

evaluate_counted : (d : Declared) (e : Tree) → 1 ≤ nodes e → Makes (AtMost (nodes e)) (expression d e >>= λ v. done (evaluate_statement v))
evaluate_counted d e some = one_counted d e (nodes e) evaluate_statement (λ t. some)

evaluated_counted : (d : Declared) (e : Tree) → Makes (AtMost (nodes e)) (evaluated d e)
evaluated_counted d (number p w) = evaluate_counted d (number p w) (omega arith)
evaluated_counted d (truth p w) = evaluate_counted d (truth p w) (omega arith)
evaluated_counted d (variable p x) = evaluate_counted d (variable p x) (omega arith)
evaluated_counted d (call p x es) =
    behind (nodes (call p x es)) (reading (calling d p.line x es)) _
    (λ v. makes_done (AtMost (nodes (call p x es))) (evaluate_statement v) (omega arith))
evaluated_counted d (index p a i) = evaluate_counted d (index p a i) (omega arith)
evaluated_counted d (parentheses p e) = evaluate_counted d (parentheses p e) (omega arith)
evaluated_counted d (negation p e) = evaluate_counted d (negation p e) (omega arith)
evaluated_counted d (cast p t e) = evaluate_counted d (cast p t e) (omega arith)
evaluated_counted d (binary p op a b) = evaluate_counted d (binary p op a b) (omega arith)
evaluated_counted d (declassify p e) = evaluate_counted d (declassify p e) (omega arith)
evaluated_counted d (argument p x) = evaluate_counted d (argument p x) (omega arith)
evaluated_counted d (publish p x e) = one_counted d e (1 + nodes e) (publish_statement x) (λ t. omega arith)

-- ---- DECLARATIONS

store_counted : (d : Declared) (k : ℕ) (e : Tree) → Makes (AtMost 1) (expression d e >>= λ v. done (store_statement k v))
store_counted d k e = one_counted d e 1 (store_statement k) (λ t. omega arith)

from_value_counted : (d : Declared) (k : ℕ) (e : Tree) → Makes (AtMost 1) (from_value d k e)
from_value_counted d k (number p w) = store_counted d k (number p w)
from_value_counted d k (truth p w) = store_counted d k (truth p w)
from_value_counted d k (variable p x) = store_counted d k (variable p x)
from_value_counted d k (call p x es) = store_counted d k (call p x es)
from_value_counted d k (index p a i) = store_counted d k (index p a i)
from_value_counted d k (parentheses p e) = store_counted d k (parentheses p e)
from_value_counted d k (negation p e) = store_counted d k (negation p e)
from_value_counted d k (cast p t e) = store_counted d k (cast p t e)
from_value_counted d k (binary p op a b) = store_counted d k (binary p op a b)
from_value_counted d k (declassify p e) = store_counted d k (declassify p e)
from_value_counted d k (argument p x) = makes_done (AtMost 1) (input_statement p.line k x) (omega arith)
from_value_counted d k (publish p x e) = store_counted d k (publish p x e)

initial_counted : (d : Declared) (line k : ℕ) (element : DataType) (size value : Option Tree) → Makes (AtMost 1) (initial d line k element size value)
initial_counted d line k element None None = makes_done (AtMost 1) (default_statement k) (omega arith)
initial_counted d line k element None (Some e) = from_value_counted d k e
initial_counted d line k element (Some n) None = one_counted d n 1 (λ m. fill_statement line k m (default_of element)) (λ t. omega arith)
initial_counted d line k element (Some n) (Some e) =
    behind 1 (expression d n) _ (λ m. one_counted d e 1 (λ v. fill_statement line k m v) (λ t. omega arith))

declared_counted : (d : Declared) (t : DeclarationTree) → Makes (AtMost (declaration_nodes t)) (declared d t)
declared_counted d t =
    let n = declaration_nodes t in
    behind n next_slot _ (λ k.
    makes_bind (AtMost 1) (AtMost n) (initial d t.declared.place.line k t.declared.element t.size t.value) _
    (initial_counted d t.declared.place.line k t.declared.element t.size t.value) (λ c many.
    behind n (declare t.variable t.declared) _ (λ x. makes_done (AtMost n) c (omega (arith, many)))))

-- ---- ASSIGNMENTS

assigned_to_counted : (d : Declared) (line k : ℕ) (i : Option Tree) (e : Tree) → Makes (AtMost 1) (assigned_to d line k i e)
assigned_to_counted d line k None e = store_counted d k e
assigned_to_counted d line k (Some i) e =
    behind 1 (expression d i) _ (λ j. one_counted d e 1 (λ v. element_statement line k j v) (λ t. omega arith))

assigned_counted : (d : Declared) (a : AssignmentTree) → Makes (AtMost (assignment_nodes a)) (assigned d a)
assigned_counted d a =
    behind (assignment_nodes a) (named a.target.variable.text) _
    (λ x. wider 1 (assignment_nodes a) _ (omega arith) (assigned_to_counted d a.target.variable.place.line x.slot a.target.index a.value))

-- ---- STATEMENTS

empty_counted : Makes (AtMost 0) (done empty_statement)
empty_counted = makes_done (AtMost 0) empty_statement (omega arith)

started_counted : (d : Declared) (a : StartTree) → Makes (AtMost (start_nodes a)) (started d a)
started_counted d starts_with_nothing = empty_counted
started_counted d (starts_with_declaration t) = declared_counted d t
started_counted d (starts_with_assignment a) = assigned_counted d a

stepped_counted : (d : Declared) (b : StepTree) → Makes (AtMost (step_nodes b)) (stepped d b)
stepped_counted d steps_by_nothing = empty_counted
stepped_counted d (steps_by_assignment a) = assigned_counted d a
stepped_counted d (steps_by_expression e) = evaluated_counted d e

returned_counted : (d : Declared) (e : Option Tree) → Makes (AtMost 1) (returned d e)
returned_counted d None = makes_done (AtMost 1) (return_statement None) (omega arith)
returned_counted d (Some e) = one_counted d e 1 (λ v. return_statement (Some v)) (λ t. omega arith)

looped_counted : (d : Declared) (a : StartTree) (e : Option Tree) (b : StepTree) (n : ℕ) (body : Resolving TypedStatementTree) → Makes (AtMost n) body
    → Makes (AtMost (1 + (start_nodes a + (optional_nodes e + (step_nodes b + n))))) (looped d a e b body)
looped_counted d a e b n body h =
    let all = 1 + (start_nodes a + (optional_nodes e + (step_nodes b + n))) in
    makes_bind (AtMost (start_nodes a)) (AtMost all) (started d a) _ (started_counted d a) (λ x one.
    behind all (condition_of d e) _ (λ v.
    makes_bind (AtMost (step_nodes b)) (AtMost all) (stepped d b) _ (stepped_counted d b) (λ c two.
    makes_bind (AtMost n) (AtMost all) (in_block body) _ (makes_block (AtMost n) body h) (λ y three.
    makes_done (AtMost all) (block_statement (also x (also (loop_statement v c y) none))) (omega (arith, one, two, three))))))

mutual
  statement_counted : (d : Declared) (t : StatementTree) → Makes (AtMost (statement_nodes t)) (resolved d t)
  statement_counted d (block p ss) =
      let k = statements_nodes ss in
      makes_bind (AllAtMost k) (AtMost (1 + k)) (in_block (resolved_all d ss)) _ (makes_block (AllAtMost k) (resolved_all d ss) (statements_counted d ss))
      (λ cs many. makes_done (AtMost (1 + k)) (block_statement cs) (omega (arith, many)))
  statement_counted d (empty p) = wider 0 1 _ (omega arith) empty_counted
  statement_counted d (branch p e body) =
      let n = statement_nodes body in
      let all = 1 + (nodes e + n) in
      behind all (expression d e) _ (λ v.
      makes_bind (AtMost n) (AtMost all) (in_block (resolved d body)) _ (makes_block (AtMost n) (resolved d body) (statement_counted d body)) (λ c many.
      makes_done (AtMost all) (if_statement v c empty_statement) (omega (arith, many))))
  statement_counted d (choice p e body otherwise) =
      let n = statement_nodes body in
      let k = statement_nodes otherwise in
      let all = 1 + (nodes e + (n + k)) in
      behind all (expression d e) _ (λ v.
      makes_bind (AtMost n) (AtMost all) (in_block (resolved d body)) _ (makes_block (AtMost n) (resolved d body) (statement_counted d body)) (λ b one.
      makes_bind (AtMost k) (AtMost all) (in_block (resolved d otherwise)) _ (makes_block (AtMost k) (resolved d otherwise) (statement_counted d otherwise))
      (λ c two. makes_done (AtMost all) (if_statement v b c) (omega (arith, one, two)))))
  statement_counted d (while_loop p e body) =
      let n = statement_nodes body in
      let all = 1 + (nodes e + n) in
      behind all (expression d e) _ (λ v.
      makes_bind (AtMost n) (AtMost all) (in_block (resolved d body)) _ (makes_block (AtMost n) (resolved d body) (statement_counted d body)) (λ c many.
      makes_done (AtMost all) (loop_statement v empty_statement c) (omega (arith, many))))
  statement_counted d (do_loop p body e) =
      let n = statement_nodes body in
      let all = 1 + (n + nodes e) in
      makes_bind (AtMost n) (AtMost all) (in_block (resolved d body)) _ (makes_block (AtMost n) (resolved d body) (statement_counted d body)) (λ c many.
      behind all (expression d e) _ (λ v. makes_done (AtMost all) (do_statement c v) (omega (arith, many))))
  statement_counted d (for_loop p a e b body) =
      let all = 1 + (start_nodes a + (optional_nodes e + (step_nodes b + statement_nodes body))) in
      makes_block (AtMost all) (looped d a e b (resolved d body))
      (looped_counted d a e b (statement_nodes body) (resolved d body) (statement_counted d body))
  statement_counted d (breaks p) = makes_done (AtMost 1) break_statement (omega arith)
  statement_counted d (continues p) = makes_done (AtMost 1) continue_statement (omega arith)
  statement_counted d (returns p e) = wider 1 (1 + optional_nodes e) _ (omega arith) (returned_counted d e)
  statement_counted d (assertion p e) = one_counted d e (1 + nodes e) (assert_statement p.line) (λ t. omega arith)
  statement_counted d (declaration t) = declared_counted d t
  statement_counted d (assignment a) = assigned_counted d a
  statement_counted d (evaluation e) = wider (nodes e) (1 + nodes e) _ (omega arith) (evaluated_counted d e)

  pub statements_counted : (d : Declared) (ts : StatementTrees) → Makes (AllAtMost (statements_nodes ts)) (resolved_all d ts)
  statements_counted d Statements'.none = makes_done (AllAtMost 0) none (omega arith)
  statements_counted d (Statements'.also t ts) =
      let n = statement_nodes t in
      let k = statements_nodes ts in
      makes_bind (AtMost n) (AllAtMost (n + k)) (resolved d t) _ (statement_counted d t) (λ c one.
      makes_bind (AllAtMost k) (AllAtMost (n + k)) (resolved_all d ts) _ (statements_counted d ts) (λ cs all.
      makes_done (AllAtMost (n + k)) (also c cs) (omega (arith, one, all))))
