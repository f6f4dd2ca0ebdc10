-- A statement and the slots that it declares have at most twice as many registers as its tree has nodes.
use Rattle.std.proofs.Common.{◌≡◌, ℕ, ◌+◌, ◌≤◌, List, [], ◌∷◌, length, Option, Some, None, refl, ap, subst, arith, length-append}
use Rattle.std.specs.Prelude.{option_map}
use Rattle.program_trees.specs.declared.expression.DataType.{DataType}
use Rattle.program_trees.specs.declared.expression.DataType.TheVariants.{Uint64, Int64}
use Rattle.program_trees.specs.declared.expression.DataType.TheVariants as datatype
use Rattle.program_trees.specs.declared.statement.Identifier.{Identifier}
use Rattle.program_trees.specs.declared.statement.DeclaredType.{DeclaredType}
use Rattle.program_trees.specs.Tree.{Tree, Trees, number, truth, variable, call, index, parentheses, negation, cast, binary, declassify, argument, publish}
use Rattle.program_trees.specs.Statements.{DeclarationTree, AssignmentTree, StartTree, starts_with_nothing, starts_with_declaration}
use Rattle.program_trees.specs.Statements.{starts_with_assignment, StepTree}
use Rattle.program_trees.specs.Statements.{steps_by_nothing, steps_by_assignment, steps_by_expression, StatementTree, block, empty, branch, choice, while_loop}
use Rattle.program_trees.specs.Statements.{do_loop, for_loop, breaks, continues, returns, assertion, declaration, assignment, evaluation, StatementTrees}
use Rattle.program_trees.specs.Statements as Statements'
use Rattle.domain_types.specs.Declarations.{Declared, callee}
use Rattle.program_trees.specs.TypedTree.{TypedTree, truth_node}
use Rattle.program_trees.specs.TypedStatements.{TypedStatementTree, none, also, empty_statement, block_statement, if_statement, loop_statement, do_statement}
use Rattle.program_trees.specs.TypedStatements.{break_statement, continue_statement, return_statement, assert_statement, store_statement, default_statement}
use Rattle.program_trees.specs.TypedStatements.{fill_statement, input_statement, element_statement, publish_statement, evaluate_statement}
use Rattle.name_resolution.specs.Scopes.{FunctionScope, declaring, entering, behind_block}
use Rattle.name_resolution.specs.Sizes.{nodes, nodes_all, optional_nodes, declaration_nodes, assignment_nodes, start_nodes, step_nodes, statement_nodes}
use Rattle.name_resolution.specs.Sizes.{statements_nodes}
use Rattle.name_resolution.specs.Values.{TypedCall, value, values, called, call_made, tree_of_value}
use Rattle.name_resolution.specs.Resolving.{Resolving, ◌>>=◌, carry, done, reading, next_slot, declare, closed, in_block, resolved_value, expression}
use Rattle.name_resolution.specs.Resolving.{known_at, named}
use Rattle.name_resolution.specs.Bodies.{calling, evaluated, default_of, from_value, initial, declared, assigned_to, assigned, started, stepped}
use Rattle.name_resolution.specs.Bodies.{condition_of, returned, looped, resolved, resolved_all}
use Rattle.name_resolution.proofs.SoundValues.{mapped, both_there}
use Rattle.code_model.proofs.Widths.{width, statement_width, statements_width}
use Rattle.lowered_code.proofs.Registers.{called_width, value_width, values_width}

-- what is made and the slots that are declared, together, are at most n more
pub record Takes {A : Type 0} (measure : A → ℕ) (n : ℕ) (m : Resolving A) : Type 0 where
  pub from : (s : FunctionScope) (a : A) (q : FunctionScope) → m s ≡ Some (a, q) → measure a + length q.slots ≤ n + length s.slots

abbrev pub pair_of : {A : Type 0} → A → FunctionScope → A × FunctionScope
pair_of a p = (a, p)

pair_is : {A : Type 0} (a b : A) (p q : FunctionScope) → Some (pair_of a p) ≡ Some (pair_of b q) → (a ≡ b) × (p ≡ q)
pair_is a b p q e = let same : pair_of a p ≡ pair_of b q = cc in (ap (λ z. z.0) same, ap (λ z. z.1) same)

takes_as : {A : Type 0} (measure : A → ℕ) (n : ℕ) (a b : A) (p q : FunctionScope) → Some (pair_of a p) ≡ Some (pair_of b q) → measure a + length p.slots ≤ n
    → measure b + length q.slots ≤ n
takes_as measure n a b p q e h =
    let same = pair_is a b p q e in
    subst (λ z. measure z + length q.slots ≤ n) same.0 (subst (λ (z : FunctionScope). measure a + length z.slots ≤ n) same.1 h)

takes_done : {A : Type 0} (measure : A → ℕ) (n : ℕ) (a : A) → measure a ≤ n → Takes measure n (done a)
takes_done measure n a h =
    record {
      from = λ s b q e. takes_as measure (n + length s.slots) a b s q e
          (let k : measure a + length s.slots ≤ n + length s.slots = omega (arith, h) in k);
    }

takes_less : {A : Type 0} (measure : A → ℕ) (n k : ℕ) (m : Resolving A) → n ≤ k → Takes measure n m → Takes measure k m
takes_less measure n k m l h = record { from = λ s a q e. let x = h.from s a q e in omega (arith, l, x) }

takes_bind : {A B : Type 0} (first : A → ℕ) (second : B → ℕ) (n k : ℕ) (m : Resolving A) (f : A → Resolving B) → Takes first n m
    → ((a : A) → Takes second (k + first a) (f a)) → Takes second (n + k) (m >>= f)
takes_bind {A = A} {B = B} first second n k m f h g = record { from = λ s b q e. go s b q (m s) refl e }
  where
    go : (s : FunctionScope) (b : B) (q : FunctionScope) (o : Option (A × FunctionScope)) → m s ≡ o → carry o f ≡ Some (b, q)
        → second b + length q.slots ≤ n + k + length s.slots
    go s b q None t e = cc
    go s b q (Some r) t e =
        let one = h.from s r.0 r.1 t in
        let two = (g r.0).from r.1 b q e in
        omega (arith, one, two)

takes_reading : {A : Type 0} (measure : A → ℕ) (n : ℕ) (f : FunctionScope → Option A) → ((s : FunctionScope) (a : A) → f s ≡ Some a → measure a ≤ n)
    → Takes measure n
    (reading f)
takes_reading {A = A} measure n f h = record { from = λ s b q e. go s b q (f s) refl e }
  where
    go : (s : FunctionScope) (b : A) (q : FunctionScope) (o : Option A) → f s ≡ o → option_map (λ a. pair_of a s) o ≡ Some (b, q)
        → measure b + length q.slots ≤ n + length s.slots
    go s b q None t e = cc
    go s b q (Some a) t e =
        let l = h s a t in
        let fine : measure a + length s.slots ≤ n + length s.slots = omega (arith, l) in
        takes_as measure (n + length s.slots) a b s q e fine

takes_block : {A : Type 0} (measure : A → ℕ) (n : ℕ) (m : Resolving A) → Takes measure n m → Takes measure n (in_block m)
takes_block {A = A} measure n m h = record { from = λ s b q e. go s b q (m (entering s)) refl e }
  where
    go : (s : FunctionScope) (b : A) (q : FunctionScope) (o : Option (A × FunctionScope)) → m (entering s) ≡ o → closed s o ≡ Some (b, q)
        → measure b + length q.slots ≤ n + length s.slots
    go s b q None t e = cc
    go s b q (Some r) t e = takes_as measure (n + length s.slots) r.0 b (behind_block s r.1) q e (h.from (entering s) r.0 r.1 t)

-- ---- EXPRESSIONS

-- one more than the registers of an expression
abbrev behind : TypedTree → ℕ
behind t = width t + 1

expression_takes : (d : Declared) (e : Tree) → Takes behind (nodes e + nodes e) (expression d e)
expression_takes d e = takes_reading behind (nodes e + nodes e) (resolved_value d e) read
  where
    read : (s : FunctionScope) (t : TypedTree) → resolved_value d e s ≡ Some t → width t + 1 ≤ nodes e + nodes e
    read s t h =
        let m = mapped tree_of_value (value d s.scope e) t h in
        subst (λ z. width z + 1 ≤ nodes e + nodes e) m.is (value_width d s.scope e m.part m.there)

calling_takes : (d : Declared) (line : ℕ) (x : List ℕ) (es : Trees) → Takes behind (2 + (nodes_all es + nodes_all es)) (reading (calling d line x es))
calling_takes d line x es = takes_reading behind (2 + (nodes_all es + nodes_all es)) (calling d line x es) read
  where
    read : (s : FunctionScope) (t : TypedTree) → calling d line x es s ≡ Some t → width t + 1 ≤ 2 + (nodes_all es + nodes_all es)
    read s t h =
        let m = mapped (λ (c : TypedCall). c.tree) (call_made d s.scope line x es) t h in
        let b = both_there (called line) (callee d x) (values d s.scope es) m.part m.there in
        let one = called_width line b.left b.right m.part b.is in
        let all = values_width d s.scope es b.right b.right_there in
        let fine : width m.part.tree + 1 ≤ 2 + (nodes_all es + nodes_all es) = omega (arith, one, all) in
        subst (λ z. width z + 1 ≤ 2 + (nodes_all es + nodes_all es)) m.is fine

-- one expression, and a statement made of it
one_takes : (d : Declared) (e : Tree) (measure : TypedStatementTree → ℕ) (n : ℕ) (make : TypedTree → TypedStatementTree)
    → ((t : TypedTree) → measure (make t) ≤ n + (width t + 1)) → Takes measure (nodes e + nodes e + n) (expression d e >>= λ v. done (make v))
one_takes d e measure n make h =
    takes_bind behind measure (nodes e + nodes e) n (expression d e) (λ v. done (make v)) (expression_takes d e)
    (λ v. takes_done measure (n + behind v) (make v) (h v))

evaluate_takes : (d : Declared) (e : Tree) → Takes statement_width (nodes e + nodes e) (expression d e >>= λ v. done (evaluate_statement v))
evaluate_takes d e =
    takes_less statement_width (nodes e + nodes e + 0) (nodes e + nodes e) _ (omega arith)
    (one_takes d e statement_width 0 evaluate_statement (λ t. omega arith))

evaluated_takes : (d : Declared) (e : Tree) → Takes statement_width (nodes e + nodes e) (evaluated d e)
evaluated_takes d (number p w) = evaluate_takes d (number p w)
evaluated_takes d (truth p w) = evaluate_takes d (truth p w)
evaluated_takes d (variable p x) = evaluate_takes d (variable p x)
evaluated_takes d (call p x es) =
    takes_less statement_width (2 + (nodes_all es + nodes_all es) + 0) (1 + nodes_all es + (1 + nodes_all es)) _ (omega arith)
    (takes_bind behind statement_width (2 + (nodes_all es + nodes_all es)) 0 (reading (calling d p.line x es)) (λ v. done (evaluate_statement v))
    (calling_takes d p.line x es) (λ v. takes_done statement_width (0 + behind v) (evaluate_statement v) (omega arith)))
evaluated_takes d (index p a i) = evaluate_takes d (index p a i)
evaluated_takes d (parentheses p e) = evaluate_takes d (parentheses p e)
evaluated_takes d (negation p e) = evaluate_takes d (negation p e)
evaluated_takes d (cast p t e) = evaluate_takes d (cast p t e)
evaluated_takes d (binary p op a b) = evaluate_takes d (binary p op a b)
evaluated_takes d (declassify p e) = evaluate_takes d (declassify p e)
evaluated_takes d (argument p x) = evaluate_takes d (argument p x)
evaluated_takes d (publish p x e) =
    takes_less statement_width (nodes e + nodes e + 0) (1 + nodes e + (1 + nodes e)) _ (omega arith)
    (one_takes d e statement_width 0 (publish_statement x) (λ t. omega arith))

-- ---- DECLARATIONS: with the register of the slot

abbrev with_slot : TypedStatementTree → ℕ
with_slot c = statement_width c + 1

store_takes : (d : Declared) (k : ℕ) (e : Tree) → Takes with_slot (nodes e + nodes e + 1) (expression d e >>= λ v. done (store_statement k v))
store_takes d k e = one_takes d e with_slot 1 (store_statement k) (λ t. omega arith)

from_value_takes : (d : Declared) (k : ℕ) (e : Tree) → Takes with_slot (nodes e + nodes e + 1) (from_value d k e)
from_value_takes d k (number p w) = store_takes d k (number p w)
from_value_takes d k (truth p w) = store_takes d k (truth p w)
from_value_takes d k (variable p x) = store_takes d k (variable p x)
from_value_takes d k (call p x es) = store_takes d k (call p x es)
from_value_takes d k (index p a i) = store_takes d k (index p a i)
from_value_takes d k (parentheses p e) = store_takes d k (parentheses p e)
from_value_takes d k (negation p e) = store_takes d k (negation p e)
from_value_takes d k (cast p t e) = store_takes d k (cast p t e)
from_value_takes d k (binary p op a b) = store_takes d k (binary p op a b)
from_value_takes d k (declassify p e) = store_takes d k (declassify p e)
from_value_takes d k (argument p x) = takes_done with_slot 3 (input_statement p.line k x) (omega arith)
from_value_takes d k (publish p x e) = store_takes d k (publish p x e)

default_width : (element : DataType) → width (default_of element) ≡ 1
default_width Uint64 = refl
default_width Int64 = refl
default_width datatype.Bool = refl

abbrev twice : ℕ → ℕ
twice n = n + n

initial_takes : (d : Declared) (line k : ℕ) (element : DataType) (size value : Option Tree) → Takes with_slot
    (twice (1 + (optional_nodes size + optional_nodes value))) (initial d line k element size value)
initial_takes d line k element None None = takes_done with_slot 2 (default_statement k) (omega arith)
initial_takes d line k element None (Some e) =
    takes_less with_slot (nodes e + nodes e + 1) (twice (1 + (0 + nodes e))) _ (omega arith) (from_value_takes d k e)
initial_takes d line k element (Some n) None =
    let one = default_width element in
    takes_less with_slot (nodes n + nodes n + 2) (twice (1 + (nodes n + 0))) _ (omega arith)
    (one_takes d n with_slot 2 (λ m. fill_statement line k m (default_of element)) (λ t. omega (arith, one)))
initial_takes d line k element (Some n) (Some e) =
    takes_less with_slot (nodes n + nodes n + (nodes e + nodes e + 0)) (twice (1 + (nodes n + nodes e))) _ (omega arith)
    (takes_bind behind with_slot (nodes n + nodes n) (nodes e + nodes e + 0) (expression d n) (λ m. expression d e >>= λ v. done (fill_statement line k m v))
    (expression_takes d n) (λ m. takes_less with_slot (nodes e + nodes e + behind m) (nodes e + nodes e + 0 + behind m) _ (omega arith)
    (one_takes d e with_slot (behind m) (λ v. fill_statement line k m v) (λ t. omega arith))))

declare_takes : (x : Identifier) (t : DeclaredType) → Takes (λ u. 0) 1 (declare x t)
declare_takes x t = record {
  from = λ s a q e.
      let more = length-append s.slots (t ∷ []) in
      let fine : 0 + length (declaring x t s).slots ≤ 1 + length s.slots = omega (arith, more) in
      takes_as (λ (u : Unit {0}). 0) (1 + length s.slots) tt a (declaring x t s) q e fine;
}

next_takes : Takes (λ k. 0) 0 next_slot
next_takes = record { from = λ s a q e. takes_as (λ (k : ℕ). 0) (0 + length s.slots) (length s.slots) a s q e (omega arith) }

declared_takes : (d : Declared) (t : DeclarationTree) → Takes statement_width (twice (declaration_nodes t)) (declared d t)
declared_takes d t =
    let n = twice (declaration_nodes t) in
    takes_less statement_width (0 + n) n _ (omega arith)
    (takes_bind (λ k. 0) statement_width 0 n next_slot _ next_takes (λ k.
    takes_less statement_width (n + 0) (n + 0) _ (omega arith)
    (takes_bind with_slot statement_width n 0 (initial d t.declared.place.line k t.declared.element t.size t.value) _
    (initial_takes d t.declared.place.line k t.declared.element t.size t.value) (λ c.
    takes_less statement_width (1 + statement_width c) (0 + with_slot c) _ (omega arith)
    (takes_bind (λ u. 0) statement_width 1 (statement_width c) (declare t.variable t.declared) _ (declare_takes t.variable t.declared)
    (λ u. takes_done statement_width (statement_width c + 0) c (omega arith)))))))

-- ---- ASSIGNMENTS

named_takes : (x : List ℕ) → Takes (λ k. 0) 0 (named x)
named_takes x = takes_reading (λ k. 0) 0 (known_at x) (λ s a e. omega arith)

assigned_to_takes : (d : Declared) (line k : ℕ) (i : Option Tree) (e : Tree) → Takes statement_width (twice (1 + (1 + optional_nodes i + nodes e)))
    (assigned_to d line k i e)
assigned_to_takes d line k None e =
    takes_less statement_width (nodes e + nodes e + 0) (twice (1 + (1 + 0 + nodes e))) _ (omega arith)
    (one_takes d e statement_width 0 (store_statement k) (λ t. omega arith))
assigned_to_takes d line k (Some i) e =
    takes_less statement_width (nodes i + nodes i + (nodes e + nodes e + 0)) (twice (1 + (1 + nodes i + nodes e))) _ (omega arith)
    (takes_bind behind statement_width (nodes i + nodes i) (nodes e + nodes e + 0) (expression d i)
    (λ j. expression d e >>= λ v. done (element_statement line k j v))
    (expression_takes d i) (λ j. takes_less statement_width (nodes e + nodes e + behind j) (nodes e + nodes e + 0 + behind j) _ (omega arith)
    (one_takes d e statement_width (behind j) (λ v. element_statement line k j v) (λ t. omega arith))))

assigned_takes : (d : Declared) (a : AssignmentTree) → Takes statement_width (twice (assignment_nodes a)) (assigned d a)
assigned_takes d a =
    let n = twice (assignment_nodes a) in
    takes_less statement_width (0 + n) n _ (omega arith)
    (takes_bind (λ k. 0) statement_width 0 n (named a.target.variable.text) _ (named_takes a.target.variable.text) (λ x.
    takes_less statement_width n (n + 0) _ (omega arith) (assigned_to_takes d a.target.variable.place.line x.slot a.target.index a.value)))

-- ---- STATEMENTS

started_takes : (d : Declared) (a : StartTree) → Takes statement_width (twice (start_nodes a)) (started d a)
started_takes d starts_with_nothing = takes_done statement_width 0 empty_statement (omega arith)
started_takes d (starts_with_declaration t) = declared_takes d t
started_takes d (starts_with_assignment a) = assigned_takes d a

stepped_takes : (d : Declared) (b : StepTree) → Takes statement_width (twice (step_nodes b)) (stepped d b)
stepped_takes d steps_by_nothing = takes_done statement_width 0 empty_statement (omega arith)
stepped_takes d (steps_by_assignment a) = assigned_takes d a
stepped_takes d (steps_by_expression e) = evaluated_takes d e

condition_takes : (d : Declared) (e : Option Tree) → Takes behind (twice (1 + optional_nodes e)) (condition_of d e)
condition_takes d None = takes_done behind 2 (truth_node _) (omega arith)
condition_takes d (Some e) = takes_less behind (nodes e + nodes e) (twice (1 + nodes e)) _ (omega arith) (expression_takes d e)

returned_takes : (d : Declared) (e : Option Tree) → Takes statement_width (twice (1 + optional_nodes e)) (returned d e)
returned_takes d None = takes_done statement_width 2 (return_statement None) (omega arith)
returned_takes d (Some e) =
    takes_less statement_width (nodes e + nodes e + 0) (twice (1 + nodes e)) _ (omega arith)
    (one_takes d e statement_width 0 (λ v. return_statement (Some v)) (λ t. omega arith))

looped_takes : (d : Declared) (a : StartTree) (e : Option Tree) (b : StepTree) (n : ℕ) (body : Resolving TypedStatementTree)
    → Takes statement_width (twice n) body
    → Takes statement_width (twice (1 + (start_nodes a + (optional_nodes e + (step_nodes b + n))))) (looped d a e b body)
looped_takes d a e b n body h =
    let na = twice (start_nodes a) in
    let ne = twice (1 + optional_nodes e) in
    let nb = twice (step_nodes b) in
    let nn = twice n in
    takes_less statement_width (na + (ne + (nb + (nn + 0)))) (twice (1 + (start_nodes a + (optional_nodes e + (step_nodes b + n))))) _ (omega arith)
    (takes_bind statement_width statement_width na (ne + (nb + (nn + 0))) (started d a) _ (started_takes d a) (λ x.
    takes_less statement_width (ne + (nb + (nn + 0) + statement_width x)) (ne + (nb + (nn + 0)) + statement_width x) _ (omega arith)
    (takes_bind behind statement_width ne (nb + (nn + 0) + statement_width x) (condition_of d e) _ (condition_takes d e) (λ v.
    takes_less statement_width (nb + (nn + 0 + statement_width x + behind v)) (nb + (nn + 0) + statement_width x + behind v) _ (omega arith)
    (takes_bind statement_width statement_width nb (nn + 0 + statement_width x + behind v) (stepped d b) _ (stepped_takes d b) (λ c.
    takes_less statement_width (nn + (statement_width x + behind v + statement_width c)) (nn + 0 + statement_width x + behind v + statement_width c) _
    (omega arith)
    (takes_bind statement_width statement_width nn (statement_width x + behind v + statement_width c) (in_block body) _ (takes_block statement_width nn body h)
    (λ y. takes_done statement_width (statement_width x + behind v + statement_width c + statement_width y) _ (omega arith)))))))))

mutual
  pub statement_takes : (d : Declared) (t : StatementTree) → Takes statement_width (twice (statement_nodes t)) (resolved d t)
  statement_takes d (block p ss) =
      let n = twice (statements_nodes ss) in
      takes_less statement_width (n + 0) (twice (1 + statements_nodes ss)) _ (omega arith)
      (takes_bind statements_width statement_width n 0 (in_block (resolved_all d ss)) _
      (takes_block statements_width n (resolved_all d ss) (statements_take d ss))
      (λ cs. takes_done statement_width (0 + statements_width cs) (block_statement cs) (omega arith)))
  statement_takes d (empty p) = takes_done statement_width 2 empty_statement (omega arith)
  statement_takes d (branch p e body) =
      let n = twice (statement_nodes body) in
      takes_less statement_width (nodes e + nodes e + (n + 0)) (twice (1 + (nodes e + statement_nodes body))) _ (omega arith)
      (takes_bind behind statement_width (nodes e + nodes e) (n + 0) (expression d e) _ (expression_takes d e) (λ v.
      takes_less statement_width (n + behind v) (n + 0 + behind v) _ (omega arith)
      (takes_bind statement_width statement_width n (behind v) (in_block (resolved d body)) _
      (takes_block statement_width n (resolved d body) (statement_takes d body))
      (λ c. takes_done statement_width (behind v + statement_width c) (if_statement v c empty_statement) (omega arith)))))
  statement_takes d (choice p e body otherwise) =
      let n = twice (statement_nodes body) in
      let k = twice (statement_nodes otherwise) in
      takes_less statement_width (nodes e + nodes e + (n + (k + 0))) (twice (1 + (nodes e + (statement_nodes body + statement_nodes otherwise)))) _
      (omega arith)
      (takes_bind behind statement_width (nodes e + nodes e) (n + (k + 0)) (expression d e) _ (expression_takes d e) (λ v.
      takes_less statement_width (n + (k + behind v)) (n + (k + 0) + behind v) _ (omega arith)
      (takes_bind statement_width statement_width n (k + behind v) (in_block (resolved d body)) _
      (takes_block statement_width n (resolved d body) (statement_takes d body))
      (λ b. takes_less statement_width (k + (behind v + statement_width b)) (k + behind v + statement_width b) _ (omega arith)
      (takes_bind statement_width statement_width k (behind v + statement_width b) (in_block (resolved d otherwise)) _
      (takes_block statement_width k (resolved d otherwise) (statement_takes d otherwise))
      (λ c. takes_done statement_width (behind v + statement_width b + statement_width c) (if_statement v b c) (omega arith)))))))
  statement_takes d (while_loop p e body) =
      let n = twice (statement_nodes body) in
      takes_less statement_width (nodes e + nodes e + (n + 0)) (twice (1 + (nodes e + statement_nodes body))) _ (omega arith)
      (takes_bind behind statement_width (nodes e + nodes e) (n + 0) (expression d e) _ (expression_takes d e) (λ v.
      takes_less statement_width (n + behind v) (n + 0 + behind v) _ (omega arith)
      (takes_bind statement_width statement_width n (behind v) (in_block (resolved d body)) _
      (takes_block statement_width n (resolved d body) (statement_takes d body))
      (λ c. takes_done statement_width (behind v + statement_width c) (loop_statement v empty_statement c) (omega arith)))))
  statement_takes d (do_loop p body e) =
      let n = twice (statement_nodes body) in
      takes_less statement_width (n + (nodes e + nodes e + 0)) (twice (1 + (statement_nodes body + nodes e))) _ (omega arith)
      (takes_bind statement_width statement_width n (nodes e + nodes e + 0) (in_block (resolved d body)) _
      (takes_block statement_width n (resolved d body) (statement_takes d body)) (λ c.
      takes_less statement_width (nodes e + nodes e + statement_width c) (nodes e + nodes e + 0 + statement_width c) _ (omega arith)
      (takes_bind behind statement_width (nodes e + nodes e) (statement_width c) (expression d e) _ (expression_takes d e)
      (λ v. takes_done statement_width (statement_width c + behind v) (do_statement c v) (omega arith)))))
  statement_takes d (for_loop p a e b body) =
      let n = twice (1 + (start_nodes a + (optional_nodes e + (step_nodes b + statement_nodes body)))) in
      takes_block statement_width n (looped d a e b (resolved d body)) (looped_takes d a e b (statement_nodes body) (resolved d body) (statement_takes d body))
  statement_takes d (breaks p) = takes_done statement_width 2 break_statement (omega arith)
  statement_takes d (continues p) = takes_done statement_width 2 continue_statement (omega arith)
  statement_takes d (returns p e) = returned_takes d e
  statement_takes d (assertion p e) =
      takes_less statement_width (nodes e + nodes e + 0) (twice (1 + nodes e)) _ (omega arith)
      (one_takes d e statement_width 0 (assert_statement p.line) (λ t. omega arith))
  statement_takes d (declaration t) = declared_takes d t
  statement_takes d (assignment a) = assigned_takes d a
  statement_takes d (evaluation e) = takes_less statement_width (nodes e + nodes e) (twice (1 + nodes e)) _ (omega arith) (evaluated_takes d e)

  pub statements_take : (d : Declared) (ts : StatementTrees) → Takes statements_width (twice (statements_nodes ts)) (resolved_all d ts)
  statements_take d Statements'.none = takes_done statements_width 0 none (omega arith)
  statements_take d (Statements'.also t ts) =
      let n = twice (statement_nodes t) in
      let k = twice (statements_nodes ts) in
      takes_less statements_width (n + (k + 0)) (twice (statement_nodes t + statements_nodes ts)) _ (omega arith)
      (takes_bind statement_width statements_width n (k + 0) (resolved d t) _ (statement_takes d t) (λ c.
      takes_less statements_width (k + statement_width c) (k + 0 + statement_width c) _ (omega arith)
      (takes_bind statements_width statements_width k (statement_width c) (resolved_all d ts) _ (statements_take d ts)
      (λ cs. takes_done statements_width (statement_width c + statements_width cs) (also c cs) (omega arith)))))
