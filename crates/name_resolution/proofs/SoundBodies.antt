-- Typed statements name only slots that are there: a step with a property that holds of the slots so far, and of more.
use Rattle.std.proofs.Common.{◌≡◌, ℕ, ◌<◌, ◌≤◌, List, [], ◌∷◌, ◌++◌, length, refl, ap, subst, Option, Some, None, true, arith}
use Rattle.std.specs.Prelude.{option_map}
use Rattle.std.proofs.lemmas.List.{length-append}
use Rattle.program_trees.specs.declared.expression.DataType.{DataType}
use Rattle.program_trees.specs.declared.expression.DataType.TheVariants.{Uint64, Int64}
use Rattle.program_trees.specs.declared.expression.DataType.TheVariants as datatype
use Rattle.program_trees.specs.declared.statement.Identifier.{Identifier}
use Rattle.program_trees.specs.declared.statement.DeclaredType.{DeclaredType}
use Rattle.program_trees.specs.Tree.{Tree, Trees, number, truth, variable, call, index, parentheses, negation, cast, binary, declassify, argument, publish}
use Rattle.program_trees.specs.Statements.{DeclarationTree, TargetTree, AssignmentTree, StartTree, starts_with_nothing, starts_with_declaration}
use Rattle.program_trees.specs.Statements.{starts_with_assignment, StepTree, steps_by_nothing, steps_by_assignment, steps_by_expression, StatementTree}
use Rattle.program_trees.specs.Statements.{block, empty, branch, choice, while_loop, do_loop, for_loop, breaks, continues, returns, assertion}
use Rattle.program_trees.specs.Statements.{declaration, assignment, evaluation, StatementTrees}
use Rattle.program_trees.specs.Statements as Statements'
use Rattle.declarations.specs.Declarations.{Declared, callee}
use Rattle.name_resolution.specs.declared.variables.Known.{Known}
use Rattle.program_trees.specs.TypedTree.{TypedTree, truth_node}
use Rattle.program_trees.specs.TypedStatements.{TypedStatementTree, TypedStatementTrees, none, also, empty_statement, block_statement, if_statement, loop_statement}
use Rattle.program_trees.specs.TypedStatements.{do_statement, break_statement, continue_statement, return_statement, assert_statement, store_statement}
use Rattle.program_trees.specs.TypedStatements.{default_statement, fill_statement, input_statement, element_statement, publish_statement, evaluate_statement}
use Rattle.name_resolution.specs.Scopes.{FunctionScope, known_of, variable_named, declaring, entering, behind_block}
use Rattle.name_resolution.specs.Values.{TypedCall, value, values, called, call_made, tree_of_value}
use Rattle.name_resolution.specs.Resolving.{Resolving, ◌>>=◌, carry, done, reading, closed, in_block, resolved_value, expression, known_at, named}
use Rattle.name_resolution.specs.Bodies.{calling, evaluated, default_of, from_value, initial, declared, assigned_to, assigned, started}
use Rattle.name_resolution.specs.Bodies.{stepped, condition_of, returned, looped, resolved, resolved_all}
use Rattle.program_trees.specs.Sound.{IsSoundTree, IsSoundStatementTree, AreSoundStatementTrees}
use Rattle.name_resolution.proofs.SoundValues.{mapped, both_there, arities, AreBelow, below_more, below_append, below_named, sound_value}
use Rattle.name_resolution.proofs.SoundValues.{sound_values, sound_called}

-- each variable that is known has a slot
pub record IsPlace (s : FunctionScope) : Type 0 where
  pub block : AreBelow (length s.slots) s.scope.block
  pub outer : AreBelow (length s.slots) s.scope.outer

-- a step ends at such a place, with as many slots or more, and what it makes is so in all functions with so many slots or more
pub record Ends {A : Type 0} (P : ℕ → A → Type 0) (s : FunctionScope) (a : A) (p : FunctionScope) : Type 0 where
  pub place : IsPlace p
  pub longer : length s.slots ≤ length p.slots
  pub made : (n : ℕ) → length p.slots ≤ n → P n a

pub record Yields {A : Type 0} (m : Resolving A) (P : ℕ → A → Type 0) : Type 0 where
  pub from : (s : FunctionScope) (a : A) (p : FunctionScope) → IsPlace s → m s ≡ Some (a, p) → Ends P s a p

abbrev pub pair_of : {A : Type 0} → A → FunctionScope → A × FunctionScope
pair_of a p = (a, p)

pair_is : {A : Type 0} (a b : A) (p q : FunctionScope) → Some (pair_of a p) ≡ Some (pair_of b q) → (a ≡ b) × (p ≡ q)
pair_is a b p q e = let same : pair_of a p ≡ pair_of b q = cc in (ap (λ z. z.0) same, ap (λ z. z.1) same)

ends_as : {A : Type 0} (P : ℕ → A → Type 0) (s : FunctionScope) (a b : A) (p q : FunctionScope) → Some (pair_of a p) ≡ Some (pair_of b q)
    → Ends P s a p → Ends P s b q
ends_as P s a b p q e h = let same = pair_is a b p q e in subst (λ z. Ends P s z q) same.0 (subst (λ z. Ends P s a z) same.1 h)

pub yields_done : {A : Type 0} (a : A) (P : ℕ → A → Type 0) → ((n : ℕ) → P n a) → Yields (done a) P
yields_done a P h = record { from = λ s b p is e. ends_as P s a b s p e (record { place = is; longer = omega arith; made = λ n l. h n }) }

pub yields_bind : {A B : Type 0} (m : Resolving A) (f : A → Resolving B) (P : ℕ → A → Type 0) (Q : ℕ → B → Type 0) → Yields m P
    → ((a : A) → Yields (f a) (λ n b. P n a → Q n b)) → Yields (m >>= f) Q
yields_bind {A} {B} m f P Q first then = record { from = λ s b q is e. go s b q is (m s) refl e }
  where
    go : (s : FunctionScope) (b : B) (q : FunctionScope) → IsPlace s → (o : Option (A × FunctionScope)) → m s ≡ o → carry o f ≡ Some (b, q) → Ends Q s b q
    go s b q is None h e = cc
    go s b q is (Some r) h e =
        let one = first.from s r.0 r.1 is h in
        let two = (then r.0).from r.1 b q one.place e in
        record {
          place = two.place;
          longer = let l = one.longer in let k = two.longer in omega arith;
          made = λ n l. two.made n l (one.made n (let k = two.longer in omega arith));
        }

-- what is read at a place
pub yields_reading : {A : Type 0} (f : FunctionScope → Option A) (P : ℕ → A → Type 0)
    → ((s : FunctionScope) (a : A) → IsPlace s → f s ≡ Some a → (n : ℕ) → length s.slots ≤ n → P n a) → Yields (reading f) P
yields_reading {A} f P h = record { from = λ s b p is e. go s b p is (f s) refl e }
  where
    go : (s : FunctionScope) (b : A) (p : FunctionScope) → IsPlace s → (o : Option A) → f s ≡ o → option_map (λ a. pair_of a s) o ≡ Some (b, p) → Ends P s b p
    go s b p is None g e = cc
    go s b p is (Some a) g e = ends_as P s a b s p e (record { place = is; longer = omega arith; made = λ n l. h s a is g n l })

known_below : (s : FunctionScope) → IsPlace s → (n : ℕ) → length s.slots ≤ n → AreBelow n (s.scope.block ++ s.scope.outer)
known_below s is n l = below_append n s.scope.block s.scope.outer (below_more (length s.slots) n s.scope.block l is.block)
    (below_more (length s.slots) n s.scope.outer l is.outer)

-- a block
pub yields_block : {A : Type 0} (m : Resolving A) (P : ℕ → A → Type 0) → Yields m P → Yields (in_block m) P
yields_block {A} m P h = record { from = λ s b p is e. go s b p is (m (entering s)) refl e }
  where
    go : (s : FunctionScope) (b : A) (p : FunctionScope) → IsPlace s → (o : Option (A × FunctionScope)) → m (entering s) ≡ o
        → closed s o ≡ Some (b, p) → Ends P s b p
    go s b p is None g e = cc
    go s b p is (Some r) g e =
        let in_it : IsPlace (entering s) = record { block = tt; outer = below_append (length s.slots) s.scope.block s.scope.outer is.block is.outer } in
        let ends = h.from (entering s) r.0 r.1 in_it g in
        let long : length s.slots ≤ length r.1.slots = ends.longer in
        ends_as P s r.0 b (behind_block s r.1) p e
        (record {
          place = record {
            block = below_more (length s.slots) (length r.1.slots) s.scope.block long is.block;
            outer = below_more (length s.slots) (length r.1.slots) s.scope.outer long is.outer;
          };
          longer = long;
          made = ends.made;
        })

-- EXPRESSIONS

abbrev pub Tree_in : Declared → ℕ → TypedTree → Type 0
Tree_in d n t = IsSoundTree n (arities d) t

abbrev pub Statement_in : Declared → ℕ → TypedStatementTree → Type 0
Statement_in d n c = IsSoundStatementTree n (arities d) c

abbrev pub Statements_in : Declared → ℕ → TypedStatementTrees → Type 0
Statements_in d n cs = AreSoundStatementTrees n (arities d) cs

pub expression_yields : (d : Declared) (e : Tree) → Yields (expression d e) (Tree_in d)
expression_yields d e = yields_reading (resolved_value d e) (Tree_in d) read
  where
    read : (s : FunctionScope) (t : TypedTree) → IsPlace s → resolved_value d e s ≡ Some t → (n : ℕ) → length s.slots ≤ n → Tree_in d n t
    read s t is h n l =
        let m = mapped tree_of_value (value d s.scope e) t h in
        subst (Tree_in d n) m.is (sound_value n d s.scope (known_below s is n l) e m.part m.there)

named_yields : (d : Declared) (x : List ℕ) → Yields (named x) (λ n k. k.slot < n)
named_yields d x = yields_reading (known_at x) (λ n k. k.slot < n) read
  where
    read : (s : FunctionScope) (k : Known) → IsPlace s → known_at x s ≡ Some k → (n : ℕ) → length s.slots ≤ n → k.slot < n
    read s k is h n l =
        let m = mapped known_of (variable_named s.scope x) k h in
        subst (λ (z : Known). z.slot < n) m.is (below_named n x (s.scope.block ++ s.scope.outer) m.part (known_below s is n l) m.there)

calling_yields : (d : Declared) (line : ℕ) (x : List ℕ) (es : Trees) → Yields (reading (calling d line x es)) (Tree_in d)
calling_yields d line x es = yields_reading (calling d line x es) (Tree_in d) read
  where
    read : (s : FunctionScope) (t : TypedTree) → IsPlace s → calling d line x es s ≡ Some t → (n : ℕ) → length s.slots ≤ n → Tree_in d n t
    read s t is h n l =
        let m = mapped (λ (c : TypedCall). c.tree) (call_made d s.scope line x es) t h in
        let b = both_there (called line) (callee d x) (values d s.scope es) m.part m.there in
        subst (Tree_in d n) m.is (sound_called n d line x b.left b.right m.part b.left_there
        (sound_values n d s.scope (known_below s is n l) es b.right b.right_there) b.is)

-- one expression, and a statement made of it
one_yields : (d : Declared) (e : Tree) (make : TypedTree → TypedStatementTree) → ((n : ℕ) (t : TypedTree) → Tree_in d n t → Statement_in d n (make t))
    → Yields (expression d e >>= λ v. done (make v)) (Statement_in d)
one_yields d e make h = yields_bind (expression d e) (λ v. done (make v)) (Tree_in d) (Statement_in d) (expression_yields d e)
    (λ v. yields_done (make v) (λ n c. Tree_in d n v → Statement_in d n c) (λ n t. h n v t))

evaluate_yields : (d : Declared) (e : Tree) → Yields (expression d e >>= λ v. done (evaluate_statement v)) (Statement_in d)
evaluate_yields d e = one_yields d e evaluate_statement (λ n t s. s)

pub evaluated_yields : (d : Declared) (e : Tree) → Yields (evaluated d e) (Statement_in d)
evaluated_yields d (number p w) = evaluate_yields d (number p w)
evaluated_yields d (truth p w) = evaluate_yields d (truth p w)
evaluated_yields d (variable p x) = evaluate_yields d (variable p x)
evaluated_yields d (call p x es) =
    yields_bind (reading (calling d p.line x es)) (λ v. done (evaluate_statement v)) (Tree_in d) (Statement_in d) (calling_yields d p.line x es)
    (λ v. yields_done (evaluate_statement v) (λ n c. Tree_in d n v → Statement_in d n c) (λ n t. t))
evaluated_yields d (index p a i) = evaluate_yields d (index p a i)
evaluated_yields d (parentheses p e) = evaluate_yields d (parentheses p e)
evaluated_yields d (negation p e) = evaluate_yields d (negation p e)
evaluated_yields d (cast p t e) = evaluate_yields d (cast p t e)
evaluated_yields d (binary p op a b) = evaluate_yields d (binary p op a b)
evaluated_yields d (declassify p e) = evaluate_yields d (declassify p e)
evaluated_yields d (argument p x) = evaluate_yields d (argument p x)
evaluated_yields d (publish p x e) = one_yields d e (publish_statement x) (λ n t s. s)

-- DECLARATIONS AND ASSIGNMENTS: sound where the slot is there

abbrev pub If_there : Declared → ℕ → ℕ → TypedStatementTree → Type 0
If_there d k n c = k < n → Statement_in d n c

store_yields : (d : Declared) (k : ℕ) (e : Tree) → Yields (expression d e >>= λ v. done (store_statement k v)) (If_there d k)
store_yields d k e = yields_bind (expression d e) (λ v. done (store_statement k v)) (Tree_in d) (If_there d k) (expression_yields d e)
    (λ v. yields_done (store_statement k v) (λ n c. Tree_in d n v → If_there d k n c) (λ n t h. (h, t)))

from_value_yields : (d : Declared) (k : ℕ) (e : Tree) → Yields (from_value d k e) (If_there d k)
from_value_yields d k (number p w) = store_yields d k (number p w)
from_value_yields d k (truth p w) = store_yields d k (truth p w)
from_value_yields d k (variable p x) = store_yields d k (variable p x)
from_value_yields d k (call p x es) = store_yields d k (call p x es)
from_value_yields d k (index p a i) = store_yields d k (index p a i)
from_value_yields d k (parentheses p e) = store_yields d k (parentheses p e)
from_value_yields d k (negation p e) = store_yields d k (negation p e)
from_value_yields d k (cast p t e) = store_yields d k (cast p t e)
from_value_yields d k (binary p op a b) = store_yields d k (binary p op a b)
from_value_yields d k (declassify p e) = store_yields d k (declassify p e)
from_value_yields d k (argument p x) = yields_done (input_statement p.line k x) (If_there d k) (λ n h. h)
from_value_yields d k (publish p x e) = store_yields d k (publish p x e)

default_sound : (d : Declared) (n : ℕ) (element : DataType) → Tree_in d n (default_of element)
default_sound d n Uint64 = tt
default_sound d n Int64 = tt
default_sound d n datatype.Bool = tt

initial_yields : (d : Declared) (line k : ℕ) (element : DataType) (size value : Option Tree) → Yields (initial d line k element size value) (If_there d k)
initial_yields d line k element None None = yields_done (default_statement k) (If_there d k) (λ n h. h)
initial_yields d line k element None (Some e) = from_value_yields d k e
initial_yields d line k element (Some m) None =
    yields_bind (expression d m) (λ v. done (fill_statement line k v (default_of element))) (Tree_in d) (If_there d k) (expression_yields d m)
    (λ v. yields_done (fill_statement line k v (default_of element)) (λ n c. Tree_in d n v → If_there d k n c) (λ n t h. (h, t, default_sound d n element)))
initial_yields d line k element (Some m) (Some e) =
    yields_bind (expression d m) (λ v. expression d e >>= λ w. done (fill_statement line k v w)) (Tree_in d) (If_there d k) (expression_yields d m)
    (λ v. yields_bind (expression d e) (λ w. done (fill_statement line k v w)) (Tree_in d) (λ n c. Tree_in d n v → If_there d k n c) (expression_yields d e)
    (λ w. yields_done (fill_statement line k v w) (λ n c. Tree_in d n w → Tree_in d n v → If_there d k n c) (λ n u t h. (h, t, u))))

pub declaring_place : (x : Identifier) (t : DeclaredType) (s : FunctionScope) → IsPlace s → IsPlace (declaring x t s)
declaring_place x t s is =
    let more = length-append s.slots (t ∷ []) in
    record {
      block = (omega arith, below_more (length s.slots) (length (s.slots ++ t ∷ [])) s.scope.block (omega arith) is.block);
      outer = below_more (length s.slots) (length (s.slots ++ t ∷ [])) s.scope.outer (omega arith) is.outer;
    }

pub declared_yields : (d : Declared) (t : DeclarationTree) → Yields (declared d t) (Statement_in d)
declared_yields d t = record { from = λ s c q is e. go s c q is (initial d t.declared.place.line (length s.slots) t.declared.element t.size t.value s) refl e }
  where
    go : (s : FunctionScope) (c : TypedStatementTree) (q : FunctionScope) → IsPlace s → (o : Option (TypedStatementTree × FunctionScope))
        → initial d t.declared.place.line (length s.slots) t.declared.element t.size t.value s ≡ o
        → carry o (λ b p. Some (pair_of b (declaring t.variable t.declared p))) ≡ Some (c, q) → Ends (Statement_in d) s c q
    go s c q is None h e = cc
    go s c q is (Some r) h e =
        let ends = (initial_yields d t.declared.place.line (length s.slots) t.declared.element t.size t.value).from s r.0 r.1 is h in
        let more = length-append r.1.slots (t.declared ∷ []) in
        let long : length s.slots ≤ length r.1.slots = ends.longer in
        ends_as (Statement_in d) s r.0 c (declaring t.variable t.declared r.1) q e
        (record {
          place = declaring_place t.variable t.declared r.1 ends.place;
          longer = omega arith;
          made = λ n l. ends.made n (omega arith) (omega arith);
        })

assigned_to_yields : (d : Declared) (line k : ℕ) (i : Option Tree) (e : Tree) → Yields (assigned_to d line k i e) (If_there d k)
assigned_to_yields d line k None e = store_yields d k e
assigned_to_yields d line k (Some i) e =
    yields_bind (expression d i) (λ v. expression d e >>= λ w. done (element_statement line k v w)) (Tree_in d) (If_there d k) (expression_yields d i)
    (λ v. yields_bind (expression d e) (λ w. done (element_statement line k v w)) (Tree_in d) (λ n c. Tree_in d n v → If_there d k n c) (expression_yields d e)
    (λ w. yields_done (element_statement line k v w) (λ n c. Tree_in d n w → Tree_in d n v → If_there d k n c) (λ n u t h. (h, t, u))))

assigned_yields : (d : Declared) (a : AssignmentTree) → Yields (assigned d a) (Statement_in d)
assigned_yields d a =
    yields_bind (named a.target.variable.text) (λ x. assigned_to d a.target.variable.place.line x.slot a.target.index a.value) (λ n k. k.slot < n)
    (Statement_in d)
    (named_yields d a.target.variable.text)
    (λ x. assigned_to_later x)
  where
    assigned_to_later : (x : Known) → Yields (assigned_to d a.target.variable.place.line x.slot a.target.index a.value) (λ n c. x.slot < n → Statement_in d n c)
    assigned_to_later x = assigned_to_yields d a.target.variable.place.line x.slot a.target.index a.value

-- THE PARTS OF A `for`, AND RETURNS

started_yields : (d : Declared) (a : StartTree) → Yields (started d a) (Statement_in d)
started_yields d starts_with_nothing = yields_done empty_statement (Statement_in d) (λ n. tt)
started_yields d (starts_with_declaration t) = declared_yields d t
started_yields d (starts_with_assignment a) = assigned_yields d a

stepped_yields : (d : Declared) (b : StepTree) → Yields (stepped d b) (Statement_in d)
stepped_yields d steps_by_nothing = yields_done empty_statement (Statement_in d) (λ n. tt)
stepped_yields d (steps_by_assignment a) = assigned_yields d a
stepped_yields d (steps_by_expression e) = evaluated_yields d e

condition_yields : (d : Declared) (e : Option Tree) → Yields (condition_of d e) (Tree_in d)
condition_yields d None = yields_done (truth_node true) (Tree_in d) (λ n. tt)
condition_yields d (Some e) = expression_yields d e

returned_yields : (d : Declared) (e : Option Tree) → Yields (returned d e) (Statement_in d)
returned_yields d None = yields_done (return_statement None) (Statement_in d) (λ n. tt)
returned_yields d (Some e) = one_yields d e (λ v. return_statement (Some v)) (λ n t s. s)

looped_yields : (d : Declared) (a : StartTree) (e : Option Tree) (b : StepTree) (body : Resolving TypedStatementTree) → Yields body (Statement_in d)
    → Yields (looped d a e b body) (Statement_in d)
looped_yields d a e b body inside =
    yields_bind (started d a) (λ x. condition_of d e >>= λ v. stepped d b >>= λ y. in_block body >>= λ z. done (whole x v y z)) (Statement_in d)
    (Statement_in d) (started_yields d a)
    (λ x. yields_bind (condition_of d e) (λ v. stepped d b >>= λ y. in_block body >>= λ z. done (whole x v y z)) (Tree_in d)
    (λ n c. Statement_in d n x → Statement_in d n c) (condition_yields d e)
    (λ v. yields_bind (stepped d b) (λ y. in_block body >>= λ z. done (whole x v y z)) (Statement_in d)
    (λ n c. Tree_in d n v → Statement_in d n x → Statement_in d n c) (stepped_yields d b)
    (λ y. yields_bind (in_block body) (λ z. done (whole x v y z)) (Statement_in d) (λ n c. Statement_in d n y → Tree_in d n v → Statement_in d n x
    → Statement_in d n c) (yields_block body (Statement_in d) inside)
    (λ z. yields_done (whole x v y z) (λ n c. Statement_in d n z → Statement_in d n y → Tree_in d n v → Statement_in d n x → Statement_in d n c)
    (λ n hz hy hv hx. (hx, ((hv, hy, hz), tt)))))))
  where
    whole : TypedStatementTree → TypedTree → TypedStatementTree → TypedStatementTree → TypedStatementTree
    whole x v y z = block_statement (also x (also (loop_statement v y z) none))

-- STATEMENTS

-- an expression and one block, and a statement made of both
test_yields : (d : Declared) (e : Tree) (m : Resolving TypedStatementTree) (make : TypedTree → TypedStatementTree → TypedStatementTree)
    → ((n : ℕ) (v : TypedTree) (c : TypedStatementTree) → Tree_in d n v → Statement_in d n c → Statement_in d n (make v c)) → Yields m (Statement_in d)
    → Yields (expression d e >>= λ v. in_block m >>= λ c. done (make v c)) (Statement_in d)
test_yields d e m make h inside =
    yields_bind (expression d e) (λ v. in_block m >>= λ c. done (make v c)) (Tree_in d) (Statement_in d) (expression_yields d e)
    (λ v. yields_bind (in_block m) (λ c. done (make v c)) (Statement_in d) (λ n b. Tree_in d n v → Statement_in d n b) (yields_block m (Statement_in d) inside)
    (λ c. yields_done (make v c) (λ n b. Statement_in d n c → Tree_in d n v → Statement_in d n b) (λ n hc hv. h n v c hv hc)))

choice_yields : (d : Declared) (e : Tree) (m k : Resolving TypedStatementTree) → Yields m (Statement_in d) → Yields k (Statement_in d)
    → Yields (expression d e >>= λ v. in_block m >>= λ b. in_block k >>= λ c. done (if_statement v b c)) (Statement_in d)
choice_yields d e m k inside otherwise =
    yields_bind (expression d e) (λ v. in_block m >>= λ b. in_block k >>= λ c. done (if_statement v b c)) (Tree_in d) (Statement_in d) (expression_yields d e)
    (λ v. yields_bind (in_block m) (λ b. in_block k >>= λ c. done (if_statement v b c)) (Statement_in d) (λ n r. Tree_in d n v → Statement_in d n r)
    (yields_block m (Statement_in d) inside)
    (λ b. yields_bind (in_block k) (λ c. done (if_statement v b c)) (Statement_in d) (λ n r. Statement_in d n b → Tree_in d n v → Statement_in d n r)
    (yields_block k (Statement_in d) otherwise)
    (λ c. yields_done (if_statement v b c) (λ n r. Statement_in d n c → Statement_in d n b → Tree_in d n v → Statement_in d n r) (λ n hc hb hv. (hv, hb, hc)))))

do_yields : (d : Declared) (e : Tree) (m : Resolving TypedStatementTree) → Yields m (Statement_in d)
    → Yields (in_block m >>= λ b. expression d e >>= λ v. done (do_statement b v)) (Statement_in d)
do_yields d e m inside =
    yields_bind (in_block m) (λ b. expression d e >>= λ v. done (do_statement b v)) (Statement_in d) (Statement_in d) (yields_block m (Statement_in d) inside)
    (λ b. yields_bind (expression d e) (λ v. done (do_statement b v)) (Tree_in d) (λ n r. Statement_in d n b → Statement_in d n r) (expression_yields d e)
    (λ v. yields_done (do_statement b v) (λ n r. Tree_in d n v → Statement_in d n b → Statement_in d n r) (λ n hv hb. (hb, hv))))

mutual
  pub resolved_yields : (d : Declared) (t : StatementTree) → Yields (resolved d t) (Statement_in d)
  resolved_yields d (block p ss) =
      yields_bind (in_block (resolved_all d ss)) (λ cs. done (block_statement cs)) (Statements_in d) (Statement_in d)
      (yields_block (resolved_all d ss) (Statements_in d) (resolved_all_yields d ss))
      (λ cs. yields_done (block_statement cs) (λ n c. Statements_in d n cs → Statement_in d n c) (λ n h. h))
  resolved_yields d (empty p) = yields_done empty_statement (Statement_in d) (λ n. tt)
  resolved_yields d (branch p e body) =
      test_yields d e (resolved d body) (λ v c. if_statement v c empty_statement) (λ n v c hv hc. (hv, hc, tt)) (resolved_yields d body)
  resolved_yields d (choice p e body otherwise) =
      choice_yields d e (resolved d body) (resolved d otherwise) (resolved_yields d body) (resolved_yields d otherwise)
  resolved_yields d (while_loop p e body) =
      test_yields d e (resolved d body) (λ v c. loop_statement v empty_statement c) (λ n v c hv hc. (hv, tt, hc)) (resolved_yields d body)
  resolved_yields d (do_loop p body e) = do_yields d e (resolved d body) (resolved_yields d body)
  resolved_yields d (for_loop p a e b body) =
      yields_block (looped d a e b (resolved d body)) (Statement_in d) (looped_yields d a e b (resolved d body) (resolved_yields d body))
  resolved_yields d (breaks p) = yields_done break_statement (Statement_in d) (λ n. tt)
  resolved_yields d (continues p) = yields_done continue_statement (Statement_in d) (λ n. tt)
  resolved_yields d (returns p e) = returned_yields d e
  resolved_yields d (assertion p e) = one_yields d e (assert_statement p.line) (λ n t s. s)
  resolved_yields d (declaration t) = declared_yields d t
  resolved_yields d (assignment a) = assigned_yields d a
  resolved_yields d (evaluation e) = evaluated_yields d e

  pub resolved_all_yields : (d : Declared) (ts : StatementTrees) → Yields (resolved_all d ts) (Statements_in d)
  resolved_all_yields d Statements'.none = yields_done none (Statements_in d) (λ n. tt)
  resolved_all_yields d (Statements'.also t ts) =
      yields_bind (resolved d t) (λ c. resolved_all d ts >>= λ cs. done (also c cs)) (Statement_in d) (Statements_in d) (resolved_yields d t)
      (λ c. yields_bind (resolved_all d ts) (λ cs. done (also c cs)) (Statements_in d) (λ n r. Statement_in d n c → Statements_in d n r)
      (resolved_all_yields d ts)
      (λ cs. yields_done (also c cs) (λ n r. Statements_in d n cs → Statement_in d n c → Statements_in d n r) (λ n hcs hc. (hc, hcs))))
