-- The head of a typed function: its first slots are its parameters, whatever its body declares after them.
use Rattle.std.proofs.Common.{◌≡◌, ℕ, zero, suc, List, [], ◌∷◌, ◌++◌, length, refl, sym, ap, ◌∙◌, subst, Option, Some, None, true, append_assoc, append-nil}
use Rattle.std.specs.Prelude.{map}
use Rattle.std.specs.List.{slice_get}
use Rattle.std.proofs.lemmas.Option.{same_Some}
use Rattle.program_trees.specs.declared.expression.DataType.{DataType}
use Rattle.program_trees.specs.declared.statement.DeclaredType.{DeclaredType}
use Rattle.program_trees.specs.declared.function.Parameter.{Parameter}
use Rattle.program_trees.specs.Tree.{Tree, number, truth, variable, call, index, parentheses, negation, cast, binary, declassify, argument, publish}
use Rattle.program_trees.specs.Statements.{DeclarationTree, AssignmentTree, StartTree, starts_with_nothing, starts_with_declaration}
use Rattle.program_trees.specs.Statements.{starts_with_assignment, StepTree, steps_by_nothing, steps_by_assignment, steps_by_expression, StatementTree}
use Rattle.program_trees.specs.Statements.{block, empty, branch, choice, while_loop, do_loop, for_loop, breaks, continues, returns, assertion}
use Rattle.program_trees.specs.Statements.{declaration, assignment, evaluation, StatementTrees}
use Rattle.program_trees.specs.Statements as Statements'
use Rattle.program_trees.specs.Programs.{FunctionTree}
use Rattle.domain_types.specs.Declarations.{Declared}
use Rattle.program_trees.specs.declared.kinds.Slot.{Slot}
use Rattle.program_trees.specs.TypedTree.{TypedTree, truth_node}
use Rattle.program_trees.specs.TypedStatements.{TypedStatementTree, none, also, empty_statement, block_statement, if_statement, loop_statement, do_statement}
use Rattle.program_trees.specs.TypedStatements.{break_statement, continue_statement, return_statement, assert_statement, store_statement, default_statement}
use Rattle.program_trees.specs.TypedStatements.{fill_statement, input_statement, element_statement, publish_statement, evaluate_statement}
use Rattle.name_resolution.specs.Scopes.{FunctionScope, no_place, declaring}
use Rattle.name_resolution.specs.Resolving.{Resolving, ◌>>=◌, done, reading, next_slot, declare, in_block, resolved_value, expression, known_at, named}
use Rattle.name_resolution.specs.Bodies.{calling, evaluated, default_of, from_value, initial, declared, assigned_to, assigned, started, stepped}
use Rattle.name_resolution.specs.Bodies.{condition_of, returned, looped, resolved, resolved_all}
use Rattle.program_trees.specs.TypedPrograms.{TypedFunctionTree}
use Rattle.name_resolution.specs.Values.{and_more}
use Rattle.name_resolution.specs.Functions.{slots_written, given_back, with_parameters, function_made, function_from, function_behind, typed_function}
use Rattle.name_resolution.specs.Functions.{typed_functions}
use Rattle.name_resolution.proofs.SoundValues.{both_there, then_there, some_is}
use Rattle.well_typed.proofs.Bindings.{declared_type}
use Rattle.well_typed.proofs.SlotsWritten.{slots_split}
use Rattle.well_typed.proofs.Steps.{Relation, Step, step_done, step_bind, step_reading, step_block, step_declare, step_next, step_as}

-- SLOTS ARE ADDED, AND STAY

abbrev pub Begins : (xs ys : List DeclaredType) → Type 0
Begins xs ys = (more : List DeclaredType) × (ys ≡ xs ++ more)

pub begins_itself : (xs : List DeclaredType) → Begins xs xs
begins_itself xs = ([], sym (append-nil xs))

pub begins_further : (xs ys zs : List DeclaredType) → Begins xs ys → Begins ys zs → Begins xs zs
begins_further xs ys zs f g = (f.0 ++ g.0, g.1 ∙ ap (λ z. z ++ g.0) f.1 ∙ append_assoc xs f.0 g.0)

abbrev pub Grow : {A : Type 0} → Relation A
Grow p a q = Begins p.slots q.slots

grows_done : {A : Type 0} (a : A) → Step (done a) Grow
grows_done a = step_done Grow a (λ p. begins_itself p.slots)

grows_bind : {A B : Type 0} (m : Resolving A) (g : A → Resolving B) → Step m Grow → ((a : A) → Step (g a) Grow) → Step (m >>= g) Grow
grows_bind m g first then =
    step_bind m g Grow Grow first
    (λ a. step_as (g a) Grow (λ q b r. (p : FunctionScope) → Grow p a q → Grow p b r) (then a) (λ q b r h p k. begins_further p.slots q.slots r.slots k h))

grows_reading : {A : Type 0} (f : FunctionScope → Option A) → Step (reading f) Grow
grows_reading f = step_reading f Grow (λ p a e. begins_itself p.slots)

grows_block : {A : Type 0} (m : Resolving A) → Step m Grow → Step (in_block m) Grow
grows_block m h = step_block m Grow Grow h (λ p a q g. g)

grows_one : (d : Declared) (e : Tree) (make : TypedTree → TypedStatementTree) → Step (expression d e >>= λ v. done (make v)) Grow
grows_one d e make = grows_bind (expression d e) (λ v. done (make v)) (grows_reading (resolved_value d e)) (λ v. grows_done (make v))

grows_evaluated : (d : Declared) (e : Tree) → Step (evaluated d e) Grow
grows_evaluated d (number p n) = grows_one d (number p n) evaluate_statement
grows_evaluated d (truth p b) = grows_one d (truth p b) evaluate_statement
grows_evaluated d (variable p x) = grows_one d (variable p x) evaluate_statement
grows_evaluated d (call p x es) =
    grows_bind (reading (calling d p.line x es)) (λ v. done (evaluate_statement v)) (grows_reading (calling d p.line x es))
    (λ v. grows_done (evaluate_statement v))
grows_evaluated d (index p a i) = grows_one d (index p a i) evaluate_statement
grows_evaluated d (parentheses p e) = grows_one d (parentheses p e) evaluate_statement
grows_evaluated d (negation p e) = grows_one d (negation p e) evaluate_statement
grows_evaluated d (cast p t e) = grows_one d (cast p t e) evaluate_statement
grows_evaluated d (binary p op a b) = grows_one d (binary p op a b) evaluate_statement
grows_evaluated d (declassify p e) = grows_one d (declassify p e) evaluate_statement
grows_evaluated d (argument p x) = grows_one d (argument p x) evaluate_statement
grows_evaluated d (publish p x e) = grows_one d e (publish_statement x)

grows_from : (d : Declared) (k : ℕ) (e : Tree) → Step (from_value d k e) Grow
grows_from d k (number p n) = grows_one d (number p n) (store_statement k)
grows_from d k (truth p b) = grows_one d (truth p b) (store_statement k)
grows_from d k (variable p x) = grows_one d (variable p x) (store_statement k)
grows_from d k (call p x es) = grows_one d (call p x es) (store_statement k)
grows_from d k (index p a i) = grows_one d (index p a i) (store_statement k)
grows_from d k (parentheses p e) = grows_one d (parentheses p e) (store_statement k)
grows_from d k (negation p e) = grows_one d (negation p e) (store_statement k)
grows_from d k (cast p t e) = grows_one d (cast p t e) (store_statement k)
grows_from d k (binary p op a b) = grows_one d (binary p op a b) (store_statement k)
grows_from d k (declassify p e) = grows_one d (declassify p e) (store_statement k)
grows_from d k (argument p x) = grows_done (input_statement p.line k x)
grows_from d k (publish p x e) = grows_one d (publish p x e) (store_statement k)

grows_initial : (d : Declared) (line k : ℕ) (element : DataType) (size value : Option Tree) → Step (initial d line k element size value) Grow
grows_initial d line k element None None = grows_done (default_statement k)
grows_initial d line k element None (Some e) = grows_from d k e
grows_initial d line k element (Some n) None = grows_one d n (λ m. fill_statement line k m (default_of element))
grows_initial d line k element (Some n) (Some e) =
    grows_bind (expression d n) (λ m. expression d e >>= λ v. done (fill_statement line k m v)) (grows_reading (resolved_value d n))
    (λ m. grows_one d e (fill_statement line k m))

grows_declared : (d : Declared) (t : DeclarationTree) → Step (declared d t) Grow
grows_declared d t =
    grows_bind next_slot (λ k. initial d line k t.declared.element t.size t.value >>= λ c. declare t.variable t.declared >>= λ _. done c)
    (step_next Grow (λ p. begins_itself p.slots))
    (λ k. grows_bind (initial d line k t.declared.element t.size t.value) (λ c. declare t.variable t.declared >>= λ _. done c)
    (grows_initial d line k t.declared.element t.size t.value)
    (λ c. grows_bind (declare t.variable t.declared) (λ _. done c) (step_declare t.variable t.declared Grow (λ p. (t.declared ∷ [], refl)))
    (λ _. grows_done c)))
  where
    line : ℕ
    line = t.declared.place.line

grows_assigned_to : (d : Declared) (line k : ℕ) (i : Option Tree) (e : Tree) → Step (assigned_to d line k i e) Grow
grows_assigned_to d line k None e = grows_one d e (store_statement k)
grows_assigned_to d line k (Some i) e =
    grows_bind (expression d i) (λ j. expression d e >>= λ v. done (element_statement line k j v)) (grows_reading (resolved_value d i))
    (λ j. grows_one d e (element_statement line k j))

grows_assigned : (d : Declared) (a : AssignmentTree) → Step (assigned d a) Grow
grows_assigned d a =
    grows_bind (named a.target.variable.text) (λ x. assigned_to d a.target.variable.place.line x.slot a.target.index a.value)
    (grows_reading (known_at a.target.variable.text))
    (λ x. grows_assigned_to d a.target.variable.place.line x.slot a.target.index a.value)

grows_started : (d : Declared) (t : StartTree) → Step (started d t) Grow
grows_started d starts_with_nothing = grows_done empty_statement
grows_started d (starts_with_declaration t) = grows_declared d t
grows_started d (starts_with_assignment a) = grows_assigned d a

grows_stepped : (d : Declared) (t : StepTree) → Step (stepped d t) Grow
grows_stepped d steps_by_nothing = grows_done empty_statement
grows_stepped d (steps_by_assignment a) = grows_assigned d a
grows_stepped d (steps_by_expression e) = grows_evaluated d e

grows_condition : (d : Declared) (e : Option Tree) → Step (condition_of d e) Grow
grows_condition d None = grows_done (truth_node true)
grows_condition d (Some e) = grows_reading (resolved_value d e)

grows_returned : (d : Declared) (e : Option Tree) → Step (returned d e) Grow
grows_returned d None = grows_done (return_statement None)
grows_returned d (Some e) = grows_one d e (λ v. return_statement (Some v))

grows_looped : (d : Declared) (b : StartTree) (e : Option Tree) (c : StepTree) (body : Resolving TypedStatementTree) → Step body Grow
    → Step (looped d b e c body) Grow
grows_looped d b e c body h =
    grows_bind (started d b) (λ x. condition_of d e >>= λ v. stepped d c >>= λ y. in_block body >>= λ q. done (whole x v y q)) (grows_started d b)
    (λ x. grows_bind (condition_of d e) (λ v. stepped d c >>= λ y. in_block body >>= λ q. done (whole x v y q)) (grows_condition d e)
    (λ v. grows_bind (stepped d c) (λ y. in_block body >>= λ q. done (whole x v y q)) (grows_stepped d c)
    (λ y. grows_bind (in_block body) (λ q. done (whole x v y q)) (grows_block body h) (λ q. grows_done (whole x v y q)))))
  where
    whole : TypedStatementTree → TypedTree → TypedStatementTree → TypedStatementTree → TypedStatementTree
    whole x v y q = block_statement (also x (also (loop_statement v y q) none))

grows_test : (d : Declared) (e : Tree) (m : Resolving TypedStatementTree) (make : TypedTree → TypedStatementTree → TypedStatementTree) → Step m Grow
    → Step (expression d e >>= λ v. in_block m >>= λ c. done (make v c)) Grow
grows_test d e m make h =
    grows_bind (expression d e) (λ v. in_block m >>= λ c. done (make v c)) (grows_reading (resolved_value d e))
    (λ v. grows_bind (in_block m) (λ c. done (make v c)) (grows_block m h) (λ c. grows_done (make v c)))

grows_choice : (d : Declared) (e : Tree) (m k : Resolving TypedStatementTree) → Step m Grow → Step k Grow
    → Step (expression d e >>= λ v. in_block m >>= λ b. in_block k >>= λ c. done (if_statement v b c)) Grow
grows_choice d e m k g h =
    grows_bind (expression d e) (λ v. in_block m >>= λ b. in_block k >>= λ c. done (if_statement v b c)) (grows_reading (resolved_value d e))
    (λ v. grows_bind (in_block m) (λ b. in_block k >>= λ c. done (if_statement v b c)) (grows_block m g)
    (λ b. grows_bind (in_block k) (λ c. done (if_statement v b c)) (grows_block k h) (λ c. grows_done (if_statement v b c))))

grows_do : (d : Declared) (e : Tree) (m : Resolving TypedStatementTree) → Step m Grow
    → Step (in_block m >>= λ b. expression d e >>= λ v. done (do_statement b v)) Grow
grows_do d e m h =
    grows_bind (in_block m) (λ b. expression d e >>= λ v. done (do_statement b v)) (grows_block m h) (λ b. grows_one d e (do_statement b))

mutual
  grows_resolved : (d : Declared) (t : StatementTree) → Step (resolved d t) Grow
  grows_resolved d (block p ss) =
      grows_bind (in_block (resolved_all d ss)) (λ cs. done (block_statement cs)) (grows_block (resolved_all d ss) (grows_all d ss))
      (λ cs. grows_done (block_statement cs))
  grows_resolved d (empty p) = grows_done empty_statement
  grows_resolved d (branch p e body) = grows_test d e (resolved d body) (λ v c. if_statement v c empty_statement) (grows_resolved d body)
  grows_resolved d (choice p e body otherwise) = grows_choice d e (resolved d body) (resolved d otherwise) (grows_resolved d body) (grows_resolved d otherwise)
  grows_resolved d (while_loop p e body) = grows_test d e (resolved d body) (λ v c. loop_statement v empty_statement c) (grows_resolved d body)
  grows_resolved d (do_loop p body e) = grows_do d e (resolved d body) (grows_resolved d body)
  grows_resolved d (for_loop p b e c body) = grows_block (looped d b e c (resolved d body)) (grows_looped d b e c (resolved d body) (grows_resolved d body))
  grows_resolved d (breaks p) = grows_done break_statement
  grows_resolved d (continues p) = grows_done continue_statement
  grows_resolved d (returns p e) = grows_returned d e
  grows_resolved d (assertion p e) = grows_one d e (assert_statement p.line)
  grows_resolved d (declaration t) = grows_declared d t
  grows_resolved d (assignment a) = grows_assigned d a
  grows_resolved d (evaluation e) = grows_evaluated d e

  grows_all : (d : Declared) (ts : StatementTrees) → Step (resolved_all d ts) Grow
  grows_all d Statements'.none = grows_done none
  grows_all d (Statements'.also t ts) =
      grows_bind (resolved d t) (λ c. resolved_all d ts >>= λ cs. done (also c cs)) (grows_resolved d t)
      (λ c. grows_bind (resolved_all d ts) (λ cs. done (also c cs)) (grows_all d ts) (λ cs. grows_done (also c cs)))

-- FUNCTIONS

-- how a typed function is made
pub record IsMade (k : Declared) (f : FunctionTree) (t : TypedFunctionTree) : Type 0 where
  pub final : FunctionScope
  pub body : resolved_all k f.body.statements (with_parameters f.parameters no_place) ≡ Some (t.body, final)
  pub slots : slots_written k f.variables final.slots ≡ Some t.slots
  pub given : given_back k f.variables f.returned ≡ Some t.given
  pub variables : t.variables ≡ length f.variables
  pub parameters : t.parameters ≡ length f.parameters

pub is_made : (k : Declared) (f : FunctionTree) (t : TypedFunctionTree) → typed_function k f ≡ Some t → IsMade k f t
is_made k f t e =
    let r = then_there (function_behind k f) (resolved_all k f.body.statements (with_parameters f.parameters no_place)) t e in
    let m = both_there (function_from f r.part.0) (slots_written k f.variables r.part.1.slots) (given_back k f.variables f.returned) t r.is in
    let made : IsMade k f (function_made f r.part.0 m.left m.right) =
    record { final = r.part.1; body = r.there; slots = m.left_there; given = m.right_there; variables = refl; parameters = refl } in
    subst (IsMade k f) (some_is (function_made f r.part.0 m.left m.right) t m.is) made

pub parameter_slots : (ps : List Parameter) (s : FunctionScope) → (with_parameters ps s).slots ≡ s.slots ++ map declared_type ps
parameter_slots [] s = sym (append-nil s.slots)
parameter_slots (p ∷ ps) s = parameter_slots ps (declaring p.variable p.declared s) ∙ append_assoc s.slots (p.declared ∷ []) (map declared_type ps)

-- the parameters are the first slots
pub record IsHead (k : Declared) (f : FunctionTree) (t : TypedFunctionTree) : Type 0 where
  pub first : List Slot
  pub more : List Slot
  pub slots : t.slots ≡ first ++ more
  pub written : slots_written k f.variables (map declared_type f.parameters) ≡ Some first

pub is_head : (k : Declared) (f : FunctionTree) (t : TypedFunctionTree) → IsMade k f t → IsHead k f t
is_head k f t m =
    let grown = (grows_all k f.body.statements).from (with_parameters f.parameters no_place) t.body m.final m.body in
    let final_is : m.final.slots ≡ map declared_type f.parameters ++ grown.0 = grown.1 ∙ ap (λ z. z ++ grown.0) (parameter_slots f.parameters no_place) in
    let s = slots_split k f.variables (map declared_type f.parameters) grown.0 t.slots (sym (ap (slots_written k f.variables) final_is) ∙ m.slots) in
    record { first = s.0; more = s.1; slots = s.3; written = s.2 }

-- the typed function of a number
pub function_at : (k : Declared) (fs : List FunctionTree) (ts : List TypedFunctionTree) (n : ℕ) (f : FunctionTree) → typed_functions k fs ≡ Some ts
    → slice_get fs n ≡ Some f → (t : TypedFunctionTree) × (slice_get ts n ≡ Some t) × (typed_function k f ≡ Some t)
function_at k [] ts n f e h = cc
function_at k (g ∷ gs) ts zero f e h =
    let m = both_there and_more (typed_function k g) (typed_functions k gs) ts e in (
      m.left,
      ap (λ (z : List TypedFunctionTree). slice_get z zero) (sym (some_is (m.left ∷ m.right) ts m.is)),
      ap (typed_function k) (sym (same_Some g f h)) ∙ m.left_there,
    )
function_at k (g ∷ gs) ts (suc n) f e h =
    let m = both_there and_more (typed_function k g) (typed_functions k gs) ts e in
    let r = function_at k gs m.right n f m.right_there h in
    (r.0, ap (λ (z : List TypedFunctionTree). slice_get z (suc n)) (sym (some_is (m.left ∷ m.right) ts m.is)) ∙ r.1, r.2)
