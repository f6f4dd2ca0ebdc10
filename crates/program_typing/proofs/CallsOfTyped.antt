-- Each function that a typed body names is called there, with the domains that the call binds.
use Rattle.std.proofs.Common.{◌≡◌, ℕ, List, [], ◌∷◌, ◌++◌, ◌⊎◌, inl, inr, sym, ap, ap₂, ◌∙◌, subst, Option, Some, None}
use Rattle.std.specs.Prelude.{IsTrue}
use Rattle.std.proofs.lemmas.List.{append_assoc}
use Rattle.sc_text.specs.declared.span.Span.{Span}
use Rattle.program_trees.specs.declared.expression.DataType.TheVariants.{Uint64}
use Rattle.program_trees.specs.declared.expression.DataType.TheVariants as datatype
use Rattle.program_trees.specs.declared.function.ResultType.{ResultType}
use Rattle.program_trees.specs.declared.function.ResultType.TheVariants as returned
use Rattle.program_trees.specs.Tree.{Tree, Trees, number, truth, variable, call, index, parentheses, negation, cast, binary, declassify, argument, publish}
use Rattle.program_trees.specs.Tree as Tree'
use Rattle.program_trees.specs.Statements.{DeclarationTree, TargetTree, AssignmentTree, StartTree, starts_with_nothing, starts_with_declaration}
use Rattle.program_trees.specs.Statements.{starts_with_assignment, StepTree, steps_by_nothing, steps_by_assignment, steps_by_expression, StatementTree}
use Rattle.program_trees.specs.Statements.{block, empty, branch, choice, while_loop, do_loop, for_loop, breaks, continues, returns, assertion}
use Rattle.program_trees.specs.Statements.{declaration, assignment, evaluation, StatementTrees}
use Rattle.program_trees.specs.Statements as Statements'
use Rattle.program_trees.specs.Programs.{FunctionTree}
use Rattle.domain_types.specs.declared.value_type.Argument.{Argument}
use Rattle.domain_types.specs.declared.value_type.Protection.{Protection}
use Rattle.domain_types.specs.declared.value_type.ValueType.{ValueType}
use Rattle.domain_types.specs.declared.value_type.ExpressionType.{ExpressionType}
use Rattle.domain_types.specs.declared.value_type.ExpressionType.TheVariants.{Value}
use Rattle.domain_types.specs.Types.{public_scalar}
use Rattle.domain_types.specs.Declarations.{Declared, Callee, built_in, defined, callee}
use Rattle.domain_types.specs.Settings.{Setting}
use Rattle.domain_types.specs.Scopes.{Scope, inner}
use Rattle.domain_types.specs.ExpressionTypes.{binding_by, within, defined_faults, result_type, arguments_of}
use Rattle.domain_types.specs.StatementTypes.{is_argument, after, after_start}
use Rattle.sc_text.specs.Lists.{Among}
use Rattle.domain_types.specs.Reached.{Call, binding_of, call_of, calls_of, calls_of_all, optional_calls, assignment_calls, start_calls, step_calls}
use Rattle.domain_types.specs.Reached.{statement_calls, block_calls}
use Rattle.domain_types.specs.Typing.{IsCall, HasType, HaveTypes, HasFitting, IsInitial, IsElement, IsAssignment, IsStart, IsStep}
use Rattle.domain_types.specs.Typing.{IsOptionalCondition, IsReturn, IsTyped, AreTyped}
use Rattle.sc_text.proofs.Lists.{among_left, among_right, among_parts}
use Rattle.domain_types.proofs.TypingSteps.{followed, passes}
use Rattle.domain_types.proofs.TypingCalls.{defined_from}
use Rattle.domain_types.proofs.TypingExpressions.{types_from}
use Rattle.program_typing.proofs.TreesOfValues.{names_in, names_in_all}
use Rattle.program_typing.proofs.TreesOfStatements.{names_in_optional, names_in_assignment, names_in_start, names_in_step, names_by, names_by_all}

abbrev pub bound_call : ℕ → List Protection → Call
bound_call n ds = record { function = n; binding = Some ds }

-- a function of each of these names is called by one of these calls, which is not refused
pub record AreCalled (d : Declared) (xs : List (List ℕ)) (cs : List Call) : Type 0 where
  pub each : (x : List ℕ) (n : ℕ) (f : FunctionTree) → Among x xs → callee d x ≡ Some (defined n f) → (ds : List Protection) × Among (bound_call n ds) cs

none_called : (d : Declared) (cs : List Call) → AreCalled d [] cs
none_called d cs = record { each = λ x n f m e. absurd m }

both_called : (d : Declared) (xs ys : List (List ℕ)) (bs cs : List Call) → AreCalled d xs bs → AreCalled d ys cs → AreCalled d (xs ++ ys) (bs ++ cs)
both_called d xs ys bs cs a b = record { each = λ x n f m e. go x n f e (among_parts x xs ys m) }
  where
    go : (x : List ℕ) (n : ℕ) (f : FunctionTree) → callee d x ≡ Some (defined n f) → Among x xs ⊎ Among x ys
        → (ds : List Protection) × Among (bound_call n ds) (bs ++ cs)
    go x n f e (inl m) = let r = a.each x n f m e in (r.0, among_left (bound_call n r.0) bs cs r.1)
    go x n f e (inr m) = let r = b.each x n f m e in (r.0, among_right (bound_call n r.0) bs cs r.1)

-- a call of these arguments
call_called : (d : Declared) (p : Span) (x : List ℕ) (c : Callee) (gs : List Argument) (o : Option (List Argument)) (t : ExpressionType)
    → callee d x ≡ Some c → o ≡ Some gs → IsCall d c gs t → AreCalled d (x ∷ []) (call_of d p (callee d x) o)
call_called d p x (built_in b) gs o t e q h = record { each = none }
  where
    none : (y : List ℕ) (n : ℕ) (f : FunctionTree) → Among y (x ∷ []) → callee d y ≡ Some (defined n f)
        → (ds : List Protection) × Among (bound_call n ds) (call_of d p (callee d x) o)
    none y n f (inl s) g =
        let same : Some (built_in b) ≡ Some (defined n f) = sym e ∙ ap (callee d) (sym s) ∙ g in
        let no : built_in b ≡ defined n f = cc in
        cc
    none y n f (inr s) g = absurd s
call_called d p x (defined k g) gs o t e q h = record { each = one }
  where
    one : (y : List ℕ) (n : ℕ) (f : FunctionTree) → Among y (x ∷ []) → callee d y ≡ Some (defined n f)
        → (ds : List Protection) × Among (bound_call n ds) (call_of d p (callee d x) o)
    one y n f (inl s) i =
        let same : Some (defined k g) ≡ Some (defined n f) = sym e ∙ ap (callee d) (sym s) ∙ i in
        let inside : defined k g ≡ defined n f = cc in
        let number_is : n ≡ k = cc in
        let r = defined_from d p g gs t h in
        let b = followed (λ ds. result_type (within d g ds) g.returned) (binding_by g.variables g.parameters gs) t r.1 in
        let bound : binding_of d p g (Some gs) ≡ Some b.0 = passes (defined_faults d p g gs) (binding_by g.variables g.parameters gs) r.0 ∙ b.1 in
        let calls : call_of d p (callee d x) o ≡ bound_call k b.0 ∷ [] = ap₂ (call_of d p) e q ∙ ap (λ z. record { function = k; binding = z } ∷ []) bound in
        (b.0, subst (Among (bound_call n b.0)) (sym calls) (inl (ap (λ z. bound_call z b.0) number_is)))
    one y n f (inr s) i = absurd s

-- EXPRESSIONS

mutual
  pub called_by_value : (w : Setting) (s : Scope) (e : Tree) (t : ExpressionType) → HasType w s e t → AreCalled w.declared (names_in e) (calls_of w s e)
  called_by_value w s (number p n) t h = none_called w.declared []
  called_by_value w s (truth p b) t h = none_called w.declared []
  called_by_value w s (variable p x) t h = none_called w.declared []
  called_by_value w s (call p x es) t h =
      both_called w.declared (names_in_all es) (x ∷ []) (calls_of_all w s es) (call_of w.declared p (callee w.declared x) (arguments_of w s es))
      (called_by_values w s es h.1 h.3)
      (call_called w.declared p x h.0 h.1 (arguments_of w s es) t h.2 (types_from w s es h.1 h.3) h.4)
  called_by_value w s (index p a i) t h =
      both_called w.declared (names_in a) (names_in i) (calls_of w s a) (calls_of w s i) (called_by_value w s a (Value h.0) h.2)
      (called_by_value w s i (Value h.1) h.3)
  called_by_value w s (parentheses p e) t h = called_by_value w s e (Value h.0) h.1
  called_by_value w s (negation p e) t h = called_by_value w s e (Value h.0) h.1
  called_by_value w s (cast p c e) t h = called_by_value w s e (Value h.0) h.1
  called_by_value w s (binary p op a b) t h =
      both_called w.declared (names_in a) (names_in b) (calls_of w s a) (calls_of w s b) (called_by_value w s a (Value h.0) h.3)
      (called_by_value w s b (Value h.1) h.4)
  called_by_value w s (declassify p e) t h = called_by_value w s e (Value h.0) h.1
  called_by_value w s (argument p x) t h = absurd h
  called_by_value w s (publish p x e) t h = called_by_value w s e (Value h.0) h.1

  called_by_values : (w : Setting) (s : Scope) (es : Trees) (gs : List Argument) → HaveTypes w s es gs
      → AreCalled w.declared (names_in_all es) (calls_of_all w s es)
  called_by_values w s Tree'.none gs h = none_called w.declared []
  called_by_values w s (Tree'.also e es) [] h = absurd h
  called_by_values w s (Tree'.also e es) (g ∷ gs) h =
      both_called w.declared (names_in e) (names_in_all es) (calls_of w s e) (calls_of_all w s es) (called_by_value w s e (Value g.given) h.0)
      (called_by_values w s es gs h.2)

-- THE PARTS OF STATEMENTS

abbrev HaveCalls : Setting → Scope → Option Tree → Type 0
HaveCalls w s e = AreCalled w.declared (names_in_optional e) (optional_calls w s e)

initialiser_called : (w : Setting) (s : Scope) (e : Tree) (held : ValueType) → IsTrue (is_argument e) ⊎ HasFitting w s e held
    → AreCalled w.declared (names_in e) (calls_of w s e)
initialiser_called w s e held (inr h) = called_by_value w s e (Value h.0) h.1
initialiser_called w s (argument p x) held (inl h) = none_called w.declared []
initialiser_called w s (number p n) held (inl h) = cc
initialiser_called w s (truth p n) held (inl h) = cc
initialiser_called w s (variable p x) held (inl h) = cc
initialiser_called w s (call p x es) held (inl h) = cc
initialiser_called w s (index p a i) held (inl h) = cc
initialiser_called w s (parentheses p e) held (inl h) = cc
initialiser_called w s (negation p e) held (inl h) = cc
initialiser_called w s (cast p t e) held (inl h) = cc
initialiser_called w s (binary p op a b) held (inl h) = cc
initialiser_called w s (declassify p e) held (inl h) = cc
initialiser_called w s (publish p x e) held (inl h) = cc

initial_called : (w : Setting) (s : Scope) (held : ValueType) (size value : Option Tree) → IsInitial w s held size value
    → AreCalled w.declared (names_in_optional size ++ names_in_optional value) (optional_calls w s size ++ optional_calls w s value)
initial_called w s held None None h = none_called w.declared []
initial_called w s held None (Some e) h = initialiser_called w s e held h
initial_called w s held (Some n) None h =
    both_called w.declared (names_in n) [] (calls_of w s n) [] (called_by_value w s n (Value (public_scalar Uint64)) h.1) (none_called w.declared [])
initial_called w s held (Some n) (Some e) h =
    both_called w.declared (names_in n) (names_in e) (calls_of w s n) (calls_of w s e) (called_by_value w s n (Value (public_scalar Uint64)) h.1)
    (called_by_value w s e (Value h.2.0) h.2.1)

assignment_called : (w : Setting) (s : Scope) (t : AssignmentTree) → IsAssignment w s t → AreCalled w.declared (names_in_assignment t) (assignment_calls w s t)
assignment_called w s t h =
    both_called w.declared (names_in_optional t.target.index) (names_in t.value) (optional_calls w s t.target.index) (calls_of w s t.value)
    (element t.target.index h.target) (called_by_value w s t.value (Value h.value.0) h.value.1)
  where
    element : (i : Option Tree) → IsElement w s h.held i h.wanted → HaveCalls w s i
    element None g = none_called w.declared []
    element (Some i) g = called_by_value w s i (Value (public_scalar Uint64)) g.1

start_called : (w : Setting) (s : Scope) (t : StartTree) → IsStart w s t → AreCalled w.declared (names_in_start t) (start_calls w s t)
start_called w s starts_with_nothing h = none_called w.declared []
start_called w s (starts_with_declaration t) h = initial_called w s h.held t.size t.value h.initial
start_called w s (starts_with_assignment t) h = assignment_called w s t h

step_called : (w : Setting) (s : Scope) (t : StepTree) → IsStep w s t → AreCalled w.declared (names_in_step t) (step_calls w s t)
step_called w s steps_by_nothing h = none_called w.declared []
step_called w s (steps_by_assignment t) h = assignment_called w s t h
step_called w s (steps_by_expression e) h = called_by_value w s e h.0 h.1

condition_called : (w : Setting) (s : Scope) (e : Option Tree) → IsOptionalCondition w s e → HaveCalls w s e
condition_called w s None h = none_called w.declared []
condition_called w s (Some e) h = called_by_value w s e (Value (public_scalar datatype.Bool)) h

return_called : (w : Setting) (r : ResultType) (s : Scope) (e : Option Tree) → IsReturn w r s e → HaveCalls w s e
return_called w r s None h = none_called w.declared []
return_called w returned.Void s (Some e) h = absurd h
return_called w (returned.Value t) s (Some e) h = called_by_value w s e (Value h.2.0) h.2.1

-- STATEMENTS

abbrev truth_value : ExpressionType
truth_value = Value (public_scalar datatype.Bool)

mutual
  pub statement_called : (w : Setting) (r : ResultType) (s : Scope) (t : StatementTree) → IsTyped w r s t
      → AreCalled w.declared (names_by t) (statement_calls w s t)
  statement_called w r s (block p ss) h = block_called w r (inner s) ss h
  statement_called w r s (empty p) h = none_called w.declared []
  statement_called w r s (branch p e body) h =
      both_called w.declared (names_in e) (names_by body) (calls_of w s e) (statement_calls w (inner s) body) (called_by_value w s e truth_value h.0)
      (statement_called w r (inner s) body h.1)
  statement_called w r s (choice p e body otherwise) h =
      subst (AreCalled w.declared (names_in e ++ (names_by body ++ names_by otherwise)))
      (sym (append_assoc (calls_of w s e) (statement_calls w (inner s) body) (statement_calls w (inner s) otherwise)))
      (both_called w.declared (names_in e) (names_by body ++ names_by otherwise) (calls_of w s e)
      (statement_calls w (inner s) body ++ statement_calls w (inner s) otherwise) (called_by_value w s e truth_value h.0)
      (both_called w.declared (names_by body) (names_by otherwise) (statement_calls w (inner s) body) (statement_calls w (inner s) otherwise)
      (statement_called w r (inner s) body h.1) (statement_called w r (inner s) otherwise h.2)))
  statement_called w r s (while_loop p e body) h =
      both_called w.declared (names_in e) (names_by body) (calls_of w s e) (statement_calls w (inner s) body) (called_by_value w s e truth_value h.0)
      (statement_called w r (inner s) body h.1)
  statement_called w r s (do_loop p body e) h =
      both_called w.declared (names_by body) (names_in e) (statement_calls w (inner s) body) (calls_of w s e)
      (statement_called w r (inner s) body h.0) (called_by_value w s e truth_value h.1)
  statement_called w r s (for_loop p b e c body) h =
      let t = after_start w (inner s) b in
      let one = start_calls w (inner s) b in
      let two = optional_calls w t e in
      let three = step_calls w t c in
      let four = statement_calls w (inner t) body in
      subst (AreCalled w.declared (names_in_start b ++ (names_in_optional e ++ (names_in_step c ++ names_by body))))
      (sym (append_assoc (one ++ two) three four ∙ append_assoc one two (three ++ four)))
      (both_called w.declared (names_in_start b) (names_in_optional e ++ (names_in_step c ++ names_by body)) one (two ++ (three ++ four))
      (start_called w (inner s) b h.0)
      (both_called w.declared (names_in_optional e) (names_in_step c ++ names_by body) two (three ++ four) (condition_called w t e h.1)
      (both_called w.declared (names_in_step c) (names_by body) three four (step_called w t c h.2)
      (statement_called w r (inner (after_start w (inner s) b)) body h.3))))
  statement_called w r s (breaks p) h = none_called w.declared []
  statement_called w r s (continues p) h = none_called w.declared []
  statement_called w r s (returns p e) h = return_called w r s e h
  statement_called w r s (assertion p e) h = called_by_value w s e truth_value h
  statement_called w r s (declaration t) h = initial_called w s h.held t.size t.value h.initial
  statement_called w r s (assignment t) h = assignment_called w s t h
  statement_called w r s (evaluation e) h = called_by_value w s e h.0 h.1

  pub block_called : (w : Setting) (r : ResultType) (s : Scope) (ts : StatementTrees) → AreTyped w r s ts
      → AreCalled w.declared (names_by_all ts) (block_calls w s ts)
  block_called w r s Statements'.none h = none_called w.declared []
  block_called w r s (Statements'.also t ts) h =
      both_called w.declared (names_by t) (names_by_all ts) (statement_calls w s t) (block_calls w (after w s t) ts) (statement_called w r s t h.0)
      (block_called w r (after w s t) ts h.1)
