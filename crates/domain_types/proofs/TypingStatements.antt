-- A statement is typed by the relation where it has no fault, if the variables, the result and the functions that it names
-- have their types.
use Rattle.std.proofs.Common.{◌≡◌, List, [], ◌++◌, inl, inr, refl, sym, ap, ap₂, subst, ◌∙◌, Option, Some, None, Bool, true, false, is_some, IsTrue, ◌↔◌}
use Rattle.std.specs.Prelude.{not, bytes_eq, is_none, if◌then◌else◌, option_map}
use Rattle.std.proofs.lemmas.Bool.{not-false}
use Rattle.std.proofs.lemmas.Option.{same_Some}
use Rattle.sc_text.specs.declared.span.Span.{Span}
use Rattle.program_trees.specs.declared.expression.DataType.TheVariants as datatype
use Rattle.program_trees.specs.declared.statement.Domain.{Domain}
use Rattle.program_trees.specs.declared.statement.Domain.TheVariants as domain
use Rattle.program_trees.specs.declared.statement.DeclaredType.{DeclaredType}
use Rattle.program_trees.specs.declared.statement.Identifier.{Identifier}
use Rattle.program_trees.specs.declared.function.ResultType.{ResultType}
use Rattle.program_trees.specs.declared.function.ResultType.TheVariants as returned
use Rattle.program_trees.specs.Tree.{Tree, number, truth, variable, call, index, parentheses, negation, cast, binary, declassify, argument, publish}
use Rattle.program_trees.specs.Statements.{DeclarationTree, TargetTree, AssignmentTree, StartTree, starts_with_nothing, starts_with_declaration}
use Rattle.program_trees.specs.Statements.{starts_with_assignment, StepTree, steps_by_nothing, steps_by_assignment, steps_by_expression, StatementTree}
use Rattle.program_trees.specs.Statements.{block, empty, branch, choice, while_loop, do_loop, for_loop, breaks, continues, returns, assertion}
use Rattle.program_trees.specs.Statements.{declaration, assignment, evaluation, StatementTrees, none, also}
use Rattle.program_trees.specs.Heights.{place_of}
use Rattle.domain_types.specs.declared.fault.TypeProblem.{TypeProblem}
use Rattle.domain_types.specs.declared.fault.TypeProblem.TheVariants.{UnknownName, Twice, TypeMismatch, PrivateCondition, PrivateSize, PrivateAssert}
use Rattle.domain_types.specs.declared.fault.TypeFault.{TypeFault}
use Rattle.domain_types.specs.declared.value_type.Protection.{Protection}
use Rattle.domain_types.specs.declared.value_type.Protection.TheVariants.{Public}
use Rattle.domain_types.specs.declared.value_type.ValueType.{ValueType}
use Rattle.domain_types.specs.declared.value_type.ExpressionType.TheVariants.{Value}
use Rattle.domain_types.specs.Types.{fault_at, fault_if, of_typed, scalar_faults, store_faults, scalar_of, public_scalar}
use Rattle.domain_types.specs.Settings.{Setting, domain_of, in_domain, type_written}
use Rattle.domain_types.specs.Scopes.{Variable, Scope, inner, with_variable, variable_in, variable_named, is_among, twice_faults}
use Rattle.domain_types.specs.ExpressionTypes.{variable_type, variable_faults, index_faults, index_type, of_two, result_type, type_of, value_type, value_faults}
use Rattle.domain_types.specs.StatementTypes.{test_own, test_faults, domain_faults, is_argument, sized_faults, filled_faults, initial_faults}
use Rattle.domain_types.specs.StatementTypes.{declared_faults, declaration_faults, variable_declared, target_type, target_faults, assignment_faults}
use Rattle.domain_types.specs.StatementTypes.{start_faults, after_start, step_faults, is_step_typed, optional_faults, for_own, return_own, after}
use Rattle.domain_types.specs.StatementTypes.{statement_faults, block_faults}
use Rattle.domain_types.specs.Reached.{calls_of, optional_calls, declaration_calls, assignment_calls, start_calls, step_calls, statement_calls, block_calls}
use Rattle.domain_types.specs.Typing.{HasType, HasFitting, HasPublicScalar, IsInitial, IsDeclaration, IsElement, IsAssignment, IsStart, IsStep}
use Rattle.domain_types.specs.Typing.{IsOptionalCondition, IsReturn, IsTyped, AreTyped}
use Rattle.domain_types.proofs.TypingSteps.{there, mapped, some_fault, parts, joined, not_so, nothing_if, said, says_nothing}
use Rattle.domain_types.proofs.TypingRules.{no_store_fault, fits_into, no_scalar_fault, public_scalar_from, indexable, no_index_fault, index_typed}
use Rattle.domain_types.proofs.TypingExpressions.{Known, GiveTypes, earlier_calls, later_calls, has_type, value_typed, type_from, variable_there}
use Rattle.domain_types.proofs.TypingExpressions.{no_faults, no_value_faults, variable_held, typed, typed_value}

-- the result of the function is in a known domain
abbrev pub KnownResult : Setting → ResultType → Type 0
KnownResult w r = IsTrue (is_some (result_type w r))

-- WHERE A TYPE IS WANTED

test_typed : (w : Setting) (s : Scope) (problem : TypeProblem) (e : Tree) → Known s → GiveTypes w.declared (calls_of w s e)
    → test_faults w s problem e ≡ [] → HasPublicScalar w s e datatype.Bool
test_typed w s problem e k g h =
    let hs = parts (value_faults w s e) (test_own w s problem e) h in
    let x = typed_value w s e k g hs.0 in
    let own = said (value_type w s e) (scalar_faults datatype.Bool problem (place_of e)) x.0 (value_typed w s e x.0 x.1) hs.1 in
    subst (λ t. HasType w s e (Value t)) (public_scalar_from datatype.Bool problem (place_of e) x.0 own) x.1

no_test_own : (w : Setting) (s : Scope) (problem : TypeProblem) (e : Tree) → HasPublicScalar w s e datatype.Bool → test_own w s problem e ≡ []
no_test_own w s problem e h =
    says_nothing (value_type w s e) (scalar_faults datatype.Bool problem (place_of e)) (public_scalar datatype.Bool)
    (value_typed w s e (public_scalar datatype.Bool) h)
    (no_scalar_fault datatype.Bool problem (place_of e) (public_scalar datatype.Bool) refl)

no_test_faults : (w : Setting) (s : Scope) (problem : TypeProblem) (e : Tree) → HasPublicScalar w s e datatype.Bool → test_faults w s problem e ≡ []
no_test_faults w s problem e h =
    joined (value_faults w s e) (test_own w s problem e) (no_value_faults w s e (public_scalar datatype.Bool) h) (no_test_own w s problem e h)

fitting : (w : Setting) (s : Scope) (e : Tree) (t x : ValueType) → HasType w s e (Value x) → store_faults (place_of e) t x ≡ [] → HasFitting w s e t
fitting w s e t x h n = (x, h, fits_into (place_of e) t x n)

no_fitting_fault : (w : Setting) (s : Scope) (e : Tree) (t : ValueType) → HasFitting w s e t → of_typed (value_type w s e) (store_faults (place_of e) t) ≡ []
no_fitting_fault w s e t h =
    says_nothing (value_type w s e) (store_faults (place_of e) t) h.0 (value_typed w s e h.0 h.1) (no_store_fault (place_of e) t h.0 h.2)

-- WRITTEN TYPES

domain_known : (w : Setting) (d : Domain) → domain_faults w d ≡ [] → (p : Protection) × (domain_of w d ≡ Some p)
domain_known w domain.Public h = (Public, refl)
domain_known w (domain.Named x) h =
    there (domain_of w (domain.Named x))
    (not-false (is_some (domain_of w (domain.Named x))) (not_so (is_none (domain_of w (domain.Named x))) x.place UnknownName h))

no_domain_fault : (w : Setting) (d : Domain) (p : Protection) → domain_of w d ≡ Some p → domain_faults w d ≡ []
no_domain_fault w domain.Public p h = refl
no_domain_fault w (domain.Named x) p h = ap (λ o. fault_if (is_none o) x.place UnknownName) h

pub type_known : (w : Setting) (t : DeclaredType) → domain_faults w t.domain ≡ [] → (v : ValueType) × (type_written w t ≡ Some v)
type_known w t h = let d = domain_known w t.domain h in (in_domain t d.0, ap (option_map (in_domain t)) d.1)

pub no_type_fault : (w : Setting) (t : DeclaredType) (v : ValueType) → type_written w t ≡ Some v → domain_faults w t.domain ≡ []
no_type_fault w t v h = let m = mapped (in_domain t) (domain_of w t.domain) v h in no_domain_fault w t.domain m.0 m.1

pub known_with : (v : Variable) (s : Scope) → IsTrue (is_some v.held) → Known s → Known (with_variable v s)
known_with v s held k x u e = go (bytes_eq x v.name) e
  where
    go : (b : Bool) → (if b then Some v else variable_in x (s.block ++ s.outer)) ≡ Some u → IsTrue (is_some u.held)
    go true e = subst (λ z. IsTrue (is_some z.held)) (same_Some v u e) held
    go false e = k x u e

pub some_known : {A : Type 0} (o : Option A) (a : A) → o ≡ Some a → IsTrue (is_some o)
some_known o a e = ap is_some e

-- DECLARATIONS

size_typed : (w : Setting) (s : Scope) (t : ValueType) (n : Tree) (x : ValueType) → HasType w s n (Value x) → sized_faults (place_of n) t x ≡ []
    → (t.array ≡ true) × HasPublicScalar w s n datatype.Uint64
unfolding sized_faults
size_typed w s t n x h e =
    let hs = parts (fault_if (not t.array) (place_of n) TypeMismatch) (scalar_faults datatype.Uint64 PrivateSize (place_of n) x) e in (
      not-false t.array (not_so (not t.array) (place_of n) TypeMismatch hs.0),
      subst (λ u. HasType w s n (Value u)) (public_scalar_from datatype.Uint64 PrivateSize (place_of n) x hs.1) h,
    )

no_size_fault : (q : Span) (t : ValueType) → t.array ≡ true → sized_faults q t (public_scalar datatype.Uint64) ≡ []
unfolding sized_faults
no_size_fault q t a =
    joined (fault_if (not t.array) q TypeMismatch) (scalar_faults datatype.Uint64 PrivateSize q (public_scalar datatype.Uint64))
    (ap (λ b. fault_if (not b) q TypeMismatch) a)
    (no_scalar_fault datatype.Uint64 PrivateSize q (public_scalar datatype.Uint64) refl)

filled : (q p : Span) (t size value : ValueType) → filled_faults q p t size value ≡ []
    → (sized_faults q t size ≡ []) × (store_faults p (scalar_of t) value ≡ [])
unfolding filled_faults
filled q p t size value h = parts (sized_faults q t size) (store_faults p (scalar_of t) value) h

no_filled_fault : (q p : Span) (t size value : ValueType) → sized_faults q t size ≡ [] → store_faults p (scalar_of t) value ≡ []
    → filled_faults q p t size value ≡ []
unfolding filled_faults
no_filled_fault q p t size value h e = joined (sized_faults q t size) (store_faults p (scalar_of t) value) h e

initial_typed : (w : Setting) (s : Scope) (t : ValueType) (size value : Option Tree) → Known s
    → GiveTypes w.declared (optional_calls w s size ++ optional_calls w s value) → initial_faults w s size value ≡ []
    → declared_faults w s t size value ≡ [] → IsInitial w s t size value
initial_typed w s t None None k g h n = tt
initial_typed w s t None (Some e) k g h n = go (is_argument e) refl h
  where
    go : (b : Bool) → is_argument e ≡ b → (if b then [] else value_faults w s e) ≡ [] → IsInitial w s t None (Some e)
    go true a h = inl a
    go false a h =
        let x = typed_value w s e k g h in
        inr (fitting w s e t x.0 x.1 (said (value_type w s e) (store_faults (place_of e) t) x.0 (value_typed w s e x.0 x.1) n))
initial_typed w s t (Some n) None k g h own =
    let x = typed_value w s n k (earlier_calls w.declared (calls_of w s n) [] g) h in
    size_typed w s t n x.0 x.1 (said (value_type w s n) (sized_faults (place_of n) t) x.0 (value_typed w s n x.0 x.1) own)
initial_typed w s t (Some n) (Some e) k g h own =
    let hs = parts (value_faults w s n) (value_faults w s e) h in
    let x = typed_value w s n k (earlier_calls w.declared (calls_of w s n) (calls_of w s e) g) hs.0 in
    let y = typed_value w s e k (later_calls w.declared (calls_of w s n) (calls_of w s e) g) hs.1 in
    let both =
    filled (place_of n) (place_of e) t x.0 y.0
    (said (value_type w s e) (filled_faults (place_of n) (place_of e) t x.0) y.0 (value_typed w s e y.0 y.1)
    (said (value_type w s n) (λ z. of_typed (value_type w s e) (filled_faults (place_of n) (place_of e) t z)) x.0 (value_typed w s n x.0 x.1) own)) in
    let sized = size_typed w s t n x.0 x.1 both.0 in
    (sized.0, sized.1, fitting w s e (scalar_of t) y.0 y.1 both.1)

argument_untyped : (w : Setting) (s : Scope) (e : Tree) → is_argument e ≡ true → value_type w s e ≡ None
argument_untyped w s (argument p x) h = refl
argument_untyped w s (number p n) h = cc
argument_untyped w s (truth p b) h = cc
argument_untyped w s (variable p x) h = cc
argument_untyped w s (call p x es) h = cc
argument_untyped w s (index p a i) h = cc
argument_untyped w s (parentheses p e) h = cc
argument_untyped w s (negation p e) h = cc
argument_untyped w s (cast p t e) h = cc
argument_untyped w s (binary p op a b) h = cc
argument_untyped w s (declassify p e) h = cc
argument_untyped w s (publish p x e) h = cc

either_empty : (b : Bool) (fs : List TypeFault) → fs ≡ [] → (if b then [] else fs) ≡ []
either_empty true fs h = refl
either_empty false fs h = h

no_initial_faults : (w : Setting) (s : Scope) (t : ValueType) (size value : Option Tree) → IsInitial w s t size value
    → (initial_faults w s size value ≡ []) × (declared_faults w s t size value ≡ [])
no_initial_faults w s t None None h = (refl, refl)
no_initial_faults w s t None (Some e) (inl a) =
    (ap (λ b. if b then [] else value_faults w s e) a, ap (λ o. of_typed o (store_faults (place_of e) t)) (argument_untyped w s e a))
no_initial_faults w s t None (Some e) (inr h) =
    (either_empty (is_argument e) (value_faults w s e) (no_value_faults w s e h.0 h.1), no_fitting_fault w s e t h)
no_initial_faults w s t (Some n) None h = (
  no_value_faults w s n (public_scalar datatype.Uint64) h.1,
  says_nothing (value_type w s n) (sized_faults (place_of n) t) (public_scalar datatype.Uint64) (value_typed w s n (public_scalar datatype.Uint64) h.1)
      (no_size_fault (place_of n) t h.0),
)
no_initial_faults w s t (Some n) (Some e) h =
    let f = h.2 in (
      joined (value_faults w s n) (value_faults w s e) (no_value_faults w s n (public_scalar datatype.Uint64) h.1) (no_value_faults w s e f.0 f.1),
      says_nothing (value_type w s n) (λ z. of_typed (value_type w s e) (filled_faults (place_of n) (place_of e) t z)) (public_scalar datatype.Uint64)
          (value_typed w s n (public_scalar datatype.Uint64) h.1)
          (says_nothing (value_type w s e) (filled_faults (place_of n) (place_of e) t (public_scalar datatype.Uint64)) f.0 (value_typed w s e f.0 f.1)
          (no_filled_fault (place_of n) (place_of e) t (public_scalar datatype.Uint64) f.0 (no_size_fault (place_of n) t h.0)
          (no_store_fault (place_of e) (scalar_of t) f.0 f.2))),
    )

-- the parts of a declaration without a fault
record Declares (w : Setting) (s : Scope) (d : DeclarationTree) : Type 0 where
  held : ValueType
  written : type_written w d.declared ≡ Some held
  new : is_among d.variable.text s.block ≡ false
  initial : initial_faults w s d.size d.value ≡ []
  own : declared_faults w s held d.size d.value ≡ []

declares : (w : Setting) (s : Scope) (d : DeclarationTree) → declaration_faults w s d ≡ [] → Declares w s d
declares w s d h =
    let first = domain_faults w d.declared.domain in
    let second = twice_faults s d.variable in
    let third = initial_faults w s d.size d.value in
    let fourth = of_typed (type_written w d.declared) (λ t. declared_faults w s t d.size d.value) in
    let hs = parts (first ++ second ++ third) fourth h in
    let three = parts (first ++ second) third hs.0 in
    let two = parts first second three.0 in
    let v = type_known w d.declared two.0 in
    record {
      held = v.0;
      written = v.1;
      new = not_so (is_among d.variable.text s.block) d.variable.place Twice two.1;
      initial = three.1;
      own = said (type_written w d.declared) (λ t. declared_faults w s t d.size d.value) v.0 v.1 hs.1;
    }

is_declaration : (w : Setting) (s : Scope) (d : DeclarationTree) → Known s → GiveTypes w.declared (declaration_calls w s d)
    → declaration_faults w s d ≡ [] → IsDeclaration w s d
is_declaration w s d k g h =
    let c = declares w s d h in
    record { held = c.held; written = c.written; new = c.new; initial = initial_typed w s c.held d.size d.value k g c.initial c.own }

no_declaration_faults : (w : Setting) (s : Scope) (d : DeclarationTree) → IsDeclaration w s d → declaration_faults w s d ≡ []
no_declaration_faults w s d h =
    let first = domain_faults w d.declared.domain in
    let second = twice_faults s d.variable in
    let third = initial_faults w s d.size d.value in
    let fourth = of_typed (type_written w d.declared) (λ t. declared_faults w s t d.size d.value) in
    let i = no_initial_faults w s h.held d.size d.value h.initial in
    joined (first ++ second ++ third) fourth
    (joined (first ++ second) third
    (joined first second (no_type_fault w d.declared h.held h.written) (nothing_if (is_among d.variable.text s.block) d.variable.place Twice h.new))
    i.0)
    (says_nothing (type_written w d.declared) (λ t. declared_faults w s t d.size d.value) h.held h.written i.1)

known_behind : (w : Setting) (s : Scope) (d : DeclarationTree) → Known s → declaration_faults w s d ≡ [] → Known (with_variable (variable_declared w d) s)
known_behind w s d k h =
    let c = declares w s d h in known_with (variable_declared w d) s (some_known (type_written w d.declared) c.held c.written) k

-- ASSIGNMENTS

abbrev target : Identifier → Option Tree → TargetTree
target x i = record { variable = x; index = i }

-- what is assigned to, where it has no fault
record Targets (w : Setting) (s : Scope) (x : Identifier) (i : Option Tree) : Type 0 where
  held : ValueType
  wanted : ValueType
  known : variable_type (variable_named s x.text) ≡ Some held
  element : IsElement w s held i wanted
  gives : target_type w s (target x i) ≡ Some wanted

targets : (w : Setting) (s : Scope) (x : Identifier) (i : Option Tree) → Known s → GiveTypes w.declared (optional_calls w s i)
    → target_faults w s (target x i) ≡ [] → Targets w s x i
targets w s x None k g h =
    let hs = parts (variable_faults x.place (variable_named s x.text)) [] h in
    let v = variable_held s x.text x.place k hs.0 in record { held = v.0; wanted = v.0; known = v.1; element = refl; gives = v.1 }
targets w s x (Some i) k g h =
    let named = variable_named s x.text in
    let own = of_typed (variable_type named) (λ a. of_typed (value_type w s i) (index_faults x.place (place_of i) a)) in
    let hs = parts (variable_faults x.place named) (value_faults w s i ++ own) h in
    let is = parts (value_faults w s i) own hs.1 in
    let v = variable_held s x.text x.place k hs.0 in
    let y = typed_value w s i k g is.0 in
    let r =
    indexable x.place (place_of i) v.0 y.0
    (said (value_type w s i) (index_faults x.place (place_of i) v.0) y.0 (value_typed w s i y.0 y.1)
    (said (variable_type named) (λ a. of_typed (value_type w s i) (index_faults x.place (place_of i) a)) v.0 v.1 is.1)) in
    record {
      held = v.0;
      wanted = scalar_of v.0;
      known = v.1;
      element = (r.0, subst (λ u. HasType w s i (Value u)) r.1 y.1, refl);
      gives =
          ap₂ (of_two (index_type x.place (place_of i))) v.1 (value_typed w s i y.0 y.1)
          ∙ index_typed x.place (place_of i) v.0 y.0 (no_index_fault x.place (place_of i) v.0 y.0 r.0 r.1);
    }

target_from : (w : Setting) (s : Scope) (x : Identifier) (i : Option Tree) (held wanted : ValueType)
    → variable_type (variable_named s x.text) ≡ Some held → IsElement w s held i wanted
    → (target_faults w s (target x i) ≡ []) × (target_type w s (target x i) ≡ Some wanted)
target_from w s x None held wanted v h =
    (joined (variable_faults x.place (variable_named s x.text)) [] (variable_there x.place (variable_named s x.text) held v) refl, v ∙ ap Some (sym h))
target_from w s x (Some i) held wanted v h =
    let named = variable_named s x.text in
    let word = public_scalar datatype.Uint64 in
    let own = of_typed (variable_type named) (λ a. of_typed (value_type w s i) (index_faults x.place (place_of i) a)) in
    let n = no_index_fault x.place (place_of i) held word h.0 refl in (
      joined (variable_faults x.place named) (value_faults w s i ++ own) (variable_there x.place named held v)
          (joined (value_faults w s i) own (no_value_faults w s i word h.1)
          (says_nothing (variable_type named) (λ a. of_typed (value_type w s i) (index_faults x.place (place_of i) a)) held v
          (says_nothing (value_type w s i) (index_faults x.place (place_of i) held) word (value_typed w s i word h.1) n))),
      ap₂ (of_two (index_type x.place (place_of i))) v (value_typed w s i word h.1)
          ∙ index_typed x.place (place_of i) held word n
          ∙ ap Some (sym h.2),
    )

is_assignment : (w : Setting) (s : Scope) (a : AssignmentTree) → Known s → GiveTypes w.declared (assignment_calls w s a)
    → assignment_faults w s a ≡ [] → IsAssignment w s a
is_assignment w s a k g h =
    let own = of_typed (target_type w s a.target) (λ t. of_typed (value_type w s a.value) (store_faults (place_of a.value) t)) in
    let hs = parts (target_faults w s a.target ++ value_faults w s a.value) own h in
    let two = parts (target_faults w s a.target) (value_faults w s a.value) hs.0 in
    let c = optional_calls w s a.target.index in
    let t = targets w s a.target.variable a.target.index k (earlier_calls w.declared c (calls_of w s a.value) g) two.0 in
    let x = typed_value w s a.value k (later_calls w.declared c (calls_of w s a.value) g) two.1 in
    let stored =
    said (value_type w s a.value) (store_faults (place_of a.value) t.wanted) x.0 (value_typed w s a.value x.0 x.1)
    (said (target_type w s a.target) (λ z. of_typed (value_type w s a.value) (store_faults (place_of a.value) z)) t.wanted t.gives hs.1) in
    record { held = t.held; wanted = t.wanted; known = t.known; target = t.element; value = fitting w s a.value t.wanted x.0 x.1 stored }

no_assignment_faults : (w : Setting) (s : Scope) (a : AssignmentTree) → IsAssignment w s a → assignment_faults w s a ≡ []
no_assignment_faults w s a h =
    let own = of_typed (target_type w s a.target) (λ t. of_typed (value_type w s a.value) (store_faults (place_of a.value) t)) in
    let t = target_from w s a.target.variable a.target.index h.held h.wanted h.known h.target in
    let v = h.value in
    joined (target_faults w s a.target ++ value_faults w s a.value) own
    (joined (target_faults w s a.target) (value_faults w s a.value) t.0 (no_value_faults w s a.value v.0 v.1))
    (says_nothing (target_type w s a.target) (λ z. of_typed (value_type w s a.value) (store_faults (place_of a.value) z)) h.wanted t.1
    (no_fitting_fault w s a.value h.wanted v))

-- THE PARTS OF A `for`

is_start : (w : Setting) (s : Scope) (a : StartTree) → Known s → GiveTypes w.declared (start_calls w s a) → start_faults w s a ≡ [] → IsStart w s a
is_start w s starts_with_nothing k g h = tt
is_start w s (starts_with_declaration d) k g h = is_declaration w s d k g h
is_start w s (starts_with_assignment a) k g h = is_assignment w s a k g h

no_start_faults : (w : Setting) (s : Scope) (a : StartTree) → IsStart w s a → start_faults w s a ≡ []
no_start_faults w s starts_with_nothing h = refl
no_start_faults w s (starts_with_declaration d) h = no_declaration_faults w s d h
no_start_faults w s (starts_with_assignment a) h = no_assignment_faults w s a h

known_behind_start : (w : Setting) (s : Scope) (a : StartTree) → Known s → start_faults w s a ≡ [] → Known (after_start w s a)
known_behind_start w s starts_with_nothing k h = k
known_behind_start w s (starts_with_declaration d) k h = known_behind w s d k h
known_behind_start w s (starts_with_assignment a) k h = k

is_step : (w : Setting) (s : Scope) (b : StepTree) → Known s → GiveTypes w.declared (step_calls w s b) → step_faults w s b ≡ [] → IsStep w s b
is_step w s steps_by_nothing k g h = tt
is_step w s (steps_by_assignment a) k g h = is_assignment w s a k g h
is_step w s (steps_by_expression e) k g h = let t = typed w s e k g h in (t.0, has_type w s e t.0 t.1)

no_step_faults : (w : Setting) (s : Scope) (b : StepTree) → IsStep w s b → step_faults w s b ≡ []
no_step_faults w s steps_by_nothing h = refl
no_step_faults w s (steps_by_assignment a) h = no_assignment_faults w s a h
no_step_faults w s (steps_by_expression e) h = no_faults w s e h.0 h.1

step_typed : (w : Setting) (s : Scope) (b : StepTree) → IsStep w s b → is_step_typed w s b ≡ true
step_typed w s steps_by_nothing h = refl
step_typed w s (steps_by_assignment a) h = refl
step_typed w s (steps_by_expression e) h = some_known (type_of w s e) h.0 (type_from w s e h.0 h.1)

condition_typed : (w : Setting) (s : Scope) (e : Option Tree) (b : Bool) → Known s → GiveTypes w.declared (optional_calls w s e) → b ≡ true
    → optional_faults w s e ≡ [] → for_own w s e b ≡ [] → IsOptionalCondition w s e
condition_typed w s None b k g t h own = tt
condition_typed w s (Some e) b k g t h own =
    test_typed w s PrivateCondition e k g
    (joined (value_faults w s e) (test_own w s PrivateCondition e) h (sym (ap (for_own w s (Some e)) t) ∙ own))

no_condition_faults : (w : Setting) (s : Scope) (e : Option Tree) (b : Bool) → IsOptionalCondition w s e → (optional_faults w s e ≡ []) × (for_own w s e b ≡ [])
no_condition_faults w s None b h = (refl, refl)
no_condition_faults w s (Some e) false h = (no_value_faults w s e (public_scalar datatype.Bool) h, refl)
no_condition_faults w s (Some e) true h = (no_value_faults w s e (public_scalar datatype.Bool) h, no_test_own w s PrivateCondition e h)

-- RETURNS

is_return : (w : Setting) (s : Scope) (p : Span) (r : ResultType) (e : Option Tree) → Known s → KnownResult w r
    → GiveTypes w.declared (optional_calls w s e) → optional_faults w s e ++ return_own w s p r e ≡ [] → IsReturn w r s e
is_return w s p returned.Void None k known g h = tt
is_return w s p returned.Void (Some e) k known g h =
    let own = of_typed (value_type w s e) (λ t. fault_at p TypeMismatch) in
    let hs = parts (value_faults w s e) own h in
    let x = typed_value w s e k g hs.0 in
    some_fault (record { place = p; problem = TypeMismatch }) []
    (said (value_type w s e) (λ t. fault_at p TypeMismatch) x.0 (value_typed w s e x.0 x.1) hs.1)
is_return w s p (returned.Value t) None k known g h = some_fault (record { place = p; problem = TypeMismatch }) [] h
is_return w s p (returned.Value t) (Some e) k known g h =
    let own = of_typed (type_written w t) (λ wanted. of_typed (value_type w s e) (store_faults (place_of e) wanted)) in
    let hs = parts (value_faults w s e) own h in
    let x = typed_value w s e k g hs.0 in
    let r = there (result_type w (returned.Value t)) known in
    let v = mapped Value (type_written w t) r.0 r.1 in
    let stored =
    said (value_type w s e) (store_faults (place_of e) v.0) x.0 (value_typed w s e x.0 x.1)
    (said (type_written w t) (λ wanted. of_typed (value_type w s e) (store_faults (place_of e) wanted)) v.0 v.1 hs.1) in
    (v.0, v.1, fitting w s e v.0 x.0 x.1 stored)

no_return_faults : (w : Setting) (s : Scope) (p : Span) (r : ResultType) (e : Option Tree) → IsReturn w r s e
    → optional_faults w s e ++ return_own w s p r e ≡ []
no_return_faults w s p returned.Void None h = refl
no_return_faults w s p returned.Void (Some e) h = absurd h
no_return_faults w s p (returned.Value t) None h = absurd h
no_return_faults w s p (returned.Value t) (Some e) h =
    let f = h.2 in
    joined (value_faults w s e) (of_typed (type_written w t) (λ wanted. of_typed (value_type w s e) (store_faults (place_of e) wanted)))
    (no_value_faults w s e f.0 f.1)
    (says_nothing (type_written w t) (λ wanted. of_typed (value_type w s e) (store_faults (place_of e) wanted)) h.0 h.1 (no_fitting_fault w s e h.0 f))

-- STATEMENTS

-- the variables after a statement without a fault have types
pub known_after : (w : Setting) (r : ResultType) (s : Scope) (t : StatementTree) → Known s → statement_faults w r s t ≡ [] → Known (after w s t)
known_after w r s (declaration d) k h = known_behind w s d k h
known_after w r s (block p ss) k h = k
known_after w r s (empty p) k h = k
known_after w r s (branch p e body) k h = k
known_after w r s (choice p e body otherwise) k h = k
known_after w r s (while_loop p e body) k h = k
known_after w r s (do_loop p body e) k h = k
known_after w r s (for_loop p start e step body) k h = k
known_after w r s (breaks p) k h = k
known_after w r s (continues p) k h = k
known_after w r s (returns p e) k h = k
known_after w r s (assertion p e) k h = k
known_after w r s (assignment a) k h = k
known_after w r s (evaluation e) k h = k

mutual
  pub is_typed : (w : Setting) (r : ResultType) (s : Scope) (t : StatementTree) → Known s → KnownResult w r
      → GiveTypes w.declared (statement_calls w s t) → statement_faults w r s t ≡ [] → IsTyped w r s t
  is_typed w r s (block p ss) k known g h = are_typed w r (inner s) ss k known g h
  is_typed w r s (empty p) k known g h = tt
  is_typed w r s (branch p e body) k known g h =
      let hs = parts (test_faults w s PrivateCondition e) (statement_faults w r (inner s) body) h in
      let c = calls_of w s e in
      let d = statement_calls w (inner s) body in (
        test_typed w s PrivateCondition e k (earlier_calls w.declared c d g) hs.0,
        is_typed w r (inner s) body k known (later_calls w.declared c d g) hs.1,
      )
  is_typed w r s (choice p e body otherwise) k known g h =
      let first = test_faults w s PrivateCondition e in
      let hs = parts (first ++ statement_faults w r (inner s) body) (statement_faults w r (inner s) otherwise) h in
      let two = parts first (statement_faults w r (inner s) body) hs.0 in
      let c = calls_of w s e in
      let d = statement_calls w (inner s) body in
      let o = statement_calls w (inner s) otherwise in
      let early = earlier_calls w.declared (c ++ d) o g in (
        test_typed w s PrivateCondition e k (earlier_calls w.declared c d early) two.0,
        is_typed w r (inner s) body k known (later_calls w.declared c d early) two.1,
        is_typed w r (inner s) otherwise k known (later_calls w.declared (c ++ d) o g) hs.1,
      )
  is_typed w r s (while_loop p e body) k known g h =
      let hs = parts (test_faults w s PrivateCondition e) (statement_faults w r (inner s) body) h in
      let c = calls_of w s e in
      let d = statement_calls w (inner s) body in (
        test_typed w s PrivateCondition e k (earlier_calls w.declared c d g) hs.0,
        is_typed w r (inner s) body k known (later_calls w.declared c d g) hs.1,
      )
  is_typed w r s (do_loop p body e) k known g h =
      let hs = parts (statement_faults w r (inner s) body) (test_faults w s PrivateCondition e) h in
      let c = calls_of w s e in
      let d = statement_calls w (inner s) body in (
        is_typed w r (inner s) body k known (earlier_calls w.declared d c g) hs.0,
        test_typed w s PrivateCondition e k (later_calls w.declared d c g) hs.1,
      )
  is_typed w r s (for_loop p start e step body) k known g h =
      let behind = after_start w (inner s) start in
      let f1 = start_faults w (inner s) start in
      let f2 = optional_faults w behind e in
      let f3 = step_faults w behind step in
      let f4 = for_own w behind e (is_step_typed w behind step) in
      let hs = parts (f1 ++ f2 ++ f3 ++ f4) (statement_faults w r (inner behind) body) h in
      let four = parts (f1 ++ f2 ++ f3) f4 hs.0 in
      let three = parts (f1 ++ f2) f3 four.0 in
      let two = parts f1 f2 three.0 in
      let c1 = start_calls w (inner s) start in
      let c2 = optional_calls w behind e in
      let c3 = step_calls w behind step in
      let c4 = statement_calls w (inner behind) body in
      let g3 = earlier_calls w.declared (c1 ++ c2 ++ c3) c4 g in
      let g2 = earlier_calls w.declared (c1 ++ c2) c3 g3 in
      let known_behind_it = known_behind_start w (inner s) start k two.0 in
      let stepped = is_step w behind step known_behind_it (later_calls w.declared (c1 ++ c2) c3 g3) three.1 in (
        is_start w (inner s) start k (earlier_calls w.declared c1 c2 g2) two.0,
        condition_typed w behind e (is_step_typed w behind step) known_behind_it (later_calls w.declared c1 c2 g2)
            (step_typed w behind step stepped) two.1 four.1,
        stepped,
        is_typed w r (inner behind) body known_behind_it known (later_calls w.declared (c1 ++ c2 ++ c3) c4 g) hs.1,
      )
  is_typed w r s (breaks p) k known g h = tt
  is_typed w r s (continues p) k known g h = tt
  is_typed w r s (returns p e) k known g h = is_return w s p r e k known g h
  is_typed w r s (assertion p e) k known g h = test_typed w s PrivateAssert e k g h
  is_typed w r s (declaration d) k known g h = is_declaration w s d k g h
  is_typed w r s (assignment a) k known g h = is_assignment w s a k g h
  is_typed w r s (evaluation e) k known g h = let t = typed w s e k g h in (t.0, has_type w s e t.0 t.1)

  pub are_typed : (w : Setting) (r : ResultType) (s : Scope) (ts : StatementTrees) → Known s → KnownResult w r
      → GiveTypes w.declared (block_calls w s ts) → block_faults w r s ts ≡ [] → AreTyped w r s ts
  are_typed w r s none k known g h = tt
  are_typed w r s (also t ts) k known g h =
      let hs = parts (statement_faults w r s t) (block_faults w r (after w s t) ts) h in
      let c = statement_calls w s t in
      let d = block_calls w (after w s t) ts in (
        is_typed w r s t k known (earlier_calls w.declared c d g) hs.0,
        are_typed w r (after w s t) ts (known_after w r s t k hs.0) known (later_calls w.declared c d g) hs.1,
      )

mutual
  pub no_statement_faults : (w : Setting) (r : ResultType) (s : Scope) (t : StatementTree) → IsTyped w r s t → statement_faults w r s t ≡ []
  no_statement_faults w r s (block p ss) h = no_block_faults w r (inner s) ss h
  no_statement_faults w r s (empty p) h = refl
  no_statement_faults w r s (branch p e body) h =
      joined (test_faults w s PrivateCondition e) (statement_faults w r (inner s) body)
      (no_test_faults w s PrivateCondition e h.0) (no_statement_faults w r (inner s) body h.1)
  no_statement_faults w r s (choice p e body otherwise) h =
      joined (test_faults w s PrivateCondition e ++ statement_faults w r (inner s) body) (statement_faults w r (inner s) otherwise)
      (joined (test_faults w s PrivateCondition e) (statement_faults w r (inner s) body)
      (no_test_faults w s PrivateCondition e h.0) (no_statement_faults w r (inner s) body h.1))
      (no_statement_faults w r (inner s) otherwise h.2)
  no_statement_faults w r s (while_loop p e body) h =
      joined (test_faults w s PrivateCondition e) (statement_faults w r (inner s) body)
      (no_test_faults w s PrivateCondition e h.0) (no_statement_faults w r (inner s) body h.1)
  no_statement_faults w r s (do_loop p body e) h =
      joined (statement_faults w r (inner s) body) (test_faults w s PrivateCondition e)
      (no_statement_faults w r (inner s) body h.0) (no_test_faults w s PrivateCondition e h.1)
  no_statement_faults w r s (for_loop p start e step body) h =
      let behind = after_start w (inner s) start in
      let f1 = start_faults w (inner s) start in
      let f2 = optional_faults w behind e in
      let f3 = step_faults w behind step in
      let f4 = for_own w behind e (is_step_typed w behind step) in
      let condition = no_condition_faults w behind e (is_step_typed w behind step) h.1 in
      joined (f1 ++ f2 ++ f3 ++ f4) (statement_faults w r (inner behind) body)
      (joined (f1 ++ f2 ++ f3) f4
      (joined (f1 ++ f2) f3
      (joined f1 f2 (no_start_faults w (inner s) start h.0) condition.0)
      (no_step_faults w behind step h.2))
      condition.1)
      (no_statement_faults w r (inner behind) body h.3)
  no_statement_faults w r s (breaks p) h = refl
  no_statement_faults w r s (continues p) h = refl
  no_statement_faults w r s (returns p e) h = no_return_faults w s p r e h
  no_statement_faults w r s (assertion p e) h = no_test_faults w s PrivateAssert e h
  no_statement_faults w r s (declaration d) h = no_declaration_faults w s d h
  no_statement_faults w r s (assignment a) h = no_assignment_faults w s a h
  no_statement_faults w r s (evaluation e) h = no_faults w s e h.0 h.1

  pub no_block_faults : (w : Setting) (r : ResultType) (s : Scope) (ts : StatementTrees) → AreTyped w r s ts → block_faults w r s ts ≡ []
  no_block_faults w r s none h = refl
  no_block_faults w r s (also t ts) h =
      joined (statement_faults w r s t) (block_faults w r (after w s t) ts)
      (no_statement_faults w r s t h.0) (no_block_faults w r (after w s t) ts h.1)

-- where the variables, the result and the called functions have types, a statement is typed exactly where it has no fault
pub typed_statement_exactly : (w : Setting) (r : ResultType) (s : Scope) (t : StatementTree) → Known s → KnownResult w r
    → GiveTypes w.declared (statement_calls w s t) → IsTyped w r s t ↔ (statement_faults w r s t ≡ [])
typed_statement_exactly w r s t k known g = (no_statement_faults w r s t, is_typed w r s t k known g)

pub typed_block_exactly : (w : Setting) (r : ResultType) (s : Scope) (ts : StatementTrees) → Known s → KnownResult w r
    → GiveTypes w.declared (block_calls w s ts) → AreTyped w r s ts ↔ (block_faults w r s ts ≡ [])
typed_block_exactly w r s ts k known g = (no_block_faults w r s ts, are_typed w r s ts k known g)
