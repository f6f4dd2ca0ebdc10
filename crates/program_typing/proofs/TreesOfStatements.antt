-- A statement that is typed has a typed tree: a step from a place where the same variables are known to another such place.
use Rattle.std.proofs.Common.{◌≡◌, ℕ, List, [], ◌∷◌, ◌++◌, ◌⊎◌, inl, inr, length, refl, ap, ◌∙◌, Option, Some, None, true}
use Rattle.std.specs.Prelude.{option_map, IsTrue}
use Rattle.program_trees.specs.declared.expression.DataType.{DataType}
use Rattle.program_trees.specs.declared.expression.DataType.TheVariants.{Uint64}
use Rattle.program_trees.specs.declared.expression.DataType.TheVariants as datatype
use Rattle.program_trees.specs.declared.statement.Identifier.{Identifier}
use Rattle.program_trees.specs.declared.statement.DeclaredType.{DeclaredType}
use Rattle.program_trees.specs.declared.function.DomainVariable.{DomainVariable}
use Rattle.program_trees.specs.declared.function.ResultType.{ResultType}
use Rattle.program_trees.specs.declared.function.ResultType.TheVariants as result
use Rattle.program_trees.specs.Tree.{Tree, number, truth, variable, call, index, parentheses, negation, cast, binary, declassify, argument, publish}
use Rattle.program_trees.specs.Statements.{DeclarationTree, TargetTree, AssignmentTree, StartTree, starts_with_nothing, starts_with_declaration}
use Rattle.program_trees.specs.Statements.{starts_with_assignment, StepTree, steps_by_nothing, steps_by_assignment, steps_by_expression, StatementTree}
use Rattle.program_trees.specs.Statements.{block, empty, branch, choice, while_loop, do_loop, for_loop, breaks, continues, returns, assertion}
use Rattle.program_trees.specs.Statements.{declaration, assignment, evaluation, StatementTrees}
use Rattle.program_trees.specs.Statements as Statements'
use Rattle.domain_types.specs.declared.value_type.ValueType.{ValueType}
use Rattle.domain_types.specs.declared.value_type.ExpressionType.{ExpressionType}
use Rattle.domain_types.specs.declared.value_type.ExpressionType.TheVariants.{Value}
use Rattle.domain_types.specs.Types.{scalar_of, public_scalar}
use Rattle.domain_types.specs.Declarations.{Declared}
use Rattle.domain_types.specs.Settings.{Setting, in_domain, domain_of, type_written}
use Rattle.domain_types.specs.Scopes as checked
use Rattle.domain_types.specs.ExpressionTypes.{cast_type, declassified}
use Rattle.domain_types.specs.StatementTypes.{is_argument, variable_declared, after, after_all, after_start}
use Rattle.domain_types.specs.Typing.{HasType, HasFitting, HasPublicScalar, IsInitial, IsDeclaration, IsElement, IsAssignment, IsStart, IsStep}
use Rattle.domain_types.specs.Typing.{IsOptionalCondition, IsReturn, IsTyped, AreTyped}
use Rattle.program_trees.specs.declared.kinds.Slot.{Slot}
use Rattle.program_trees.specs.TypedTree.{TypedTree, truth_node}
use Rattle.program_trees.specs.TypedStatements.{TypedStatementTree, none, also, empty_statement, block_statement, if_statement, loop_statement, do_statement}
use Rattle.program_trees.specs.TypedStatements.{break_statement, continue_statement, return_statement, assert_statement, store_statement, default_statement}
use Rattle.program_trees.specs.TypedStatements.{fill_statement, input_statement, element_statement, publish_statement, evaluate_statement}
use Rattle.name_resolution.specs.Scopes.{FunctionScope, known_of, declaring, entering, behind_block}
use Rattle.name_resolution.specs.Functions.{slot_written}
use Rattle.name_resolution.specs.Values.{TypedCall, tree_of_value}
use Rattle.name_resolution.specs.Resolving.{Resolving, carry, ◌>>=◌, done, reading, next_slot, declare, closed, in_block, resolved_value}
use Rattle.name_resolution.specs.Resolving.{expression, known_at, named}
use Rattle.name_resolution.specs.Bodies.{calling, evaluated, default_of, from_value, initial, declared, assigned_to, assigned, started}
use Rattle.name_resolution.specs.Bodies.{stepped, condition_of, returned, looped, resolved, resolved_all}
use Rattle.name_resolution.proofs.SoundValues.{mapped}
use Rattle.program_typing.proofs.TreesOfValues.{SameVariable, Same, same_append, names_same, Agree, agree_left, agree_right, names_in, value_makes, call_makes}

-- THE NAMES THAT ARE CALLED, IN THE ORDER OF THE TEXT

abbrev pub names_in_optional : Option Tree → List (List ℕ)
names_in_optional None = []
names_in_optional (Some e) = names_in e

abbrev pub names_in_declaration : DeclarationTree → List (List ℕ)
names_in_declaration t = names_in_optional t.size ++ names_in_optional t.value

abbrev pub names_in_assignment : AssignmentTree → List (List ℕ)
names_in_assignment a = names_in_optional a.target.index ++ names_in a.value

abbrev pub names_in_start : StartTree → List (List ℕ)
names_in_start starts_with_nothing = []
names_in_start (starts_with_declaration t) = names_in_declaration t
names_in_start (starts_with_assignment a) = names_in_assignment a

abbrev pub names_in_step : StepTree → List (List ℕ)
names_in_step steps_by_nothing = []
names_in_step (steps_by_assignment a) = names_in_assignment a
names_in_step (steps_by_expression e) = names_in e

abbrev mutual
  pub names_by : StatementTree → List (List ℕ)
  names_by (block p ss) = names_by_all ss
  names_by (empty p) = []
  names_by (branch p e body) = names_in e ++ names_by body
  names_by (choice p e body otherwise) = names_in e ++ (names_by body ++ names_by otherwise)
  names_by (while_loop p e body) = names_in e ++ names_by body
  names_by (do_loop p body e) = names_by body ++ names_in e
  names_by (for_loop p start e step body) = names_in_start start ++ (names_in_optional e ++ (names_in_step step ++ names_by body))
  names_by (breaks p) = []
  names_by (continues p) = []
  names_by (returns p e) = names_in_optional e
  names_by (assertion p e) = names_in e
  names_by (declaration t) = names_in_declaration t
  names_by (assignment a) = names_in_assignment a
  names_by (evaluation e) = names_in e

  pub names_by_all : StatementTrees → List (List ℕ)
  names_by_all Statements'.none = []
  names_by_all (Statements'.also t ts) = names_by t ++ names_by_all ts

-- STEPS

-- a type whose domain is known
abbrev pub IsWritten : Declared → List DomainVariable → DeclaredType → Type 0
IsWritten k vs t = (u : Slot) × (slot_written k vs t ≡ Some u)

abbrev pub AreWritten : Declared → List DomainVariable → List DeclaredType → Type 0
AreWritten k vs [] = Unit {0}
AreWritten k vs (t ∷ ts) = IsWritten k vs t × AreWritten k vs ts

written_append : (k : Declared) (vs : List DomainVariable) (ts us : List DeclaredType) → AreWritten k vs ts → AreWritten k vs us → AreWritten k vs (ts ++ us)
written_append k vs [] us a b = b
written_append k vs (t ∷ ts) us a b = (a.0, written_append k vs ts us a.1 b)

-- a function: how the checker sees it, and what is known where its typed tree is made
pub record Frame : Type 0 where
  pub setting : Setting
  pub known : Declared
  pub variables : List DomainVariable
  pub written : (t : DeclaredType) (v : ValueType) → type_written setting t ≡ Some v → IsWritten known variables t

abbrev pub Agreed : Frame → List (List ℕ) → Type 0
Agreed z xs = Agree z.setting.declared z.known xs

left_of : (z : Frame) (xs ys : List (List ℕ)) → Agreed z (xs ++ ys) → Agreed z xs
left_of z xs ys a = agree_left z.setting.declared z.known xs ys a

right_of : (z : Frame) (xs ys : List (List ℕ)) → Agreed z (xs ++ ys) → Agreed z ys
right_of z xs ys a = agree_right z.setting.declared z.known xs ys a

-- a place where these variables are known, and the domains of all slots
pub record Fits (z : Frame) (s : checked.Scope) (p : FunctionScope) : Type 0 where
  pub same : Same s p.scope
  pub slots : AreWritten z.known z.variables p.slots

pub record Reaches {A : Type 0} (z : Frame) (m : Resolving A) (s : checked.Scope) (p : FunctionScope) : Type 0 where
  pub made : A
  pub place : FunctionScope
  pub there : m p ≡ Some (made, place)
  pub fits : Fits z s place

-- a step from each place where the one scope is known to a place where the other is
pub record Goes {A : Type 0} (z : Frame) (m : Resolving A) (s t : checked.Scope) : Type 0 where
  pub from : (p : FunctionScope) → Fits z s p → Reaches z m t p

goes_done : {A : Type 0} (z : Frame) (a : A) (s : checked.Scope) → Goes z (done a) s s
goes_done z a s = record { from = λ p f. record { made = a; place = p; there = refl; fits = f } }

goes_bind : {A B : Type 0} (z : Frame) (m : Resolving A) (g : A → Resolving B) (s t u : checked.Scope) → Goes z m s t → ((a : A) → Goes z (g a) t u)
    → Goes z (m >>= g) s u
goes_bind z m g s t u first then =
    record {
      from = λ p f.
          let one = first.from p f in
          let two = (then one.made).from one.place one.fits in
          record { made = two.made; place = two.place; there = ap (λ o. carry o g) one.there ∙ two.there; fits = two.fits };
    }

abbrev pair_at : {A : Type 0} → FunctionScope → A → A × FunctionScope
pair_at p a = (a, p)

goes_reading : {A : Type 0} (z : Frame) (r : FunctionScope → Option A) (s : checked.Scope)
    → ((p : FunctionScope) → Fits z s p → (a : A) × (r p ≡ Some a)) → Goes z (reading r) s s
goes_reading z r s h =
    record { from = λ p f. let one = h p f in record { made = one.0; place = p; there = ap (option_map (pair_at p)) one.1; fits = f } }

goes_block : {A : Type 0} (z : Frame) (m : Resolving A) (s t : checked.Scope) → Goes z m (checked.inner s) t → Goes z (in_block m) s s
goes_block z m s t h =
    record {
      from = λ p f.
          let inside : Fits z (checked.inner s) (entering p) =
          record {
            same = record { block = tt; outer = same_append s.block s.outer p.scope.block p.scope.outer f.same.block f.same.outer };
            slots = f.slots;
          } in
          let one = h.from (entering p) inside in
          record {
            made = one.made;
            place = behind_block p one.place;
            there = ap (closed p) one.there;
            fits =
                record { same = f.same; slots = one.fits.slots };
          };
    }

-- a variable takes the shape that is written
pub fits_declaring : (z : Frame) (x : Identifier) (t : DeclaredType) (s : checked.Scope) (p : FunctionScope) → IsWritten z.known z.variables t
    → Fits z s p → Fits z (checked.with_variable (record { name = x.text; held = type_written z.setting t }) s) (declaring x t p)
fits_declaring z x t s p h f =
    record {
      same = record { block = (here, f.same.block); outer = f.same.outer };
      slots = written_append z.known z.variables p.slots (t ∷ []) f.slots (h, tt);
    }
  where
    here : SameVariable (record { name = x.text; held = type_written z.setting t })
        (record { name = x.text; known = record { slot = length p.slots; shape = record { element = t.element; array = t.array } } })
    here = record {
      name = refl;
      element = λ v e. let m = mapped (in_domain t) (domain_of z.setting t.domain) v e in ap (λ y. y.element) m.is;
      array = λ v e. let m = mapped (in_domain t) (domain_of z.setting t.domain) v e in ap (λ y. y.array) m.is;
    }

goes_declare : (z : Frame) (x : Identifier) (t : DeclaredType) (s : checked.Scope) → IsWritten z.known z.variables t
    → Goes z (declare x t) s (checked.with_variable (record { name = x.text; held = type_written z.setting t }) s)
goes_declare z x t s h = record { from = λ p f. record { made = tt; place = declaring x t p; there = refl; fits = fits_declaring z x t s p h f } }

goes_next : (z : Frame) (s : checked.Scope) → Goes z next_slot s s
goes_next z s = record { from = λ p f. record { made = length p.slots; place = p; there = refl; fits = f } }

-- EXPRESSIONS

goes_value : (z : Frame) (s : checked.Scope) (e : Tree) (v : ValueType) → Agreed z (names_in e) → HasType z.setting s e (Value v)
    → Goes z (expression z.known e) s s
goes_value z s e v a h =
    goes_reading z (resolved_value z.known e) s (λ p f. let m = value_makes z.setting z.known s p.scope f.same e v a h in
    (m.value.tree, ap (option_map tree_of_value) m.there))

goes_one : (z : Frame) (s : checked.Scope) (e : Tree) (v : ValueType) (make : TypedTree → TypedStatementTree) → Agreed z (names_in e)
    → HasType z.setting s e (Value v) → Goes z (expression z.known e >>= λ x. done (make x)) s s
goes_one z s e v make a h = goes_bind z (expression z.known e) (λ x. done (make x)) s s s (goes_value z s e v a h) (λ x. goes_done z (make x) s)

goes_evaluated : (z : Frame) (s : checked.Scope) (e : Tree) (t : ExpressionType) → Agreed z (names_in e) → HasType z.setting s e t
    → Goes z (evaluated z.known e) s s
goes_evaluated z s (number p n) t a h = goes_one z s (number p n) (public_scalar Uint64) evaluate_statement a refl
goes_evaluated z s (truth p b) t a h = goes_one z s (truth p b) (public_scalar datatype.Bool) evaluate_statement a refl
goes_evaluated z s (variable p x) t a h = goes_one z s (variable p x) h.0 evaluate_statement a (h.0, h.1, refl)
goes_evaluated z s (call p x es) t a h =
    goes_bind z (reading (calling z.known p.line x es)) (λ v. done (evaluate_statement v)) s s s
    (goes_reading z (calling z.known p.line x es) s (λ q f. let c = call_makes z.setting z.known s q.scope f.same p x es t a h in
    (c.call.tree, ap (option_map (λ (r : TypedCall). r.tree)) c.there)))
    (λ v. goes_done z (evaluate_statement v) s)
goes_evaluated z s (index p b i) t a h = goes_one z s (index p b i) (scalar_of h.0) evaluate_statement a (h.0, h.1, h.2, h.3, h.4, h.5, refl)
goes_evaluated z s (parentheses p e) t a h = goes_one z s (parentheses p e) h.0 evaluate_statement a (h.0, h.1, refl)
goes_evaluated z s (negation p e) t a h = goes_one z s (negation p e) h.0 evaluate_statement a (h.0, h.1, h.2, refl)
goes_evaluated z s (cast p c e) t a h = goes_one z s (cast p c e) (cast_type c h.0) evaluate_statement a (h.0, h.1, refl)
goes_evaluated z s (binary p op b c) t a h = goes_one z s (binary p op b c) h.2 evaluate_statement a (h.0, h.1, h.2, h.3, h.4, h.5, refl)
goes_evaluated z s (declassify p e) t a h = goes_one z s (declassify p e) (declassified h.0) evaluate_statement a (h.0, h.1, refl)
goes_evaluated z s (argument p x) t a h = absurd h
goes_evaluated z s (publish p x e) t a h = goes_one z s e h.0 (publish_statement x) a h.1

-- DECLARATIONS AND ASSIGNMENTS

goes_from : (z : Frame) (s : checked.Scope) (n : ℕ) (e : Tree) (held : ValueType) → Agreed z (names_in e)
    → IsTrue (is_argument e) ⊎ HasFitting z.setting s e held → Goes z (from_value z.known n e) s s
goes_from z s n (argument p x) held a h = goes_done z (input_statement p.line n x) s
goes_from z s n (number p w) held a (inl h) = cc
goes_from z s n (number p w) held a (inr h) = goes_one z s (number p w) h.0 (store_statement n) a h.1
goes_from z s n (truth p w) held a (inl h) = cc
goes_from z s n (truth p w) held a (inr h) = goes_one z s (truth p w) h.0 (store_statement n) a h.1
goes_from z s n (variable p x) held a (inl h) = cc
goes_from z s n (variable p x) held a (inr h) = goes_one z s (variable p x) h.0 (store_statement n) a h.1
goes_from z s n (call p x es) held a (inl h) = cc
goes_from z s n (call p x es) held a (inr h) = goes_one z s (call p x es) h.0 (store_statement n) a h.1
goes_from z s n (index p b i) held a (inl h) = cc
goes_from z s n (index p b i) held a (inr h) = goes_one z s (index p b i) h.0 (store_statement n) a h.1
goes_from z s n (parentheses p e) held a (inl h) = cc
goes_from z s n (parentheses p e) held a (inr h) = goes_one z s (parentheses p e) h.0 (store_statement n) a h.1
goes_from z s n (negation p e) held a (inl h) = cc
goes_from z s n (negation p e) held a (inr h) = goes_one z s (negation p e) h.0 (store_statement n) a h.1
goes_from z s n (cast p t e) held a (inl h) = cc
goes_from z s n (cast p t e) held a (inr h) = goes_one z s (cast p t e) h.0 (store_statement n) a h.1
goes_from z s n (binary p op b c) held a (inl h) = cc
goes_from z s n (binary p op b c) held a (inr h) = goes_one z s (binary p op b c) h.0 (store_statement n) a h.1
goes_from z s n (declassify p e) held a (inl h) = cc
goes_from z s n (declassify p e) held a (inr h) = goes_one z s (declassify p e) h.0 (store_statement n) a h.1
goes_from z s n (publish p x e) held a (inl h) = cc
goes_from z s n (publish p x e) held a (inr h) = goes_one z s (publish p x e) h.0 (store_statement n) a h.1

goes_initial : (z : Frame) (s : checked.Scope) (n line : ℕ) (element : DataType) (held : ValueType) (size value : Option Tree)
    → Agreed z (names_in_optional size ++ names_in_optional value) → IsInitial z.setting s held size value
    → Goes z (initial z.known line n element size value) s s
goes_initial z s n line element held None None a h = goes_done z (default_statement n) s
goes_initial z s n line element held None (Some e) a h = goes_from z s n e held a h
goes_initial z s n line element held (Some m) None a h =
    goes_one z s m (public_scalar Uint64) (λ v. fill_statement line n v (default_of element)) (left_of z (names_in m) [] a) h.1
goes_initial z s n line element held (Some m) (Some e) a h =
    goes_bind z (expression z.known m) (λ v. expression z.known e >>= λ x. done (fill_statement line n v x)) s s s
    (goes_value z s m (public_scalar Uint64) (left_of z (names_in m) (names_in e) a) h.1)
    (λ v. goes_one z s e h.2.0 (fill_statement line n v) (right_of z (names_in m) (names_in e) a) h.2.1)

goes_declared : (z : Frame) (s : checked.Scope) (t : DeclarationTree) → Agreed z (names_in_declaration t) → IsDeclaration z.setting s t
    → Goes z (declared z.known t) s (checked.with_variable (variable_declared z.setting t) s)
goes_declared z s t a h =
    goes_bind z next_slot (λ n. initial z.known line n t.declared.element t.size t.value >>= λ c. declare t.variable t.declared >>= λ _. done c) s s
    behind (goes_next z s)
    (λ n. goes_bind z (initial z.known line n t.declared.element t.size t.value) (λ c. declare t.variable t.declared >>= λ _. done c) s s behind
    (goes_initial z s n line t.declared.element h.held t.size t.value a h.initial)
    (λ c. goes_bind z (declare t.variable t.declared) (λ _. done c) s behind behind
    (goes_declare z t.variable t.declared s (z.written t.declared h.held h.written))
    (λ _. goes_done z c behind)))
  where
    line : ℕ
    line = t.declared.place.line

    behind : checked.Scope
    behind = checked.with_variable (variable_declared z.setting t) s

goes_assigned_to : (z : Frame) (s : checked.Scope) (line n : ℕ) (i : Option Tree) (e : Tree) (held wanted : ValueType)
    → Agreed z (names_in_optional i ++ names_in e) → IsElement z.setting s held i wanted → HasFitting z.setting s e wanted
    → Goes z (assigned_to z.known line n i e) s s
goes_assigned_to z s line n None e held wanted a h g = goes_one z s e g.0 (store_statement n) a g.1
goes_assigned_to z s line n (Some i) e held wanted a h g =
    goes_bind z (expression z.known i) (λ j. expression z.known e >>= λ v. done (element_statement line n j v)) s s s
    (goes_value z s i (public_scalar Uint64) (left_of z (names_in i) (names_in e) a) h.1)
    (λ j. goes_one z s e g.0 (element_statement line n j) (right_of z (names_in i) (names_in e) a) g.1)

goes_assigned : (z : Frame) (s : checked.Scope) (t : AssignmentTree) → Agreed z (names_in_assignment t) → IsAssignment z.setting s t
    → Goes z (assigned z.known t) s s
goes_assigned z s t a h =
    goes_bind z (named x) (λ v. assigned_to z.known t.target.variable.place.line v.slot t.target.index t.value) s s s
    (goes_reading z (known_at x) s (λ p f. let n = names_same s p.scope x h.held f.same h.known in (n.variable.known, ap (option_map known_of) n.there)))
    (λ v. goes_assigned_to z s t.target.variable.place.line v.slot t.target.index t.value h.held h.wanted a h.target h.value)
  where
    x : List ℕ
    x = t.target.variable.text

-- THE PARTS OF A `for`, AND RETURNS

goes_started : (z : Frame) (s : checked.Scope) (t : StartTree) → Agreed z (names_in_start t) → IsStart z.setting s t
    → Goes z (started z.known t) s (after_start z.setting s t)
goes_started z s starts_with_nothing a h = goes_done z empty_statement s
goes_started z s (starts_with_declaration t) a h = goes_declared z s t a h
goes_started z s (starts_with_assignment t) a h = goes_assigned z s t a h

goes_stepped : (z : Frame) (s : checked.Scope) (t : StepTree) → Agreed z (names_in_step t) → IsStep z.setting s t → Goes z (stepped z.known t) s s
goes_stepped z s steps_by_nothing a h = goes_done z empty_statement s
goes_stepped z s (steps_by_assignment t) a h = goes_assigned z s t a h
goes_stepped z s (steps_by_expression e) a h = goes_evaluated z s e h.0 a h.1

goes_condition : (z : Frame) (s : checked.Scope) (e : Option Tree) → Agreed z (names_in_optional e) → IsOptionalCondition z.setting s e
    → Goes z (condition_of z.known e) s s
goes_condition z s None a h = goes_done z (truth_node true) s
goes_condition z s (Some e) a h = goes_value z s e (public_scalar datatype.Bool) a h

goes_returned : (z : Frame) (s : checked.Scope) (r : ResultType) (e : Option Tree) → Agreed z (names_in_optional e) → IsReturn z.setting r s e
    → Goes z (returned z.known e) s s
goes_returned z s result.Void None a h = goes_done z (return_statement None) s
goes_returned z s result.Void (Some e) a h = absurd h
goes_returned z s (result.Value t) None a h = absurd h
goes_returned z s (result.Value t) (Some e) a h = goes_one z s e h.2.0 (λ v. return_statement (Some v)) a h.2.1

goes_looped : (z : Frame) (s : checked.Scope) (b : StartTree) (e : Option Tree) (c : StepTree) (body : Resolving TypedStatementTree) (xs : List (List ℕ))
    (u : checked.Scope) → Agreed z (names_in_start b ++ (names_in_optional e ++ (names_in_step c ++ xs))) → IsStart z.setting s b
    → IsOptionalCondition z.setting (after_start z.setting s b) e → IsStep z.setting (after_start z.setting s b) c
    → Goes z body (checked.inner (after_start z.setting s b)) u → Goes z (looped z.known b e c body) s (after_start z.setting s b)
goes_looped z s b e c body xs u a hb he hc inside =
    goes_bind z (started z.known b) (λ x. condition_of z.known e >>= λ v. stepped z.known c >>= λ y. in_block body >>= λ q. done (whole x v y q)) s t
    t (goes_started z s b (left_of z (names_in_start b) (names_in_optional e ++ (names_in_step c ++ xs)) a) hb)
    (λ x. goes_bind z (condition_of z.known e) (λ v. stepped z.known c >>= λ y. in_block body >>= λ q. done (whole x v y q)) t t t
    (goes_condition z t e (left_of z (names_in_optional e) (names_in_step c ++ xs) rest) he)
    (λ v. goes_bind z (stepped z.known c) (λ y. in_block body >>= λ q. done (whole x v y q)) t t t
    (goes_stepped z t c (left_of z (names_in_step c) xs (right_of z (names_in_optional e) (names_in_step c ++ xs) rest)) hc)
    (λ y. goes_bind z (in_block body) (λ q. done (whole x v y q)) t t t (goes_block z body t u inside)
    (λ q. goes_done z (whole x v y q) t))))
  where
    t : checked.Scope
    t = after_start z.setting s b

    rest : Agreed z (names_in_optional e ++ (names_in_step c ++ xs))
    rest = right_of z (names_in_start b) (names_in_optional e ++ (names_in_step c ++ xs)) a

    whole : TypedStatementTree → TypedTree → TypedStatementTree → TypedStatementTree → TypedStatementTree
    whole x v y q = block_statement (also x (also (loop_statement v y q) none))

-- STATEMENTS

-- a condition and one block
goes_test : (z : Frame) (s t : checked.Scope) (e : Tree) (m : Resolving TypedStatementTree) (make : TypedTree → TypedStatementTree → TypedStatementTree)
    → Agreed z (names_in e) → HasPublicScalar z.setting s e datatype.Bool → Goes z m (checked.inner s) t
    → Goes z (expression z.known e >>= λ v. in_block m >>= λ c. done (make v c)) s s
goes_test z s t e m make a h inside =
    goes_bind z (expression z.known e) (λ v. in_block m >>= λ c. done (make v c)) s s s (goes_value z s e (public_scalar datatype.Bool) a h)
    (λ v. goes_bind z (in_block m) (λ c. done (make v c)) s s s (goes_block z m s t inside)
    (λ c. goes_done z (make v c) s))

goes_choice : (z : Frame) (s t u : checked.Scope) (e : Tree) (m k : Resolving TypedStatementTree) → Agreed z (names_in e)
    → HasPublicScalar z.setting s e datatype.Bool → Goes z m (checked.inner s) t → Goes z k (checked.inner s) u
    → Goes z (expression z.known e >>= λ v. in_block m >>= λ b. in_block k >>= λ c. done (if_statement v b c)) s s
goes_choice z s t u e m k a h inside otherwise =
    goes_bind z (expression z.known e) (λ v. in_block m >>= λ b. in_block k >>= λ c. done (if_statement v b c)) s s s
    (goes_value z s e (public_scalar datatype.Bool) a h)
    (λ v. goes_bind z (in_block m) (λ b. in_block k >>= λ c. done (if_statement v b c)) s s s (goes_block z m s t inside)
    (λ b. goes_bind z (in_block k) (λ c. done (if_statement v b c)) s s s (goes_block z k s u otherwise)
    (λ c. goes_done z (if_statement v b c) s)))

goes_do : (z : Frame) (s t : checked.Scope) (e : Tree) (m : Resolving TypedStatementTree) → Agreed z (names_in e) → HasPublicScalar z.setting s e datatype.Bool
    → Goes z m (checked.inner s) t → Goes z (in_block m >>= λ b. expression z.known e >>= λ v. done (do_statement b v)) s s
goes_do z s t e m a h inside =
    goes_bind z (in_block m) (λ b. expression z.known e >>= λ v. done (do_statement b v)) s s s (goes_block z m s t inside)
    (λ b. goes_one z s e (public_scalar datatype.Bool) (do_statement b) a h)

mutual
  pub goes_resolved : (z : Frame) (r : ResultType) (s : checked.Scope) (t : StatementTree) → Agreed z (names_by t) → IsTyped z.setting r s t
      → Goes z (resolved z.known t) s (after z.setting s t)
  goes_resolved z r s (block p ss) a h =
      goes_bind z (in_block (resolved_all z.known ss)) (λ cs. done (block_statement cs)) s s s
      (goes_block z (resolved_all z.known ss) s (after_all z.setting (checked.inner s) ss) (goes_resolved_all z r (checked.inner s) ss a h))
      (λ cs. goes_done z (block_statement cs) s)
  goes_resolved z r s (empty p) a h = goes_done z empty_statement s
  goes_resolved z r s (branch p e body) a h =
      goes_test z s (after z.setting (checked.inner s) body) e (resolved z.known body) (λ v c. if_statement v c empty_statement)
      (left_of z (names_in e) (names_by body) a) h.0
      (goes_resolved z r (checked.inner s) body (right_of z (names_in e) (names_by body) a) h.1)
  goes_resolved z r s (choice p e body otherwise) a h =
      let inside = right_of z (names_in e) (names_by body ++ names_by otherwise) a in
      goes_choice z s (after z.setting (checked.inner s) body) (after z.setting (checked.inner s) otherwise) e (resolved z.known body)
      (resolved z.known otherwise) (left_of z (names_in e) (names_by body ++ names_by otherwise) a) h.0
      (goes_resolved z r (checked.inner s) body (left_of z (names_by body) (names_by otherwise) inside) h.1)
      (goes_resolved z r (checked.inner s) otherwise (right_of z (names_by body) (names_by otherwise) inside) h.2)
  goes_resolved z r s (while_loop p e body) a h =
      goes_test z s (after z.setting (checked.inner s) body) e (resolved z.known body) (λ v c. loop_statement v empty_statement c)
      (left_of z (names_in e) (names_by body) a) h.0
      (goes_resolved z r (checked.inner s) body (right_of z (names_in e) (names_by body) a) h.1)
  goes_resolved z r s (do_loop p body e) a h =
      goes_do z s (after z.setting (checked.inner s) body) e (resolved z.known body) (right_of z (names_by body) (names_in e) a) h.1
      (goes_resolved z r (checked.inner s) body (left_of z (names_by body) (names_in e) a) h.0)
  goes_resolved z r s (for_loop p b e c body) a h =
      let inside = checked.inner s in
      let within = checked.inner (after_start z.setting (checked.inner s) b) in
      let rest = right_of z (names_in_start b) (names_in_optional e ++ (names_in_step c ++ names_by body)) a in
      let last = right_of z (names_in_step c) (names_by body) (right_of z (names_in_optional e) (names_in_step c ++ names_by body) rest) in
      goes_block z (looped z.known b e c (resolved z.known body)) s (after_start z.setting inside b)
      (goes_looped z inside b e c (resolved z.known body) (names_by body) (after z.setting within body) a h.0 h.1 h.2 (goes_resolved z r within body last h.3))
  goes_resolved z r s (breaks p) a h = goes_done z break_statement s
  goes_resolved z r s (continues p) a h = goes_done z continue_statement s
  goes_resolved z r s (returns p e) a h = goes_returned z s r e a h
  goes_resolved z r s (assertion p e) a h = goes_one z s e (public_scalar datatype.Bool) (assert_statement p.line) a h
  goes_resolved z r s (declaration t) a h = goes_declared z s t a h
  goes_resolved z r s (assignment t) a h = goes_assigned z s t a h
  goes_resolved z r s (evaluation e) a h = goes_evaluated z s e h.0 a h.1

  pub goes_resolved_all : (z : Frame) (r : ResultType) (s : checked.Scope) (ts : StatementTrees) → Agreed z (names_by_all ts)
      → AreTyped z.setting r s ts → Goes z (resolved_all z.known ts) s (after_all z.setting s ts)
  goes_resolved_all z r s Statements'.none a h = goes_done z none s
  goes_resolved_all z r s (Statements'.also t ts) a h =
      let behind = after z.setting s t in
      let last = after_all z.setting (after z.setting s t) ts in
      goes_bind z (resolved z.known t) (λ c. resolved_all z.known ts >>= λ cs. done (also c cs)) s (after z.setting s t)
      (after_all z.setting (after z.setting s t) ts) (goes_resolved z r s t (left_of z (names_by t) (names_by_all ts) a) h.0)
      (λ c. goes_bind z (resolved_all z.known ts) (λ cs. done (also c cs)) behind last last
      (goes_resolved_all z r behind ts (right_of z (names_by t) (names_by_all ts) a) h.1)
      (λ cs. goes_done z (also c cs) last))
