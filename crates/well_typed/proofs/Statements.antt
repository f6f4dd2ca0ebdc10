-- Statements: what the checker has typed is well typed where it stands, and returns where that returns.
use Rattle.std.proofs.Common.{◌≡◌, ℕ, ◌<◌, List, [], ◌∷◌, ◌++◌, ◌⊎◌, inl, inr, length, refl, sym, ap, ap₂, ◌∙◌, subst, Option, Some, None, Bool, true}
use Rattle.std.proofs.Common.{false, arith}
use Rattle.std.specs.Prelude.{◌||◌, ◌&&◌, IsTrue}
use Rattle.std.specs.List.{slice_get}
use Rattle.std.proofs.lemmas.Option.{none-some}
use Rattle.sc_text.specs.declared.span.Span.{Span}
use Rattle.program_trees.specs.declared.expression.DataType.{DataType}
use Rattle.program_trees.specs.declared.expression.DataType.TheVariants.{Uint64, Int64}
use Rattle.program_trees.specs.declared.expression.DataType.TheVariants as datatype
use Rattle.program_trees.specs.declared.statement.DeclaredType.{DeclaredType}
use Rattle.program_trees.specs.declared.function.ResultType.{ResultType}
use Rattle.program_trees.specs.declared.function.ResultType.TheVariants as result
use Rattle.program_trees.specs.Tree.{Tree, Trees, number, truth, variable, call, index, parentheses, negation, cast, binary, declassify, argument, publish}
use Rattle.program_trees.specs.Statements.{DeclarationTree, AssignmentTree, StartTree, starts_with_nothing, starts_with_declaration}
use Rattle.program_trees.specs.Statements.{starts_with_assignment, StepTree, steps_by_nothing, steps_by_assignment, steps_by_expression, StatementTree}
use Rattle.program_trees.specs.Statements.{block, empty, branch, choice, while_loop, do_loop, for_loop, breaks, continues, returns, assertion}
use Rattle.program_trees.specs.Statements.{declaration, assignment, evaluation, StatementTrees}
use Rattle.program_trees.specs.Statements as Statements'
use Rattle.program_trees.specs.Programs.{ProgramTree}
use Rattle.domain_types.specs.declared.value_type.ValueType.{ValueType}
use Rattle.domain_types.specs.declared.value_type.ExpressionType.{ExpressionType}
use Rattle.domain_types.specs.declared.value_type.ExpressionType.TheVariants.{Value}
use Rattle.domain_types.specs.Types.{scalar_of, public_scalar}
use Rattle.domain_types.specs.Declarations.{declared_by}
use Rattle.domain_types.specs.Settings.{domain_of, in_domain, type_written}
use Rattle.domain_types.specs.Scopes as checked
use Rattle.domain_types.specs.ExpressionTypes.{variable_type, cast_type, declassified}
use Rattle.domain_types.specs.StatementTypes.{is_argument, variable_declared, after, after_all, after_start}
use Rattle.domain_types.specs.StatementTypes as checker
use Rattle.domain_types.specs.Reached.{Call, calls_of, optional_calls, declaration_calls, assignment_calls, start_calls, step_calls, statement_calls}
use Rattle.domain_types.specs.Reached.{block_calls}
use Rattle.domain_types.specs.Typing.{HasType, HasFitting, HasPublicScalar, IsInitial, IsDeclaration, IsElement, IsAssignment, IsStart, IsStep}
use Rattle.domain_types.specs.Typing.{IsOptionalCondition, IsReturn, IsTyped, AreTyped}
use Rattle.domain_types.specs.Typing as typing
use Rattle.sc_text.proofs.Lists.{among_left, among_right}
use Rattle.program_trees.specs.declared.kinds.Shape.{Shape}
use Rattle.program_trees.specs.declared.kinds.Slot.{Slot}
use Rattle.program_trees.specs.declared.typed_function.Returned.{Returned}
use Rattle.program_trees.specs.declared.typed_function.Returned.TheVariants as given_back
use Rattle.name_resolution.specs.declared.variables.Known.{Known}
use Rattle.program_trees.specs.TypedTree.{TypedTree, truth_node}
use Rattle.program_trees.specs.TypedStatements.{TypedStatementTree, TypedStatementTrees, none, also, empty_statement, block_statement, if_statement, loop_statement}
use Rattle.program_trees.specs.TypedStatements.{do_statement, break_statement, continue_statement, return_statement, assert_statement, store_statement}
use Rattle.program_trees.specs.TypedStatements.{default_statement, fill_statement, input_statement, element_statement, publish_statement, evaluate_statement}
use Rattle.name_resolution.specs.Scopes.{FunctionScope, known_of, variable_named, shape_written, declaring}
use Rattle.program_trees.specs.Shapes.{shape_of}
use Rattle.name_resolution.specs.Values.{TypedCall, value, call_made, tree_of_value}
use Rattle.name_resolution.specs.Resolving.{Resolving, carry, ◌>>=◌, done, reading, in_block, resolved_value, expression, known_at, named}
use Rattle.name_resolution.specs.Bodies.{calling, evaluated, default_of, from_value, initial, declared, assigned_to, assigned, started}
use Rattle.name_resolution.specs.Bodies.{stepped, condition_of, returned, looped, resolved, resolved_all}
use Rattle.name_resolution.specs.Functions.{slot_written, slots_written}
use Rattle.name_resolution.specs.Functions as functions
use Rattle.name_resolution.specs.Order as order
use Rattle.name_resolution.proofs.SoundValues.{mapped, some_is}
use Rattle.reached_instances.specs.Domains as domains
use Rattle.reached_instances.specs.Domains.{domain, domain_under}
use Rattle.reached_instances.specs.Calls.{calls, typed_statement_calls, typed_statements_calls}
use Rattle.program_typing.proofs.TreesOfValues.{Agree, agree_left, agree_right, names_in}
use Rattle.program_typing.proofs.TreesOfStatements.{names_in_optional, names_in_declaration, names_in_assignment, names_in_start, names_in_step}
use Rattle.program_typing.proofs.TreesOfStatements.{names_by, names_by_all}
use Rattle.well_typed.specs.Sources.{HasWords, HasWordsIf, DeclaresWords, AssignsWords, StartsWithWords, StepsByWords, MayStand, MayStandAll}
use Rattle.well_typed.specs.Kinds.{scalar, GoesTo}
use Rattle.well_typed.specs.Expressions.{Gives}
use Rattle.well_typed.specs.Statements.{FitsInto, IsArraySlot, IsWellTypedStatement, AreWellTypedStatements, always_returns, one_returns}
use Rattle.well_typed.specs.Laws.{bound_domain}
use Rattle.well_typed.proofs.Bindings.{goes}
use Rattle.well_typed.proofs.SlotsWritten.{shape_in, SlotIs, slot_same, slots_at}
use Rattle.well_typed.proofs.Steps.{Step, pair_of, comes, step_done, step_bind, step_reading, step_block, step_as}
use Rattle.well_typed.proofs.Heads.{Begins, begins_itself, begins_further}
use Rattle.well_typed.proofs.Typed.{AreChecked, none_checked, both_checked, gives_as}
use Rattle.well_typed.proofs.Calling.{known_in, Frame, setting, here, AreMade, shape_of_type}
use Rattle.well_typed.proofs.Values.{SameVariable, Same, same_append, slot_named, good_value_of, good_call}

-- what isn't true
not_true : {X : Type 0} → IsTrue false → X
not_true is = cc

-- WHAT IS SAID OF STEPS

-- a piece that is read: the place stays
pub record Read {A : Type 0} (w : domains.Setting) (s : checked.Scope) (P : A → Type 0) (b : FunctionScope) (a : A) (q : FunctionScope) : Type 0 where
  pub kept : b ≡ q
  pub good : Same w s b.scope → P a

-- a piece that may declare variables, which have their slots in the whole function
pub record Walked {A : Type 0} (w : domains.Setting) (final : List DeclaredType) (s t : checked.Scope) (P : A → Type 0) (b : FunctionScope) (a : A)
    (q : FunctionScope) : Type 0 where
  pub grows : Begins b.slots q.slots
  pub good : Same w s b.scope → Begins q.slots final → Same w t q.scope × P a

module _ (w : domains.Setting) (s : checked.Scope) where
  pub read_done : {A : Type 0} (P : A → Type 0) (a : A) → P a → Step (done a) (Read w s P)
  read_done P a h = step_done (Read w s P) a (λ b. record { kept = refl; good = λ m. h })

  pub read_at : {A : Type 0} (P : A → Type 0) (f : FunctionScope → Option A) → ((b : FunctionScope) (a : A) → Same w s b.scope → f b ≡ Some a → P a)
      → Step (reading f) (Read w s P)
  read_at P f h = step_reading f (Read w s P) (λ b a e. record { kept = refl; good = λ m. h b a m e })

  pub read_bind : {A B : Type 0} (P : A → Type 0) (Q : B → Type 0) (m : Resolving A) (g : A → Resolving B) → Step m (Read w s P)
      → ((a : A) → Step (g a) (Read w s (λ c. P a → Q c))) → Step (m >>= g) (Read w s Q)
  read_bind {A} {B} P Q m g first then =
      step_bind m g (Read w s P) (Read w s Q) first
      (λ a. step_as (g a) (Read w s (λ c. P a → Q c)) (λ q c r. (b : FunctionScope) → Read w s P b a q → Read w s Q b c r) (then a) (both a))
    where
      both : (a : A) (q : FunctionScope) (c : B) (r : FunctionScope) → Read w s (λ c. P a → Q c) q c r → (b : FunctionScope) → Read w s P b a q
          → Read w s Q b c r
      both a q c r two b one = record {
        kept = one.kept ∙ two.kept;
        good =
            λ m. two.good (subst (λ (x : FunctionScope). Same w s x.scope) one.kept m) (one.good m);
      }

module _ (w : domains.Setting) (final : List DeclaredType) where
  pub walked_read : {A : Type 0} (s : checked.Scope) (P : A → Type 0) (m : Resolving A) → Step m (Read w s P) → Step m (Walked w final s s P)
  walked_read {A} s P m h = step_as m (Read w s P) (Walked w final s s P) h one
    where
      one : (b : FunctionScope) (a : A) (q : FunctionScope) → Read w s P b a q → Walked w final s s P b a q
      one b a q r = subst (Walked w final s s P b a) r.kept (record { grows = begins_itself b.slots; good = λ m l. (m, r.good m) })

  pub walked_done : {A : Type 0} (s : checked.Scope) (P : A → Type 0) (a : A) → P a → Step (done a) (Walked w final s s P)
  walked_done s P a h = walked_read s P (done a) (read_done w s P a h)

  pub walked_bind : {A B : Type 0} (s t u : checked.Scope) (P : A → Type 0) (Q : B → Type 0) (m : Resolving A) (g : A → Resolving B)
      → Step m (Walked w final s t P) → ((a : A) → Step (g a) (Walked w final t u (λ c. P a → Q c))) → Step (m >>= g) (Walked w final s u Q)
  walked_bind {A} {B} s t u P Q m g first then =
      step_bind m g (Walked w final s t P) (Walked w final s u Q) first
      (λ a. step_as (g a) (Walked w final t u (λ c. P a → Q c))
      (λ q c r. (b : FunctionScope) → Walked w final s t P b a q → Walked w final s u Q b c r) (then a) (both a))
    where
      both : (a : A) (q : FunctionScope) (c : B) (r : FunctionScope) → Walked w final t u (λ c. P a → Q c) q c r → (b : FunctionScope)
          → Walked w final s t P b a q → Walked w final s u Q b c r
      both a q c r two b one =
          record {
            grows = begins_further b.slots q.slots r.slots one.grows two.grows;
            good = λ m l.
                let x = one.good m (begins_further q.slots r.slots final two.grows l) in
                let y = two.good x.0 l in
                (y.0, y.1 x.1);
          }

  pub walked_block : {A : Type 0} (s t : checked.Scope) (P : A → Type 0) (m : Resolving A) → Step m (Walked w final (checked.inner s) t P)
      → Step (in_block m) (Walked w final s s P)
  walked_block {A} s t P m h = step_block m (Walked w final (checked.inner s) t P) (Walked w final s s P) h
      (λ b a q k. record {
        grows = k.grows;
        good =
            λ e l. (e, (k.good (record { block = tt; outer = same_append w s.block s.outer b.scope.block b.scope.outer e.block e.outer }) l).1);
      })

-- WHAT IS MADE

-- an expression of this type
pub record GoodTree (p : ProgramTree) (w : domains.Setting) (v : ValueType) (t : TypedTree) : Type 0 where
  pub gives : Gives w t (Some (shape_in v))
  pub seen_by : domain w t ≡ bound_domain v.domain
  pub called : AreChecked p (calls w t)

-- an expression that is evaluated for what it does
pub record GoodAny (p : ProgramTree) (w : domains.Setting) (t : TypedTree) : Type 0 where
  pub given : Option Shape
  pub gives : Gives w t given
  pub called : AreChecked p (calls w t)

-- a slot of values of this type
pub record HoldsAt (w : domains.Setting) (v : ValueType) (k : ℕ) : Type 0 where
  pub slot : Slot
  pub at : slice_get w.slots k ≡ Some slot
  pub is : SlotIs w.binding slot v

pub record GoodStatement (p : ProgramTree) (w : domains.Setting) (g : Returned) (inside returns : Bool) (c : TypedStatementTree) : Type 0 where
  pub typed : IsWellTypedStatement w g inside c
  pub returns_so : always_returns c ≡ returns
  pub called : AreChecked p (typed_statement_calls w c)

pub record GoodStatements (p : ProgramTree) (w : domains.Setting) (g : Returned) (inside returns : Bool) (cs : TypedStatementTrees) : Type 0 where
  pub typed : AreWellTypedStatements w g inside cs
  pub returns_so : one_returns cs ≡ returns
  pub called : AreChecked p (typed_statements_calls w cs)

fits : (p : ProgramTree) (w : domains.Setting) (s : Slot) (shape : Shape) (wanted given : ValueType) (t : TypedTree) → typing.FitsInto wanted given
    → shape ≡ shape_in wanted → domain_under w.binding s.domain ≡ bound_domain wanted.domain → GoodTree p w given t → FitsInto w s shape t
fits p w s shape wanted given t f e d g =
    let is : shape_in given ≡ shape = ap₂ shape_of (sym f.0) (sym f.1) ∙ sym e in (
      gives_as w t (shape_in given) shape g.gives is,
      subst (λ x. GoesTo x (domain_under w.binding s.domain)) (sym g.seen_by)
          (subst (GoesTo (bound_domain given.domain)) (sym d) (goes given.domain wanted.domain f.2)),
    )

-- a whole slot, and an element of one
fits_slot : (p : ProgramTree) (w : domains.Setting) (held given : ValueType) (k : ℕ) (t : TypedTree) (h : HoldsAt w held k)
    → typing.FitsInto held given → GoodTree p w given t → FitsInto w h.slot h.slot.shape t
fits_slot p w held given k t h f g = fits p w h.slot h.slot.shape held given t f h.is.shape h.is.seen_by g

fits_element : (p : ProgramTree) (w : domains.Setting) (held given : ValueType) (k : ℕ) (t : TypedTree) (h : HoldsAt w held k)
    → typing.FitsInto (scalar_of held) given → GoodTree p w given t → FitsInto w h.slot (scalar h.slot.shape.element) t
fits_element p w held given k t h f g =
    fits p w h.slot (scalar h.slot.shape.element) (scalar_of held) given t f (ap (λ (s : Shape). scalar s.element) h.is.shape) h.is.seen_by g

array_slot : (w : domains.Setting) (held : ValueType) (k : ℕ) (h : HoldsAt w held k) → held.array ≡ true → IsArraySlot w k h.slot
array_slot w held k h e = (h.at, ap (λ (s : Shape). s.array) h.is.shape ∙ e)

slot_some : (ss : List Slot) (k : ℕ) (s : Slot) → slice_get ss k ≡ Some s → 0 < length ss
slot_some [] k s e = absurd (none-some _ e)
slot_some (r ∷ ss) k s e = omega arith

good_default : (p : ProgramTree) (w : domains.Setting) (element : DataType) → 0 < length w.slots
    → GoodTree p w (public_scalar element) (default_of element)
good_default p w Uint64 some = record { gives = (omega arith, refl); seen_by = refl; called = none_checked p }
good_default p w Int64 some = record { gives = (some, refl); seen_by = refl; called = none_checked p }
good_default p w datatype.Bool some = record { gives = refl; seen_by = refl; called = none_checked p }

at_last : (xs more : List DeclaredType) (t : DeclaredType) → slice_get ((xs ++ t ∷ []) ++ more) (length xs) ≡ Some t
at_last [] more t = refl
at_last (x ∷ xs) more t = at_last xs more t

-- ONE FUNCTION

module _ (p : ProgramTree) (z : Frame p) (g : Returned) where
  abbrev Agreed : List (List ℕ) → Type 0
  Agreed xs = Agree (declared_by p) (known_in p) xs

  left_of : (xs ys : List (List ℕ)) → Agreed (xs ++ ys) → Agreed xs
  left_of xs ys a = agree_left (declared_by p) (known_in p) xs ys a

  right_of : (xs ys : List (List ℕ)) → Agreed (xs ++ ys) → Agreed ys
  right_of xs ys a = agree_right (declared_by p) (known_in p) xs ys a

  made_left : (bs cs : List Call) → AreMade z (bs ++ cs) → AreMade z bs
  made_left bs cs m c n = m c (among_left c bs cs n)

  made_right : (bs cs : List Call) → AreMade z (bs ++ cs) → AreMade z cs
  made_right bs cs m c n = m c (among_right c bs cs n)

  -- a statement that does not return
  abbrev Runs : Bool → TypedStatementTree → Type 0
  Runs inside c = GoodStatement p (here z) g inside false c

  -- EXPRESSIONS

  read_value : (s : checked.Scope) (e : Tree) (v : ValueType) → Agreed (names_in e) → AreMade z (calls_of (setting z) s e) → HasWords e
      → HasType (setting z) s e (Value v) → Step (expression (known_in p) e) (Read (here z) s (GoodTree p (here z) v))
  read_value s e v a c w h = read_at (here z) s (GoodTree p (here z) v) (resolved_value (known_in p) e) one
    where
      one : (b : FunctionScope) (t : TypedTree) → Same (here z) s b.scope → resolved_value (known_in p) e b ≡ Some t → GoodTree p (here z) v t
      one b t m i =
          let r = mapped tree_of_value (value (known_in p) b.scope e) t i in
          let x = good_value_of p z s b.scope m e v a c w h r.part r.there in
          let is : GoodTree p (here z) v r.part.tree = record { gives = x.gives; seen_by = x.seen_by; called = x.called } in
          subst (GoodTree p (here z) v) r.is is

  read_one : (s : checked.Scope) (e : Tree) (v : ValueType) (P : TypedStatementTree → Type 0) (make : TypedTree → TypedStatementTree) → Agreed (names_in e)
      → AreMade z (calls_of (setting z) s e) → HasWords e → HasType (setting z) s e (Value v)
      → ((t : TypedTree) → GoodTree p (here z) v t → P (make t)) → Step (expression (known_in p) e >>= λ t. done (make t)) (Read (here z) s P)
  read_one s e v P make a c w h f =
      read_bind (here z) s (GoodTree p (here z) v) P (expression (known_in p) e) (λ t. done (make t)) (read_value s e v a c w h)
      (λ t. read_done (here z) s (λ c. GoodTree p (here z) v t → P c) (make t) (f t))

  read_call : (s : checked.Scope) (q : Span) (x : List ℕ) (es : Trees) (t : ExpressionType) → Agreed (names_in (call q x es))
      → AreMade z (calls_of (setting z) s (call q x es)) → HasWords (call q x es) → HasType (setting z) s (call q x es) t
      → Step (reading (calling (known_in p) q.line x es)) (Read (here z) s (GoodAny p (here z)))
  read_call s q x es t a c w h = read_at (here z) s (GoodAny p (here z)) (calling (known_in p) q.line x es) one
    where
      one : (b : FunctionScope) (u : TypedTree) → Same (here z) s b.scope → calling (known_in p) q.line x es b ≡ Some u → GoodAny p (here z) u
      one b u m i =
          let r = mapped (λ (c : TypedCall). c.tree) (call_made (known_in p) b.scope q.line x es) u i in
          let k = good_call p z s b.scope m q x es t a c w h r.part r.there in
          let is : GoodAny p (here z) r.part.tree = record { given = shape_of_type t; gives = k.gives; called = k.called } in
          subst (GoodAny p (here z)) r.is is

  evaluates : (inside : Bool) (s : checked.Scope) (e : Tree) (v : ValueType) → Agreed (names_in e) → AreMade z (calls_of (setting z) s e) → HasWords e
      → HasType (setting z) s e (Value v) → Step (expression (known_in p) e >>= λ t. done (evaluate_statement t)) (Read (here z) s (Runs inside))
  evaluates inside s e v a c w h =
      read_one s e v (Runs inside) evaluate_statement a c w h (λ t k. record { typed = (Some (shape_in v), k.gives); returns_so = refl; called = k.called })

  good_evaluated : (inside : Bool) (s : checked.Scope) (e : Tree) (t : ExpressionType) → Agreed (names_in e) → AreMade z (calls_of (setting z) s e)
      → HasWords e → HasType (setting z) s e t → Step (evaluated (known_in p) e) (Read (here z) s (Runs inside))
  good_evaluated inside s (number q n) t a c w h = evaluates inside s (number q n) (public_scalar Uint64) a c w refl
  good_evaluated inside s (truth q b) t a c w h = evaluates inside s (truth q b) (public_scalar datatype.Bool) a c w refl
  good_evaluated inside s (variable q x) t a c w h = evaluates inside s (variable q x) h.0 a c w (h.0, h.1, refl)
  good_evaluated inside s (call q x es) t a c w h =
      read_bind (here z) s (GoodAny p (here z)) (Runs inside) (reading (calling (known_in p) q.line x es)) (λ v. done (evaluate_statement v))
      (read_call s q x es t a c w h)
      (λ v. read_done (here z) s (λ c. GoodAny p (here z) v → Runs inside c) (evaluate_statement v)
      (λ k. record { typed = (k.given, k.gives); returns_so = refl; called = k.called }))
  good_evaluated inside s (index q b i) t a c w h = evaluates inside s (index q b i) (scalar_of h.0) a c w (h.0, h.1, h.2, h.3, h.4, h.5, refl)
  good_evaluated inside s (parentheses q e) t a c w h = evaluates inside s (parentheses q e) h.0 a c w (h.0, h.1, refl)
  good_evaluated inside s (negation q e) t a c w h = evaluates inside s (negation q e) h.0 a c w (h.0, h.1, h.2, refl)
  good_evaluated inside s (cast q d e) t a c w h = evaluates inside s (cast q d e) (cast_type d h.0) a c w (h.0, h.1, refl)
  good_evaluated inside s (binary q op b d) t a c w h = evaluates inside s (binary q op b d) h.2 a c w (h.0, h.1, h.2, h.3, h.4, h.5, refl)
  good_evaluated inside s (declassify q e) t a c w h = evaluates inside s (declassify q e) (declassified h.0) a c w (h.0, h.1, refl)
  good_evaluated inside s (argument q x) t a c w h = absurd h
  good_evaluated inside s (publish q x e) t a c w h =
      read_one s e h.0 (Runs inside) (publish_statement x) a c w h.1 (λ t k. record { typed = (shape_in h.0, k.gives); returns_so = refl; called = k.called })

  -- DECLARATIONS: good where the slot is there

  abbrev IfHeld : Bool → ValueType → ℕ → TypedStatementTree → Type 0
  IfHeld inside held k c = HoldsAt (here z) held k → Runs inside c

  stores : (inside : Bool) (s : checked.Scope) (k : ℕ) (e : Tree) (held : ValueType) → Agreed (names_in e) → AreMade z (calls_of (setting z) s e)
      → HasWords e → HasFitting (setting z) s e held
      → Step (expression (known_in p) e >>= λ t. done (store_statement k t)) (Read (here z) s (IfHeld inside held k))
  stores inside s k e held a c w h =
      read_one s e h.0 (IfHeld inside held k) (store_statement k) a c w h.1
      (λ t x o. record { typed = (o.slot, o.at, fits_slot p (here z) held h.0 k t o h.2 x); returns_so = refl; called = x.called })

  good_from : (inside : Bool) (s : checked.Scope) (k : ℕ) (e : Tree) (held : ValueType) → Agreed (names_in e) → AreMade z (calls_of (setting z) s e)
      → HasWords e → IsTrue (is_argument e) ⊎ HasFitting (setting z) s e held → Step (from_value (known_in p) k e) (Read (here z) s (IfHeld inside held k))
  good_from inside s k (argument q x) held a c w h =
      read_done (here z) s (IfHeld inside held k) (input_statement q.line k x)
      (λ o. record { typed = (o.slot, o.at); returns_so = refl; called = none_checked p })
  good_from inside s k (number q n) held a c w (inl h) = not_true h
  good_from inside s k (number q n) held a c w (inr h) = stores inside s k (number q n) held a c w h
  good_from inside s k (truth q b) held a c w (inl h) = not_true h
  good_from inside s k (truth q b) held a c w (inr h) = stores inside s k (truth q b) held a c w h
  good_from inside s k (variable q x) held a c w (inl h) = not_true h
  good_from inside s k (variable q x) held a c w (inr h) = stores inside s k (variable q x) held a c w h
  good_from inside s k (call q x es) held a c w (inl h) = not_true h
  good_from inside s k (call q x es) held a c w (inr h) = stores inside s k (call q x es) held a c w h
  good_from inside s k (index q b i) held a c w (inl h) = not_true h
  good_from inside s k (index q b i) held a c w (inr h) = stores inside s k (index q b i) held a c w h
  good_from inside s k (parentheses q e) held a c w (inl h) = not_true h
  good_from inside s k (parentheses q e) held a c w (inr h) = stores inside s k (parentheses q e) held a c w h
  good_from inside s k (negation q e) held a c w (inl h) = not_true h
  good_from inside s k (negation q e) held a c w (inr h) = stores inside s k (negation q e) held a c w h
  good_from inside s k (cast q d e) held a c w (inl h) = not_true h
  good_from inside s k (cast q d e) held a c w (inr h) = stores inside s k (cast q d e) held a c w h
  good_from inside s k (binary q op b d) held a c w (inl h) = not_true h
  good_from inside s k (binary q op b d) held a c w (inr h) = stores inside s k (binary q op b d) held a c w h
  good_from inside s k (declassify q e) held a c w (inl h) = not_true h
  good_from inside s k (declassify q e) held a c w (inr h) = stores inside s k (declassify q e) held a c w h
  good_from inside s k (publish q x e) held a c w (inl h) = not_true h
  good_from inside s k (publish q x e) held a c w (inr h) = stores inside s k (publish q x e) held a c w h

  fills : (inside : Bool) (k line : ℕ) (held given : ValueType) (m t : TypedTree) → held.array ≡ true → typing.FitsInto (scalar_of held) given
      → GoodTree p (here z) (public_scalar Uint64) m → GoodTree p (here z) given t → IfHeld inside held k (fill_statement line k m t)
  fills inside k line held given m t e f x y o =
      record {
        typed = (o.slot, array_slot (here z) held k o e, (x.gives, x.seen_by), fits_element p (here z) held given k t o f y);
        returns_so = refl;
        called = both_checked p (calls (here z) m) (calls (here z) t) x.called y.called;
      }

  good_initial : (inside : Bool) (s : checked.Scope) (k line : ℕ) (held : ValueType) (size value : Option Tree)
      → Agreed (names_in_optional size ++ names_in_optional value)
      → AreMade z (optional_calls (setting z) s size ++ optional_calls (setting z) s value) → HasWordsIf size → HasWordsIf value
      → IsInitial (setting z) s held size value → Step (initial (known_in p) line k held.element size value) (Read (here z) s (IfHeld inside held k))
  good_initial inside s k line held None None a c w u h =
      read_done (here z) s (IfHeld inside held k) (default_statement k) (λ o. record { typed = (o.slot, o.at); returns_so = refl; called = none_checked p })
  good_initial inside s k line held None (Some e) a c w u h = good_from inside s k e held a c u h
  good_initial inside s k line held (Some n) None a c w u h =
      read_one s n (public_scalar Uint64) (IfHeld inside held k) (λ m. fill_statement line k m (default_of held.element)) (left_of (names_in n) [] a)
      (made_left (calls_of (setting z) s n) [] c) w h.1
      (λ m x o. fills inside k line held (public_scalar held.element) m (default_of held.element) h.0 (refl, refl, tt) x
      (good_default p (here z) held.element (slot_some (here z).slots k o.slot o.at)) o)
  good_initial inside s k line held (Some n) (Some e) a c w u h =
      read_bind (here z) s (GoodTree p (here z) (public_scalar Uint64)) (IfHeld inside held k) (expression (known_in p) n)
      (λ m. expression (known_in p) e >>= λ v. done (fill_statement line k m v))
      (read_value s n (public_scalar Uint64) (left_of (names_in n) (names_in e) a) (made_left (calls_of (setting z) s n) (calls_of (setting z) s e) c) w h.1)
      (λ m. read_one s e h.2.0 (λ c. GoodTree p (here z) (public_scalar Uint64) m → IfHeld inside held k c) (fill_statement line k m)
      (right_of (names_in n) (names_in e) a) (made_right (calls_of (setting z) s n) (calls_of (setting z) s e) c) u h.2.1
      (λ t y x. fills inside k line held h.2.0 m t h.0 h.2.2 x y))

  -- ASSIGNMENTS

  read_named : (s : checked.Scope) (x : List ℕ) (held : ValueType) → variable_type (checked.variable_named s x) ≡ Some held
      → Step (named x) (Read (here z) s (λ (k : Known). HoldsAt (here z) held k.slot))
  read_named s x held h = read_at (here z) s (λ (k : Known). HoldsAt (here z) held k.slot) (known_at x) one
    where
      one : (b : FunctionScope) (k : Known) → Same (here z) s b.scope → known_at x b ≡ Some k → HoldsAt (here z) held k.slot
      one b k m i =
          let r = mapped known_of (variable_named b.scope x) k i in
          let o = slot_named (here z) s b.scope x held r.part m h r.there in
          let is : HoldsAt (here z) held r.part.known.slot = record { slot = o.slot; at = o.at; is = o.is } in
          subst (λ (k : Known). HoldsAt (here z) held k.slot) r.is is

  good_assigned_to : (inside : Bool) (s : checked.Scope) (line k : ℕ) (i : Option Tree) (e : Tree) (held wanted : ValueType)
      → Agreed (names_in_optional i ++ names_in e) → AreMade z (optional_calls (setting z) s i ++ calls_of (setting z) s e) → HasWordsIf i
      → HasWords e → IsElement (setting z) s held i wanted → HasFitting (setting z) s e wanted
      → Step (assigned_to (known_in p) line k i e) (Read (here z) s (IfHeld inside held k))
  good_assigned_to inside s line k None e held wanted a c w u h f = stores inside s k e held a c u (subst (HasFitting (setting z) s e) h f)
  good_assigned_to inside s line k (Some i) e held wanted a c w u h f =
      let fitting = subst (HasFitting (setting z) s e) h.2 f in
      read_bind (here z) s (GoodTree p (here z) (public_scalar Uint64)) (IfHeld inside held k) (expression (known_in p) i)
      (λ j. expression (known_in p) e >>= λ v. done (element_statement line k j v))
      (read_value s i (public_scalar Uint64) (left_of (names_in i) (names_in e) a) (made_left (calls_of (setting z) s i) (calls_of (setting z) s e) c) w h.1)
      (λ j. read_one s e fitting.0 (λ c. GoodTree p (here z) (public_scalar Uint64) j → IfHeld inside held k c) (element_statement line k j)
      (right_of (names_in i) (names_in e) a) (made_right (calls_of (setting z) s i) (calls_of (setting z) s e) c) u fitting.1
      (λ t y x o. record {
        typed = (o.slot, array_slot (here z) held k o h.0, (x.gives, x.seen_by), fits_element p (here z) held fitting.0 k t o fitting.2 y);
        returns_so = refl;
        called = both_checked p (calls (here z) j) (calls (here z) t) x.called y.called;
      }))

  good_assigned : (inside : Bool) (s : checked.Scope) (t : AssignmentTree) → Agreed (names_in_assignment t)
      → AreMade z (assignment_calls (setting z) s t) → AssignsWords t → IsAssignment (setting z) s t
      → Step (assigned (known_in p) t) (Read (here z) s (Runs inside))
  good_assigned inside s t a c w h =
      read_bind (here z) s (λ (k : Known). HoldsAt (here z) h.held k.slot) (Runs inside) (named t.target.variable.text)
      (λ x. assigned_to (known_in p) t.target.variable.place.line x.slot t.target.index t.value) (read_named s t.target.variable.text h.held h.known)
      (λ x. good_assigned_to inside s t.target.variable.place.line x.slot t.target.index t.value h.held h.wanted a c w.0 w.1 h.target h.value)

  -- CONDITIONS AND RETURNS

  read_condition : (s : checked.Scope) (e : Option Tree) → Agreed (names_in_optional e) → AreMade z (optional_calls (setting z) s e) → HasWordsIf e
      → IsOptionalCondition (setting z) s e → Step (condition_of (known_in p) e) (Read (here z) s (GoodTree p (here z) (public_scalar datatype.Bool)))
  read_condition s None a c w h =
      read_done (here z) s (GoodTree p (here z) (public_scalar datatype.Bool)) (truth_node true)
      (record { gives = refl; seen_by = refl; called = none_checked p })
  read_condition s (Some e) a c w h = read_value s e (public_scalar datatype.Bool) a c w h

  good_stepped : (s : checked.Scope) (t : StepTree) → Agreed (names_in_step t) → AreMade z (step_calls (setting z) s t) → StepsByWords t
      → IsStep (setting z) s t → Step (stepped (known_in p) t) (Read (here z) s (Runs false))
  good_stepped s steps_by_nothing a c w h =
      read_done (here z) s (Runs false) empty_statement (record { typed = tt; returns_so = refl; called = none_checked p })
  good_stepped s (steps_by_assignment t) a c w h = good_assigned false s t a c w h
  good_stepped s (steps_by_expression e) a c w h = good_evaluated false s e h.0 a c w h.1

  -- a statement that returns
  abbrev Returns : Bool → TypedStatementTree → Type 0
  Returns inside c = GoodStatement p (here z) g inside true c

  good_returned : (inside : Bool) (s : checked.Scope) (r : ResultType) (e : Option Tree)
      → functions.given_back (known_in p) z.function.variables r ≡ Some g → Agreed (names_in_optional e) → AreMade z (optional_calls (setting z) s e)
      → HasWordsIf e → IsReturn (setting z) r s e → Step (returned (known_in p) e) (Read (here z) s (Returns inside))
  good_returned inside s result.Void None b a c w h =
      read_done (here z) s (Returns inside) (return_statement None)
      (subst (λ x. GoodStatement p (here z) x inside true (return_statement None)) (some_is given_back.Nothing g b)
      (record { typed = tt; returns_so = refl; called = none_checked p }))
  good_returned inside s result.Void (Some e) b a c w h = absurd h
  good_returned inside s (result.Value t) None b a c w h = absurd h
  good_returned inside s (result.Value t) (Some e) b a c w h =
      let r = mapped given_back.Value (slot_written (known_in p) z.function.variables t) g b in
      let is = slot_same (declared_by p) (order.reached (declared_by p)) z.function z.domains z.count t h.0 r.part h.1 r.there in
      read_one s e h.2.0 (Returns inside) (λ v. return_statement (Some v)) a c w h.2.1
      (λ v x. subst (λ y. GoodStatement p (here z) y inside true (return_statement (Some v))) r.is
      (record { typed = fits p (here z) r.part r.part.shape h.0 h.2.0 v h.2.2 is.shape is.seen_by x; returns_so = refl; called = x.called }))

  -- WHOLE STATEMENTS: with all slots of the function

  module _ (final : List DeclaredType) (written : slots_written (known_in p) z.function.variables final ≡ Some z.slots) where
    -- a piece that leads from the variables of s to those of t
    abbrev Walks : {A : Type 0} → Resolving A → (s t : checked.Scope) → (A → Type 0) → Type 0
    Walks m s t P = Step m (Walked (here z) final s t P)

    held_at : (b : FunctionScope) (t : DeclaredType) (v : ValueType) → type_written (setting z) t ≡ Some v → Begins (b.slots ++ t ∷ []) final
        → HoldsAt (here z) v (length b.slots)
    held_at b t v e l =
        let there = ap (λ (ts : List DeclaredType). slice_get ts (length b.slots)) l.1 ∙ at_last b.slots l.0 t in
        let s = slots_at (known_in p) z.function.variables final z.slots (length b.slots) t written there in
        record { slot = s.0; at = s.1; is = slot_same (declared_by p) (order.reached (declared_by p)) z.function z.domains z.count t v s.0 e s.2 }

    pub new_variable : (x : List ℕ) (b : FunctionScope) (t : DeclaredType) → Begins (b.slots ++ t ∷ []) final
        → SameVariable (here z) (record { name = x; held = type_written (setting z) t })
        (record { name = x; known = record { slot = length b.slots; shape = shape_written t } })
    new_variable x b t l =
        record {
          name = refl;
          held = λ v e.
              let m = mapped (in_domain t) (domain_of (setting z) t.domain) v e in
              let o = held_at b t v e l in
              record { slot = o.slot; at = o.at; is = o.is; shape = ap shape_in m.is };
        }

    good_declared : (inside : Bool) (s : checked.Scope) (t : DeclarationTree) → Agreed (names_in_declaration t)
        → AreMade z (declaration_calls (setting z) s t) → DeclaresWords t → IsDeclaration (setting z) s t
        → Walks (declared (known_in p) t) s (checked.with_variable (variable_declared (setting z) t) s) (Runs inside)
    good_declared inside s t a c w h =
        record { from = λ b x q e. go b x q (initial (known_in p) line (length b.slots) t.declared.element t.size t.value b) refl e }
      where
        line : ℕ
        line = t.declared.place.line

        behind : checked.Scope
        behind = checked.with_variable (variable_declared (setting z) t) s

        element : h.held.element ≡ t.declared.element
        element = let m = mapped (in_domain t.declared) (domain_of (setting z) t.declared.domain) h.held h.written in
            ap (λ (v : ValueType). v.element) (sym m.is)

        first : (k : ℕ) → Step (initial (known_in p) line k t.declared.element t.size t.value) (Read (here z) s (IfHeld inside h.held k))
        first k = subst (λ d. Step (initial (known_in p) line k d t.size t.value) (Read (here z) s (IfHeld inside h.held k))) element
            (good_initial inside s k line h.held t.size t.value a c w.0 w.1 h.initial)

        made : (b : FunctionScope) (x : TypedStatementTree) → (Same (here z) s b.scope → IfHeld inside h.held (length b.slots) x)
            → Walked (here z) final s behind (Runs inside) b x (declaring t.variable t.declared b)
        made b x k = record {
          grows = (t.declared ∷ [], refl);
          good = λ m l. (
            record { block = (new_variable t.variable.text b t.declared l, m.block); outer = m.outer },
            k m (held_at b t.declared h.held h.written l),
          );
        }

        go : (b : FunctionScope) (x : TypedStatementTree) (q : FunctionScope) (o : Option (TypedStatementTree × FunctionScope))
            → initial (known_in p) line (length b.slots) t.declared.element t.size t.value b ≡ o
            → carry o (λ y r. Some (pair_of y (declaring t.variable t.declared r))) ≡ Some (x, q) → Walked (here z) final s behind (Runs inside) b x q
        go b x q None i e = cc
        go b x q (Some r) i e =
            let read = (first (length b.slots)).from b r.0 r.1 i in
            comes (Walked (here z) final s behind (Runs inside) b) r.0 x (declaring t.variable t.declared r.1) q e
            (subst (λ y. Walked (here z) final s behind (Runs inside) b r.0 (declaring t.variable t.declared y)) read.kept (made b r.0 read.good))

    good_started : (inside : Bool) (s : checked.Scope) (t : StartTree) → Agreed (names_in_start t) → AreMade z (start_calls (setting z) s t)
        → StartsWithWords t → IsStart (setting z) s t → Walks (started (known_in p) t) s (after_start (setting z) s t) (Runs inside)
    good_started inside s starts_with_nothing a c w h =
        walked_done (here z) final s (Runs inside) empty_statement (record { typed = tt; returns_so = refl; called = none_checked p })
    good_started inside s (starts_with_declaration t) a c w h = good_declared inside s t a c w h
    good_started inside s (starts_with_assignment t) a c w h =
        walked_read (here z) final s (Runs inside) (assigned (known_in p) t) (good_assigned inside s t a c w h)

    walks_value : (s : checked.Scope) (e : Tree) → Agreed (names_in e) → AreMade z (calls_of (setting z) s e) → HasWords e
        → HasPublicScalar (setting z) s e datatype.Bool → Walks (expression (known_in p) e) s s (GoodTree p (here z) (public_scalar datatype.Bool))
    walks_value s e a c w h = walked_read (here z) final s (GoodTree p (here z) (public_scalar datatype.Bool)) (expression (known_in p) e)
        (read_value s e (public_scalar datatype.Bool) a c w h)

    abbrev IsTest : TypedTree → Type 0
    IsTest v = GoodTree p (here z) (public_scalar datatype.Bool) v

    -- the whole of a `for`
    abbrev whole : TypedStatementTree → TypedTree → TypedStatementTree → TypedStatementTree → TypedStatementTree
    whole x v y q = block_statement (also x (also (loop_statement v y q) none))

    good_whole : (inside r : Bool) (x : TypedStatementTree) (v : TypedTree) (y q : TypedStatementTree) → Runs inside x → IsTest v → Runs false y
        → GoodStatement p (here z) g true r q → Runs inside (whole x v y q)
    good_whole inside r x v y q a t c b =
        record {
          typed = (a.typed, (((t.gives, t.seen_by), c.typed, b.typed), tt));
          returns_so = ap (λ d. d || (false || false)) a.returns_so;
          called =
              both_checked p (typed_statement_calls (here z) x)
              ((typed_statement_calls (here z) q ++ (typed_statement_calls (here z) y ++ calls (here z) v)) ++ []) a.called
              (both_checked p (typed_statement_calls (here z) q ++ (typed_statement_calls (here z) y ++ calls (here z) v)) []
              (both_checked p (typed_statement_calls (here z) q) (typed_statement_calls (here z) y ++ calls (here z) v) b.called
              (both_checked p (typed_statement_calls (here z) y) (calls (here z) v) c.called t.called)) (none_checked p));
        }

    good_looped : (inside r : Bool) (s u : checked.Scope) (b : StartTree) (e : Option Tree) (c : StepTree) (body : Resolving TypedStatementTree)
        → Agreed (names_in_start b) → Agreed (names_in_optional e) → Agreed (names_in_step c) → AreMade z (start_calls (setting z) s b)
        → AreMade z (optional_calls (setting z) (after_start (setting z) s b) e) → AreMade z (step_calls (setting z) (after_start (setting z) s b) c)
        → StartsWithWords b → HasWordsIf e → StepsByWords c → IsStart (setting z) s b
        → IsOptionalCondition (setting z) (after_start (setting z) s b) e → IsStep (setting z) (after_start (setting z) s b) c
        → Walks body (checked.inner (after_start (setting z) s b)) u (GoodStatement p (here z) g true r)
        → Walks (looped (known_in p) b e c body) s (after_start (setting z) s b) (Runs inside)
    good_looped inside r s u b e c body ab ae ac cb ce cc' wb we wc hb he hc within =
        walked_bind (here z) final s t t (Runs inside) (Runs inside) (started (known_in p) b)
        (λ x. condition_of (known_in p) e >>= λ v. stepped (known_in p) c >>= λ y. in_block body >>= λ q. done (whole x v y q))
        (good_started inside s b ab cb wb hb)
        (λ x. walked_bind (here z) final t t t IsTest (λ d. Runs inside x → Runs inside d) (condition_of (known_in p) e)
        (λ v. stepped (known_in p) c >>= λ y. in_block body >>= λ q. done (whole x v y q))
        (walked_read (here z) final t IsTest (condition_of (known_in p) e) (read_condition t e ae ce we he))
        (λ v. walked_bind (here z) final t t t (Runs false) (λ d. IsTest v → Runs inside x → Runs inside d) (stepped (known_in p) c)
        (λ y. in_block body >>= λ q. done (whole x v y q))
        (walked_read (here z) final t (Runs false) (stepped (known_in p) c) (good_stepped t c ac cc' wc hc))
        (λ y. walked_bind (here z) final t t t (GoodStatement p (here z) g true r) (λ d. Runs false y → IsTest v → Runs inside x → Runs inside d)
        (in_block body) (λ q. done (whole x v y q)) (walked_block (here z) final t u (GoodStatement p (here z) g true r) body within)
        (λ q. walked_done (here z) final t (λ d. GoodStatement p (here z) g true r q → Runs false y → IsTest v → Runs inside x → Runs inside d)
        (whole x v y q) (λ kq ky kv kx. good_whole inside r x v y q kx kv ky kq)))))
      where
        t : checked.Scope
        t = after_start (setting z) s b

    good_test : (P q : TypedStatementTree → Type 0) (s u : checked.Scope) (e : Tree) (m : Resolving TypedStatementTree)
        (make : TypedTree → TypedStatementTree → TypedStatementTree)
        → Agreed (names_in e) → AreMade z (calls_of (setting z) s e) → HasWords e → HasPublicScalar (setting z) s e datatype.Bool
        → Walks m (checked.inner s) u P → ((v : TypedTree) (c : TypedStatementTree) → IsTest v → P c → q (make v c))
        → Walks (expression (known_in p) e >>= λ v. in_block m >>= λ c. done (make v c)) s s q
    good_test P q s u e m make a c w h within f =
        walked_bind (here z) final s s s IsTest q (expression (known_in p) e) (λ v. in_block m >>= λ c. done (make v c)) (walks_value s e a c w h)
        (λ v. walked_bind (here z) final s s s P (λ d. IsTest v → q d) (in_block m) (λ c. done (make v c)) (walked_block (here z) final s u P m within)
        (λ c. walked_done (here z) final s (λ d. P c → IsTest v → q d) (make v c) (λ k t. f v c t k)))

    good_if : (inside x y : Bool) (v : TypedTree) (b c : TypedStatementTree) → IsTest v → GoodStatement p (here z) g inside x b
        → GoodStatement p (here z) g inside y c → GoodStatement p (here z) g inside (x && y) (if_statement v b c)
    good_if inside x y v b c t k l =
        record {
          typed = ((t.gives, t.seen_by), k.typed, l.typed);
          returns_so = ap₂ (λ i j. i && j) k.returns_so l.returns_so;
          called = both_checked p (calls (here z) v) (typed_statement_calls (here z) b ++ typed_statement_calls (here z) c) t.called
              (both_checked p (typed_statement_calls (here z) b) (typed_statement_calls (here z) c) k.called l.called);
        }

    -- nothing otherwise: it never counts as returning
    runs_branch : (inside r : Bool) (v : TypedTree) (b : TypedStatementTree) → IsTest v → GoodStatement p (here z) g inside r b
        → Runs inside (if_statement v b empty_statement)
    runs_branch inside r v b t k =
        record {
          typed = ((t.gives, t.seen_by), k.typed, tt);
          returns_so = never (always_returns b);
          called = both_checked p (calls (here z) v) (typed_statement_calls (here z) b ++ []) t.called
              (both_checked p (typed_statement_calls (here z) b) [] k.called (none_checked p));
        }
      where
        never : (r : Bool) → (r && false) ≡ false
        never true = refl
        never false = refl

    good_choice : (inside x y : Bool) (s t u : checked.Scope) (e : Tree) (m k : Resolving TypedStatementTree) → Agreed (names_in e)
        → AreMade z (calls_of (setting z) s e) → HasWords e → HasPublicScalar (setting z) s e datatype.Bool
        → Walks m (checked.inner s) t (GoodStatement p (here z) g inside x) → Walks k (checked.inner s) u (GoodStatement p (here z) g inside y)
        → Walks (expression (known_in p) e >>= λ v. in_block m >>= λ b. in_block k >>= λ c. done (if_statement v b c)) s s
        (GoodStatement p (here z) g inside (x && y))
    good_choice inside x y s t u e m k a c w h first second =
        walked_bind (here z) final s s s IsTest Both (expression (known_in p) e)
        (λ v. in_block m >>= λ b. in_block k >>= λ c. done (if_statement v b c)) (walks_value s e a c w h)
        (λ v. walked_bind (here z) final s s s (GoodStatement p (here z) g inside x) (λ d. IsTest v → Both d) (in_block m)
        (λ b. in_block k >>= λ c. done (if_statement v b c)) (walked_block (here z) final s t (GoodStatement p (here z) g inside x) m first)
        (λ b. walked_bind (here z) final s s s (GoodStatement p (here z) g inside y) (λ d. GoodStatement p (here z) g inside x b → IsTest v → Both d)
        (in_block k) (λ c. done (if_statement v b c)) (walked_block (here z) final s u (GoodStatement p (here z) g inside y) k second)
        (λ c. walked_done (here z) final s (λ d. GoodStatement p (here z) g inside y c → GoodStatement p (here z) g inside x b → IsTest v → Both d)
        (if_statement v b c) (λ kc kb kv. good_if inside x y v b c kv kb kc))))
      where
        Both : TypedStatementTree → Type 0
        Both d = GoodStatement p (here z) g inside (x && y) d

    good_do : (inside r : Bool) (s u : checked.Scope) (e : Tree) (m : Resolving TypedStatementTree) → Agreed (names_in e) → AreMade z (calls_of (setting z) s e)
        → HasWords e → HasPublicScalar (setting z) s e datatype.Bool → Walks m (checked.inner s) u (GoodStatement p (here z) g true r)
        → Walks (in_block m >>= λ b. expression (known_in p) e >>= λ v. done (do_statement b v)) s s (Runs inside)
    good_do inside r s u e m a c w h within =
        walked_bind (here z) final s s s (GoodStatement p (here z) g true r) (Runs inside) (in_block m)
        (λ b. expression (known_in p) e >>= λ v. done (do_statement b v)) (walked_block (here z) final s u (GoodStatement p (here z) g true r) m within)
        (λ b. walked_read (here z) final s (λ d. GoodStatement p (here z) g true r b → Runs inside d)
        (expression (known_in p) e >>= λ v. done (do_statement b v))
        (read_one s e (public_scalar datatype.Bool) (λ d. GoodStatement p (here z) g true r b → Runs inside d) (do_statement b) a c w h
        (λ v t k. record {
          typed = (k.typed, (t.gives, t.seen_by));
          returns_so = refl;
          called =
              both_checked p (typed_statement_calls (here z) b) (calls (here z) v) k.called t.called;
        })))

    mutual
      good_statement : (inside : Bool) (s : checked.Scope) (t : StatementTree)
          → functions.given_back (known_in p) z.function.variables z.function.returned ≡ Some g → Agreed (names_by t)
          → AreMade z (statement_calls (setting z) s t) → MayStand inside t → IsTyped (setting z) z.function.returned s t
          → Walks (resolved (known_in p) t) s (after (setting z) s t) (GoodStatement p (here z) g inside (checker.always_returns t))
      good_statement inside s (block q ss) back a c w h =
          walked_bind (here z) final s s s (GoodStatements p (here z) g inside (checker.one_returns ss))
          (GoodStatement p (here z) g inside (checker.one_returns ss)) (in_block (resolved_all (known_in p) ss)) (λ cs. done (block_statement cs))
          (walked_block (here z) final s (after_all (setting z) (checked.inner s) ss) (GoodStatements p (here z) g inside (checker.one_returns ss))
          (resolved_all (known_in p) ss) (good_statements inside (checked.inner s) ss back a c w h))
          (λ cs. walked_done (here z) final s (λ d. GoodStatements p (here z) g inside (checker.one_returns ss) cs
          → GoodStatement p (here z) g inside (checker.one_returns ss) d) (block_statement cs)
          (λ k. record { typed = k.typed; returns_so = k.returns_so; called = k.called }))
      good_statement inside s (empty q) back a c w h =
          walked_done (here z) final s (Runs inside) empty_statement (record { typed = tt; returns_so = refl; called = none_checked p })
      good_statement inside s (branch q e body) back a c w h =
          let r = checker.always_returns body in
          good_test (GoodStatement p (here z) g inside r) (Runs inside) s (after (setting z) (checked.inner s) body) e (resolved (known_in p) body)
          (λ v d. if_statement v d empty_statement)
          (left_of (names_in e) (names_by body) a) (made_left (calls_of (setting z) s e) (statement_calls (setting z) (checked.inner s) body) c) w.0 h.0
          (good_statement inside (checked.inner s) body back (right_of (names_in e) (names_by body) a)
          (made_right (calls_of (setting z) s e) (statement_calls (setting z) (checked.inner s) body) c) w.1 h.1)
          (λ v d t k. runs_branch inside r v d t k)
      good_statement inside s (choice q e body otherwise) back a c w h =
          let inner = right_of (names_in e) (names_by body ++ names_by otherwise) a in
          let one = calls_of (setting z) s e in
          let two = statement_calls (setting z) (checked.inner s) body in
          let three = statement_calls (setting z) (checked.inner s) otherwise in
          let front = made_left (one ++ two) three c in
          good_choice inside (checker.always_returns body) (checker.always_returns otherwise) s (after (setting z) (checked.inner s) body)
          (after (setting z) (checked.inner s) otherwise) e (resolved (known_in p) body) (resolved (known_in p) otherwise)
          (left_of (names_in e) (names_by body ++ names_by otherwise) a) (made_left one two front) w.0 h.0
          (good_statement inside (checked.inner s) body back (left_of (names_by body) (names_by otherwise) inner) (made_right one two front) w.1 h.1)
          (good_statement inside (checked.inner s) otherwise back (right_of (names_by body) (names_by otherwise) inner)
          (made_right (one ++ two) three c) w.2 h.2)
      good_statement inside s (while_loop q e body) back a c w h =
          let r = checker.always_returns body in
          good_test (GoodStatement p (here z) g true r) (Runs inside) s (after (setting z) (checked.inner s) body) e (resolved (known_in p) body)
          (λ v d. loop_statement v empty_statement d)
          (left_of (names_in e) (names_by body) a) (made_left (calls_of (setting z) s e) (statement_calls (setting z) (checked.inner s) body) c) w.0 h.0
          (good_statement true (checked.inner s) body back (right_of (names_in e) (names_by body) a)
          (made_right (calls_of (setting z) s e) (statement_calls (setting z) (checked.inner s) body) c) w.1 h.1)
          (λ v d t k. record {
            typed = ((t.gives, t.seen_by), tt, k.typed);
            returns_so = refl;
            called =
                both_checked p (typed_statement_calls (here z) d) ([] ++ calls (here z) v) k.called t.called;
          })
      good_statement inside s (do_loop q body e) back a c w h =
          good_do inside (checker.always_returns body) s (after (setting z) (checked.inner s) body) e (resolved (known_in p) body)
          (right_of (names_by body) (names_in e) a) (made_right (statement_calls (setting z) (checked.inner s) body) (calls_of (setting z) s e) c) w.1 h.1
          (good_statement true (checked.inner s) body back (left_of (names_by body) (names_in e) a)
          (made_left (statement_calls (setting z) (checked.inner s) body) (calls_of (setting z) s e) c) w.0 h.0)
      good_statement inside s (for_loop q b e k body) back a c w h =
          let within = checked.inner (after_start (setting z) (checked.inner s) b) in
          let t = after_start (setting z) (checked.inner s) b in
          let one = start_calls (setting z) (checked.inner s) b in
          let two = optional_calls (setting z) t e in
          let three = step_calls (setting z) t k in
          let four = statement_calls (setting z) within body in
          let rest = right_of (names_in_start b) (names_in_optional e ++ (names_in_step k ++ names_by body)) a in
          let behind = right_of (names_in_optional e) (names_in_step k ++ names_by body) rest in
          let front = made_left ((one ++ two) ++ three) four c in
          let head = made_left (one ++ two) three front in
          walked_block (here z) final s t (Runs inside) (looped (known_in p) b e k (resolved (known_in p) body))
          (good_looped inside (checker.always_returns body) (checked.inner s) (after (setting z) within body) b e k (resolved (known_in p) body)
          (left_of (names_in_start b) (names_in_optional e ++ (names_in_step k ++ names_by body)) a)
          (left_of (names_in_optional e) (names_in_step k ++ names_by body) rest) (left_of (names_in_step k) (names_by body) behind)
          (made_left one two head) (made_right one two head) (made_right (one ++ two) three front) w.0 w.1 w.2 h.0 h.1 h.2
          (good_statement true within body back (right_of (names_in_step k) (names_by body) behind) (made_right ((one ++ two) ++ three) four c) w.3 h.3))
      good_statement inside s (breaks q) back a c w h =
          walked_done (here z) final s (Runs inside) break_statement (record { typed = w; returns_so = refl; called = none_checked p })
      good_statement inside s (continues q) back a c w h =
          walked_done (here z) final s (Runs inside) continue_statement (record { typed = w; returns_so = refl; called = none_checked p })
      good_statement inside s (returns q e) back a c w h =
          walked_read (here z) final s (Returns inside) (returned (known_in p) e) (good_returned inside s z.function.returned e back a c w h)
      good_statement inside s (assertion q e) back a c w h =
          walked_read (here z) final s (Runs inside) (expression (known_in p) e >>= λ v. done (assert_statement q.line v))
          (read_one s e (public_scalar datatype.Bool) (Runs inside) (assert_statement q.line) a c w h
          (λ v t. record { typed = (t.gives, t.seen_by); returns_so = refl; called = t.called }))
      good_statement inside s (declaration t) back a c w h = good_declared inside s t a c w h
      good_statement inside s (assignment t) back a c w h =
          walked_read (here z) final s (Runs inside) (assigned (known_in p) t) (good_assigned inside s t a c w h)
      good_statement inside s (evaluation e) back a c w h =
          walked_read (here z) final s (Runs inside) (evaluated (known_in p) e) (good_evaluated inside s e h.0 a c w h.1)

      pub good_statements : (inside : Bool) (s : checked.Scope) (ts : StatementTrees)
          → functions.given_back (known_in p) z.function.variables z.function.returned ≡ Some g → Agreed (names_by_all ts)
          → AreMade z (block_calls (setting z) s ts) → MayStandAll inside ts → AreTyped (setting z) z.function.returned s ts
          → Walks (resolved_all (known_in p) ts) s (after_all (setting z) s ts) (GoodStatements p (here z) g inside (checker.one_returns ts))
      good_statements inside s Statements'.none back a c w h =
          walked_done (here z) final s (GoodStatements p (here z) g inside false) none (record { typed = tt; returns_so = refl; called = none_checked p })
      good_statements inside s (Statements'.also t ts) back a c w h =
          let behind = after (setting z) s t in
          let last = after_all (setting z) (after (setting z) s t) ts in
          let x = checker.always_returns t in
          let y = checker.one_returns ts in
          walked_bind (here z) final s behind last (GoodStatement p (here z) g inside x) (GoodStatements p (here z) g inside (x || y))
          (resolved (known_in p) t) (λ d. resolved_all (known_in p) ts >>= λ ds. done (also d ds))
          (good_statement inside s t back (left_of (names_by t) (names_by_all ts) a)
          (made_left (statement_calls (setting z) s t) (block_calls (setting z) (after (setting z) s t) ts) c) w.0 h.0)
          (λ d. walked_bind (here z) final behind last last (GoodStatements p (here z) g inside y)
          (λ ds. GoodStatement p (here z) g inside x d → GoodStatements p (here z) g inside (x || y) ds) (resolved_all (known_in p) ts) (λ ds. done (also d ds))
          (good_statements inside (after (setting z) s t) ts back (right_of (names_by t) (names_by_all ts) a)
          (made_right (statement_calls (setting z) s t) (block_calls (setting z) (after (setting z) s t) ts) c) w.1 h.1)
          (λ ds. walked_done (here z) final last (λ es. GoodStatements p (here z) g inside y ds → GoodStatement p (here z) g inside x d
          → GoodStatements p (here z) g inside (x || y) es) (also d ds)
          (λ k j. record {
            typed = (j.typed, k.typed);
            returns_so = ap₂ (λ i l. i || l) j.returns_so k.returns_so;
            called =
                both_checked p (typed_statement_calls (here z) d) (typed_statements_calls (here z) ds) j.called k.called;
          })))
