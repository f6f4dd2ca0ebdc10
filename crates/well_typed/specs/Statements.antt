-- Which statements are well typed, and which always return.
use Rattle.std.specs.Prelude.{◌≡◌, ℕ, Bool, true, false, ◌&&◌, ◌||◌, Option, Some, None}
use Rattle.std.specs.List.{slice_get}
use Rattle.program_trees.specs.declared.expression.DataType.{DataType}
use Rattle.program_trees.specs.declared.expression.DataType.TheVariants.{Uint64}
use Rattle.program_trees.specs.declared.expression.DataType.TheVariants as datatype
use Rattle.program_trees.specs.declared.kinds.Shape.{Shape}
use Rattle.program_trees.specs.declared.kinds.Slot.{Slot}
use Rattle.program_trees.specs.declared.typed_function.Returned.{Returned}
use Rattle.program_trees.specs.declared.typed_function.Returned.TheVariants.{Nothing, Value}
use Rattle.program_trees.specs.TypedTree.{TypedTree}
use Rattle.program_trees.specs.TypedStatements.{TypedStatementTree, TypedStatementTrees, empty_statement, block_statement, if_statement, loop_statement, do_statement}
use Rattle.program_trees.specs.TypedStatements.{break_statement, continue_statement, return_statement, assert_statement, store_statement, default_statement}
use Rattle.program_trees.specs.TypedStatements.{fill_statement, input_statement, element_statement, publish_statement, evaluate_statement}
use Rattle.program_trees.specs.TypedStatements as Statements'
use Rattle.reached_instances.specs.declared.instance.BoundDomain.TheVariants.{Public}
use Rattle.reached_instances.specs.Domains.{Setting, domain, domain_under}
use Rattle.well_typed.specs.Kinds.{scalar, GoesTo}
use Rattle.well_typed.specs.Expressions.{Gives}

-- a condition, an assertion, an index or a size
abbrev pub IsPublicScalar : Setting → DataType → TypedTree → Type 0
IsPublicScalar w element e = Gives w e (Some (scalar element)) × (domain w e ≡ Public)

-- a value of this shape that may go to this slot
abbrev pub FitsInto : Setting → Slot → Shape → TypedTree → Type 0
FitsInto w s shape e = Gives w e (Some shape) × GoesTo (domain w e) (domain_under w.binding s.domain)

-- a slot of an array
abbrev pub IsArraySlot : Setting → ℕ → Slot → Type 0
IsArraySlot w k s = (slice_get w.slots k ≡ Some s) × (s.shape.array ≡ true)

abbrev pub IsReturned : Setting → Returned → Option TypedTree → Type 0
IsReturned w Nothing None = Unit {0}
IsReturned w Nothing (Some e) = ⊥
IsReturned w (Value s) None = ⊥
IsReturned w (Value s) (Some e) = FitsInto w s s.shape e

-- in a function that gives this back, inside of a loop or not
abbrev mutual
  pub IsWellTypedStatement : Setting → Returned → (inside : Bool) → TypedStatementTree → Type 0
  IsWellTypedStatement w g inside empty_statement = Unit {0}
  IsWellTypedStatement w g inside (block_statement cs) = AreWellTypedStatements w g inside cs
  IsWellTypedStatement w g inside (if_statement e a b) =
      IsPublicScalar w datatype.Bool e × IsWellTypedStatement w g inside a × IsWellTypedStatement w g inside b
  IsWellTypedStatement w g inside (loop_statement e step body) =
      IsPublicScalar w datatype.Bool e × IsWellTypedStatement w g false step × IsWellTypedStatement w g true body
  IsWellTypedStatement w g inside (do_statement body e) = IsWellTypedStatement w g true body × IsPublicScalar w datatype.Bool e
  IsWellTypedStatement w g inside break_statement = inside ≡ true
  IsWellTypedStatement w g inside continue_statement = inside ≡ true
  IsWellTypedStatement w g inside (return_statement e) = IsReturned w g e
  IsWellTypedStatement w g inside (assert_statement line e) = IsPublicScalar w datatype.Bool e
  IsWellTypedStatement w g inside (store_statement k e) = (s : Slot) × (slice_get w.slots k ≡ Some s) × FitsInto w s s.shape e
  IsWellTypedStatement w g inside (default_statement k) = (s : Slot) × (slice_get w.slots k ≡ Some s)
  IsWellTypedStatement w g inside (fill_statement line k n e) =
      (s : Slot) × IsArraySlot w k s × IsPublicScalar w Uint64 n × FitsInto w s (scalar s.shape.element) e
  IsWellTypedStatement w g inside (input_statement line k x) = (s : Slot) × (slice_get w.slots k ≡ Some s)
  IsWellTypedStatement w g inside (element_statement line k i e) =
      (s : Slot) × IsArraySlot w k s × IsPublicScalar w Uint64 i × FitsInto w s (scalar s.shape.element) e
  IsWellTypedStatement w g inside (publish_statement x e) = (s : Shape) × Gives w e (Some s)
  IsWellTypedStatement w g inside (evaluate_statement e) = (o : Option Shape) × Gives w e o

  pub AreWellTypedStatements : Setting → Returned → (inside : Bool) → TypedStatementTrees → Type 0
  AreWellTypedStatements w g inside Statements'.none = Unit {0}
  AreWellTypedStatements w g inside (Statements'.also c cs) = IsWellTypedStatement w g inside c × AreWellTypedStatements w g inside cs

-- a return, a block with a statement that always returns, an `if` whose both branches do; a loop never counts
abbrev mutual
  pub always_returns : TypedStatementTree → Bool
  always_returns empty_statement = false
  always_returns (block_statement cs) = one_returns cs
  always_returns (if_statement e a b) = always_returns a && always_returns b
  always_returns (loop_statement e step body) = false
  always_returns (do_statement body e) = false
  always_returns break_statement = false
  always_returns continue_statement = false
  always_returns (return_statement e) = true
  always_returns (assert_statement line e) = false
  always_returns (store_statement k e) = false
  always_returns (default_statement k) = false
  always_returns (fill_statement line k n e) = false
  always_returns (input_statement line k x) = false
  always_returns (element_statement line k i e) = false
  always_returns (publish_statement x e) = false
  always_returns (evaluate_statement e) = false

  pub one_returns : TypedStatementTrees → Bool
  one_returns Statements'.none = false
  one_returns (Statements'.also c cs) = always_returns c || one_returns cs
