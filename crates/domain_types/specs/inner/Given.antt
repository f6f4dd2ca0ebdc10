-- Cited by private functions alone: no contract of another crate rests on it.
-- Rules as they are checked, where a part of what they look at is known already.
use Rattle.std.specs.Prelude.{Bool, true, false, List, [], Option, Some, None}
use Rattle.sc_text.specs.declared.span.Span.{Span}
use Rattle.program_trees.specs.declared.expression.DataType.TheVariants as datatype
use Rattle.program_trees.specs.declared.function.ResultType.{ResultType}
use Rattle.program_trees.specs.declared.function.ResultType.TheVariants as returned
use Rattle.program_trees.specs.Tree.{Tree}
use Rattle.program_trees.specs.Heights.{place_of}
use Rattle.domain_types.specs.declared.fault.TypeProblem.TheVariants.{TypeMismatch, PrivateCondition}
use Rattle.domain_types.specs.declared.fault.TypeFault.{TypeFault}
use Rattle.domain_types.specs.declared.value_type.ValueType.{ValueType}
use Rattle.domain_types.specs.Types.{fault_at, of_typed, scalar_faults, store_faults}
use Rattle.domain_types.specs.Settings.{Setting, type_written}
use Rattle.domain_types.specs.Scopes.{Scope}
use Rattle.domain_types.specs.ExpressionTypes.{value_type}

-- the type of an expression that may be left out
abbrev pub optional_type : Setting → Scope → Option Tree → Option ValueType
optional_type w s None = None
optional_type w s (Some e) = value_type w s e

-- the condition of a `for`, which has the given type
abbrev pub for_rule : Option Tree → Option ValueType → (step_typed : Bool) → List TypeFault
for_rule None t b = []
for_rule (Some e) t false = []
for_rule (Some e) t true = of_typed t (scalar_faults datatype.Bool PrivateCondition (place_of e))

-- a `return` at p of a value of the given type
abbrev pub return_rule : Setting → Span → ResultType → Option Tree → Option ValueType → List TypeFault
return_rule w p returned.Void None given = []
return_rule w p returned.Void (Some e) given = of_typed given (λ t. fault_at p TypeMismatch)
return_rule w p (returned.Value t) None given = fault_at p TypeMismatch
return_rule w p (returned.Value t) (Some e) given =
    of_typed (type_written w t) (λ wanted. of_typed given (store_faults (place_of e) wanted))
