-- Where a value may go, and the faults that say that it may not.
use Rattle.std.specs.Prelude.{Bool, true, false, not, ◌&&◌, nat_eq, if◌then◌else◌, List, [], ◌∷◌, ◌++◌, Option, Some, None}
use Rattle.sc_text.specs.declared.span.Span.{Span}
use Rattle.program_trees.specs.declared.expression.DataType.{DataType}
use Rattle.program_trees.specs.declared.expression.DataType.TheVariants as datatype
use Rattle.domain_types.specs.declared.fault.TypeProblem.{TypeProblem}
use Rattle.domain_types.specs.declared.fault.TypeProblem.TheVariants.{TypeMismatch, PrivateToPublic, DomainMix}
use Rattle.domain_types.specs.declared.fault.TypeFault.{TypeFault}
use Rattle.domain_types.specs.declared.value_type.Protection.{Protection}
use Rattle.domain_types.specs.declared.value_type.Protection.TheVariants.{Public, Private}
use Rattle.domain_types.specs.declared.value_type.ValueType.{ValueType}
use Rattle.domain_types.specs.declared.value_type.ExpressionType.{ExpressionType}
use Rattle.domain_types.specs.declared.value_type.ExpressionType.TheVariants.{Void, Value}

-- one fault
abbrev pub fault_at : Span → TypeProblem → List TypeFault
fault_at p problem = record { place = p; problem = problem } ∷ []

-- one fault, where it is so
abbrev pub fault_if : Bool → Span → TypeProblem → List TypeFault
fault_if true p problem = fault_at p problem
fault_if false p problem = []

-- whether a list has no element
abbrev pub is_without : {A : Type 0} → List A → Bool
is_without [] = true
is_without (x ∷ xs) = false

-- what a node says of a part: nothing where the part has no type
abbrev pub of_typed : {A : Type 0} → Option A → (A → List TypeFault) → List TypeFault
of_typed None say = []
of_typed (Some t) say = say t

-- a node that is refused has no type
abbrev pub unless_refused : {A : Type 0} → List TypeFault → Option A → Option A
unless_refused fs t = if is_without fs then t else None

-- the value that an expression gives: a void call gives none
abbrev pub value_of : Option ExpressionType → Option ValueType
value_of (Some (Value t)) = Some t
value_of _ = None

-- a void call, beginning at p, where a value is wanted
abbrev pub void_faults : Span → Option ExpressionType → List TypeFault
void_faults p (Some Void) = fault_at p TypeMismatch
void_faults p _ = []

abbrev pub is_private : Protection → Bool
is_private Public = false
is_private (Private k) = true

-- a private value is private in an operation with public ones; two private domains do not meet
abbrev pub meet : Protection → Protection → Option Protection
meet Public d = Some d
meet (Private k) Public = Some (Private k)
meet (Private k) (Private m) = if nat_eq k m then Some (Private k) else None

-- where an operation has operands of these domains
abbrev pub mix_faults : Span → Protection → Protection → List TypeFault
mix_faults p (Private k) (Private m) = fault_if (not (nat_eq k m)) p DomainMix
mix_faults p _ _ = []

abbrev pub is_uint64 : DataType → Bool
is_uint64 datatype.Uint64 = true
is_uint64 datatype.Int64 = false
is_uint64 datatype.Bool = false

-- with a sign or without
abbrev pub is_number : DataType → Bool
is_number datatype.Uint64 = true
is_number datatype.Int64 = true
is_number datatype.Bool = false

abbrev pub same_element : DataType → DataType → Bool
same_element datatype.Uint64 datatype.Uint64 = true
same_element datatype.Int64 datatype.Int64 = true
same_element datatype.Bool datatype.Bool = true
same_element _ _ = false

abbrev pub same_dimension : Bool → Bool → Bool
same_dimension true b = b
same_dimension false b = not b

-- where a value of the domain `given` goes to a place of the domain `wanted`: a public one may go anywhere
abbrev pub flow_faults : Span → (wanted given : Protection) → List TypeFault
flow_faults p wanted Public = []
flow_faults p Public (Private k) = fault_at p PrivateToPublic
flow_faults p (Private k) (Private m) = fault_if (not (nat_eq k m)) p DomainMix

-- where a value, beginning at p, goes to a variable, a parameter or a result
abbrev pub store_faults : Span → (wanted given : ValueType) → List TypeFault
store_faults p wanted given =
    fault_if (not (same_element wanted.element given.element && same_dimension wanted.array given.array)) p TypeMismatch
    ++ flow_faults p wanted.domain given.domain

-- a public scalar of this data type is wanted, as a condition, an index, a size or an assertion; a private one is this problem
abbrev pub scalar_faults : DataType → TypeProblem → Span → ValueType → List TypeFault
scalar_faults element private_one p given =
    fault_if (not (same_element element given.element && not given.array)) p TypeMismatch
    ++ fault_if (is_private given.domain) p private_one

-- an element of an array
abbrev pub scalar_of : ValueType → ValueType
scalar_of t = record { domain = t.domain; element = t.element; array = false }

abbrev pub public_scalar : DataType → ValueType
public_scalar element = record { domain = Public; element = element; array = false }
