-- The type of an expression, and all its faults. Each node's rule is a small definition of its own.
use Rattle.std.specs.Prelude.{ℕ, Bool, true, false, not, ◌&&◌, ◌||◌, nat_eq, if◌then◌else◌, List, [], ◌∷◌, ◌++◌, length, Option, Some, None, bytes_eq}
use Rattle.std.specs.Prelude.{is_some, is_none, option_map, option_and_then}
use Rattle.sc_text.specs.declared.span.Span.{Span}
use Rattle.program_trees.specs.declared.expression.DataType.{DataType}
use Rattle.program_trees.specs.declared.expression.DataType.TheVariants as datatype
use Rattle.program_trees.specs.declared.expression.Operator.{Operator}
use Rattle.program_trees.specs.declared.expression.Operator.TheVariants.{Add, Subtract, Multiply, Divide, Remainder, Equal, NotEqual, Less, LessOrEqual}
use Rattle.program_trees.specs.declared.expression.Operator.TheVariants.{Greater, GreaterOrEqual, And, Or, Xor, AndAlso, OrElse}
use Rattle.program_trees.specs.declared.statement.Domain.{Domain}
use Rattle.program_trees.specs.declared.statement.Domain.TheVariants as domain
use Rattle.program_trees.specs.declared.statement.Identifier.{Identifier}
use Rattle.program_trees.specs.declared.function.DomainVariable.{DomainVariable}
use Rattle.program_trees.specs.declared.function.Parameter.{Parameter}
use Rattle.program_trees.specs.declared.function.ResultType.{ResultType}
use Rattle.program_trees.specs.declared.function.ResultType.TheVariants as returned
use Rattle.program_trees.specs.Tree.{Tree, Trees, number, truth, variable, call, index, parentheses, negation, cast, binary, declassify, argument}
use Rattle.program_trees.specs.Tree.{publish, none, also}
use Rattle.program_trees.specs.Heights.{place_of}
use Rattle.program_trees.specs.Programs.{FunctionTree}
use Rattle.domain_types.specs.declared.fault.TypeProblem.TheVariants.{UnknownName, TypeMismatch, PrivateIndex, PrivateDivision, DomainMix, BadArity}
use Rattle.domain_types.specs.declared.fault.TypeProblem.TheVariants.{ArgumentPlace}
use Rattle.domain_types.specs.declared.fault.TypeFault.{TypeFault}
use Rattle.domain_types.specs.declared.value_type.Protection.{Protection}
use Rattle.domain_types.specs.declared.value_type.Protection.TheVariants.{Public, Private}
use Rattle.domain_types.specs.declared.value_type.ValueType.{ValueType}
use Rattle.domain_types.specs.declared.value_type.ExpressionType.{ExpressionType}
use Rattle.domain_types.specs.declared.value_type.Argument.{Argument}
use Rattle.domain_types.specs.declared.value_type.ExpressionType.TheVariants.{Void, Value}
use Rattle.declarations.specs.declared.built_in.BuiltIn.{BuiltIn}
use Rattle.declarations.specs.declared.built_in.BuiltIn.TheVariants.{Size, Cat, Sum, BitExtract, Lookup}
use Rattle.domain_types.specs.Types.{fault_at, fault_if, of_typed, unless_refused, value_of, void_faults, is_private, meet, mix_faults, is_uint64, is_number}
use Rattle.domain_types.specs.Types.{same_element, store_faults, scalar_faults, scalar_of, public_scalar}
use Rattle.declarations.specs.Declarations.{Declared, Callee, built_in, defined, callee}
use Rattle.domain_types.specs.Settings.{bind, Setting, type_written}
use Rattle.domain_types.specs.Scopes.{Variable, Scope, variable_named}

-- VARIABLES

abbrev pub variable_type : Option Variable → Option ValueType
variable_type v = option_and_then (λ (x : Variable). x.held) v

abbrev pub variable_faults : Span → Option Variable → List TypeFault
variable_faults p v = fault_if (is_none v) p UnknownName

-- OPERATORS

-- what an operator makes of uint64 operands, of which one is private or none: division too has a type here, and its own fault
abbrev pub uint64_result : Operator → (private_one : Bool) → Option DataType
uint64_result Add s = Some datatype.Uint64
uint64_result Subtract s = Some datatype.Uint64
uint64_result Multiply s = Some datatype.Uint64
uint64_result Divide s = Some datatype.Uint64
uint64_result Remainder s = Some datatype.Uint64
uint64_result Equal s = Some datatype.Bool
uint64_result NotEqual s = Some datatype.Bool
uint64_result Less s = Some datatype.Bool
uint64_result LessOrEqual s = Some datatype.Bool
uint64_result Greater s = Some datatype.Bool
uint64_result GreaterOrEqual s = Some datatype.Bool
uint64_result And s = if s then None else Some datatype.Uint64
uint64_result Or s = if s then None else Some datatype.Uint64
uint64_result Xor s = if s then None else Some datatype.Uint64
uint64_result AndAlso s = None
uint64_result OrElse s = None

-- of int64 operands the same, but that no operator works on their bits
abbrev pub int64_result : Operator → Option DataType
int64_result Add = Some datatype.Int64
int64_result Subtract = Some datatype.Int64
int64_result Multiply = Some datatype.Int64
int64_result Divide = Some datatype.Int64
int64_result Remainder = Some datatype.Int64
int64_result Equal = Some datatype.Bool
int64_result NotEqual = Some datatype.Bool
int64_result Less = Some datatype.Bool
int64_result LessOrEqual = Some datatype.Bool
int64_result Greater = Some datatype.Bool
int64_result GreaterOrEqual = Some datatype.Bool
int64_result _ = None

-- and of bool operands
abbrev pub bool_result : Operator → Option DataType
bool_result Equal = Some datatype.Bool
bool_result NotEqual = Some datatype.Bool
bool_result And = Some datatype.Bool
bool_result Or = Some datatype.Bool
bool_result Xor = Some datatype.Bool
bool_result AndAlso = Some datatype.Bool
bool_result OrElse = Some datatype.Bool
bool_result _ = None

-- both operands are of one data type
abbrev pub element_result : Operator → (private_one : Bool) → DataType → DataType → Option DataType
element_result op s datatype.Uint64 datatype.Uint64 = uint64_result op s
element_result op s datatype.Int64 datatype.Int64 = int64_result op
element_result op s datatype.Bool datatype.Bool = bool_result op
element_result op s _ _ = None

abbrev pub is_division : Operator → Bool
is_division Divide = true
is_division Remainder = true
is_division _ = false

abbrev pub one_private : ValueType → ValueType → Bool
one_private a b = is_private a.domain || is_private b.domain

abbrev pub element_of : Operator → ValueType → ValueType → Option DataType
element_of op a b = element_result op (one_private a b) a.element b.element

-- the operator's own faults
unfoldable pub operator_faults : Span → Operator → ValueType → ValueType → List TypeFault
operator_faults p op a b =
    fault_if (not (is_some (element_of op a b))) p TypeMismatch
    ++ fault_if (is_division op && one_private a b) p PrivateDivision
    ++ mix_faults p a.domain b.domain

-- a private operand makes the result private, an array makes it an array
abbrev pub result_of : ValueType → ValueType → DataType → Protection → ValueType
result_of a b element domain = record { domain = domain; element = element; array = a.array || b.array }

unfoldable pub operator_type : Span → Operator → ValueType → ValueType → Option ValueType
operator_type p op a b =
    unless_refused (operator_faults p op a b)
    (option_and_then (λ element. option_map (result_of a b element) (meet a.domain b.domain)) (element_of op a b))

-- NOT, CASTS, DECLASSIFY, INDICES

unfoldable pub negation_faults : Span → ValueType → List TypeFault
negation_faults p t = fault_if (is_number t.element) p TypeMismatch

unfoldable pub negation_type : Span → ValueType → Option ValueType
negation_type p t = unless_refused (negation_faults p t) (Some t)

abbrev pub cast_type : DataType → ValueType → ValueType
cast_type element t = record { domain = t.domain; element = element; array = t.array }

abbrev pub declassified : ValueType → ValueType
declassified t = record { domain = Public; element = t.element; array = t.array }

-- an array's element; the index begins at q
unfoldable pub index_faults : Span → Span → ValueType → ValueType → List TypeFault
index_faults p q array position =
    fault_if (not array.array) p TypeMismatch ++ scalar_faults datatype.Uint64 PrivateIndex q position

unfoldable pub index_type : Span → Span → ValueType → ValueType → Option ValueType
index_type p q array position = unless_refused (index_faults p q array position) (Some (scalar_of array))

-- TWO PARTS

-- of two parts, where both are known
abbrev pub of_two : {A B C : Type 0} → (A → B → Option C) → Option A → Option B → Option C
of_two rule (Some a) (Some b) = rule a b
of_two rule _ _ = None

-- CALLS

-- the arguments, where each has a type
abbrev pub with_argument : Span → Option ValueType → Option (List Argument) → Option (List Argument)
with_argument p t gs = of_two (λ (x : ValueType) (xs : List Argument). Some (record { place = p; given = x } ∷ xs)) t gs

-- some arguments and one after them, where each has a type
abbrev pub and_argument : Option (List Argument) → Span → Option ValueType → Option (List Argument)
and_argument None p t = None
and_argument (Some gs) p None = None
and_argument (Some gs) p (Some t) = Some (gs ++ record { place = p; given = t } ∷ [])

-- an array of numbers and uint64 indices, of which one is private
abbrev pub may_look_up : (array index : ValueType) → Bool
may_look_up a i = a.array && is_number a.element && is_uint64 i.element && one_private a i

-- what stands in the array at each index
abbrev pub looked_up : (array index : ValueType) → Protection → ValueType
looked_up a i domain = record { domain = domain; element = a.element; array = i.array }

-- the rules of the built-in functions; p is the call
unfoldable pub built_in_faults : Span → BuiltIn → List Argument → List TypeFault
built_in_faults p Size (a ∷ []) = fault_if (not a.given.array) p TypeMismatch
built_in_faults p Cat (a ∷ b ∷ []) =
    fault_if (not (a.given.array && b.given.array && same_element a.given.element b.given.element)) p TypeMismatch
    ++ mix_faults p a.given.domain b.given.domain
built_in_faults p Sum (a ∷ []) = fault_if (not (a.given.array && is_number a.given.element)) p TypeMismatch
built_in_faults p BitExtract (a ∷ []) = fault_if (not (is_uint64 a.given.element)) p TypeMismatch
built_in_faults p Lookup (a ∷ i ∷ []) =
    fault_if (not (may_look_up a.given i.given)) p TypeMismatch ++ mix_faults p a.given.domain i.given.domain
built_in_faults p _ _ = fault_at p BadArity

abbrev pub array_of : DataType → Protection → ValueType
array_of element domain = record { domain = domain; element = element; array = true }

-- what they give for arguments that they take
unfoldable pub built_in_result : BuiltIn → List Argument → Option ValueType
built_in_result Size gs = Some (public_scalar datatype.Uint64)
built_in_result Cat (a ∷ b ∷ []) = option_map (array_of a.given.element) (meet a.given.domain b.given.domain)
built_in_result Sum (a ∷ []) = Some (scalar_of a.given)
built_in_result BitExtract (a ∷ []) = Some (array_of datatype.Bool a.given.domain)
built_in_result Lookup (a ∷ i ∷ []) = option_map (looked_up a.given i.given) (meet a.given.domain i.given.domain)
built_in_result _ _ = None

-- whether a parameter's domain is written with this name
abbrev pub is_named : List ℕ → Domain → Bool
is_named x domain.Public = false
is_named x (domain.Named y) = bytes_eq x y.text

-- what a call binds a domain variable to: the one private domain among the arguments at its parameters, or public where all
-- are public; nothing where two private domains stand there. d is what the arguments so far have made
abbrev pub bound_from : Protection → List ℕ → List Parameter → List Argument → Option Protection
bound_from d x (p ∷ ps) (g ∷ gs) =
    if is_named x p.declared.domain then option_and_then (λ e. bound_from e x ps gs) (meet d g.given.domain)
    else bound_from d x ps gs
bound_from d x _ _ = Some d

abbrev pub bound_by : List ℕ → List Parameter → List Argument → Option Protection
bound_by x ps gs = bound_from Public x ps gs

-- the domains of all domain variables, where each is bound
abbrev pub binding_by : List DomainVariable → List Parameter → List Argument → Option (List Protection)
binding_by [] ps gs = Some []
binding_by (v ∷ vs) ps gs = of_two (λ d ds. Some (d ∷ ds)) (bound_by v.variable.text ps gs) (binding_by vs ps gs)

-- a domain variable with a kind may not be bound to public
abbrev pub bound_faults : Span → Option Identifier → Option Protection → List TypeFault
bound_faults p kind None = fault_at p DomainMix
bound_faults p (Some k) (Some Public) = fault_at p TypeMismatch
bound_faults p _ _ = []

abbrev pub binding_faults : Span → List DomainVariable → List Parameter → List Argument → List TypeFault
binding_faults p [] ps gs = []
binding_faults p (v ∷ vs) ps gs = bound_faults p v.kind (bound_by v.variable.text ps gs) ++ binding_faults p vs ps gs

-- each argument goes to its parameter; a parameter of an unknown domain takes any
abbrev pub argument_faults : Setting → List Parameter → List Argument → List TypeFault
argument_faults w (p ∷ ps) (g ∷ gs) =
    of_typed (type_written w p.declared) (λ wanted. store_faults g.place wanted g.given) ++ argument_faults w ps gs
argument_faults w _ _ = []

-- inside a function whose domain variables are bound to these domains
abbrev pub within : Declared → FunctionTree → List Protection → Setting
within d f ds = record { declared = d; bound = bind f.variables ds }

-- a call of a function of the program; where the number of arguments is wrong nothing else is said
unfoldable pub defined_faults : Declared → Span → FunctionTree → List Argument → List TypeFault
defined_faults d p f gs =
    if nat_eq (length f.parameters) (length gs) then
    binding_faults p f.variables f.parameters gs
    ++ of_typed (binding_by f.variables f.parameters gs) (λ ds. argument_faults (within d f ds) f.parameters gs)
    else fault_at p BadArity

-- what a function gives back; none where its domain is unknown
abbrev pub result_type : Setting → ResultType → Option ExpressionType
result_type w returned.Void = Some Void
result_type w (returned.Value t) = option_map Value (type_written w t)

abbrev pub callee_faults : Declared → Span → Callee → List Argument → List TypeFault
callee_faults d p (built_in b) gs = built_in_faults p b gs
callee_faults d p (defined k f) gs = defined_faults d p f gs

abbrev pub callee_result : Declared → Callee → List Argument → Option ExpressionType
callee_result d (built_in b) gs = option_map Value (built_in_result b gs)
callee_result d (defined k f) gs =
    option_and_then (λ ds. result_type (within d f ds) f.returned) (binding_by f.variables f.parameters gs)

abbrev pub callee_type : Declared → Span → Callee → List Argument → Option ExpressionType
callee_type d p c gs = unless_refused (callee_faults d p c gs) (callee_result d c gs)

-- an unknown name is said whatever the arguments are
unfoldable pub call_faults : Declared → Span → Option Callee → Option (List Argument) → List TypeFault
call_faults d p None gs = fault_at p UnknownName
call_faults d p (Some c) gs = of_typed gs (callee_faults d p c)

unfoldable pub call_type : Declared → Span → Option Callee → Option (List Argument) → Option ExpressionType
call_type d p None gs = None
call_type d p (Some c) gs = option_and_then (callee_type d p c) gs

-- THE TYPE OF AN EXPRESSION

abbrev mutual
  pub type_of : Setting → Scope → Tree → Option ExpressionType
  type_of w s (number p n) = Some (Value (public_scalar datatype.Uint64))
  type_of w s (truth p b) = Some (Value (public_scalar datatype.Bool))
  type_of w s (variable p x) = option_map Value (variable_type (variable_named s x))
  type_of w s (call p x es) = call_type w.declared p (callee w.declared x) (arguments_of w s es)
  type_of w s (index p a i) = option_map Value (of_two (index_type p (place_of i)) (value_of (type_of w s a)) (value_of (type_of w s i)))
  type_of w s (parentheses p e) = option_map Value (value_of (type_of w s e))
  type_of w s (negation p e) = option_map Value (option_and_then (negation_type p) (value_of (type_of w s e)))
  type_of w s (cast p t e) = option_map Value (option_map (cast_type t) (value_of (type_of w s e)))
  type_of w s (binary p op a b) = option_map Value (of_two (operator_type p op) (value_of (type_of w s a)) (value_of (type_of w s b)))
  type_of w s (declassify p e) = option_map Value (option_map declassified (value_of (type_of w s e)))
  type_of w s (argument p x) = None
  type_of w s (publish p x e) = option_map (λ t. Void) (value_of (type_of w s e))

  -- the arguments of a call, where each has a type
  pub arguments_of : Setting → Scope → Trees → Option (List Argument)
  arguments_of w s none = Some []
  arguments_of w s (also e es) = with_argument (place_of e) (value_of (type_of w s e)) (arguments_of w s es)

abbrev pub value_type : Setting → Scope → Tree → Option ValueType
value_type w s e = value_of (type_of w s e)

-- THE FAULTS OF AN EXPRESSION: those of its parts, then its own

-- the faults of a part that is used as a value, where these are its own
abbrev pub as_value : Setting → Scope → Tree → List TypeFault → List TypeFault
as_value w s e own = own ++ void_faults (place_of e) (type_of w s e)

abbrev mutual
  pub faults : Setting → Scope → Tree → List TypeFault
  faults w s (variable p x) = variable_faults p (variable_named s x)
  faults w s (call p x es) =
      argument_list_faults w s es ++ call_faults w.declared p (callee w.declared x) (arguments_of w s es)
  faults w s (index p a i) =
      (as_value w s a (faults w s a) ++ as_value w s i (faults w s i))
      ++ of_typed (value_type w s a) (λ t. of_typed (value_type w s i) (index_faults p (place_of i) t))
  faults w s (parentheses p e) = as_value w s e (faults w s e)
  faults w s (negation p e) = as_value w s e (faults w s e) ++ of_typed (value_type w s e) (negation_faults p)
  faults w s (cast p t e) = as_value w s e (faults w s e)
  faults w s (binary p op a b) =
      (as_value w s a (faults w s a) ++ as_value w s b (faults w s b))
      ++ of_typed (value_type w s a) (λ t. of_typed (value_type w s b) (operator_faults p op t))
  faults w s (declassify p e) = as_value w s e (faults w s e)
  faults w s (argument p x) = fault_at p ArgumentPlace
  faults w s (publish p x e) = as_value w s e (faults w s e)
  faults w s _ = []

  pub argument_list_faults : Setting → Scope → Trees → List TypeFault
  argument_list_faults w s none = []
  argument_list_faults w s (also e es) = as_value w s e (faults w s e) ++ argument_list_faults w s es

-- an expression that is used as a value
abbrev pub value_faults : Setting → Scope → Tree → List TypeFault
value_faults w s e = as_value w s e (faults w s e)
