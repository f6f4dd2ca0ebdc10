-- The typing relation by cases: which type an expression has, and which statements, functions and programs are typed.
use Rattle.std.specs.Prelude.{ℕ, ◌≡◌, ◌≢◌, ◌⊎◌, true, false, ◌&&◌, ◌||◌, List, [], ◌∷◌, map, Option, Some, None, codes, bytes_eq, IsTrue, is_some}
use Rattle.std.specs.List.{slice_get}
use Rattle.program_trees.specs.declared.expression.DataType.{DataType}
use Rattle.program_trees.specs.declared.expression.DataType.TheVariants.{Uint64, Int64}
use Rattle.program_trees.specs.declared.expression.DataType.TheVariants as datatype
use Rattle.program_trees.specs.declared.expression.Operator.{Operator}
use Rattle.program_trees.specs.declared.expression.Operator.TheVariants.{Add, Subtract, Multiply, Divide, Remainder, Equal, NotEqual, Less, LessOrEqual}
use Rattle.program_trees.specs.declared.expression.Operator.TheVariants.{Greater, GreaterOrEqual, And, Or, Xor, AndAlso, OrElse}
use Rattle.program_trees.specs.declared.statement.Identifier.{Identifier}
use Rattle.program_trees.specs.declared.function.DomainVariable.{DomainVariable}
use Rattle.program_trees.specs.declared.function.Parameter.{Parameter}
use Rattle.program_trees.specs.declared.function.ResultType.{ResultType}
use Rattle.program_trees.specs.declared.function.ResultType.TheVariants as returned
use Rattle.program_trees.specs.Tree.{Tree, Trees, number, truth, variable, call, index, parentheses, negation, cast, binary, declassify, argument, publish}
use Rattle.program_trees.specs.Tree as Tree'
use Rattle.program_trees.specs.Statements.{DeclarationTree, TargetTree, AssignmentTree, StartTree, starts_with_nothing, starts_with_declaration}
use Rattle.program_trees.specs.Statements.{starts_with_assignment, StepTree, steps_by_nothing, steps_by_assignment, steps_by_expression, StatementTree}
use Rattle.program_trees.specs.Statements.{block, empty, branch, choice, while_loop, do_loop, for_loop, breaks, continues, returns, assertion}
use Rattle.program_trees.specs.Statements.{declaration, assignment, evaluation, StatementTrees}
use Rattle.program_trees.specs.Statements as Statements'
use Rattle.program_trees.specs.Heights.{place_of}
use Rattle.program_trees.specs.Programs.{FunctionTree, ItemTree, imports, kind, domain, defines, ProgramTree}
use Rattle.domain_types.specs.declared.value_type.Argument.{Argument}
use Rattle.domain_types.specs.declared.value_type.Protection.{Protection}
use Rattle.domain_types.specs.declared.value_type.Protection.TheVariants.{Public, Private}
use Rattle.domain_types.specs.declared.value_type.ValueType.{ValueType}
use Rattle.domain_types.specs.declared.value_type.ExpressionType.{ExpressionType}
use Rattle.domain_types.specs.declared.value_type.ExpressionType.TheVariants.{Void, Value}
use Rattle.declarations.specs.declared.built_in.BuiltIn.{BuiltIn}
use Rattle.declarations.specs.declared.built_in.BuiltIn.TheVariants.{Size, Cat, Sum, BitExtract, Lookup}
use Rattle.domain_types.specs.Types.{scalar_of, public_scalar}
use Rattle.declarations.specs.Declarations.{Declared, declared_by, functions_of, is_known_kind, built_in_named, Callee}
use Rattle.domain_types.specs.Settings.{Setting, type_written}
use Rattle.declarations.specs.Declarations.{built_in, defined, callee}
use Rattle.domain_types.specs.Scopes.{Scope, nothing_known, inner, variable_named, is_among}
use Rattle.domain_types.specs.ExpressionTypes.{cast_type, declassified, array_of, bound_by, within, variable_type, result_type}
use Rattle.domain_types.specs.StatementTypes.{is_argument, after, after_start, one_returns}
use Rattle.domain_types.specs.FunctionTypes.{with_parameter, with_parameters, protections_of, is_variable, is_in_parameter}
use Rattle.domain_types.specs.Reached.{Call, Instance, Calls, IsChecked}
use Rattle.domain_types.specs.ProgramTypes.{is_module, is_one_of, more_kinds, more_functions, has_main}

-- DOMAINS

-- an operation with operands of two domains has a result of the third
abbrev pub Meets : Protection → Protection → Protection → Type 0
Meets Public d r = r ≡ d
Meets (Private k) Public r = r ≡ Private k
Meets (Private k) (Private m) r = (k ≡ m) × (r ≡ Private k)

-- a value of the one domain may go to a place of the other: a public one anywhere, a private one to its own domain
abbrev pub GoesTo : Protection → Protection → Type 0
GoesTo Public wanted = Unit {0}
GoesTo (Private k) Public = ⊥
GoesTo (Private k) (Private m) = k ≡ m

-- a value may be stored, passed or returned where this type is wanted
abbrev pub FitsInto : (wanted given : ValueType) → Type 0
FitsInto wanted given = (wanted.element ≡ given.element) × (wanted.array ≡ given.array) × GoesTo given.domain wanted.domain

-- EXPRESSIONS

-- a number, with a sign or without
abbrev pub IsNumber : DataType → Type 0
IsNumber t = (t ≡ Uint64) ⊎ (t ≡ Int64)

-- the operators on operands of one data type; d is the domain of the result, public where both operands are
abbrev pub OperatesOn : Operator → DataType → (d : Protection) → (result : DataType) → Type 0
OperatesOn Add t d r = IsNumber t × (r ≡ t)
OperatesOn Subtract t d r = IsNumber t × (r ≡ t)
OperatesOn Multiply t d r = IsNumber t × (r ≡ t)
OperatesOn Divide t d r = IsNumber t × (r ≡ t) × (d ≡ Public)
OperatesOn Remainder t d r = IsNumber t × (r ≡ t) × (d ≡ Public)
OperatesOn Equal t d r = r ≡ datatype.Bool
OperatesOn NotEqual t d r = r ≡ datatype.Bool
OperatesOn Less t d r = IsNumber t × (r ≡ datatype.Bool)
OperatesOn LessOrEqual t d r = IsNumber t × (r ≡ datatype.Bool)
OperatesOn Greater t d r = IsNumber t × (r ≡ datatype.Bool)
OperatesOn GreaterOrEqual t d r = IsNumber t × (r ≡ datatype.Bool)
OperatesOn And t d r = (r ≡ t) × ((t ≡ datatype.Bool) ⊎ ((t ≡ Uint64) × (d ≡ Public)))
OperatesOn Or t d r = (r ≡ t) × ((t ≡ datatype.Bool) ⊎ ((t ≡ Uint64) × (d ≡ Public)))
OperatesOn Xor t d r = (r ≡ t) × ((t ≡ datatype.Bool) ⊎ ((t ≡ Uint64) × (d ≡ Public)))
OperatesOn AndAlso t d r = (t ≡ datatype.Bool) × (r ≡ datatype.Bool)
OperatesOn OrElse t d r = (t ≡ datatype.Bool) × (r ≡ datatype.Bool)

-- operands of the types a and b make a value of the type t
pub record IsOperation (op : Operator) (a b t : ValueType) : Type 0 where
  pub same : a.element ≡ b.element
  pub meets : Meets a.domain b.domain t.domain
  pub operates : OperatesOn op a.element t.domain t.element
  pub dimension : t.array ≡ a.array || b.array

abbrev pub IsPublicScalar : DataType → ValueType → Type 0
IsPublicScalar element t = t ≡ public_scalar element

-- what the built-in functions take and give
abbrev pub IsBuiltInCall : BuiltIn → List Argument → ValueType → Type 0
IsBuiltInCall Size (a ∷ []) t = (a.given.array ≡ true) × (t ≡ public_scalar Uint64)
IsBuiltInCall Size _ t = ⊥
IsBuiltInCall Cat (a ∷ b ∷ []) t =
    (a.given.array ≡ true) × (b.given.array ≡ true) × (a.given.element ≡ b.given.element)
    × (t.element ≡ a.given.element) × (t.array ≡ true) × Meets a.given.domain b.given.domain t.domain
IsBuiltInCall Cat _ t = ⊥
IsBuiltInCall Sum (a ∷ []) t = (a.given.array ≡ true) × IsNumber a.given.element × (t ≡ scalar_of a.given)
IsBuiltInCall Sum _ t = ⊥
IsBuiltInCall BitExtract (a ∷ []) t = (a.given.element ≡ Uint64) × (t ≡ array_of datatype.Bool a.given.domain)
IsBuiltInCall BitExtract _ t = ⊥
IsBuiltInCall Lookup (a ∷ i ∷ []) t =
    (a.given.array ≡ true) × IsNumber a.given.element × (i.given.element ≡ Uint64)
    × (t.element ≡ a.given.element) × (t.array ≡ i.given.array) × Meets a.given.domain i.given.domain t.domain × (t.domain ≢ Public)
IsBuiltInCall Lookup _ t = ⊥

-- a domain variable is bound to this domain, a private one where a kind is wanted
abbrev pub IsOfKind : Option Identifier → Protection → Type 0
IsOfKind None d = Unit {0}
IsOfKind (Some k) d = d ≢ Public

abbrev pub AreBound : List DomainVariable → List Parameter → List Argument → List Protection → Type 0
AreBound [] ps gs ds = ds ≡ []
AreBound (v ∷ vs) ps gs [] = ⊥
AreBound (v ∷ vs) ps gs (d ∷ ds) = (bound_by v.variable.text ps gs ≡ Some d) × IsOfKind v.kind d × AreBound vs ps gs ds

-- each parameter takes its argument, and there are as many; one of an unknown domain takes any
abbrev pub ParameterTakes : Option ValueType → ValueType → Type 0
ParameterTakes None given = Unit {0}
ParameterTakes (Some wanted) given = FitsInto wanted given

abbrev pub ParametersTake : Setting → List Parameter → List Argument → Type 0
ParametersTake w [] [] = Unit {0}
ParametersTake w [] (g ∷ gs) = ⊥
ParametersTake w (p ∷ ps) [] = ⊥
ParametersTake w (p ∷ ps) (g ∷ gs) = ParameterTakes (type_written w p.declared) g.given × ParametersTake w ps gs

-- a call of a function of the program whose domain variables it binds to ds
pub record IsDefinedCall (d : Declared) (f : FunctionTree) (gs : List Argument) (t : ExpressionType) : Type 0 where
  pub domains : List Protection
  pub bound : AreBound f.variables f.parameters gs domains
  pub taken : ParametersTake (within d f domains) f.parameters gs
  pub gives : result_type (within d f domains) f.returned ≡ Some t

abbrev pub IsCall : Declared → Callee → List Argument → ExpressionType → Type 0
IsCall d (built_in b) gs t = (v : ValueType) × IsBuiltInCall b gs v × (t ≡ Value v)
IsCall d (defined k f) gs t = IsDefinedCall d f gs t

abbrev mutual
  -- an expression has this type
  pub HasType : Setting → Scope → Tree → ExpressionType → Type 0
  HasType w s (number p n) t = t ≡ Value (public_scalar Uint64)
  HasType w s (truth p b) t = t ≡ Value (public_scalar datatype.Bool)
  HasType w s (variable p x) t = (v : ValueType) × (variable_type (variable_named s x) ≡ Some v) × (t ≡ Value v)
  HasType w s (call p x es) t =
      (c : Callee) × (gs : List Argument) × (callee w.declared x ≡ Some c) × HaveTypes w s es gs × IsCall w.declared c gs t
  HasType w s (index p a i) t =
      (x y : ValueType) × HasType w s a (Value x) × HasType w s i (Value y)
      × (x.array ≡ true) × IsPublicScalar Uint64 y × (t ≡ Value (scalar_of x))
  HasType w s (parentheses p e) t = (x : ValueType) × HasType w s e (Value x) × (t ≡ Value x)
  HasType w s (negation p e) t = (x : ValueType) × HasType w s e (Value x) × (x.element ≡ datatype.Bool) × (t ≡ Value x)
  HasType w s (cast p element e) t = (x : ValueType) × HasType w s e (Value x) × (t ≡ Value (cast_type element x))
  HasType w s (binary p op a b) t =
      (x y z : ValueType) × HasType w s a (Value x) × HasType w s b (Value y) × IsOperation op x y z × (t ≡ Value z)
  HasType w s (declassify p e) t = (x : ValueType) × HasType w s e (Value x) × (t ≡ Value (declassified x))
  HasType w s (argument p x) t = ⊥
  HasType w s (publish p x e) t = (y : ValueType) × HasType w s e (Value y) × (t ≡ Void)

  -- the arguments of a call have these types, and begin there
  pub HaveTypes : Setting → Scope → Trees → List Argument → Type 0
  HaveTypes w s Tree'.none gs = gs ≡ []
  HaveTypes w s (Tree'.also e es) [] = ⊥
  HaveTypes w s (Tree'.also e es) (g ∷ gs) = HasType w s e (Value g.given) × (g.place ≡ place_of e) × HaveTypes w s es gs

-- an expression that fits where this type is wanted
abbrev pub HasFitting : Setting → Scope → Tree → ValueType → Type 0
HasFitting w s e wanted = (given : ValueType) × HasType w s e (Value given) × FitsInto wanted given

-- a condition, an assertion, a size or an index
abbrev pub HasPublicScalar : Setting → Scope → Tree → DataType → Type 0
HasPublicScalar w s e element = HasType w s e (Value (public_scalar element))

-- STATEMENTS

-- the size and the initialiser of a variable of the type t
abbrev pub IsInitial : Setting → Scope → ValueType → (size value : Option Tree) → Type 0
IsInitial w s t None None = Unit {0}
IsInitial w s t None (Some e) = IsTrue (is_argument e) ⊎ HasFitting w s e t
IsInitial w s t (Some n) None = (t.array ≡ true) × HasPublicScalar w s n Uint64
IsInitial w s t (Some n) (Some e) = (t.array ≡ true) × HasPublicScalar w s n Uint64 × HasFitting w s e (scalar_of t)

pub record IsDeclaration (w : Setting) (s : Scope) (d : DeclarationTree) : Type 0 where
  pub held : ValueType
  pub written : type_written w d.declared ≡ Some held
  pub new : is_among d.variable.text s.block ≡ false
  pub initial : IsInitial w s held d.size d.value

abbrev pub IsElement : Setting → Scope → ValueType → Option Tree → ValueType → Type 0
IsElement w s held None t = t ≡ held
IsElement w s held (Some i) t = (held.array ≡ true) × HasPublicScalar w s i Uint64 × (t ≡ scalar_of held)

pub record IsAssignment (w : Setting) (s : Scope) (a : AssignmentTree) : Type 0 where
  pub held : ValueType
  pub wanted : ValueType
  pub known : variable_type (variable_named s a.target.variable.text) ≡ Some held
  pub target : IsElement w s held a.target.index wanted
  pub value : HasFitting w s a.value wanted

abbrev pub IsStart : Setting → Scope → StartTree → Type 0
IsStart w s starts_with_nothing = Unit {0}
IsStart w s (starts_with_declaration d) = IsDeclaration w s d
IsStart w s (starts_with_assignment a) = IsAssignment w s a

abbrev pub IsStep : Setting → Scope → StepTree → Type 0
IsStep w s steps_by_nothing = Unit {0}
IsStep w s (steps_by_assignment a) = IsAssignment w s a
IsStep w s (steps_by_expression e) = (t : ExpressionType) × HasType w s e t

abbrev pub IsOptionalCondition : Setting → Scope → Option Tree → Type 0
IsOptionalCondition w s None = Unit {0}
IsOptionalCondition w s (Some e) = HasPublicScalar w s e datatype.Bool

abbrev pub IsReturn : Setting → ResultType → Scope → Option Tree → Type 0
IsReturn w returned.Void s None = Unit {0}
IsReturn w returned.Void s (Some e) = ⊥
IsReturn w (returned.Value t) s None = ⊥
IsReturn w (returned.Value t) s (Some e) =
    (wanted : ValueType) × (type_written w t ≡ Some wanted) × HasFitting w s e wanted

abbrev mutual
  -- a statement is typed, in a function with the result r, where these variables are known
  pub IsTyped : Setting → ResultType → Scope → StatementTree → Type 0
  IsTyped w r s (block p ss) = AreTyped w r (inner s) ss
  IsTyped w r s (empty p) = Unit {0}
  IsTyped w r s (branch p e body) = HasPublicScalar w s e datatype.Bool × IsTyped w r (inner s) body
  IsTyped w r s (choice p e body otherwise) =
      HasPublicScalar w s e datatype.Bool × IsTyped w r (inner s) body × IsTyped w r (inner s) otherwise
  IsTyped w r s (while_loop p e body) = HasPublicScalar w s e datatype.Bool × IsTyped w r (inner s) body
  IsTyped w r s (do_loop p body e) = IsTyped w r (inner s) body × HasPublicScalar w s e datatype.Bool
  IsTyped w r s (for_loop p start e step body) =
      IsStart w (inner s) start
      × IsOptionalCondition w (after_start w (inner s) start) e
      × IsStep w (after_start w (inner s) start) step
      × IsTyped w r (inner (after_start w (inner s) start)) body
  IsTyped w r s (breaks p) = Unit {0}
  IsTyped w r s (continues p) = Unit {0}
  IsTyped w r s (returns p e) = IsReturn w r s e
  IsTyped w r s (assertion p e) = HasPublicScalar w s e datatype.Bool
  IsTyped w r s (declaration d) = IsDeclaration w s d
  IsTyped w r s (assignment a) = IsAssignment w s a
  IsTyped w r s (evaluation e) = (t : ExpressionType) × HasType w s e t

  pub AreTyped : Setting → ResultType → Scope → StatementTrees → Type 0
  AreTyped w r s Statements'.none = Unit {0}
  AreTyped w r s (Statements'.also t ts) = IsTyped w r s t × AreTyped w r (after w s t) ts

-- FUNCTIONS

-- a parameter's type is known and its name is new
abbrev pub AreParameters : Setting → Scope → List Parameter → Type 0
AreParameters w s [] = Unit {0}
AreParameters w s (p ∷ ps) =
    IsTrue (is_some (type_written w p.declared)) × (is_among p.variable.text s.block ≡ false)
    × AreParameters w (with_parameter w p s) ps

-- a result is known, and a function that has one returns on every way
abbrev pub GivesResult : Setting → FunctionTree → ResultType → Type 0
GivesResult w f returned.Void = Unit {0}
GivesResult w f (returned.Value t) = IsTrue (is_some (type_written w t)) × IsTrue (one_returns f.body.statements)

-- a function whose domain variables are bound as the setting says
pub record IsTypedFunction (w : Setting) (f : FunctionTree) : Type 0 where
  pub parameters : AreParameters w nothing_known f.parameters
  pub body : AreTyped w f.returned (with_parameters w f.parameters nothing_known) f.body.statements
  pub result : GivesResult w f f.returned

-- a domain variable: its kind is known, its name new in the head and in the program, and it stands in a parameter
abbrev pub IsKnownKind : Declared → Option Identifier → Type 0
IsKnownKind d None = Unit {0}
IsKnownKind d (Some k) = IsTrue (is_known_kind d k.text)

abbrev pub text_in : Identifier → List ℕ
text_in x = x.text

pub record IsDomainVariable (d : Declared) (items : List ItemTree) (ps : List Parameter) (before : List DomainVariable) (v : DomainVariable) : Type 0 where
  pub kind : IsKnownKind d v.kind
  pub new : is_variable v.variable.text before ≡ false
  pub no_domain : is_one_of v.variable.text (map text_in (protections_of items)) ≡ false
  pub not_imported : d.shared3p && bytes_eq v.variable.text (codes "shared3p") ≡ false
  pub used : is_in_parameter v.variable.text ps ≡ true

abbrev pub AreDomainVariables : Declared → List ItemTree → List Parameter → List DomainVariable → List DomainVariable → Type 0
AreDomainVariables d items ps before [] = Unit {0}
AreDomainVariables d items ps before (v ∷ vs) =
    IsDomainVariable d items ps before v × AreDomainVariables d items ps (v ∷ before) vs

-- PROGRAMS

-- the name of a kind or a domain is new
abbrev pub IsNew : Declared → (kinds : List (List ℕ)) → Identifier → Type 0
IsNew d ks x =
    (is_one_of x.text ks ≡ false) × (d.shared3p && bytes_eq x.text (codes "shared3p") ≡ false)

abbrev pub IsItem : Declared → (kinds functions : List (List ℕ)) → ItemTree → Type 0
IsItem d ks fs (imports x) = IsTrue (is_module x.text)
IsItem d ks fs (kind x) = IsTrue (bytes_eq x.text (codes "shared3p")) × IsNew d ks x
IsItem d ks fs (domain x k) = IsNew d ks x × IsTrue (is_known_kind d k.text)
IsItem d ks fs (defines f) = (built_in_named d f.function.text ≡ None) × (is_one_of f.function.text fs ≡ false)

abbrev pub AreItems : Declared → (kinds functions : List (List ℕ)) → List ItemTree → Type 0
AreItems d ks fs [] = Unit {0}
AreItems d ks fs (i ∷ is) = IsItem d ks fs i × AreItems d (more_kinds ks i) (more_functions fs i) is

-- the declarations are good, there is a `main`, each checked function is typed with its domains, and so is the head of each
-- function that is called there
pub record IsTypedProgram (p : ProgramTree) : Type 0 where
  pub items : AreItems (declared_by p) [] [] p.items
  pub main : IsTrue (has_main (functions_of p.items))
  pub functions :
      (i : Instance) (f : FunctionTree) → IsChecked p i → slice_get (functions_of p.items) i.function ≡ Some f →
      IsTypedFunction (within (declared_by p) f i.binding) f
  pub heads :
      (i : Instance) (c : Call) (f : FunctionTree) → IsChecked p i → Calls p i c →
      slice_get (functions_of p.items) c.function ≡ Some f → AreDomainVariables (declared_by p) p.items f.parameters [] f.variables
