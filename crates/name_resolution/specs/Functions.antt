-- A function and a program as typed ones.
use Rattle.std.specs.Prelude.{ℕ, List, length, map, fold, Option, Some, None, option_map, option_and_then}
use Rattle.program_trees.specs.declared.statement.Domain.{Domain}
use Rattle.program_trees.specs.declared.statement.Domain.TheVariants as domain
use Rattle.program_trees.specs.declared.statement.DeclaredType.{DeclaredType}
use Rattle.program_trees.specs.declared.function.DomainVariable.{DomainVariable}
use Rattle.program_trees.specs.declared.function.Parameter.{Parameter}
use Rattle.program_trees.specs.declared.function.ResultType.{ResultType}
use Rattle.program_trees.specs.declared.function.ResultType.TheVariants as result
use Rattle.program_trees.specs.Programs.{FunctionTree, ProgramTree}
use Rattle.declarations.specs.Declarations.{Declared, declared_by, number_in}
use Rattle.program_trees.specs.declared.kinds.SlotDomain.{SlotDomain}
use Rattle.program_trees.specs.declared.kinds.SlotDomain.TheVariants.{Public, Private, Variable}
use Rattle.program_trees.specs.declared.kinds.Slot.{Slot}
use Rattle.program_trees.specs.declared.typed_function.Returned.{Returned}
use Rattle.program_trees.specs.declared.typed_function.Returned.TheVariants.{Nothing, Value}
use Rattle.program_trees.specs.TypedStatements.{TypedStatementTrees}
use Rattle.name_resolution.specs.Scopes.{FunctionScope, no_place, declaring, shape_written}
use Rattle.name_resolution.specs.Values.{of_both, all_of}
use Rattle.name_resolution.specs.Bodies.{resolved_all}
use Rattle.program_trees.specs.TypedPrograms.{TypedFunctionTree, TypedProgramTree}
use Rattle.name_resolution.specs.Sizes.{size_of}
use Rattle.name_resolution.specs.Order.{reached}

-- DOMAINS

-- the number of a domain variable
abbrev pub variable_number : List ℕ → List DomainVariable → Option ℕ
variable_number x vs = number_in x (map (λ v. v.variable.text) vs)

-- a domain variable hides a domain
abbrev pub domain_named : Declared → List ℕ → Option ℕ → Option SlotDomain
domain_named d x (Some k) = Some (Variable k)
domain_named d x None = option_map Private (number_in x d.domains)

abbrev pub slot_domain : Declared → List DomainVariable → Domain → Option SlotDomain
slot_domain d vs domain.Public = Some Public
slot_domain d vs (domain.Named x) = domain_named d x.text (variable_number x.text vs)

abbrev pub slot_in : DeclaredType → SlotDomain → Slot
slot_in t d = record { domain = d; shape = shape_written t }

abbrev pub slot_written : Declared → List DomainVariable → DeclaredType → Option Slot
slot_written d vs t = option_map (slot_in t) (slot_domain d vs t.domain)

abbrev pub slots_written : Declared → List DomainVariable → List DeclaredType → Option (List Slot)
slots_written d vs ts = all_of (slot_written d vs) ts

abbrev pub given_back : Declared → List DomainVariable → ResultType → Option Returned
given_back d vs result.Void = Some Nothing
given_back d vs (result.Value t) = option_map Value (slot_written d vs t)

-- FUNCTIONS

-- the parameters are the first slots, and belong to the body's block
abbrev pub with_parameters : List Parameter → FunctionScope → FunctionScope
with_parameters ps s = fold (λ r p. declaring p.variable p.declared r) s ps

abbrev pub function_made : FunctionTree → TypedStatementTrees → List Slot → Returned → TypedFunctionTree
function_made f body slots given =
    record {
      name = f.function.text;
      variables = length f.variables;
      parameters = length f.parameters;
      slots = slots;
      given = given;
      body = body;
      size = size_of f;
    }

abbrev pub function_from : FunctionTree → TypedStatementTrees → List Slot → Returned → Option TypedFunctionTree
function_from f body slots given = Some (function_made f body slots given)

abbrev pub function_behind : Declared → FunctionTree → TypedStatementTrees × FunctionScope → Option TypedFunctionTree
function_behind d f r = of_both (function_from f r.0) (slots_written d f.variables r.1.slots) (given_back d f.variables f.returned)

abbrev pub typed_function : Declared → FunctionTree → Option TypedFunctionTree
typed_function d f =
    option_and_then (function_behind d f) (resolved_all d f.body.statements (with_parameters f.parameters no_place))

-- PROGRAMS

abbrev pub typed_functions : Declared → List FunctionTree → Option (List TypedFunctionTree)
typed_functions d fs = all_of (typed_function d) fs

-- with the functions that are reached, by whose numbers calls name them
abbrev pub with_functions : Declared → List FunctionTree → Declared
with_functions d fs = record d { functions = fs }

abbrev pub program_of : List TypedFunctionTree → TypedProgramTree
program_of fs = record { functions = fs }

-- the typed tree of a program, if each name in it means something
abbrev pub typed_of : ProgramTree → Option TypedProgramTree
typed_of p =
    option_map program_of (typed_functions (with_functions (declared_by p) (reached (declared_by p))) (reached (declared_by p)))
