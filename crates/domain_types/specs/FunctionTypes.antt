-- The faults of a function whose domain variables are bound, and those of a template's head, which need no binding.
use Rattle.std.specs.Prelude.{ℕ, Bool, not, ◌&&◌, ◌||◌, nat_eq, nat_lt, if◌then◌else◌, List, [], ◌∷◌, ◌++◌, Option, codes, bytes_eq}
use Rattle.std.specs.List.{find, fold, list_any}
use Rattle.sc_text.specs.declared.span.Span.{Span}
use Rattle.program_trees.specs.declared.statement.Identifier.{Identifier}
use Rattle.program_trees.specs.declared.function.DomainVariable.{DomainVariable}
use Rattle.program_trees.specs.declared.function.Parameter.{Parameter}
use Rattle.program_trees.specs.declared.function.ResultType.{ResultType}
use Rattle.program_trees.specs.declared.function.ResultType.TheVariants as returned
use Rattle.program_trees.specs.Programs.{FunctionTree, ItemTree, kind, domain}
use Rattle.domain_types.specs.declared.fault.TypeProblem.TheVariants.{UnknownName, Twice, TypeMismatch, MissingReturn}
use Rattle.domain_types.specs.declared.fault.TypeFault.{TypeFault}
use Rattle.domain_types.specs.Types.{fault_at, fault_if, of_typed}
use Rattle.declarations.specs.Declarations.{Declared, is_known_kind}
use Rattle.domain_types.specs.Settings.{Setting, type_written}
use Rattle.domain_types.specs.Scopes.{Scope, nothing_known, with_variable, twice_faults}
use Rattle.domain_types.specs.ExpressionTypes.{is_named}
use Rattle.domain_types.specs.StatementTypes.{domain_faults, block_faults, one_returns}

-- PARAMETERS: they belong to the body's block

abbrev pub with_parameter : Setting → Parameter → Scope → Scope
with_parameter w p s = with_variable (record { name = p.variable.text; held = type_written w p.declared }) s

abbrev pub with_parameters : Setting → List Parameter → Scope → Scope
with_parameters w ps s = fold (λ (x : Scope) (p : Parameter). with_parameter w p x) s ps

abbrev pub parameter_faults : Setting → Scope → List Parameter → List TypeFault
parameter_faults w s [] = []
parameter_faults w s (p ∷ ps) =
    (domain_faults w p.declared.domain ++ twice_faults s p.variable) ++ parameter_faults w (with_parameter w p s) ps

-- THE FUNCTION

abbrev pub result_faults : Setting → ResultType → List TypeFault
result_faults w returned.Void = []
result_faults w (returned.Value t) = domain_faults w t.domain

-- a function with a result returns on every way
abbrev pub way_faults : FunctionTree → ResultType → List TypeFault
way_faults f returned.Void = []
way_faults f (returned.Value t) = fault_if (not (one_returns f.body.statements)) f.function.place MissingReturn

abbrev pub function_faults : Setting → FunctionTree → List TypeFault
function_faults w f =
    result_faults w f.returned
    ++ parameter_faults w nothing_known f.parameters
    ++ block_faults w f.returned (with_parameters w f.parameters nothing_known) f.body.statements
    ++ way_faults f f.returned

-- THE HEAD OF A TEMPLATE

-- the kinds and domains of the program, which share one space of names
abbrev pub protections_of : List ItemTree → List Identifier
protections_of [] = []
protections_of (kind x ∷ items) = x ∷ protections_of items
protections_of (domain x k ∷ items) = x ∷ protections_of items
protections_of (_ ∷ items) = protections_of items

abbrev pub is_earlier : Span → Span → Bool
is_earlier p q = nat_lt p.line q.line || (nat_eq p.line q.line && nat_lt p.column q.column)

abbrev pub later_of : Span → Span → Span
later_of p q = if is_earlier p q then q else p

-- a variable that is called as a kind or a domain: at the later of it and the first of that name. A further one of that name
-- stands after the first, so the fault there would be no earlier
abbrev pub hiding_faults : Identifier → List Identifier → List TypeFault
hiding_faults x ys = of_typed (find (λ (y : Identifier). bytes_eq x.text y.text) ys) (λ y. fault_at (later_of x.place y.place) Twice)

-- the kind `shared3p` of an import stands before all else
abbrev pub imported_faults : Declared → Identifier → List TypeFault
imported_faults d x = fault_if (d.shared3p && bytes_eq x.text (codes "shared3p")) x.place Twice

abbrev pub is_variable : List ℕ → List DomainVariable → Bool
is_variable x vs = list_any (λ (v : DomainVariable). bytes_eq x v.variable.text) vs

abbrev pub kind_faults : Declared → Option Identifier → List TypeFault
kind_faults d k = of_typed k (λ x. fault_if (not (is_known_kind d x.text)) x.place UnknownName)

-- a domain variable stands in at least one parameter
abbrev pub is_in_parameter : List ℕ → List Parameter → Bool
is_in_parameter x ps = list_any (λ (p : Parameter). is_named x p.declared.domain) ps

-- a domain variable after those before it, in a program with these kinds and domains
abbrev pub domain_variable_faults : Declared → (protections : List Identifier) → List Parameter → List DomainVariable → DomainVariable → List TypeFault
domain_variable_faults d protections ps before v =
    kind_faults d v.kind
    ++ fault_if (is_variable v.variable.text before) v.variable.place Twice
    ++ imported_faults d v.variable
    ++ hiding_faults v.variable protections
    ++ fault_if (not (is_in_parameter v.variable.text ps)) v.variable.place TypeMismatch

abbrev pub domain_variables_faults : Declared → (protections : List Identifier) → List Parameter → List DomainVariable → List DomainVariable → List TypeFault
domain_variables_faults d protections ps before [] = []
domain_variables_faults d protections ps before (v ∷ vs) =
    domain_variable_faults d protections ps before v ++ domain_variables_faults d protections ps (v ∷ before) vs

abbrev pub head_faults : Declared → List ItemTree → FunctionTree → List TypeFault
head_faults d items f = domain_variables_faults d (protections_of items) f.parameters [] f.variables
