-- What a written domain or type means where domain variables are bound.
use Rattle.std.specs.Prelude.{ℕ, if◌then◌else◌, List, [], ◌∷◌, Option, Some, None, bytes_eq, option_map}
use Rattle.std.specs.Option.{option_or}
use Rattle.program_trees.specs.declared.statement.Domain.{Domain}
use Rattle.program_trees.specs.declared.statement.Domain.TheVariants as domain
use Rattle.program_trees.specs.declared.statement.DeclaredType.{DeclaredType}
use Rattle.program_trees.specs.declared.function.DomainVariable.{DomainVariable}
use Rattle.declarations.specs.Declarations.{Declared, number_in}
use Rattle.domain_types.specs.declared.value_type.Protection.{Protection}
use Rattle.domain_types.specs.declared.value_type.Protection.TheVariants.{Public, Private}
use Rattle.domain_types.specs.declared.value_type.ValueType.{ValueType}

-- a domain variable and what it is bound to
pub record Bound : Type 0 where
  pub name : List ℕ
  pub domain : Protection

abbrev pub bound_to : List ℕ → List Bound → Option Protection
bound_to x [] = None
bound_to x (b ∷ bs) = if bytes_eq x b.name then Some b.domain else bound_to x bs

-- each domain variable with its domain
abbrev pub bind : List DomainVariable → List Protection → List Bound
bind (v ∷ vs) (d ∷ ds) = record { name = v.variable.text; domain = d } ∷ bind vs ds
bind _ _ = []

-- where a piece of a program stands: in a function whose domain variables are so bound
pub record Setting : Type 0 where
  pub declared : Declared
  pub bound : List Bound

-- the domain that is written; none where its name is unknown. A domain variable hides a domain
abbrev pub domain_of : Setting → Domain → Option Protection
domain_of w domain.Public = Some Public
domain_of w (domain.Named x) = option_or (bound_to x.text w.bound) (option_map Private (number_in x.text w.declared.domains))

abbrev pub in_domain : DeclaredType → Protection → ValueType
in_domain t d = record { domain = d; element = t.element; array = t.array }

-- the type that is written; none where its domain is unknown
abbrev pub type_written : Setting → DeclaredType → Option ValueType
type_written w t = option_map (in_domain t) (domain_of w t.domain)
