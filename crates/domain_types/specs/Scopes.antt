-- The variables that are known at a place.
use Rattle.std.specs.Prelude.{ℕ, Bool, List, [], ◌∷◌, ◌++◌, ◌-◌, length, take, drop, Option, bytes_eq}
use Rattle.std.specs.List.{find, list_any}
use Rattle.program_trees.specs.declared.statement.Identifier.{Identifier}
use Rattle.domain_types.specs.declared.value_type.ValueType.{ValueType}
use Rattle.domain_types.specs.declared.fault.TypeProblem.TheVariants.{Twice}
use Rattle.domain_types.specs.declared.fault.TypeFault.{TypeFault}
use Rattle.domain_types.specs.Types.{fault_if}

-- a variable; one of an unknown domain has no type
pub record Variable : Type 0 where
  pub name : List ℕ
  pub held : Option ValueType

abbrev pub held_by : Variable → Option ValueType
held_by v = v.held

-- the variables of the innermost block so far, and those of the blocks around it; the latest come first
pub record Scope : Type 0 where
  pub block : List Variable
  pub outer : List Variable

abbrev pub nothing_known : Scope
nothing_known = record { block = []; outer = [] }

-- inside a block that begins here
abbrev pub inner : Scope → Scope
inner s = record { block = []; outer = s.block ++ s.outer }

-- after that block, where n variables were outside of the block around it
abbrev pub leaving : ℕ → Scope → Scope
leaving n s = record { block = take (length s.outer - n) s.outer; outer = drop (length s.outer - n) s.outer }

-- after a declaration
abbrev pub with_variable : Variable → Scope → Scope
with_variable v s = record { block = v ∷ s.block; outer = s.outer }

-- the variable that a name means: that of the innermost block
abbrev pub variable_in : List ℕ → List Variable → Option Variable
variable_in x vs = find (λ (v : Variable). bytes_eq x v.name) vs

abbrev pub variable_named : Scope → List ℕ → Option Variable
variable_named s x = variable_in x (s.block ++ s.outer)

abbrev pub is_among : List ℕ → List Variable → Bool
is_among x vs = list_any (λ (v : Variable). bytes_eq x v.name) vs

-- a name that the innermost block has declared already
abbrev pub twice_faults : Scope → Identifier → List TypeFault
twice_faults s x = fault_if (is_among x.text s.block) x.place Twice
