-- The variables that are known at a place, each with its slot, and the slots so far.
use Rattle.std.specs.Prelude.{ℕ, ◌-◌, if◌then◌else◌, List, [], ◌∷◌, ◌++◌, length, take, drop, Option, Some, None, bytes_eq}
use Rattle.program_trees.specs.declared.statement.DeclaredType.{DeclaredType}
use Rattle.program_trees.specs.declared.statement.Identifier.{Identifier}
use Rattle.program_trees.specs.declared.kinds.Shape.{Shape}
use Rattle.name_resolution.specs.declared.variables.Known.{Known}

pub record Variable : Type 0 where
  pub name : List ℕ
  pub known : Known

abbrev pub known_of : Variable → Known
known_of v = v.known

-- the variables of the innermost block so far, and those of the blocks around it; the latest come first
pub record Scope : Type 0 where
  pub block : List Variable
  pub outer : List Variable

abbrev pub nothing_known : Scope
nothing_known = record { block = []; outer = [] }

-- inside a block that begins here
abbrev pub inner : Scope → Scope
inner s = record { block = []; outer = s.block ++ s.outer }

-- after that block, where n variables were outside of the block around it
abbrev pub leaving : ℕ → Scope → Scope
leaving n s = record { block = take (length s.outer - n) s.outer; outer = drop (length s.outer - n) s.outer }

-- after a declaration
abbrev pub with_variable : Variable → Scope → Scope
with_variable v s = record { block = v ∷ s.block; outer = s.outer }

-- the variable that a name means: that of the innermost block
abbrev pub variable_in : List ℕ → List Variable → Option Variable
variable_in x [] = None
variable_in x (v ∷ vs) = if bytes_eq x v.name then Some v else variable_in x vs

abbrev pub variable_named : Scope → List ℕ → Option Variable
variable_named s x = variable_in x (s.block ++ s.outer)

-- where a piece of a function stands: what is known there, and the types of the slots that were declared before it
pub record FunctionScope : Type 0 where
  pub scope : Scope
  pub slots : List DeclaredType

abbrev pub no_place : FunctionScope
no_place = record { scope = nothing_known; slots = [] }

abbrev pub shape_written : DeclaredType → Shape
shape_written t = record { element = t.element; array = t.array }

-- after a declaration, which takes the next slot
abbrev pub declaring : Identifier → DeclaredType → FunctionScope → FunctionScope
declaring x t s =
    record {
      scope = with_variable (record { name = x.text; known = record { slot = length s.slots; shape = shape_written t } }) s.scope;
      slots = s.slots ++ t ∷ [];
    }

-- inside a block that begins here, and after it, where the slots of the block stay
abbrev pub entering : FunctionScope → FunctionScope
entering s = record { scope = inner s.scope; slots = s.slots }

abbrev pub behind_block : FunctionScope → FunctionScope → FunctionScope
behind_block before inside = record { scope = before.scope; slots = inside.slots }

-- the same as a computation: n variables were outside of the block around this one
abbrev pub left : ℕ → FunctionScope → FunctionScope
left n s = record { scope = leaving n s.scope; slots = s.slots }
