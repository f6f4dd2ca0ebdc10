-- A piece of a function becomes a typed one at a place, and leads to the place after it; or it has no typed one.
use Rattle.std.specs.Prelude.{ℕ, List, length, Option, Some, None, option_map}
use Rattle.program_trees.specs.declared.statement.DeclaredType.{DeclaredType}
use Rattle.program_trees.specs.declared.statement.Identifier.{Identifier}
use Rattle.program_trees.specs.Tree.{Tree}
use Rattle.declarations.specs.Declarations.{Declared}
use Rattle.name_resolution.specs.declared.variables.Known.{Known}
use Rattle.program_trees.specs.TypedTree.{TypedTree}
use Rattle.name_resolution.specs.Scopes.{FunctionScope, known_of, variable_named, declaring, entering, behind_block}
use Rattle.name_resolution.specs.Values.{tree_of_value, value}

abbrev pub Resolving : Type 0 → Type 0
Resolving A = FunctionScope → Option (A × FunctionScope)

abbrev pub carry : {A B : Type 0} → Option (A × FunctionScope) → (A → Resolving B) → Option (B × FunctionScope)
carry None f = None
carry (Some r) f = f r.0 r.1

infixl 20 ◌>>=◌
abbrev pub ◌>>=◌ : {A B : Type 0} → Resolving A → (A → Resolving B) → Resolving B
(m >>= f) s = carry (m s) f

abbrev pub done : {A : Type 0} → A → Resolving A
done a s = Some (a, s)

-- what is made of a piece, and of two, one after the other
abbrev pub into : {A B : Type 0} → (A → B) → Resolving A → Resolving B
into f m = m >>= (λ a. done (f a))

abbrev pub both : {A B C : Type 0} → (A → B → C) → Resolving A → Resolving B → Resolving C
both f m n = m >>= (λ a. n >>= (λ b. done (f a b)))

-- what is read at a place leaves it
abbrev pub reading : {A : Type 0} → (FunctionScope → Option A) → Resolving A
reading f s = option_map (λ a. (a, s)) (f s)

-- the number of the next slot
abbrev pub next_slot : Resolving ℕ
next_slot s = Some (length s.slots, s)

abbrev pub declare : Identifier → DeclaredType → Resolving (Unit {0})
declare x t s = Some (tt, declaring x t s)

-- a block
abbrev pub closed : {A : Type 0} → FunctionScope → Option (A × FunctionScope) → Option (A × FunctionScope)
closed s None = None
closed s (Some r) = Some (r.0, behind_block s r.1)

abbrev pub in_block : {A : Type 0} → Resolving A → Resolving A
in_block m s = closed s (m (entering s))

abbrev pub resolved_value : Declared → Tree → FunctionScope → Option TypedTree
resolved_value d e s = option_map tree_of_value (value d s.scope e)

-- an expression that gives a value
abbrev pub expression : Declared → Tree → Resolving TypedTree
expression d e = reading (resolved_value d e)

abbrev pub known_at : List ℕ → FunctionScope → Option Known
known_at x s = option_map known_of (variable_named s.scope x)

-- the variable of a name
abbrev pub named : List ℕ → Resolving Known
named x = reading (known_at x)
