-- Cited by private functions alone: no contract of another crate rests on it.
-- The table of variables that the checker keeps: the latest variable of each name, and which one it hides.
use Rattle.std.specs.Prelude.{ℕ, ◌≡◌, ◌≤◌, ◌-◌, if◌then◌else◌, List, [], ◌∷◌, length, reverse, map, take, drop, Option, Some, None, bytes_eq}
use Rattle.domain_types.specs.Scopes.{Variable, Scope}
use Rattle.declarations.specs.Index.{found}
use Rattle.domain_types.specs.declared.variables.Latest.{Latest}
use Rattle.domain_types.specs.declared.variables.VariableEntry.{VariableEntry}
use Rattle.domain_types.specs.declared.variables.Variables.TheInside.{Inside}

abbrev pub variable_of : VariableEntry → Variable
variable_of e = record { name = e.name.now; held = e.held }

-- the entries, the latest first
abbrev pub latest_first : Inside → List VariableEntry
latest_first a = reverse a.entries.items

-- how many of the entries are of the innermost block
abbrev pub block_count : Inside → ℕ
block_count a = length (latest_first a) - a.outer

-- the scope of these entries, the latest first, of which n are of the innermost block
abbrev pub scope_at : ℕ → List VariableEntry → Scope
scope_at n es = record { block = map variable_of (take n es); outer = map variable_of (drop n es) }

abbrev pub scope_of : Inside → Scope
scope_of a = scope_at (block_count a) (latest_first a)

-- the latest entry of a name, with its number
abbrev pub latest_in : List ℕ → List VariableEntry → Option Latest
latest_in x [] = None
latest_in x (e ∷ es) = if bytes_eq x e.name.now then Some (record { number = length es; held = e.held }) else latest_in x es

-- each entry tells the one that it hides
abbrev pub HideEachOther : List VariableEntry → Type 0
HideEachOther [] = Unit {0}
HideEachOther (e ∷ es) = (e.hidden ≡ latest_in e.name.now es) × HideEachOther es

pub record IsTable (a : Inside) : Type 0 where
  pub latest : (x : List ℕ) → found a.latest x ≡ latest_in x (latest_first a)
  pub hidden : HideEachOther (latest_first a)
  pub within : a.outer ≤ length (latest_first a)
