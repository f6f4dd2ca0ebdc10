-- What a program declares, and what a name of it means.
use Rattle.std.specs.Prelude.{ℕ, ◌+◌, Bool, false, ◌&&◌, ◌||◌, if◌then◌else◌, List, [], ◌∷◌, Option, Some, None, codes, bytes_eq, option_map}
use Rattle.program_trees.specs.Programs.{FunctionTree, ItemTree, imports, kind, domain as domains_item, defines, ProgramTree}
use Rattle.declarations.specs.declared.built_in.BuiltIn.{BuiltIn}
use Rattle.declarations.specs.declared.built_in.BuiltIn.TheVariants.{Size, Cat, Sum, BitExtract, Lookup}

-- what the whole program declares, wherever it stands: which modules are imported, whether the kind `shared3p` is declared,
-- the names of the private domains and the functions, both in order
pub record Declared : Type 0 where
  pub stdlib : Bool
  pub shared3p : Bool
  pub kind_declared : Bool
  pub domains : List (List ℕ)
  pub functions : List FunctionTree

-- whether a module of this name is imported
abbrev pub is_imported : List ℕ → List ItemTree → Bool
is_imported x [] = false
is_imported x (imports y ∷ items) = bytes_eq y.text x || is_imported x items
is_imported x (_ ∷ items) = is_imported x items

-- whether a kind of this name is declared
abbrev pub is_kind : List ℕ → List ItemTree → Bool
is_kind x [] = false
is_kind x (kind y ∷ items) = bytes_eq y.text x || is_kind x items
is_kind x (_ ∷ items) = is_kind x items

abbrev pub domains_of : List ItemTree → List (List ℕ)
domains_of [] = []
domains_of (domains_item y k ∷ items) = y.text ∷ domains_of items
domains_of (_ ∷ items) = domains_of items

abbrev pub functions_of : List ItemTree → List FunctionTree
functions_of [] = []
functions_of (defines f ∷ items) = f ∷ functions_of items
functions_of (_ ∷ items) = functions_of items

abbrev pub declared_in : List ItemTree → Declared
declared_in items =
    record {
      stdlib = is_imported (codes "stdlib") items;
      shared3p = is_imported (codes "shared3p") items;
      kind_declared = is_kind (codes "shared3p") items;
      domains = domains_of items;
      functions = functions_of items;
    }

abbrev pub declared_by : ProgramTree → Declared
declared_by p = declared_in p.items

-- the one kind that there is, where it is imported or declared
abbrev pub is_known_kind : Declared → List ℕ → Bool
is_known_kind d x = bytes_eq x (codes "shared3p") && (d.shared3p || d.kind_declared)

-- the number of a domain: where its name stands first
abbrev pub number_in : List ℕ → List (List ℕ) → Option ℕ
number_in x [] = None
number_in x (y ∷ ys) = if bytes_eq x y then Some 0 else option_map (λ k. k + 1) (number_in x ys)

-- what a called name means: a built-in function, or a function of the program with its number
pub data Callee : Type 0 where
  built_in : BuiltIn → Callee
  defined : (number : ℕ) → FunctionTree → Callee

-- `size` and `cat` are always there, the others by import
abbrev pub built_in_named : Declared → List ℕ → Option BuiltIn
built_in_named d x =
    if bytes_eq x (codes "size") then Some Size
    else if bytes_eq x (codes "cat") then Some Cat
    else if bytes_eq x (codes "sum") && (d.stdlib || d.shared3p) then Some Sum
    else if bytes_eq x (codes "bitExtract") && d.shared3p then Some BitExtract
    else if bytes_eq x (codes "lookup") && d.shared3p then Some Lookup
    else None

-- the first function of this name, numbered from n on
abbrev pub function_named : List ℕ → ℕ → List FunctionTree → Option Callee
function_named x n [] = None
function_named x n (f ∷ fs) = if bytes_eq x f.function.text then Some (defined n f) else function_named x (n + 1) fs

abbrev pub callee_or_function : Declared → List ℕ → Option BuiltIn → Option Callee
callee_or_function d x (Some b) = Some (built_in b)
callee_or_function d x None = function_named x 0 d.functions

abbrev pub callee : Declared → List ℕ → Option Callee
callee d x = callee_or_function d x (built_in_named d x)
