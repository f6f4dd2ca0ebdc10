-- What a function of the parser returned, seen by `view`, is what the step gives, unless memory ran out.
use Rattle.std.specs.Prelude.{◌≡◌, ℕ, ◌+◌, max, List, [], ◌∷◌, ◌++◌, map, Result, Ok, Err}
use Rattle.std.proofs.Common.{Bor, Box, Global}
use Rattle.secrec_lexer.specs.declared.token.Token.{Token}
use Rattle.program_trees.specs.declared.expression.Operator.{Operator}
use Rattle.program_trees.specs.declared.expression.Expression.{Expression}
use Rattle.program_trees.specs.Tree.{Tree, Trees, binary, index, expression, trees_of}
use Rattle.program_trees.specs.Heights.{height, heights, place_of}
use Rattle.expression_parser.specs.declared.stopped.Stopped.{Stopped}
use Rattle.expression_parser.specs.declared.stopped.Stopped.TheVariants.{Memory, At}
use Rattle.expression_parser.specs.declared.parsed.Parsed.{Parsed}
use Rattle.expression_parser.specs.declared.parsed.ParsedTrees.{ParsedTrees}
use Rattle.expression_parser.specs.Steps.{Outcome}

abbrev pub Gives : {X Y : Type 0} → (X → Y × List Token) → Result X Stopped → Outcome Y → Type 0
Gives view (Ok x) step = step ≡ Ok (view x)
Gives view (Err Memory) step = Unit {0}
Gives view (Err (At p rest)) step = step ≡ Err (p, rest.now)

abbrev pub tree_of : Parsed → Tree
tree_of n = expression n.tree

abbrev pub tree_height : Parsed → ℕ
tree_height n = height (expression n.tree)

-- trees in a list
abbrev pub list_of : ParsedTrees → List Tree
list_of n = map expression n.trees.items

abbrev pub trees_in : ParsedTrees → Trees
trees_in n = trees_of (list_of n)

abbrev pub trees_height : ParsedTrees → ℕ
trees_height n = heights (trees_in n)

-- both operands under their operator, unless memory ran out
abbrev pub Joined : Result Parsed Stopped → Operator → Parsed → Parsed → Type 0
Joined (Ok n) op a b = (tree_of n ≡ binary (place_of (tree_of a)) op (tree_of a) (tree_of b)) × (n.height ≡ tree_height n)
Joined (Err Memory) op a b = Unit {0}
Joined (Err (At p rest)) op a b = ⊥

-- an element of an array, unless memory ran out
abbrev pub Element : Result Parsed Stopped → Parsed → Parsed → Type 0
Element (Ok n) a i = (tree_of n ≡ index (place_of (tree_of a)) (tree_of a) (tree_of i)) × (n.height ≡ tree_height n)
Element (Err Memory) a i = Unit {0}
Element (Err (At p rest)) a i = ⊥

-- one more tree at the end, unless memory ran out
abbrev pub Added : Result ParsedTrees Stopped → ParsedTrees → Parsed → Type 0
Added (Ok n) a b = (list_of n ≡ list_of a ++ tree_of b ∷ []) × (n.height ≡ trees_height n) × (n.height ≡ max a.height b.height)
Added (Err Memory) a b = Unit {0}
Added (Err (At p rest)) a b = ⊥

-- the second as it was read, and the first beside it
abbrev pub Both : {A B : Type 0} → A → Result (B × Bor (List Token)) Stopped → Result ((A × B) × Bor (List Token)) Stopped → Type 0
Both first second (Ok x) = (x.0.0 ≡ first) × (second ≡ Ok (x.0.1, x.1))
Both first second (Err e) = second ≡ Err e

-- what was found, and the tokens after what closes it
abbrev pub Closed : {A B : Type 0} → A → Result (B × Bor (List Token)) Stopped → Result (A × Bor (List Token)) Stopped → Type 0
Closed {A} {B} found close (Ok x) = (x.0 ≡ found) × ((b : B) × (close ≡ Ok (b, x.1)))
Closed found close (Err e) = close ≡ Err e

-- the same in a box, unless memory ran out
abbrev pub Boxed : {A : Type 0} → Result (A × Bor (List Token)) Stopped → Result (Box A Global × Bor (List Token)) Stopped → Type 0
Boxed found (Ok x) = found ≡ Ok (x.0.value, x.1)
Boxed found (Err Memory) = Unit {0}
Boxed found (Err (At p rest)) = found ≡ Err (At p rest)

-- a tree that was read in a box, and the height of a node above it, unless memory ran out
abbrev pub Below : Result (Parsed × Bor (List Token)) Stopped → Result ((Box Expression Global × ℕ) × Bor (List Token)) Stopped → Type 0
Below found (Ok x) = (n : Parsed) × (found ≡ Ok (n, x.1)) × (x.0.0.value ≡ n.tree) × (x.0.1 ≡ n.height + 1)
Below found (Err Memory) = Unit {0}
Below found (Err (At p rest)) = found ≡ Err (At p rest)
