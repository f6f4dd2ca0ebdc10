-- The functions that lists of expressions and statements call.
use Rattle.std.proofs.Common.{◌≡◌, List, [], ◌∷◌, ◌++◌, refl, ap}
use Rattle.std.specs.Prelude.{map}
use denote.Ref.{Bor}
use Rattle.program_trees.specs.declared.function.Function.{Function}
use Rattle.program_trees.specs.Tree.{Tree, trees_of}
use Rattle.program_trees.specs.Statements.{StatementTree, statements_of}
use Rattle.program_trees.specs.Programs.{FunctionTree}
use Rattle.declarations.specs.Declarations.{Declared}
use Rattle.declarations.specs.Named.{name_of}
use Rattle.declarations.specs.Views.{tree_at}
use Rattle.name_resolution.specs.Order.{function_name, called_in, called_in_all, called_by, called_by_all}

pub named_trees : (fs : List (Bor Function)) → map function_name (map tree_at fs) ≡ map name_of fs
named_trees [] = refl
named_trees (f ∷ fs) = ap (λ l. name_of f ∷ l) (named_trees fs)

pub called_in_all_more : (d : Declared) (fs : List FunctionTree) (ts : List Tree) (t : Tree)
    → called_in_all d fs (trees_of (ts ++ t ∷ [])) ≡ called_in d (called_in_all d fs (trees_of ts)) t
called_in_all_more d fs [] t = refl
called_in_all_more d fs (u ∷ us) t = called_in_all_more d (called_in d fs u) us t

pub called_by_all_more : (d : Declared) (fs : List FunctionTree) (ts : List StatementTree) (t : StatementTree)
    → called_by_all d fs (statements_of (ts ++ t ∷ [])) ≡ called_by d (called_by_all d fs (statements_of ts)) t
called_by_all_more d fs [] t = refl
called_by_all_more d fs (u ∷ us) t = called_by_all_more d (called_by d fs u) us t
