-- Counts of lists of nodes.
use Rattle.std.proofs.Common.{◌≡◌, ◌+◌, List, [], ◌∷◌, ◌++◌, arith}
use Rattle.program_trees.specs.Tree.{Tree, trees_of}
use Rattle.program_trees.specs.Statements.{StatementTree, statements_of}
use Rattle.name_resolution.specs.Sizes.{nodes, nodes_all, statement_nodes, statements_nodes}

pub nodes_all_more : (ts : List Tree) (t : Tree) → nodes_all (trees_of (ts ++ t ∷ [])) ≡ nodes_all (trees_of ts) + nodes t
nodes_all_more [] t = omega arith
nodes_all_more (u ∷ us) t = let more = nodes_all_more us t in omega arith

pub statements_nodes_more : (ts : List StatementTree) (t : StatementTree)
    → statements_nodes (statements_of (ts ++ t ∷ [])) ≡ statements_nodes (statements_of ts) + statement_nodes t
statements_nodes_more [] t = omega arith
statements_nodes_more (u ∷ us) t = let more = statements_nodes_more us t in omega arith
