-- How much of a statement is left to read.
use Rattle.std.proofs.Common.{ℕ, zero, suc, ◌+◌, ◌<◌, List, [], ◌∷◌, length, get_or, arith}
use Rattle.std.specs.Prelude.{map}
use Rattle.program_trees.specs.declared.typed_statement.TypedStatement.{TypedStatement}
use Rattle.program_trees.specs.TypedStatements.{TypedStatementTree, TypedStatementTrees, block_statement, if_statement, loop_statement, do_statement, typed_statement}
use Rattle.program_trees.specs.TypedStatements.{typed_statements_of}
use Rattle.program_trees.specs.TypedStatements as Statements'

abbrev mutual
  pub weight : TypedStatementTree → ℕ
  weight (block_statement cs) = weights cs + 2
  weight (if_statement e a b) = weight a + weight b + 3
  weight (loop_statement e step body) = weight step + weight body + 3
  weight (do_statement body e) = weight body + 3
  weight c = 1

  pub weights : TypedStatementTrees → ℕ
  weights Statements'.none = 0
  weights (Statements'.also c cs) = weight c + weights cs + 1

pub weights_item : (ss : List TypedStatement) (i : ℕ) (d : TypedStatement) → i < length ss
    → weight (typed_statement (get_or ss i d)) < weights (typed_statements_of (map typed_statement ss)) + 1
weights_item [] i d l = absurd (omega (arith, l))
weights_item (s ∷ ss) zero d l = omega arith
weights_item (s ∷ ss) (suc i) d l =
    let within : i < length ss = omega (arith, l) in
    let rest = weights_item ss i d within in
    omega (arith, rest)
