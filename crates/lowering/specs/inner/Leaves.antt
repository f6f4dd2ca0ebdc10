-- Cited by private functions alone: no contract of another crate rests on it.
-- Statements without others in them.
use Rattle.std.specs.Prelude.{ℕ, false}
use Rattle.program_trees.specs.TypedTree.{TypedTree}
use Rattle.program_trees.specs.TypedStatements.{TypedStatementTree, fill_statement, element_statement}
use Rattle.reached_instances.specs.Domains.{Setting}
use Rattle.verified_code.specs.Steps.{Step, Fill, Put}
use Rattle.code_model.specs.Expressions.{Numbers}
use Rattle.lowered_expressions.specs.Built.{Built}
use Rattle.lowering.specs.declared.simple_statements.Pair.{Pair}
use Rattle.lowering.specs.declared.simple_statements.Pair.TheVariants as pairs
use Rattle.lowering.specs.inner.Pieces.{with_statement}

-- a statement's code, where it doesn't hang on what the function gives back
abbrev pub with_leaf : Numbers → Setting → Built → TypedStatementTree → Built
with_leaf number here b c = with_statement number (record { here = here; secret_result = false }) b c

abbrev pub pair_statement : Pair → (line slot : ℕ) → (number value : TypedTree) → TypedStatementTree
pair_statement pairs.Fill line k n e = fill_statement line k n e
pair_statement pairs.Put line k n e = element_statement line k n e

abbrev pub pair_step : Pair → (line slot number value : ℕ) → Step
pair_step pairs.Fill line k n r = Fill line k n r
pair_step pairs.Put line k n r = Put line k n r
