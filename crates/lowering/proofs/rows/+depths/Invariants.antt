use Rattle.std.proofs.Common.{◌≡◌, ◌+◌, take}
use Rattle.std.specs.Prelude.{map}
use Rattle.program_trees.specs.TypedStatements.{typed_statement, typed_statements_of}
use Rattle.code_model.specs.Statements.{statements_depth}
use Rattle.lowering.proofs.Weights.{weight, weights}
use Rattle.lowering.proofs.rows.+depths.Given as goal

abbrev pub decreases-statement_depth : goal.decreases-statement_depth
decreases-statement_depth l = weight (typed_statement l.s.now)

abbrev pub decreases-parts_depth : goal.decreases-parts_depth
decreases-parts_depth l = weight (typed_statement l.a.now) + weight (typed_statement l.b.now) + 2

abbrev pub decreases-statements_depth : goal.decreases-statements_depth
decreases-statements_depth l = weights (typed_statements_of (map typed_statement l.list.now.items)) + 1

abbrev pub invariant-statements_depth-loop-each : goal.invariant-statements_depth-loop-each
invariant-statements_depth-loop-each l =
    l.rows ≡ statements_depth (typed_statements_of (map typed_statement (take l.each-index l.each-items)))
