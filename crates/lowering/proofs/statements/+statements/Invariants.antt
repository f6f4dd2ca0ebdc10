use Rattle.std.proofs.Common.{◌≡◌, ◌+◌, take}
use Rattle.std.specs.Prelude.{map}
use Rattle.program_trees.specs.TypedStatements.{typed_statement, typed_statements_of}
use Rattle.lowered_expressions.specs.Views.{built}
use Rattle.lowering.specs.inner.Pieces.{with_statements}
use Rattle.lowering.specs.inner.Views.{numbers_at, place_seen}
use Rattle.lowering.proofs.Weights.{weight, weights}
use Rattle.lowering.proofs.statements.+statements.Given as goal

abbrev pub decreases-statement : goal.decreases-statement
decreases-statement l = weight (typed_statement l.s.now)

abbrev pub decreases-statements : goal.decreases-statements
decreases-statements l = weights (typed_statements_of (map typed_statement l.list.now.items)) + 1

abbrev pub decreases-choice : goal.decreases-choice
decreases-choice l = weight (typed_statement l.first.now) + weight (typed_statement l.second.now) + 2

abbrev pub decreases-turns : goal.decreases-turns
decreases-turns l = weight (typed_statement l.step.now) + weight (typed_statement l.repeated.now) + 2

abbrev pub decreases-repeats : goal.decreases-repeats
decreases-repeats l = weight (typed_statement l.repeated.now) + 2

abbrev pub invariant-statements-loop-each : goal.invariant-statements-loop-each
invariant-statements-loop-each l =
    built l.body
    ≡ with_statements (numbers_at l.at) (place_seen l.at) (built l.initial.body) (typed_statements_of (map typed_statement (take l.each-index l.each-items)))
