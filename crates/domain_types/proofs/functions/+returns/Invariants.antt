use Rattle.std.proofs.Common.{◌≡◌, take}
use Rattle.std.specs.Prelude.{map}
use Rattle.program_trees.specs.Statements.{statement, statements_of}
use Rattle.domain_types.specs.StatementTypes.{one_returns}
use Rattle.domain_types.proofs.functions.+returns.Given as goal

abbrev pub invariant-one_returns-loop-each : goal.invariant-one_returns-loop-each
invariant-one_returns-loop-each l = l.returns ≡ one_returns (statements_of (map statement (take l.each-index l.each-items)))
