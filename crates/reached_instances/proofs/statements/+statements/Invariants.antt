use Rattle.std.proofs.Common.{◌≡◌, ◌++◌, take}
use Rattle.std.specs.Prelude.{map}
use Rattle.program_trees.specs.TypedStatements.{typed_statement, typed_statements_of}
use Rattle.reached_instances.specs.Calls.{typed_statements_calls}
use Rattle.reached_instances.specs.Views.{setting, instances_seen}
use Rattle.reached_instances.proofs.statements.+statements.Given as goal

abbrev pub invariant-statements-loop-each : goal.invariant-statements-loop-each
invariant-statements-loop-each l =
    instances_seen l.found.items
    ≡ instances_seen l.initial.found.items
    ++ typed_statements_calls (setting l.here) (typed_statements_of (map typed_statement (take l.each-index l.each-items)))
