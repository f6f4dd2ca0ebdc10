use Rattle.std.proofs.Common.{◌≡◌, ◌++◌, take}
use Rattle.std.specs.Prelude.{map}
use Rattle.program_trees.specs.Statements.{statement, statements_of}
use Rattle.domain_types.specs.StatementTypes.{after_all, block_faults}
use Rattle.domain_types.specs.Reached.{block_calls}
use Rattle.domain_types.specs.Views.{setting, calls_seen}
use Rattle.domain_types.specs.inner.LeastFault.{least}
use Rattle.domain_types.proofs.statements.+statements.Given as goal

abbrev pub invariant-statements-loop-each : goal.invariant-statements-loop-each
invariant-statements-loop-each l = record {
  least_fault : l.found.least_fault
      ≡ least l.initial.found.least_fault
      (block_faults (setting l.here) l.here.function.now.result l.initial.variables (statements_of (map statement (take l.each-index l.each-items))));
  calls : calls_seen l.found.calls.items
      ≡ calls_seen l.initial.found.calls.items
      ++ block_calls (setting l.here) l.initial.variables (statements_of (map statement (take l.each-index l.each-items)));
  variables : l.variables ≡ after_all (setting l.here) l.initial.variables (statements_of (map statement (take l.each-index l.each-items)));
}
