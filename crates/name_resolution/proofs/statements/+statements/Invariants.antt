use Rattle.std.proofs.Common.{◌≡◌, Some, take}
use Rattle.std.specs.Prelude.{map}
use Rattle.program_trees.specs.Statements.{statement, statements_of}
use Rattle.declarations.specs.Views.{declared}
use Rattle.program_trees.specs.TypedStatements.{typed_statement, typed_statements_of}
use Rattle.name_resolution.specs.Bodies.{resolved_all}
use Rattle.name_resolution.specs.inner.Views.{place_seen}
use Rattle.name_resolution.proofs.statements.+statements.Given as goal

abbrev pub invariant-statements-loop-each : goal.invariant-statements-loop-each
invariant-statements-loop-each l = record {
  made : resolved_all (declared l.declarations) (statements_of (map statement (take l.each-index l.each-items))) (place_seen l.initial.place)
      ≡ Some (typed_statements_of (map typed_statement l.made.items), place_seen l.place);
  outer : (place_seen l.place).scope.outer ≡ (place_seen l.initial.place).scope.outer;
}
