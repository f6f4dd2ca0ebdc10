use Rattle.std.proofs.Common.{take}
use Rattle.std.specs.Prelude.{map, option_map, vec_items}
use Rattle.program_trees.specs.Tree.{expression, trees_of}
use Rattle.domain_types.specs.ExpressionTypes.{arguments_of, argument_list_faults}
use Rattle.domain_types.specs.Reached.{calls_of_all}
use Rattle.domain_types.specs.Views.{setting}
use Rattle.domain_types.specs.inner.Walks.{Gives}
use Rattle.domain_types.proofs.expressions.+expressions.Given as goal

abbrev pub invariant-arguments-loop-argument : goal.invariant-arguments-loop-argument
invariant-arguments-loop-argument l =
    Gives (arguments_of (setting l.here) l.variables (trees_of (map expression (take l.argument-index l.argument-items))))
    (option_map vec_items l.types) l.initial.found l.found
    (argument_list_faults (setting l.here) l.variables (trees_of (map expression (take l.argument-index l.argument-items))))
    (calls_of_all (setting l.here) l.variables (trees_of (map expression (take l.argument-index l.argument-items))))
