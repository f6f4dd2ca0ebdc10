use Rattle.std.proofs.Common.{◌≡◌, drop}
use Rattle.std.specs.Prelude.{map, ◌||◌}
use Rattle.domain_types.specs.ProgramTypes.{has_main}
use Rattle.declarations.specs.Views.{tree_at}
use Rattle.domain_types.proofs.items.has_main.Given as goal

abbrev pub invariant-loop-function : goal.invariant-loop-function
invariant-loop-function l = has_main (map tree_at l.functions) ≡ l.found || has_main (map tree_at (drop l.function-index l.functions))
