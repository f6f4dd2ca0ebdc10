use Rattle.std.proofs.Common.{◌≡◌}
use Rattle.std.specs.Prelude.{map}
use Rattle.lowered_expressions.specs.Views.{piece_seen, step_seen}
use Rattle.lowering.specs.inner.Pieces.{placed}
use Rattle.lowering.proofs.functions.all_placed.Given as goal

abbrev pub invariant-loop-piece : goal.invariant-loop-piece
invariant-loop-piece l = map step_seen l.steps.items ≡ map (placed l.end l.end) (map piece_seen l.yielded)
