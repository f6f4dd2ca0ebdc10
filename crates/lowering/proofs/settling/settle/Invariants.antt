use Rattle.std.proofs.Common.{◌≡◌, ◌-◌, length}
use Rattle.lowered_expressions.specs.Views.{built}
use Rattle.lowering.specs.inner.Pieces.{with_settled}
use Rattle.lowering.proofs.settling.settle.Given as goal

abbrev pub invariant-loop-place : goal.invariant-loop-place
invariant-loop-place l = record {
  code : built l.body ≡ with_settled (built l.initial.body) l.fn.from (l.place - l.fn.from) l.fn.break_to l.fn.continue_to;
  many : length (built l.body).pieces ≡ length (built l.initial.body).pieces;
}
