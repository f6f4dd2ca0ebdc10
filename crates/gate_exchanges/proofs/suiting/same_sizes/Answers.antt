use Rattle.std.proofs.Common.{refl, arith}
use Rattle.gate_exchanges.proofs.Sizes.{all-same}
use Rattle.gate_exchanges.proofs.suiting.same_sizes.Goals as goal

pub returns : goal.returns
returns c = (
  λ t. all-same c.args.xs.now c.args.ys.now c.loop-k.invariant.count (λ k lt. c.loop-k.invariant.same k (omega arith)),
  λ e. refl,
)
