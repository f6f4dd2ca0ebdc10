use Rattle.std.proofs.Common.{rules}
use Rattle.language_model.specs.Words.{meaning}
use Rattle.vector_ops.proofs.Scalars.{scalar_right}
use Rattle.vector_ops.proofs.pairs.each_and_scalar.Goals as goal

pub returns : goal.returns
returns c = rw (scalar_right (meaning c.args.op) c.args.xs.now c.args.y) (search rules)
