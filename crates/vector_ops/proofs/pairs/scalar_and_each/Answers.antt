use Rattle.std.proofs.Common.{rules}
use Rattle.language_model.specs.Words.{meaning}
use Rattle.vector_ops.proofs.Scalars.{scalar_left}
use Rattle.vector_ops.proofs.pairs.scalar_and_each.Goals as goal

pub returns : goal.returns
returns c = rw (scalar_left (meaning c.args.op) c.args.x c.args.ys.now) (search rules)
