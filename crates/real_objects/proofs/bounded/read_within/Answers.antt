use Rattle.std.proofs.Common.{arith}
use Rattle.real_objects.proofs.Bounds.{read_over_bound, read_within_bound}
use Rattle.real_objects.proofs.bounded.read_within.Goals as goal

pub returns-then-len-most-clause-bytes : goal.returns-then-len-most-clause-bytes
returns-then-len-most-clause-bytes g c =
    rw (← c.take.ensures.inner) (read_over_bound (g.R.Read.remaining c.take.result.inner) c.args.most c.take.result.limit c.new-bytes.result.items
    c.read_to_end.new.buf.items c.take.ensures.limit c.new-bytes.ensures.items c.in_ok-read_to_end.ensures.bytes (omega arith))

pub returns-else-len-most-clause-bytes : goal.returns-else-len-most-clause-bytes
returns-else-len-most-clause-bytes g c =
    rw (← c.take.ensures.inner) (read_within_bound (g.R.Read.remaining c.take.result.inner) c.args.most c.take.result.limit c.new-bytes.result.items
    c.read_to_end.new.buf.items c.take.ensures.limit c.new-bytes.ensures.items c.in_ok-read_to_end.ensures.bytes (omega arith))
