use Rattle.std.proofs.Common.{arith}
use Rattle.bytecode.proofs.Reading.{number_fits, number_room}
use Rattle.bytecode.proofs.reader.Reader.+number.Goals as goal

pub overflow_mul-result : goal.overflow_mul-result
overflow_mul-result t c = omega (arith, number_room c.args.bytes 0 c.in_ok-high.high c.if-bytes-eq0.false c.requires (omega arith) c.in_ok-high.ensures.small)

pub overflow_add-result : goal.overflow_add-result
overflow_add-result t c = omega
    (arith, number_room c.args.bytes c.in_ok-low.low c.in_ok-high.high c.if-bytes-eq0.false c.requires (omega arith) c.in_ok-high.ensures.small)

pub returns-clause-small : goal.returns-clause-small
returns-clause-small t c = number_fits c.args.bytes c.in_ok-low.low c.in_ok-high.high c.if-bytes-eq0.false (omega arith) c.in_ok-high.ensures.small
