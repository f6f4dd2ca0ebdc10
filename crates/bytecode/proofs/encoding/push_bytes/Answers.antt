use Rattle.bytecode.specs.Written.{byte}
use Rattle.bytecode.proofs.Little.{more_numbers}
use Rattle.bytecode.proofs.encoding.push_bytes.Goals as goal

pub loop-one-preserved : goal.loop-one-preserved
loop-one-preserved c = more_numbers (byte) c.args.bytes.now c.loop-one.one-index
    (0) _ _ _ c.loop-one-test.true c.loop-one.invariant c.in_ok-push_numbers.ensures
