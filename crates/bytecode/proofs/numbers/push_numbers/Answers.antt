use Rattle.bytecode.specs.inner.Numbers.{number_in}
use Rattle.bytecode.proofs.Little.{more_numbers, one_number}
use Rattle.bytecode.proofs.numbers.push_numbers.Goals as goal

pub loop-number-preserved : goal.loop-number-preserved
loop-number-preserved c =
    more_numbers number_in c.args.numbers.now c.loop-number.number-index (record { 0 = 0; 1 = 0 }) _ _ _ c.loop-number-test.true c.loop-number.invariant
    (one_number _ _ _ _ c.in_ok-push_number.ensures)
