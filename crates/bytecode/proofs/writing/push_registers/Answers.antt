use Rattle.bytecode.specs.Written.{short}
use Rattle.bytecode.specs.declared.instruction.Register.{Register}
use Rattle.bytecode.proofs.Little.{more_numbers}
use Rattle.bytecode.proofs.writing.push_registers.Goals as goal

pub loop-register-preserved : goal.loop-register-preserved
loop-register-preserved c =
    more_numbers (λ (r : Register). short r.0) c.args.registers.now c.loop-register.register-index
    (record { 0 = 0 }) _ _ _ c.loop-register-test.true c.loop-register.invariant
    c.in_ok-push_numbers.ensures
