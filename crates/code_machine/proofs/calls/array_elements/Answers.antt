use Rattle.code_machine.proofs.There.{argument-there}
use Rattle.code_machine.proofs.calls.array_elements.Goals as goal

pub register-requires : goal.register-requires
register-requires c = argument-there (_) c.args.arguments.now c.loop-argument.argument-index _ c.requires c.loop-argument-test.true
