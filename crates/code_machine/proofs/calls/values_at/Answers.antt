use Rattle.code_machine.proofs.There.{argument-there}
use Rattle.code_machine.proofs.calls.values_at.Goals as goal

pub copied-requires : goal.copied-requires
copied-requires c = argument-there (_) c.args.arguments.now c.loop-argument.argument-index _ c.requires c.loop-argument-test.true
