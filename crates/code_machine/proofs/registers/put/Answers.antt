use Rattle.code_machine.proofs.Frames.{registers-put}
use Rattle.code_machine.proofs.registers.put.Goals as goal

pub returns-clause-put : goal.returns-clause-put
returns-clause-put c = registers-put c.args.registers.now.items c.args.register.0 c.args.value c.requires
