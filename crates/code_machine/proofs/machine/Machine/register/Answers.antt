use Rattle.std.proofs.Common.{ap, sym, ◌∙◌}
use Rattle.value_steps.specs.Views.{value_seen}
use Rattle.code_machine.proofs.Frames.{registers-at}
use Rattle.code_machine.proofs.machine.Machine.register.Goals as goal

pub returns : goal.returns
returns c = ap value_seen c.index.ensures ∙ sym (registers-at c.args.self.now.registers.items c.args.register.0 c.index.result.now c.requires)
