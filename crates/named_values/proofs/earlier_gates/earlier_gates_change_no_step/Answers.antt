use Rattle.named_values.proofs.BesidesSteps.{earlier_gates_change_nothing}
use Rattle.named_values.proofs.earlier_gates.earlier_gates_change_no_step.Goals as goal

pub returns : goal.returns
returns c = earlier_gates_change_nothing
