use Rattle.workload.proofs.Forms.{are_inputs}
use Rattle.workload.proofs.laws.load_entries_are_inputs.Goals as goal

pub returns : goal.returns
returns c = are_inputs
