use Rattle.workload.proofs.Runnable.{load_is_runnable}
use Rattle.workload.proofs.program_laws.load_program_is_runnable.Goals as goal

pub returns : goal.returns
returns c = load_is_runnable
