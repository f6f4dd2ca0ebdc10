use Rattle.shared_gates.proofs.Models.{gates-sound}
use Rattle.framed_runs.proofs.FramedScripts.{run_gates-fit}
use Rattle.framed_runs.proofs.FramedMessages.{run-framed}
use Rattle.framed_runs.proofs.laws.messages_of_runs_can_be_framed.Goals as goal

pub returns : goal.returns
returns c = λ dealt ds sizes gates values tapes ready.
    run-framed _ values tapes (gates-sound dealt ds sizes gates) (run_gates-fit dealt ds sizes gates) ready
