use Rattle.shared_gates.proofs.Models.{gates-sound}
use Rattle.framed_runs.proofs.FramedScripts.{run_gates-fit}
use Rattle.framed_runs.proofs.FramedMessages.{sent-framed}
use Rattle.framed_runs.proofs.laws.what_miners_send_can_be_framed.Goals as goal

pub returns : goal.returns
returns c = λ dealt ds sizes gates values tapes mail ready begins.
    sent-framed _ values tapes mail (gates-sound dealt ds sizes gates) (run_gates-fit dealt ds sizes gates) ready begins
