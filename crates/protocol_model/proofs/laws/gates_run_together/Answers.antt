use Rattle.protocol_model.proofs.GateRuns.{run-finishes, run-opens}
use Rattle.protocol_model.proofs.laws.gates_run_together.Goals as goal

pub returns : goal.returns
returns c =
    λ gates values tapes sound ready.
    record { finishes = run-finishes gates values tapes sound ready; opens = run-opens gates values tapes sound ready }
