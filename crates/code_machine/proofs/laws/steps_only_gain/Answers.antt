use Rattle.std.specs.List.{slice_get}
use Rattle.verified_code.specs.Settled.{settled}
use Rattle.code_machine.proofs.Gains.{step-gains}
use Rattle.code_machine.proofs.laws.steps_only_gain.Goals as goal

pub returns : goal.returns
returns c = λ w code m s. step-gains w (settled code) m (slice_get m.steps m.pc) s
