use Rattle.gate_laws.proofs.Verified.{verified_suits}
use Rattle.gate_laws.proofs.laws.verified_code_may_run.Goals as goal

pub returns : goal.returns
returns c = verified_suits
