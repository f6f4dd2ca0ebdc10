use Rattle.runs_in_sequence.proofs.Results.{are-computed}
use Rattle.runs_in_sequence.proofs.laws.sequences_compute.Goals as goal

pub returns : goal.returns
returns c = are-computed
