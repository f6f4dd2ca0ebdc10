use Rattle.runs_in_sequence.proofs.Fitting.{all-run}
use Rattle.runs_in_sequence.proofs.laws.runs_that_fit_go_to_their_ends.Goals as goal

pub returns : goal.returns
returns c = λ sizes kept legs tapes sized fit. all-run sizes kept sized legs tapes fit
