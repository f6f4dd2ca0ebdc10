use Rattle.runs_in_sequence.proofs.Twins.{are-twins}
use Rattle.runs_in_sequence.proofs.laws.twins_of_sequences_see_the_same.Goals as goal

pub returns : goal.returns
returns c = are-twins
