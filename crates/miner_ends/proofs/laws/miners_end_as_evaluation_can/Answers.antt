use Rattle.miner_ends.proofs.Ends.{ends_where_it_can, answers_no_other_end}
use Rattle.miner_ends.proofs.laws.miners_end_as_evaluation_can.Goals as goal

pub returns : goal.returns
returns c = record { ends = ends_where_it_can; answers = answers_no_other_end }
