use Rattle.miner_ends.proofs.ShareFiles.{shares_end_where_they_can, shares_answer_no_other_end}
use Rattle.miner_ends.proofs.laws.miners_of_share_files_end_as_evaluation_can.Goals as goal

pub returns : goal.returns
returns c = record { ends = shares_end_where_they_can; answers = shares_answer_no_other_end }
