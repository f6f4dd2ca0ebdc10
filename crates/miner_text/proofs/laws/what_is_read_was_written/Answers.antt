use Rattle.miner_text.proofs.Rounds.{was_written}
use Rattle.miner_text.proofs.laws.what_is_read_was_written.Goals as goal

pub returns : goal.returns
returns c = was_written
