use Rattle.miner_text.proofs.Rounds.{read_again}
use Rattle.miner_text.proofs.laws.texts_are_read_again.Goals as goal

pub returns : goal.returns
returns c = read_again
