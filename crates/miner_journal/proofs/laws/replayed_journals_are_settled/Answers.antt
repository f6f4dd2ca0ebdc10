use Rattle.miner_journal.proofs.Replays.{settles_replayed}
use Rattle.miner_journal.proofs.laws.replayed_journals_are_settled.Goals as goal

pub returns : goal.returns
returns c = λ sums rs file place. settles_replayed sums rs file place
