use Rattle.miner_core.proofs.Staying.{stays, answers_again}
use Rattle.miner_core.proofs.laws.a_refusal_stays.Goals as goal

pub returns : goal.returns
returns c = record { stays = stays; answers = answers_again }
