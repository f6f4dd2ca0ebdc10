use Rattle.honest_miners.proofs.Three.{three_miners_answer}
use Rattle.honest_miners.proofs.laws.three_miners_answer_the_run.Goals as goal

pub returns : goal.returns
returns c = three_miners_answer
