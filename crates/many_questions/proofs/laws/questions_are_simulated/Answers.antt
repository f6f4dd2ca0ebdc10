use Rattle.many_questions.proofs.Simulated.{questions_simulated}
use Rattle.many_questions.proofs.laws.questions_are_simulated.Goals as goal

pub returns : goal.returns
returns c = questions_simulated
