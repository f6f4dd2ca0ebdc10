use Rattle.many_questions.proofs.Twins.{asked_twin}
use Rattle.many_questions.proofs.laws.question_twins_see_the_same.Goals as goal

pub returns : goal.returns
returns c = asked_twin
