use Rattle.many_questions.proofs.Asked.{asked_correspond}
use Rattle.many_questions.proofs.laws.all_tapes_correspond.Goals as goal

pub returns : goal.returns
returns c = asked_correspond
