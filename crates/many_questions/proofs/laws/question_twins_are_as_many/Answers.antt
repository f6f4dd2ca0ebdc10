use Rattle.many_questions.proofs.Twins.{as_many}
use Rattle.many_questions.proofs.laws.question_twins_are_as_many.Goals as goal

pub returns : goal.returns
returns c = λ i first second questions lengths views all both give distinct. as_many i first second questions lengths views both all give distinct
