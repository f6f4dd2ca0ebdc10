use Rattle.blind_evaluation.proofs.Course.{same_course, never_short}
use Rattle.blind_evaluation.proofs.laws.blind_runs_take_the_same_course.Goals as goal

pub returns : goal.returns
returns c = record { same = λ p o budget more. same_course p o budget more; never_short = λ p o budget more. never_short p o budget more }
