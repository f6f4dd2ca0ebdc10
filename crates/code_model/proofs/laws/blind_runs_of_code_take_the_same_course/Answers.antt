use Rattle.code_model.proofs.Blind.{blind_same, blind_ended}
use Rattle.code_model.proofs.laws.blind_runs_of_code_take_the_same_course.Goals as goal

pub returns : goal.returns
returns c = record { same = blind_same; never_short = blind_ended }
