use Rattle.blind_evaluation.specs.Reports.{beginning}
use Rattle.code_model.proofs.Ends.{starts}
use Rattle.code_model.proofs.Forward.{all_forward}
use Rattle.code_model.proofs.laws.runs_of_code_end.Goals as goal

pub returns : goal.returns
returns c = record { ends = λ w c' budget answers fine. starts w c' fine (beginning budget answers); forward = λ p is. all_forward p is }
