use Rattle.code_model.proofs.Means.{means}
use Rattle.code_model.proofs.Reached.{reached_fit}
use Rattle.code_model.proofs.laws.code_means_what_the_program_does.Goals as goal

pub returns : goal.returns
returns c = record { means = λ p is w budget answers fit. means p is fit w budget answers; reached = reached_fit }
