use Rattle.gates.proofs.Growing.{FitFrom-grown}
use Rattle.gates.proofs.laws.later_values_change_nothing.Goals as goal

pub returns : goal.returns
returns c = λ inputs values more next gates le fit. FitFrom-grown values more inputs next gates le fit
