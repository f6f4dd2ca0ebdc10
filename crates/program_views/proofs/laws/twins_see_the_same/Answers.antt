use Rattle.program_views.proofs.Twins.{twins_see}
use Rattle.program_views.proofs.laws.twins_see_the_same.Goals as goal

pub returns : goal.returns
returns c = twins_see
