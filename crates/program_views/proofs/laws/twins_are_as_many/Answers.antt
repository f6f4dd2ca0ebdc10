use Rattle.program_views.proofs.Twins.{twins_many}
use Rattle.program_views.proofs.laws.twins_are_as_many.Goals as goal

pub returns : goal.returns
returns c = twins_many
