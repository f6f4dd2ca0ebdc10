use Rattle.program_views.proofs.Corresponding.{tapes_corresponding}
use Rattle.program_views.proofs.laws.tapes_correspond.Goals as goal

pub returns : goal.returns
returns c = tapes_corresponding
