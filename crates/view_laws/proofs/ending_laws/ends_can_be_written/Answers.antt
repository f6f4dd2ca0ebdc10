use Rattle.view_laws.proofs.Programs.{programs_end}
use Rattle.view_laws.proofs.ending_laws.ends_can_be_written.Goals as goal

pub returns : goal.returns
returns c = programs_end
