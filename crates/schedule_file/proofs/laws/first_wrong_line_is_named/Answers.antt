use Rattle.schedule_file.proofs.Lines.{first_wrong}
use Rattle.schedule_file.proofs.laws.first_wrong_line_is_named.Goals as goal

pub returns : goal.returns
returns c = first_wrong
