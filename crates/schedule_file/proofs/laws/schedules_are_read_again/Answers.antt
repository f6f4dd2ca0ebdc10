use Rattle.schedule_file.proofs.Lines.{read_again}
use Rattle.schedule_file.proofs.laws.schedules_are_read_again.Goals as goal

pub returns : goal.returns
returns c = read_again
