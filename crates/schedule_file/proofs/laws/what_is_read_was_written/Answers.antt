use Rattle.schedule_file.proofs.Lines.{read_was_written}
use Rattle.schedule_file.proofs.laws.what_is_read_was_written.Goals as goal

pub returns : goal.returns
returns c = read_was_written
