use Rattle.view_reader.proofs.OpenedLaws.{was_written}
use Rattle.view_reader.proofs.laws.opened_values_that_are_read_were_written.Goals as goal

pub returns : goal.returns
returns c = was_written
