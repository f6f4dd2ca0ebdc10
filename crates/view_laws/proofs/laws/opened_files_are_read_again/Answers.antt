use Rattle.view_laws.proofs.Openings.{opened_file_is_read_again}
use Rattle.view_laws.proofs.laws.opened_files_are_read_again.Goals as goal

pub returns : goal.returns
returns c = opened_file_is_read_again
