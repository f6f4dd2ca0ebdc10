use Rattle.view_text.proofs.TextsRead.{read_is}
use Rattle.view_text.proofs.laws.what_is_read_was_written.Goals as goal

pub returns : goal.returns
returns c = read_is
