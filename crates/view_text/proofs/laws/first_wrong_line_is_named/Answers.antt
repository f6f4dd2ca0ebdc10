use Rattle.view_text.proofs.TextsRead.{first_wrong}
use Rattle.view_text.proofs.laws.first_wrong_line_is_named.Goals as goal

pub returns : goal.returns
returns c = first_wrong
