use Rattle.view_reader.proofs.WrongLine.{first_wrong}
use Rattle.view_reader.proofs.laws.first_wrong_opening_is_named.Goals as goal

pub returns : goal.returns
returns c = first_wrong
