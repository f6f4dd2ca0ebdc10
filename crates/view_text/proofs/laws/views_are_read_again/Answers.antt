use Rattle.view_text.proofs.Rounds.{read_again}
use Rattle.view_text.proofs.laws.views_are_read_again.Goals as goal

pub returns : goal.returns
returns c = read_again
