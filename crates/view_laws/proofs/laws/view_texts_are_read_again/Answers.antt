use Rattle.view_laws.proofs.Views.{texts_read_again}
use Rattle.view_laws.proofs.laws.view_texts_are_read_again.Goals as goal

pub returns : goal.returns
returns c = texts_read_again
