use Rattle.view_text.proofs.Rounds.{same_texts}
use Rattle.view_text.proofs.laws.equal_texts_are_equal_views.Goals as goal

pub returns : goal.returns
returns c = same_texts
