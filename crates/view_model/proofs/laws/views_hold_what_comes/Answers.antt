use Rattle.view_model.proofs.Coming.{come_is_seen}
use Rattle.view_model.proofs.laws.views_hold_what_comes.Goals as goal

pub returns : goal.returns
returns c = λ i entries gates t delivery are enough reaches accepted. come_is_seen i entries gates t are enough reaches delivery accepted
