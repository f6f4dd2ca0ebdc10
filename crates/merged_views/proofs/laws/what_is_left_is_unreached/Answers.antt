use Rattle.merged_views.proofs.Left.{first_left}
use Rattle.merged_views.proofs.laws.what_is_left_is_unreached.Goals as goal

pub returns : goal.returns
returns c = λ scripts orders left ls i stuck lower some. first_left scripts orders left ls stuck i lower some
