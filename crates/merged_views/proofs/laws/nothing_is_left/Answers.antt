use Rattle.merged_views.proofs.Merged.{none_is_left}
use Rattle.merged_views.proofs.laws.nothing_is_left.Goals as goal

pub returns : goal.returns
returns c = λ run got ls other left i is brought stuck. none_is_left run got is ls brought other left stuck i
