use Rattle.merged_views.proofs.Merged.{are_next}
use Rattle.merged_views.proofs.laws.brought_messages_are_next.Goals as goal

pub returns : goal.returns
returns c = λ run got ls is brought. are_next run got is ls brought
