use Rattle.merged_views.proofs.Merged.{are_brought, are_whole}
use Rattle.merged_views.proofs.laws.next_messages_are_brought.Goals as goal

pub returns : goal.returns
returns c = λ run got ls left is next stuck none. are_brought run got is (are_whole run got is next) ls left stuck none
