use Rattle.front_end.proofs.Judgements.{typed_exactly}
use Rattle.front_end.proofs.laws.accepted_exactly_where_typed.Goals as goal

pub returns : goal.returns
returns c = typed_exactly
