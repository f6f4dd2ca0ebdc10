use Rattle.client_model.proofs.Twins.{client_twins}
use Rattle.client_model.proofs.laws.client_twins_are_given_the_same.Goals as goal

pub returns : goal.returns
returns c = λ mine dealt_kinds kinds ds gates published first second tapes kinded one other runs runs_too.
    client_twins mine dealt_kinds kinds ds gates kinded published first second one other tapes runs runs_too
