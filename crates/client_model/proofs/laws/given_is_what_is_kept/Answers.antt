use Rattle.client_model.specs.Laws.{shares_at_end}
use Rattle.client_model.proofs.Kept.{given-kept}
use Rattle.client_model.proofs.laws.given_is_what_is_kept.Goals as goal

pub returns : goal.returns
returns c = λ mine dealt ds gates tapes. given-kept mine (shares_at_end dealt ds gates tapes) gates 0
