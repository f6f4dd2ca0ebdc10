use Rattle.std.proofs.Common.{refl}
use Rattle.client_model.proofs.Given.{given-made}
use Rattle.client_model.specs.Laws.{shares_at_end}
use Rattle.client_model.proofs.laws.given_is_made.Goals as goal

pub returns : goal.returns
returns c = λ mine dealt_kinds kinds inputs dealt ds gates tapes kinded runs run more.
    given-made mine dealt_kinds kinds inputs dealt ds run.more (shares_at_end dealt ds gates tapes) run.held more gates tapes runs kinded run.fit run.count
    (λ i. refl)
