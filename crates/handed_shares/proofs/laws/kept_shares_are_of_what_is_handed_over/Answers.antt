use Rattle.handed_shares.proofs.Kept.{are-kept}
use Rattle.handed_shares.proofs.laws.kept_shares_are_of_what_is_handed_over.Goals as goal

pub returns : goal.returns
returns c = λ mine dealt_kinds kinds inputs gates shares opened kinded run. are-kept mine dealt_kinds kinds inputs gates shares opened kinded run
