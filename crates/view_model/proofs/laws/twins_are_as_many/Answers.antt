use Rattle.view_model.proofs.Twins.{as_many}
use Rattle.view_model.proofs.laws.twins_are_as_many.Goals as goal

pub returns : goal.returns
returns c =
    λ i first second gates opened delivery view ts alike give distinct.
    as_many i first second gates opened delivery view alike ts give distinct
