use Rattle.code_places.proofs.Turns.{begins_alike, code_has_twins}
use Rattle.code_places.proofs.laws.code_has_twins.Goals as goal

pub returns : goal.returns
returns c = record { begins = begins_alike; twins = code_has_twins }
