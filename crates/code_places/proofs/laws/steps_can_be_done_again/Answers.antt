use Rattle.code_places.proofs.Again.{only_declassify_opens, wants_before_it_tells}
use Rattle.code_places.proofs.laws.steps_can_be_done_again.Goals as goal

pub returns : goal.returns
returns c = record { opens = only_declassify_opens; again = wants_before_it_tells }
