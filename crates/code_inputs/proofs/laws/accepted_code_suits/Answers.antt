use Rattle.code_inputs.proofs.Literals.{well_typed_words, accepted_suits}
use Rattle.code_inputs.proofs.laws.accepted_code_suits.Goals as goal

pub returns : goal.returns
returns c = record { literals = well_typed_words; suits = accepted_suits }
