use Rattle.code_model.proofs.Whole.{verified, settles_again}
use Rattle.code_model.proofs.step_laws.steps_are_what_their_instructions_settle_to.Goals as goal

pub returns : goal.returns
returns c = record { verified = verified; settles = settles_again }
