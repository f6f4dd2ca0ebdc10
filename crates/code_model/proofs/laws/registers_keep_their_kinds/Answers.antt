use Rattle.code_model.proofs.Kept.{keeps, begins}
use Rattle.code_model.proofs.laws.registers_keep_their_kinds.Goals as goal

pub returns : goal.returns
returns c = record { begins = begins; keeps = keeps }
