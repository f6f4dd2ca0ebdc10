use Rattle.well_written.proofs.Grammar.{well_written}
use Rattle.well_written.proofs.laws.texts_are_well_written.Goals as goal

pub returns : goal.returns
returns c = well_written
