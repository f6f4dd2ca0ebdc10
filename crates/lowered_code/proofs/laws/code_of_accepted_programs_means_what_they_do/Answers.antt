use Rattle.lowered_code.proofs.Fits.{well_typed_fits, accepted_means}
use Rattle.lowered_code.proofs.laws.code_of_accepted_programs_means_what_they_do.Goals as goal

pub returns : goal.returns
returns c = record { fits = well_typed_fits; means = accepted_means }
