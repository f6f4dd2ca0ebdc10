use Rattle.lowered_code.proofs.Limits.{within_small}
use Rattle.lowered_code.proofs.RegistersOfPrograms.{small_numbered}
use Rattle.lowered_code.proofs.Verified.{well_typed_verified, accepted_runs}
use Rattle.lowered_code.proofs.laws.code_of_accepted_programs_is_verified.Goals as goal

pub returns : goal.returns
returns c = record { verified = well_typed_verified; small = within_small; numbered = small_numbered; runs = accepted_runs }
