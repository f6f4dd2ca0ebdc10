use Rattle.well_typed.proofs.Reaching.{accepted_well_typed, reached_checked}
use Rattle.well_typed.proofs.laws.accepted_programs_are_well_typed.Goals as goal

pub returns : goal.returns
returns c = record { well_typed = accepted_well_typed; instances = reached_checked }
