use Rattle.program_run.proofs.Shared.{runs_where_accepted}
use Rattle.program_run.proofs.laws.accepted_programs_run_on_shares.Goals as goal

pub returns : goal.returns
returns c = runs_where_accepted
