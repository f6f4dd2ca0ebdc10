use Rattle.code_runs.proofs.Together.{told_together_are_the_events}
use Rattle.code_runs.proofs.client_laws.told_together_are_the_events.Goals as goal

pub returns : goal.returns
returns c = told_together_are_the_events
