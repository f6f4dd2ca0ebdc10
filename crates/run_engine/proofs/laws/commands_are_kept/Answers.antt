use Rattle.run_engine.proofs.Kept.{commands_kept}
use Rattle.run_engine.proofs.laws.commands_are_kept.Goals as goal

pub returns : goal.returns
returns c = commands_kept
