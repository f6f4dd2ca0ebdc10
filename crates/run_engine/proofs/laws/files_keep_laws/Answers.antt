use Rattle.run_engine.proofs.Kept.{laws_kept}
use Rattle.run_engine.proofs.laws.files_keep_laws.Goals as goal

pub returns : goal.returns
returns c = laws_kept
