use Rattle.language_model.proofs.Kept.{words_kept}
use Rattle.language_model.proofs.laws.runs_keep_to_their_tapes.Goals as goal

pub returns : goal.returns
returns c = words_kept
