use Rattle.view_laws.proofs.OpenedWords.{opened_is_told}
use Rattle.view_laws.proofs.laws.runs_open_what_they_tell.Goals as goal

pub returns : goal.returns
returns c = opened_is_told
