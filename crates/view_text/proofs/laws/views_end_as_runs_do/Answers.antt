use Rattle.view_text.proofs.RunLines.{opened_line, ended_line}
use Rattle.view_text.proofs.laws.views_end_as_runs_do.Goals as goal

pub returns-clause-opened : goal.returns-clause-opened
returns-clause-opened c = opened_line

pub returns-clause-end : goal.returns-clause-end
returns-clause-end c = ended_line
