use Rattle.viewed_run.proofs.CodeViews.{code_views_are_views}
use Rattle.viewed_run.proofs.code_laws.code_views_are_views.Goals as goal

pub returns : goal.returns
returns c = code_views_are_views
