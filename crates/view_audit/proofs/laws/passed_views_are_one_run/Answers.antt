use Rattle.view_audit.proofs.Refuted.{passed}
use Rattle.view_audit.proofs.laws.passed_views_are_one_run.Goals as goal

pub returns : goal.returns
returns c = λ source p part lengths budget views ls left is may none stuck nothing. passed source p is part lengths budget views may none ls left stuck nothing
