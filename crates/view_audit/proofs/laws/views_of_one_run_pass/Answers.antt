use Rattle.view_audit.proofs.Refuted.{found}
use Rattle.view_audit.proofs.laws.views_of_one_run_pass.Goals as goal

pub returns : goal.returns
returns c = λ source p part lengths budget views order is may one. found source p is part lengths budget views may order one
