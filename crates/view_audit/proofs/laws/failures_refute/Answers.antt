use Rattle.view_audit.proofs.Refuted.{refuted_by_line, refuted_by_step}
use Rattle.view_audit.proofs.laws.failures_refute.Goals as goal

pub returns-clause-step : goal.returns-clause-step
returns-clause-step c = λ source p is part lengths budget views i line may e. refuted_by_step source p is part lengths budget views may i line e

pub returns-clause-line : goal.returns-clause-line
returns-clause-line c = λ source p is part lengths budget views i ls left may none stuck lower some.
    refuted_by_line source p is part lengths budget views may none ls left stuck i lower some
