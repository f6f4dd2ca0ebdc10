use Rattle.run_engine.proofs.Obeying.{obeyed_end, obeyed_stop}
use Rattle.run_engine.proofs.top.obey.Goals as goal

pub returns-in_err-plan-clause-obeyed : goal.returns-in_err-plan-clause-obeyed
returns-in_err-plan-clause-obeyed g c = λ err err'.
    obeyed_stop _ _ _ _ err err' _ c.from_residual.result c.from_residual.ensures.1 c.in_err-plan.ensures.planned

pub returns-clause-obeyed : goal.returns-clause-obeyed
returns-clause-obeyed g c = λ err err'.
    obeyed_end _ _ _ _ _ _ err err' c.in_ok-plan.plan c.in_ok-plan.ensures.planned _ c.finish_plan.ensures.only c.finish_plan.ensures.finishes
