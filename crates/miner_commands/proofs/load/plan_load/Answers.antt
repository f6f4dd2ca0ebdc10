use Rattle.std.proofs.Common.{◌∙◌}
use Rattle.miner_commands.proofs.LoadRuns.{loaded, memory_on}
use Rattle.miner_commands.proofs.load.plan_load.Goals as goal

pub returns-in_err-loaded_plan-clause-memory : goal.returns-in_err-loaded_plan-clause-memory
returns-in_err-loaded_plan-clause-memory c = memory_on c.from_residual-in_err-loaded_plan.result c.from_residual-in_err-loaded_plan.ensures.1

pub returns-clause-effect : goal.returns-clause-effect
returns-clause-effect c =
    c.in_ok-loaded_plan.ensures.effect
    ∙ loaded c.args.words.now.number c.in_ok-load.load.inputs c.in_ok-load.load.tapes c.in_ok-ran.ran c.in_ok-load.ensures.inputs c.in_ok-load.ensures.tapes
    c.in_ok-ran.ensures.run
