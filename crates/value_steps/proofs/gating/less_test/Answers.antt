use Rattle.value_steps.specs.Orders.{order_plan}
use Rattle.value_steps.specs.Views.{stage_seen}
use Rattle.value_steps.proofs.Plans.{puts_plan}
use Rattle.value_steps.proofs.gating.less_test.Goals as goal

pub returns-clause-step : goal.returns-clause-step
returns-clause-step c =
    puts_plan (λ first. order_plan c.args.order first c.args.left c.args.right c.args.n) c.in_ok-first.first c.in_ok-gates.gates.items (stage_seen c.args.stage.now)
    (stage_seen c.put_gates.new.stage) c.put_gates.result c.in_ok-first.ensures.step c.in_ok-gates.ensures c.put_gates.ensures.step
