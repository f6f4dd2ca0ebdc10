use Rattle.oblivious_index.specs.Lookup.{lookup_plan}
use Rattle.value_steps.specs.Views.{stage_seen}
use Rattle.value_steps.proofs.Plans.{puts_plan}
use Rattle.value_steps.proofs.gating.lookup_gates.Goals as goal

pub returns-clause-step : goal.returns-clause-step
returns-clause-step c =
    puts_plan (λ first. lookup_plan first c.args.array.number c.args.index.number c.args.array.size c.args.index.size) c.in_ok-first.first
    c.in_ok-gates.gates.items (stage_seen c.args.stage.now) (stage_seen c.put_gates.new.stage) c.put_gates.result c.in_ok-first.ensures.step
    c.in_ok-gates.ensures.gates c.put_gates.ensures.step
