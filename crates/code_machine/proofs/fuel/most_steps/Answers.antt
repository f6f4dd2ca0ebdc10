use Rattle.std.proofs.Common.{◌+◌, ◌*◌, ap}
use Rattle.code_machine.proofs.fuel.most_steps.Goals as goal

pub returns : goal.returns
returns c = ap (λ n. c.args.budget * (n + 1) + n + 1) c.longest-longest.ensures.exactly
