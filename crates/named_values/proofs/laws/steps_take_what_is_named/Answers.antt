use Rattle.named_values.proofs.Steps.{take_named}
use Rattle.named_values.proofs.laws.steps_take_what_is_named.Goals as goal

pub returns : goal.returns
returns c = take_named
