use Rattle.named_values.proofs.Steps.{all_take_named}
use Rattle.named_values.proofs.laws.runs_take_what_is_named.Goals as goal

pub returns : goal.returns
returns c = all_take_named
