use Rattle.std.proofs.Common.{◌∙◌}
use Rattle.link_schedule.proofs.net.Net3.recorded.Goals as goal

pub returns : goal.returns
returns c = λ s is. c.deref.ensures.value ∙ is.recorded
