use Rattle.std.proofs.Common.{map, ◌∙◌, ap}
use Rattle.program_views.specs.Views.{received}
use Rattle.viewed_run.proofs.parts.received.Goals as goal

pub returns : goal.returns
returns c = λ mail previous next. c.in_ok-got.ensures ∙ ap (map received) (c.in_ok-messages.ensures mail previous next)
