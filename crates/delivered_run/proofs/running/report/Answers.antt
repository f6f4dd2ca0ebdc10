use Rattle.std.proofs.Common.{refl}
use Rattle.delivered_run.proofs.running.report.Goals as goal

pub returns-in-Some : goal.returns-in-Some
returns-in-Some c = record { events = c.in_ok-events.ensures; how = c.in-Some.is; cost = refl }
