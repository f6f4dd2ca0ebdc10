use Rattle.link_schedule.proofs.Joining.{came_was_sent}
use Rattle.link_schedule.proofs.laws.what_came_was_sent.Goals as goal

pub returns : goal.returns
returns c = came_was_sent
