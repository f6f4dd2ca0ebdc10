use Rattle.link_schedule.proofs.Joining.{after_mail}
use Rattle.link_schedule.proofs.laws.deliveries_add_up.Goals as goal

pub returns : goal.returns
returns c = after_mail
