use Rattle.view_laws.proofs.Named.{events_named}
use Rattle.view_laws.proofs.ending_laws.events_are_named.Goals as goal

pub returns : goal.returns
returns c = events_named
