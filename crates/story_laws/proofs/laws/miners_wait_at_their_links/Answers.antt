use Rattle.story_laws.proofs.Miners.{waits_at_its_links}
use Rattle.story_laws.proofs.laws.miners_wait_at_their_links.Goals as goal

pub returns : goal.returns
returns c = waits_at_its_links
