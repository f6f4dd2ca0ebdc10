use Rattle.net_laws.proofs.LinkMessages.{has_its_messages}
use Rattle.net_laws.proofs.one_net.views_have_the_messages_of_links.Goals as goal

pub returns : goal.returns
returns c = has_its_messages
