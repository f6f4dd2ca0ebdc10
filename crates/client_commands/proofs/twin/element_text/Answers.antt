use Rattle.std.proofs.lemmas.List.{append_assoc}
use Rattle.client_commands.specs.Twin.{element_line}
use Rattle.client_commands.proofs.twin.element_text.Goals as goal

pub returns : goal.returns
unfolding element_line
returns c = simp append_assoc c.format.ensures.ok
