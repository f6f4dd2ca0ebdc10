use Rattle.std.proofs.lemmas.List.{append_assoc}
use Rattle.client_commands.specs.Simulate.{published_short_line}
use Rattle.client_commands.proofs.simulate.published_short_text.Goals as goal

pub returns : goal.returns
unfolding published_short_line
returns c = simp append_assoc c.format.ensures.ok
