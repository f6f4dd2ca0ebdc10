use Rattle.std.proofs.lemmas.List.{append_assoc}
use Rattle.tape_commands.specs.Simulate.{short_line}
use Rattle.tape_commands.proofs.simulate.short_text.Goals as goal

pub returns : goal.returns
unfolding short_line
returns c = simp append_assoc c.format.ensures.ok
