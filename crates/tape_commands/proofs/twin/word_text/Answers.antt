use Rattle.std.proofs.lemmas.List.{append_assoc}
use Rattle.tape_commands.specs.Twin.{word_line}
use Rattle.tape_commands.proofs.twin.word_text.Goals as goal

pub returns : goal.returns
unfolding word_line
returns c = simp append_assoc c.format.ensures.ok
