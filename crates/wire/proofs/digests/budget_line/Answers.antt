use Rattle.std.proofs.lemmas.List.{append_assoc}
use Rattle.wire.specs.Digests.{budget_line}
use Rattle.wire.proofs.digests.budget_line.Goals as goal

pub returns : goal.returns
unfolding budget_line
returns c = simp append_assoc c.format.ensures.ok
