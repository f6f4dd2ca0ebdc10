use Rattle.std.proofs.Common.{◌∙◌}
use Rattle.miner_core.proofs.Forgetting.{still_there}
use Rattle.miner_core.proofs.engine.Engine.needed_after.Goals as goal

pub returns-clause-named : goal.returns-clause-named
returns-clause-named g c = λ code k names. c.in_ok-insert.ensures.updates.0 k ∙ still_there _ _ (c.in_ok-numbers.ensures.named code k names)
