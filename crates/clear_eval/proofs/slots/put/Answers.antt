use Rattle.clear_eval.proofs.Frames.{frame-put}
use Rattle.clear_eval.proofs.slots.put.Goals as goal

pub returns-clause-put : goal.returns-clause-put
returns-clause-put c = frame-put c.args.frame.now.items c.args.slot c.args.value c.requires
