use Rattle.std.proofs.Common.{ap, sym, ◌∙◌}
use Rattle.value_steps.specs.Views.{value_seen}
use Rattle.clear_eval.proofs.Frames.{frame-at}
use Rattle.clear_eval.proofs.slots.slot_value.Goals as goal

pub returns : goal.returns
returns c = ap value_seen c.index.ensures ∙ sym (frame-at c.args.frame.now.items c.args.slot c.index.result.now c.requires)
