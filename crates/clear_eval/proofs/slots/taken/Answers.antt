use Rattle.std.proofs.Common.{◌∙◌, ap, sym}
use Rattle.language_model.specs.Evaluation.{put}
use Rattle.value_steps.specs.Views.{value_seen}
use Rattle.clear_eval.specs.inner.Views.{frame_seen}
use Rattle.clear_eval.proofs.Frames.{frame-put, frame-at, put-put}
use Rattle.clear_eval.proofs.slots.taken.Goals as goal

pub returns-clause-value : goal.returns-clause-value
returns-clause-value c =
    ap value_seen (c.replace.ensures.value ∙ c.index_mut.ensures.value)
    ∙ sym (frame-at c.args.frame.now.items c.args.slot c.index_mut.result.now c.requires)

pub returns-clause-others : goal.returns-clause-others
returns-clause-others c = λ v. ap (put c.args.slot v) (frame-put c.args.frame.now.items c.args.slot c.replace.new.dest c.requires)
    ∙ put-put c.args.slot v (value_seen c.replace.new.dest) (frame_seen c.args.frame.now.items)
