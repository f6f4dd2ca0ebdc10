use Rattle.std.proofs.Common.{◌∙◌, refl}
use Rattle.workload.proofs.Arrays.{left_more}
use Rattle.workload.proofs.inputs.left_words.Goals as goal

pub loop-j-preserved : goal.loop-j-preserved
loop-j-preserved c = c.in_ok-push.ensures.items ∙ left_more c.args.number c.loop-j.j _ c.loop-j.words.items c.loop-j.invariant refl
