use Rattle.std.proofs.Common.{false}
use Rattle.serde_json.specs.Data.{boolean}
use Rattle.serde_json.specs.View.{view}
use Rattle.value_file.proofs.Loops.{shown-more, view-truth}
use Rattle.value_file.proofs.public_writing.truths.Goals as goal

pub loop-truth-preserved : goal.loop-truth-preserved
loop-truth-preserved c =
    shown-more view boolean _ _ _ c.args.truths.now c.loop-truth.truth-index false
    c.loop-truth-test.true c.loop-truth.invariant c.in_ok-push.ensures.items (view-truth _)
