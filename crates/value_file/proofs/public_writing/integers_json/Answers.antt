use Rattle.serde_json.specs.View.{view}
use Rattle.value_file.specs.Public.{integer_data}
use Rattle.value_file.proofs.Loops.{shown-more}
use Rattle.value_file.proofs.public_writing.integers_json.Goals as goal

pub loop-word-preserved : goal.loop-word-preserved
loop-word-preserved c =
    shown-more view integer_data _ _ _ c.args.words.now c.loop-word.word-index _
    c.loop-word-test.true c.loop-word.invariant c.in_ok-push.ensures.items c.integer_json.ensures
