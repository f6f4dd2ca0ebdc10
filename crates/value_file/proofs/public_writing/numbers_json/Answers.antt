use Rattle.serde_json.specs.View.{view}
use Rattle.value_file.specs.Public.{number_data}
use Rattle.value_file.proofs.Loops.{shown-more}
use Rattle.value_file.proofs.public_writing.numbers_json.Goals as goal

pub loop-number-preserved : goal.loop-number-preserved
loop-number-preserved c =
    shown-more view number_data _ _ _ c.args.numbers.now c.loop-number.number-index _
    c.loop-number-test.true c.loop-number.invariant c.in_ok-push.ensures.items c.from.ensures
