use Rattle.std.proofs.Common.{rules}
use Rattle.value_file.specs.Values.{integer_in}
use Rattle.value_file.proofs.Loops.{all_in-end, all_in-more, all_in-none}
use Rattle.value_file.proofs.value_reading.integers.Goals as goal

pub returns : goal.returns
returns c = all_in-end integer_in c.args.list.now c.loop-json.json-index c.loop-json.words.items _ c.loop-json.invariant c.loop-json-test.false

pub loop-json-preserved : goal.loop-json-preserved
loop-json-preserved c =
    all_in-more integer_in c.args.list.now c.loop-json.json-index c.loop-json.words.items _ c.loop-json.invariant c.json-item.result _ _
    c.loop-json-test.true c.json-item.is c.in_ok-push.ensures.items (search rules)

pub returns-in_default : goal.returns-in_default
returns-in_default c =
    all_in-none integer_in c.args.list.now c.loop-json.json-index c.loop-json.words.items _ c.loop-json.invariant c.json-item.result
    c.loop-json-test.true c.json-item.is (search rules)
