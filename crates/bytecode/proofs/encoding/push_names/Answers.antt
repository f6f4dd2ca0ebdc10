use Rattle.bytecode.specs.Written.{name_numbers}
use Rattle.bytecode.proofs.Little.{more_items}
use Rattle.bytecode.proofs.encoding.push_names.Goals as goal

pub loop-name-preserved : goal.loop-name-preserved
loop-name-preserved c =
    more_items name_numbers c.args.names.now c.loop-name.name-index c.name-item.result c.name-item.is
    _ _ _ c.loop-name-test.true c.loop-name.invariant c.in_ok-push_name.ensures
