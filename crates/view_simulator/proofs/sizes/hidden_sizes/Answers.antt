use Rattle.view_model.specs.Dealing.{hidden_sizes}
use Rattle.view_simulator.proofs.Pieces.{one_more, sizes_append}
use Rattle.view_simulator.proofs.sizes.hidden_sizes.Goals as goal

pub loop-entry-preserved : goal.loop-entry-preserved
loop-entry-preserved c =
    one_more hidden_sizes sizes_append c.args.part.now c.loop-entry.entry-index c.entry-item.result c.loop-entry.sizes.items c.push_size.new.sizes.items
    c.loop-entry-test.true c.entry-item.is c.loop-entry.invariant c.in_ok-push_size.ensures
