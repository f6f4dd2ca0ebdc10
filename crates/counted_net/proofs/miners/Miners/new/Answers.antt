use Rattle.counted_net.proofs.Together.{none_came}
use Rattle.counted_net.proofs.miners.Miners.new.Goals as goal

pub returns : goal.returns
returns c =
    none_came c.args.scripts.now (record { one = c.new.result; two = c.new-2.result; three = c.new-3.result })
    c.deref.result.now c.deref-2.result.now c.deref-3.result.now c.deref.ensures.value c.deref-2.ensures.value c.deref-3.ensures.value
    c.new.ensures c.new-2.ensures c.new-3.ensures
