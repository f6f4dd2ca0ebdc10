use Rattle.std.proofs.Common.{sym, subst}
use Rattle.counted_net.specs.Nets.{IsNet}
use Rattle.counted_net.proofs.net.Net.new.Goals as goal

pub invariant_of-result : goal.invariant_of-result
invariant_of-result c =
    subst (λ ls. IsNet c.args.scripts.now ls c.new.result c.new-2.result) (sym c.new-3.ensures.items)
    (record { settled = c.new.ensures; counted = c.new-2.ensures })
