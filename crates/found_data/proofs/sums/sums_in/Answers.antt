use Rattle.std.proofs.Common.{arith, ◌∙◌}
use Rattle.input_share.proofs.Steps.{more, all}
use Rattle.found_data.proofs.Walks.{sums-drop, sums-end}
use Rattle.found_data.proofs.sums.sums_in.Goals as goal

pub loop-k-preserved : goal.loop-k-preserved
loop-k-preserved g c =
    more c.loop-k.sums.items _ _ _ _ _ c.loop-k.invariant
    (sums-drop g.R.ShareRing.ring c.args.one.now c.args.two.now c.args.three.now c.loop-k.k (omega arith) (omega arith) (omega arith))
    (c.in_ok-push.ensures.items ∙ (cc))

pub returns : goal.returns
returns g c =
    all c.loop-k.sums.items _ _ c.loop-k.invariant
    (sums-end g.R.ShareRing.ring c.args.one.now c.args.two.now c.args.three.now c.loop-k.k (omega arith))
