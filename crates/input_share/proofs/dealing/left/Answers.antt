use Rattle.std.proofs.Common.{arith, ◌∙◌}
use Rattle.input_share.proofs.Steps.{left_of-drop, left_of-end, more, all}
use Rattle.input_share.proofs.dealing.left.Goals as goal

pub loop-k-preserved : goal.loop-k-preserved
loop-k-preserved g c =
    more c.loop-k.left.items _ _ _ _ _ c.loop-k.invariant
    (left_of-drop g.R.ShareRing.ring c.args.elements.now c.args.first.now c.args.second.now c.loop-k.k (omega arith) (omega arith) (omega arith))
    (c.in_ok-push.ensures.items ∙ (cc))

pub returns : goal.returns
returns g c =
    all c.loop-k.left.items _ _ c.loop-k.invariant
    (left_of-end g.R.ShareRing.ring c.args.elements.now c.args.first.now c.args.second.now c.loop-k.k c.loop-k-test.false)
