use Rattle.std.proofs.Common.{◌≡◌, ◌+◌, ◌-◌, ◌<◌, min, length, sym, subst, arith, length-drop}
use Rattle.proto_core.specs.declared.party.Number.TheVariants.{One}
use Rattle.joint_run.specs.Three.{joint}
use Rattle.gate_exchanges.specs.Exchanges.{protocol_of, makes_two, IsSized, IsFront, IsBehind}
use Rattle.joint_run.proofs.Blockwise.{counted-of, block-sized, all-left, goes-on}
use Rattle.gate_exchanges.proofs.Blockables.{blockable-of}
use Rattle.joint_run.proofs.whole.add_gate.Goals as goal

pub loop-rest-init : goal.loop-rest-init
loop-rest-init c =
    let e = c.args.exchange in
    all-left (makes_two e) (protocol_of e) (counted-of e) _ _ _ _ c.new-outputs.ensures.first c.new-outputs.ensures.second c.requires.sized

pub add_block-requires-clause-sized : goal.add_block-requires-clause-sized
add_block-requires-clause-sized c =
    let p = protocol_of c.args.exchange in
    let left = length c.loop-rest.rest.u.first in
    let m = c.min-m.result in
    let some = joint c.split-block.result.0 in
    let cut : left ≡ m + (left - m) = omega arith in
    let sized = subst (λ k. IsSized p k (joint c.loop-rest.rest)) cut c.loop-rest.invariant.sized in
    subst (λ k. IsSized p k some) (sym c.split-block.ensures.len)
    (block-sized p (blockable-of c.args.exchange) m (left - m) (joint c.loop-rest.rest) some sized c.split-block.ensures.front)

pub loop-rest-smaller : goal.loop-rest-smaller
loop-rest-smaller c = simp (c.split-block.ensures.behind.u One, length-drop) (omega arith)

pub loop-rest-preserved : goal.loop-rest-preserved
loop-rest-preserved c =
    let e = c.args.exchange in
    let p = protocol_of e in
    let left = length c.loop-rest.rest.u.first in
    let some_left : 0 < left = omega arith in
    let m : c.min-m.result ≡ min left 512 = omega arith in
    let size : length c.split-block.result.0.u.first ≡ min left 512 = omega (arith, c.split-block.ensures.len) in
    let rest : length c.split-block.result.1.u.first ≡ left - min left 512 =
    simp (c.split-block.ensures.behind.u One, length-drop) (omega arith) in
    goes-on (makes_two e) p (counted-of e) (blockable-of e) _ _ _ _ _ _ _ left _ _ (joint c.loop-rest.rest) _ _ some_left size rest
    (subst (λ k. IsFront p k (joint c.loop-rest.rest) (joint c.split-block.result.0)) m c.split-block.ensures.front)
    (subst (λ k. IsBehind p k (joint c.loop-rest.rest) (joint c.split-block.result.1)) m c.split-block.ensures.behind)
    c.loop-rest.invariant c.in_ok-add_block.ensures
