use Rattle.std.proofs.Common.{◌≡◌, ◌+◌, ◌-◌, ◌<◌, min, length, sym, subst, arith, length-drop}
use Rattle.proto_core.specs.declared.party.Number.TheVariants.{One}
use Rattle.joint_run.specs.Three.{joint}
use Rattle.joint_run.specs.Exchanges.{protocol_of, IsSized, IsFront, IsBehind}
use Rattle.joint_run.proofs.Blockwise.{block-sized, enough}
use Rattle.gate_exchanges.proofs.Blockables.{blockable-of}
use Rattle.tape_twin.proofs.Blocks.{all-left, goes-on}
use Rattle.tape_twin.proofs.blockwise.map_gate.Goals as goal

pub loop-rest-init : goal.loop-rest-init
loop-rest-init c =
    all-left c.args.map.way (protocol_of c.args.exchange) _ c.args.map.miner _ _ c.new-made.ensures c.requires.sized

pub split-block-requires : goal.split-block-requires
split-block-requires c =
    let p = protocol_of c.args.exchange in
    let left = length c.loop-rest.rest.u.first in
    let m = c.min-m.result in
    let whole : left ≡ m + (left - m) = omega arith in
    enough p (blockable-of c.args.exchange) m (left - m) (joint c.loop-rest.rest)
    (subst (λ k. IsSized p k (joint c.loop-rest.rest)) whole c.loop-rest.invariant.sized)

pub push_block-requires-clause-sized : goal.push_block-requires-clause-sized
push_block-requires-clause-sized c =
    let p = protocol_of c.args.exchange in
    let left = length c.loop-rest.rest.u.first in
    let m = c.min-m.result in
    let some = joint c.split-block.result.0 in
    let whole : left ≡ m + (left - m) = omega arith in
    let sized = subst (λ k. IsSized p k (joint c.loop-rest.rest)) whole c.loop-rest.invariant.sized in
    subst (λ k. IsSized p k some) (sym c.split-block.ensures.len)
    (block-sized p (blockable-of c.args.exchange) m (left - m) (joint c.loop-rest.rest) some sized c.split-block.ensures.front)

pub loop-rest-smaller : goal.loop-rest-smaller
loop-rest-smaller c = simp (c.split-block.ensures.behind.u One, length-drop) (omega arith)

pub loop-rest-preserved : goal.loop-rest-preserved
loop-rest-preserved c =
    let p = protocol_of c.args.exchange in
    let left = length c.loop-rest.rest.u.first in
    let some_left : 0 < left = omega arith in
    let m : c.min-m.result ≡ min left 512 = omega arith in
    let size : length c.split-block.result.0.u.first ≡ min left 512 = omega (arith, c.split-block.ensures.len) in
    let rest : length c.split-block.result.1.u.first ≡ left - min left 512 =
    simp (c.split-block.ensures.behind.u One, length-drop) (omega arith) in
    goes-on c.args.map.way p _ c.args.map.miner _ (blockable-of c.args.exchange) _ _ left _ _ (joint c.loop-rest.rest) _ _ some_left size rest
    (subst (λ k. IsFront p k (joint c.loop-rest.rest) (joint c.split-block.result.0)) m c.split-block.ensures.front)
    (subst (λ k. IsBehind p k (joint c.loop-rest.rest) (joint c.split-block.result.1)) m c.split-block.ensures.behind)
    c.in_ok-push_block.ensures.words c.in_ok-push_block.ensures.len c.loop-rest.invariant
