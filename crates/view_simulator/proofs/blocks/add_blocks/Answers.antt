use Rattle.std.proofs.Common.{◌≡◌, ◌<◌, ◌≤◌, min, length, refl, sym, ◌∙◌, ap, subst, arith, length-drop}
use Rattle.std.proofs.lemmas.List.{length-take-le}
use Rattle.joint_run.specs.Exchanges.{protocol_of}
use Rattle.view_simulator.specs.Sources.{IsDrawn}
use Rattle.view_simulator.proofs.BlockMails.{drawn-reach, drawn-front, block-done, all-done}
use Rattle.view_simulator.proofs.blocks.add_blocks.Goals as goal

pub loop-rest-init : goal.loop-rest-init
loop-rest-init c = record { drawn = c.requires; previous = refl; next = refl }

pub split-block-requires-clause-reach : goal.split-block-requires-clause-reach
split-block-requires-clause-reach c =
    let seen = ap (λ v. length v.u) c.rest.view_is in
    let within : c.min-m.result ≤ length c.loop-rest.rest.u = omega (arith, seen) in
    drawn-reach c.args.exchange c.loop-rest.rest c.loop-rest.invariant.drawn c.min-m.result within

pub add_block-requires-clause-short : goal.add_block-requires-clause-short
add_block-requires-clause-short c =
    let seen = ap (λ v. length v.u) c.rest.view_is in
    let within : c.min-m.result ≤ length c.loop-rest.rest.u = omega (arith, seen) in
    let size = ap (λ s. length s.u) c.split-block.ensures.front ∙ length-take-le c.min-m.result c.loop-rest.rest.u within in
    omega (arith, size)

pub add_block-requires-clause-drawn : goal.add_block-requires-clause-drawn
add_block-requires-clause-drawn c =
    let seen = ap (λ v. length v.u) c.rest.view_is in
    let within : c.min-m.result ≤ length c.loop-rest.rest.u = omega (arith, seen) in
    subst (IsDrawn (protocol_of c.args.exchange)) (sym c.split-block.ensures.front)
    (drawn-front c.args.exchange c.loop-rest.rest c.loop-rest.invariant.drawn c.min-m.result within)

pub loop-rest-preserved : goal.loop-rest-preserved
loop-rest-preserved c =
    let seen = ap (λ v. length v.u) c.rest.view_is in
    let some : 0 < length c.loop-rest.rest.u = omega (arith, seen) in
    let is : c.min-m.result ≡ min (length c.loop-rest.rest.u) 512 = omega (arith, seen) in
    block-done c.args.exchange c.args.miner c.args.sources c.args.mails.now c.loop-rest.mails c.loop-rest.rest c.loop-rest.invariant c.min-m.result
    c.split-block.result.0 c.split-block.result.1 c.add_block.new.mails some is
    c.split-block.ensures.front c.split-block.ensures.behind c.in_ok-add_block.ensures

pub loop-rest-smaller : goal.loop-rest-smaller
loop-rest-smaller c =
    let seen = ap (λ v. length v.u) c.rest.view_is in
    let size = ap (λ s. length s.u) c.split-block.ensures.behind ∙ length-drop c.min-m.result c.loop-rest.rest.u in
    let less : length c.split-block.result.1.u < length c.loop-rest.rest.u = omega (arith, size, seen) in
    less

pub returns : goal.returns
returns c =
    let seen = ap (λ v. length v.u) c.rest.view_is in
    let none : length c.loop-rest.rest.u ≡ 0 = omega (arith, seen) in
    all-done c.args.exchange c.args.miner c.args.sources c.args.mails.now c.loop-rest.mails c.loop-rest.rest c.loop-rest.invariant none
