use Rattle.std.proofs.Common.{◌≡◌, ap, ◌∙◌}
use Rattle.joint_run.specs.Three.{each_of}
use Rattle.view_simulator.specs.Made.{own_run, IsMade}
use Rattle.view_simulator.specs.Need.{made_shares}
use Rattle.view_model.specs.Dealing.{private_shares, made_entries}
use Rattle.view_simulator.proofs.Making.{suits_own, reaches_own, all_seen}
use Rattle.view_simulator.proofs.made.made_dealt.Goals as goal

pub made_run-requires-clause-suit : goal.made_run-requires-clause-suit
made_run-requires-clause-suit c =
    let i = c.args.miner in
    let part = c.args.part.now in
    let s = c.args.tapes.now in
    let own : c.in_ok-own.own ≡ made_shares i part s.dealer =
    c.in_ok-own.ensures ∙ ap private_shares (c.deref.ensures.value ∙ c.in_ok-inputs.ensures ∙ ap (made_entries i part) c.dealer.ensures) in
    suits_own i part c.args.gates.now s c.requires.dealt c.in_ok-own.own own c.requires.runs (each_of c.whole_tapes-whole.result)
    c.whole_tapes-whole.ensures

pub made_run-requires-clause-reach : goal.made_run-requires-clause-reach
made_run-requires-clause-reach c =
    let i = c.args.miner in
    let part = c.args.part.now in
    let s = c.args.tapes.now in
    let own : c.in_ok-own.own ≡ made_shares i part s.dealer =
    c.in_ok-own.ensures ∙ ap private_shares (c.deref.ensures.value ∙ c.in_ok-inputs.ensures ∙ ap (made_entries i part) c.dealer.ensures) in
    λ k.
    reaches_own i part c.args.gates.now s c.requires.dealt c.in_ok-own.own own c.requires.runs (each_of c.whole_tapes-whole.result)
    c.whole_tapes-whole.ensures k

pub returns : goal.returns
returns c =
    let i = c.args.miner in
    let part = c.args.part.now in
    let s = c.args.tapes.now in
    let gates = c.args.gates.now in
    let opened = c.args.opened.now in
    let inputs : c.in_ok-inputs.inputs.items ≡ made_entries i part s.dealer = c.in_ok-inputs.ensures ∙ ap (made_entries i part) c.dealer.ensures in
    let own : c.in_ok-own.own ≡ made_shares i part s.dealer = c.in_ok-own.ensures ∙ ap private_shares (c.deref.ensures.value ∙ inputs) in
    let tapes = each_of c.whole_tapes-whole.result in
    let made : IsMade i (own_run c.in_ok-own.own gates) opened tapes c.in_ok-made.made = c.in_ok-made.ensures in
    all_seen i part gates s c.requires.dealt c.in_ok-own.own own c.requires.runs tapes c.whole_tapes-whole.ensures opened c.args.order.now c.in_ok-made.made
    made c.in_ok-inputs.inputs.items c.in_ok-drew.drew.items c.of-tape.result.now c.of.result.now c.in_ok-got.got.items inputs c.of-tape.ensures c.of.ensures
    c.in_ok-drew.ensures c.in_ok-got.ensures
