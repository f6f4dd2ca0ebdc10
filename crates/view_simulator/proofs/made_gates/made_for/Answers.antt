use Rattle.std.proofs.Common.{◌+◌, [], drop, refl, sym, ◌∙◌, ap, subst}
use Rattle.std.proofs.lemmas.List.{drop_all}
use Rattle.proto_core.specs.Strand.{Ends}
use Rattle.joint_run.specs.Three.{each_of}
use Rattle.gate_node.specs.OwnGates.{Whole}
use Rattle.gate_node.proofs.Blocks.{drop-front}
use Rattle.gate_node.proofs.Supplied.{comes-here}
use Rattle.view_simulator.proofs.GateByGate.{Goes, goes-begin, suits-now, reach-now, goes-on, all-made}
use Rattle.view_simulator.proofs.made_gates.made_for.Goals as goal

pub loop-gate-init : goal.loop-gate-init
loop-gate-init g c =
    let i = g.P.Party.me in
    goes-begin i c.args.own c.args.gates.now c.args.opened.now (each_of c.args.tapes)
    (record { node = c.new.result; mails = c.new-2.result; opened = c.args.opened; tapes = c.args.tapes })
    c.in_ok-tape.tape.items
    (comes-here c.new.result i [] (c.new.ensures.left []) ∙ ap (λ t. Ends (Whole [] t.1)) c.new.ensures.tape)
    c.new.ensures.values c.new.ensures.tape c.new.ensures.from_previous c.new.ensures.from_next c.new.ensures.dealt
    (c.in_ok-tape.ensures ∙ c.of.ensures ∙ ap (each_of c.args.tapes) c.number.ensures) refl refl c.new-2.ensures.previous c.new-2.ensures.next
    c.requires.suit c.requires.reach

pub add_gate-requires-clause-rests : goal.add_gate-requires-clause-rests
add_gate-requires-clause-rests g c = c.loop-gate.invariant.rests

pub add_gate-requires-clause-suits : goal.add_gate-requires-clause-suits
add_gate-requires-clause-suits g c =
    let i = g.P.Party.me in
    let gates = c.args.gates.now in
    let k = c.loop-gate.gate-index in
    let now = subst (λ rest. Goes i c.args.own gates c.args.opened.now (each_of c.args.tapes) rest c.loop-gate.simulator)
    (drop-front k gates c.gate-item.result c.loop-gate-test.true (sym c.gate-item.is)) c.loop-gate.invariant in
    suits-now i c.args.own gates c.args.opened.now (each_of c.args.tapes) c.gate-item.result (drop (k + 1) gates) c.loop-gate.simulator now

pub add_gate-requires-clause-reach : goal.add_gate-requires-clause-reach
add_gate-requires-clause-reach g c =
    let i = g.P.Party.me in
    let gates = c.args.gates.now in
    let k = c.loop-gate.gate-index in
    let now = subst (λ rest. Goes i c.args.own gates c.args.opened.now (each_of c.args.tapes) rest c.loop-gate.simulator)
    (drop-front k gates c.gate-item.result c.loop-gate-test.true (sym c.gate-item.is)) c.loop-gate.invariant in
    reach-now i c.args.own gates c.args.opened.now (each_of c.args.tapes) c.gate-item.result (drop (k + 1) gates) c.loop-gate.simulator now

pub loop-gate-preserved : goal.loop-gate-preserved
loop-gate-preserved g c =
    let i = g.P.Party.me in
    let gates = c.args.gates.now in
    let k = c.loop-gate.gate-index in
    let now = subst (λ rest. Goes i c.args.own gates c.args.opened.now (each_of c.args.tapes) rest c.loop-gate.simulator)
    (drop-front k gates c.gate-item.result c.loop-gate-test.true (sym c.gate-item.is)) c.loop-gate.invariant in
    goes-on i c.args.own gates c.args.opened.now (each_of c.args.tapes) c.gate-item.result (drop (k + 1) gates) c.loop-gate.simulator now c.add_gate.new.self
    c.in_ok-add_gate.ensures.is c.in_ok-add_gate.ensures.rests c.in_ok-add_gate.ensures.dealt c.in_ok-add_gate.ensures.sizes

pub returns : goal.returns
returns g c =
    let i = g.P.Party.me in
    let gates = c.args.gates.now in
    let now = subst (λ rest. Goes i c.args.own gates c.args.opened.now (each_of c.args.tapes) rest c.loop-gate.simulator)
    (drop_all c.loop-gate.gate-index gates c.loop-gate-test.false) c.loop-gate.invariant in
    all-made i c.args.own gates c.args.opened.now (each_of c.args.tapes) c.loop-gate.simulator
    (record { mails = c.loop-gate.simulator.mails; left = c.loop-gate.simulator.tapes }) now refl refl
