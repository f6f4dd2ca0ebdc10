use Rattle.std.proofs.Common.{refl}
use Rattle.view_simulator.proofs.GateAdded.{left-is, ends-here, stands-behind, rests-behind, sizes-behind, dealt-behind}
use Rattle.view_simulator.proofs.simulator.Simulator.add_gate.Goals as goal

pub run_one-requires : goal.run_one-requires
run_one-requires g c =
    left-is g.P.Party.me c.args.self.now c.receive.new.self c.args.gate.now c.requires.rests c.requires.suits c.requires.reach c.in_ok-receive.ensures

pub returns-clause-is : goal.returns-clause-is
returns-clause-is g c =
    let i = g.P.Party.me in
    let s = c.args.self.now in
    let r = c.receive.new.self in
    stands-behind i s r c.args.gate.now c.requires.rests c.requires.suits c.requires.reach c.in_ok-receive.ensures
    (record { node = c.run_one.new.node; mails = r.mails; opened = r.opened; tapes = r.tapes })
    (c.in_ok-run_one.ensures.through _ _
    (ends-here i s r c.args.gate.now c.requires.rests c.requires.suits c.requires.reach c.in_ok-receive.ensures))
    refl refl refl

pub returns-clause-rests : goal.returns-clause-rests
returns-clause-rests g c =
    let i = g.P.Party.me in
    let s = c.args.self.now in
    let r = c.receive.new.self in
    rests-behind i s r c.args.gate.now c.requires.rests c.requires.suits c.requires.reach c.in_ok-receive.ensures
    (record { node = c.run_one.new.node; mails = r.mails; opened = r.opened; tapes = r.tapes })
    (c.in_ok-run_one.ensures.through _ _
    (ends-here i s r c.args.gate.now c.requires.rests c.requires.suits c.requires.reach c.in_ok-receive.ensures))
    refl refl refl

pub returns-clause-sizes : goal.returns-clause-sizes
returns-clause-sizes g c =
    let i = g.P.Party.me in
    let s = c.args.self.now in
    let r = c.receive.new.self in
    sizes-behind i s r c.args.gate.now c.requires.rests c.requires.suits c.requires.reach c.in_ok-receive.ensures
    (record { node = c.run_one.new.node; mails = r.mails; opened = r.opened; tapes = r.tapes })
    (c.in_ok-run_one.ensures.through _ _
    (ends-here i s r c.args.gate.now c.requires.rests c.requires.suits c.requires.reach c.in_ok-receive.ensures))
    refl refl refl

pub returns-clause-dealt : goal.returns-clause-dealt
returns-clause-dealt g c =
    dealt-behind g.P.Party.me c.args.self.now c.receive.new.self c.args.gate.now c.requires.rests c.requires.suits c.requires.reach c.in_ok-receive.ensures
    c.run_one.new.node c.in_ok-run_one.ensures.kept
