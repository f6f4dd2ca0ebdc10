use Rattle.gate_node.specs.Nodes.{filled}
use Rattle.miner_core.specs.Engines.{with_words}
use Rattle.miner_core.proofs.Further.{quiet_after}
use Rattle.miner_core.proofs.Gates.{node_same, node_told}
use Rattle.miner_core.proofs.engine.Engine.gates.Goals as goal

pub returns-clause-same : goal.returns-clause-same
returns-clause-same g c =
    let e = c.args.self.now in
    let n = c.advance.new.self in
    λ d. λ more. node_same g.P.Party.me (with_words e more) (filled n more) (c.in_ok-standing.ensures.same more) c.in_ok-standing.ensures.kept.dealt d

pub returns-clause-told : goal.returns-clause-told
returns-clause-told g c =
    let i = g.P.Party.me in
    let e = c.args.self.now in
    let n = c.advance.new.self in
    let same = c.in_ok-standing.ensures.same in
    let quiet = quiet_after i e.node n c.in_ok-standing.standing same c.in_ok-standing.ensures.stands c.requires.sound.quiet in
    λ d. λ more.
    node_told i (with_words e more) (filled n more) (same more) c.in_ok-standing.ensures.kept.dealt (c.requires.sound.quiet more) (quiet more) d

pub returns-clause-sound : goal.returns-clause-sound
returns-clause-sound g c =
    let i = g.P.Party.me in
    let n = c.advance.new.self in
    record {
      stands = c.requires.sound.stands;
      quiet = quiet_after i c.args.self.now.node n c.in_ok-standing.standing c.in_ok-standing.ensures.same c.in_ok-standing.ensures.stands c.requires.sound.quiet;
    }
