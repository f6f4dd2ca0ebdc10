use Rattle.std.proofs.Common.{refl, ap}
use Rattle.gate_node.specs.Nodes.{filled}
use Rattle.miner_core.specs.Engines.{forgetting, with_words}
use Rattle.miner_core.proofs.Forgetting.{spared_left}
use Rattle.miner_core.proofs.Gates.{left_same}
use Rattle.miner_core.proofs.Further.{ahead_quiet_with, through_quiet_with}
use Rattle.miner_core.proofs.Settled.{stored_here}
use Rattle.miner_core.proofs.engine.Engine.store_in_place.Goals as goal

pub returns-then-branch-clause-left : goal.returns-then-branch-clause-left
returns-then-branch-clause-left g c =
    let e = c.args.self.now in
    let done = c.in_ok-store_in_place.ensures.stored c.if-branch.true in
    λ d. λ more.
    spared_left g.P.Party.me (with_words e more) (filled c.store_in_place.new.self more) (record {
      done = c.len-self.result;
      next = e.letting.next;
    }) c.in-Some.array done.values
    c.in-Some.ensures.leads (done.stored more) c.in-Some.ensures.frees d

pub returns-then-branch-clause-kept : goal.returns-then-branch-clause-kept
returns-then-branch-clause-kept g c =
    let e = c.args.self.now in
    let done = c.in_ok-store_in_place.ensures.stored c.if-branch.true in
    let s = stored_here g.P.Party.me e.node c.store_in_place.new.self c.in-Some.array e.stage.made done in
    record { links = s.links; notices = refl; task = refl; dealt = s.dealt; tape = s.tape }

pub returns-then-branch-clause-sound : goal.returns-then-branch-clause-sound
returns-then-branch-clause-sound g c =
    let i = g.P.Party.me in
    let e = c.args.self.now in
    let n = c.store_in_place.new.self in
    let done = c.in_ok-store_in_place.ensures.stored c.if-branch.true in
    record {
      stands = c.requires.sound.stands;
      quiet = through_quiet_with i n (λ more. (done.stored more).left);
    }

pub returns-else-branch-clause-left : goal.returns-else-branch-clause-left
returns-else-branch-clause-left g c =
    let i = g.P.Party.me in
    let e = c.args.self.now in
    let n = c.store_in_place.new.self in
    let ahead = c.in_ok-store_in_place.ensures.ahead c.if-branch.false in
    λ d. λ more. ap forgetting (left_same i (with_words e more) (filled n more) (ahead.left more) ahead.dealt) d

pub returns-else-branch-clause-sound : goal.returns-else-branch-clause-sound
returns-else-branch-clause-sound g c =
    let i = g.P.Party.me in
    let e = c.args.self.now in
    let n = c.store_in_place.new.self in
    record {
      stands = c.requires.sound.stands;
      quiet = ahead_quiet_with i e.node n (c.in_ok-store_in_place.ensures.ahead c.if-branch.false) c.requires.sound.quiet;
    }
