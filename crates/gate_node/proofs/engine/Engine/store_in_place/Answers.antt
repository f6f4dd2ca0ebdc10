use Rattle.std.proofs.Common.{◌≡◌, ◌+◌, ◌-◌, ◌<◌, ◌≤◌, ◌↔◌, length, refl, sym, ◌∙◌, subst, arith}
use Rattle.std.proofs.lemmas.Bool.{false≢true}
use Rattle.gate_node.specs.Nodes.{LeavesStore, CanStore}
use Rattle.gate_node.proofs.Storing.{stored_behind_all, ahead_of_all, all-tell}
use Rattle.gate_node.proofs.Stores.{store-first, store-further, store-last, both-steps}
use Rattle.gate_node.proofs.engine.Engine.store_in_place.Goals as goal

pub returns-clause-stored : goal.returns-clause-stored
returns-clause-stored g c =
    stored_behind_all g.P.Party.me c.args.array c.args.count c.args.self.now c.loop-self.self c.store_last.new.self c.store_last.result
    c.loop-self.invariant.ahead c.store_last.ensures.stored

pub returns-then-not-is_idle-clause-exactly : goal.returns-then-not-is_idle-clause-exactly
returns-then-not-is_idle-clause-exactly g c =
    (λ told. absurd (false≢true told), λ h. absurd (c.is_idle.ensures.at_work c.if-not-is_idle.true h.idle))

pub loop-self-init : goal.loop-self-init
loop-self-init g c =
    record {
      ahead = record { left = λ more. refl; links = refl; dealt = refl; tape = refl };
      idle = c.is_idle.ensures.idle c.if-not-is_idle.false;
      within = c.requires.sound.gates;
      store = (λ h. h, λ h. h);
    }

pub loop-self-preserved : goal.loop-self-preserved
loop-self-preserved g c =
    let i = g.P.Party.me in
    let e = c.loop-self.self in
    let f = c.run_alone.new.self in
    let run = c.in_ok-run_alone.ensures in
    let many : 1 < length e.gates.items - e.begun = omega (arith, c.loop-self-test.true, c.len.ensures) in
    record {
      ahead = ahead_of_all i c.args.self.now e f c.loop-self.invariant.ahead run.ahead;
      idle = run.idle;
      within = run.within;
      store =
          both-steps
          (subst (λ v. CanStore i c.args.array c.args.count v ↔ CanStore i c.args.array c.args.count e) (sym (run.ran c.if-not-branch.false))
          (store-further i c.args.array c.args.count e many (run.exactly.0 c.if-not-branch.false))) c.loop-self.invariant.store;
    }

pub returns-then-not-branch-clause-exactly : goal.returns-then-not-branch-clause-exactly
returns-then-not-branch-clause-exactly g c =
    let e = c.loop-self.self in
    let many : 1 < length e.gates.items - e.begun = omega (arith, c.loop-self-test.true, c.len.ensures) in (
      λ told. absurd (false≢true told),
      λ h. absurd (false≢true
          (sym c.if-not-branch.true
          ∙ c.in_ok-run_alone.ensures.exactly.1 (store-first g.P.Party.me c.args.array c.args.count e many (c.loop-self.invariant.store.1 h)))),
    )

pub returns-clause-exactly : goal.returns-clause-exactly
returns-clause-exactly g c =
    let i = g.P.Party.me in
    let e = c.loop-self.self in
    let few : length e.gates.items - e.begun ≤ 1 = omega (arith, c.loop-self-test.false, c.len.ensures) in
    all-tell c.store_last.result (LeavesStore i c.args.array e × (length e.values + 1 ≡ c.args.count)) (CanStore i c.args.array c.args.count c.args.self.now)
    (both-steps (store-last i c.args.array c.args.count e few) c.loop-self.invariant.store) c.store_last.ensures.exactly
