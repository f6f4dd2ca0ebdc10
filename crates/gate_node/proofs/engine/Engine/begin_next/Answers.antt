use Rattle.std.proofs.Common.{◌≡◌, ◌≤◌, ◌<◌, ◌+◌, ◌-◌, [], ◌∷◌, ◌++◌, length, drop, true, sym, ◌∙◌, ap, subst, arith}
use Rattle.std.specs.Prelude.{Ok, Err}
use Rattle.protocol_model.specs.Gates.{sizes_of}
use Rattle.gates.specs.Clear.{value}
use Rattle.gate_exchanges.specs.LocalGates.{local_share}
use Rattle.gate_exchanges.specs.Exchanges.{protocol_of}
use Rattle.gate_exchanges.specs.Exchanged.{second_value}
use Rattle.block_steps.specs.Outcomes.{outcome_of}
use Rattle.gate_node.specs.OwnGates.{can_run, own_gates}
use Rattle.gate_node.specs.Plans.{then_wanted}
use Rattle.gate_node.specs.Nodes.{BeginsAs, blocks_then, work_left, filled}
use Rattle.gate_node.specs.declared.engine.AtWork.TheVariants.{Between}
use Rattle.gate_node.proofs.Supplied.{cannot-begin}
use Rattle.gate_node.proofs.Turns.{put-to-work, sound-work, runs-alone}
use Rattle.gate_node.proofs.Blocks.{drop-front, gate-begins, can-suits, can-reach, can-more, second-sized, draws-are}
use Rattle.gate_node.proofs.engine.Engine.begin_next.Goals as goal

pub returns-in-Err-clause-stands : goal.returns-in-Err-clause-stands
returns-in-Err-clause-stands g c =
    let i = g.P.Party.me in
    let e = c.args.self.now in
    let gate = c.index-gate.result.now in
    let begins = subst (λ k. BeginsAs k e.dealt e.values e.tape.1 gate (Err c.in-Err.standing)) c.number.ensures
    (subst (λ t. BeginsAs c.number.result e.dealt e.values t gate (Err c.in-Err.standing)) c.left.ensures c.in-Err.ensures) in
    cannot-begin e i gate c.requires.idle c.requires.more (sym c.index-gate.ensures) c.in-Err.standing begins

pub returns-in_ok-push-in-None-clause-same : goal.returns-in_ok-push-in-None-clause-same
returns-in_ok-push-in-None-clause-same g c =
    let i = g.P.Party.me in
    let e = c.args.self.now in
    let gate = c.index-gate.result.now in
    let can : can_run i e.dealt e.values e.tape.1 gate ≡ true =
    subst (λ k. can_run k e.dealt e.values e.tape.1 gate ≡ true) c.number.ensures
    (subst (λ t. can_run c.number.result e.dealt e.values t gate ≡ true) c.left.ensures (subst (λ x. BeginsAs c.number.result e.dealt e.values c.left.result.now gate (Ok x)) c.in-None.is c.in-Ok.ensures).0) in
    let share = c.in_ok-share-in-None.ensures ∙ ap (λ k. local_share k e.dealt e.values gate) c.number-in-None.ensures in
    λ more.
    ap (outcome_of i e.links)
    (runs-alone i e gate c.push.new.self c.requires.idle c.requires.more (sym c.index-gate.ensures) can (subst (λ x. BeginsAs c.number.result e.dealt e.values c.left.result.now gate (Ok x)) c.in-None.is c.in-Ok.ensures).1
    (c.in_ok-push-in-None.ensures.ok ∙ ap (λ w. e.values ++ w ∷ []) share) more)

pub returns-in-Some-clause-same : goal.returns-in-Some-clause-same
returns-in-Some-clause-same g c =
    let i = g.P.Party.me in
    let e = c.args.self.now in
    let x = c.in-Some.gate in
    let p = protocol_of x.exchange in
    let gate = c.index-gate.result.now in
    let rest = drop (e.begun + 1) e.gates.items in
    let can : can_run i e.dealt e.values e.tape.1 gate ≡ true =
    subst (λ k. can_run k e.dealt e.values e.tape.1 gate ≡ true) c.number.ensures
    (subst (λ t. can_run c.number.result e.dealt e.values t gate ≡ true) c.left.ensures (subst (λ x. BeginsAs c.number.result e.dealt e.values c.left.result.now gate (Ok x)) c.in-Some.is c.in-Ok.ensures).0) in
    let some : e.begun < length e.gates.items = c.requires.more in
    λ more.
    put-to-work i (filled (record e { begun = e.begun + 1; work = c.put.new.place }) more)
    (Between (record { gate = x; begun = 0; made = c.new-made.result })) c.put.ensures
    ∙ ap (λ s. outcome_of i e.links (then_wanted i e.dealt e.wanted s))
    (sym (ap (work_left i (filled e more)) c.requires.idle
    ∙ ap (λ l. own_gates i e.dealt l e.values (e.tape.1 ++ more)) (drop-front e.begun e.gates.items gate some (sym c.index-gate.ensures))
    ∙ gate-begins i e.dealt e.values (e.tape.1 ++ more) gate rest x (subst (λ x. BeginsAs c.number.result e.dealt e.values c.left.result.now gate (Ok x)) c.in-Some.is c.in-Ok.ensures).1 (can-more i e.dealt e.values e.tape.1 gate can more)
    ∙ ap (λ m.
    blocks_then p i 0 (value e.values x.u) (second_value e.values x.v) (e.tape.1 ++ more) m (λ made left. own_gates i e.dealt rest (e.values ++ made) left))
    (sym c.new-made.ensures)))

pub returns-in-Some-clause-sound : goal.returns-in-Some-clause-sound
returns-in-Some-clause-sound g c =
    let i = g.P.Party.me in
    let e = c.args.self.now in
    let x = c.in-Some.gate in
    let gate = c.index-gate.result.now in
    let can : can_run i e.dealt e.values e.tape.1 gate ≡ true =
    subst (λ k. can_run k e.dealt e.values e.tape.1 gate ≡ true) c.number.ensures
    (subst (λ t. can_run c.number.result e.dealt e.values t gate ≡ true) c.left.ensures (subst (λ x. BeginsAs c.number.result e.dealt e.values c.left.result.now gate (Ok x)) c.in-Some.is c.in-Ok.ensures).0) in
    let n = length (value e.values x.u) in
    let draws = draws-are i e.dealt e.values gate x (subst (λ x. BeginsAs c.number.result e.dealt e.values c.left.result.now gate (Ok x)) c.in-Some.is c.in-Ok.ensures).1 in
    let all : n ≡ n - 0 = omega arith in
    record {
      gates = omega (arith, c.requires.more);
      work =
          sound-work i (record e { begun = e.begun + 1; work = c.put.new.place })
          (Between (record { gate = x; begun = 0; made = c.new-made.result })) c.put.ensures (record {
            within = omega arith;
            second = second-sized (sizes_of e.dealt) e.values gate x (subst (λ x. BeginsAs c.number.result e.dealt e.values c.left.result.now gate (Ok x)) c.in-Some.is c.in-Ok.ensures).1 (can-suits i e.dealt e.values e.tape.1 gate can);
            reach = subst (λ k. (protocol_of x.exchange).draws k i ≤ length e.tape.1) all
                (subst (λ k. k ≤ length e.tape.1) draws (can-reach i e.dealt e.values e.tape.1 gate can));
          });
    }
