use Rattle.std.proofs.Common.{◌≡◌, ◌+◌, true, [], ◌∷◌, ◌++◌, refl, sym, ◌∙◌, ap, subst, arith}
use Rattle.std.proofs.lemmas.Bool.{false≢true}
use Rattle.gate_exchanges.specs.LocalGates.{local_share}
use Rattle.std.specs.Prelude.{Ok}
use Rattle.gate_node.specs.Nodes.{BeginsAs}
use Rattle.gate_node.specs.OwnGates.{can_run}
use Rattle.gate_node.specs.Stores.{FirstRunsAlone, with_first}
use Rattle.gate_node.proofs.Blocks.{drop-front}
use Rattle.gate_node.proofs.Stores.{alone-is, exchanged-not, stands-not}
use Rattle.gate_node.proofs.Turns.{runs-alone}
use Rattle.gate_node.proofs.engine.Engine.run_alone.Goals as goal

pub returns-in_ok-push-in-None-clause-ahead : goal.returns-in_ok-push-in-None-clause-ahead
returns-in_ok-push-in-None-clause-ahead g c =
    let i = g.P.Party.me in
    let e = c.args.self.now in
    let gate = c.index-gate.result.now in
    let can : can_run i e.dealt e.values e.tape.1 gate ≡ true =
    subst (λ k. can_run k e.dealt e.values e.tape.1 gate ≡ true) c.number.ensures
    (subst (λ t. can_run c.number.result e.dealt e.values t gate ≡ true) c.left.ensures (subst (λ x. BeginsAs c.number.result e.dealt e.values c.left.result.now gate (Ok x)) c.in-None.is c.in-Ok.ensures).0) in
    let share = c.in_ok-share-in-None.ensures ∙ ap (λ k. local_share k e.dealt e.values gate) c.number-in-None.ensures in
    record {
      left =
          runs-alone i e gate c.push.new.self c.requires.idle c.requires.more (sym c.index-gate.ensures) can (subst (λ x. BeginsAs c.number.result e.dealt e.values c.left.result.now gate (Ok x)) c.in-None.is c.in-Ok.ensures).1
          (c.in_ok-push-in-None.ensures.ok ∙ ap (λ w. e.values ++ w ∷ []) share);
      links = refl;
      dealt = refl;
      tape = refl;
    }

pub returns-in_ok-push-in-None-clause-exactly : goal.returns-in_ok-push-in-None-clause-exactly
returns-in_ok-push-in-None-clause-exactly g c =
    let e = c.args.self.now in
    let gate = c.index-gate.result.now in
    let front = drop-front e.begun e.gates.items gate c.requires.more (sym c.index-gate.ensures) in
    let alone = alone-is c.number.result e.dealt e.values c.left.result.now gate (subst (λ x. BeginsAs c.number.result e.dealt e.values c.left.result.now gate (Ok x)) c.in-None.is c.in-Ok.ensures).0 (subst (λ x. BeginsAs c.number.result e.dealt e.values c.left.result.now gate (Ok x)) c.in-None.is c.in-Ok.ensures).1 in
    (λ told. subst (FirstRunsAlone e.dealt e.values) (sym front) alone, λ h. refl)

pub returns-in_ok-push-in-None-clause-ran : goal.returns-in_ok-push-in-None-clause-ran
returns-in_ok-push-in-None-clause-ran g c = λ done.
    let i = g.P.Party.me in
    let e = c.args.self.now in
    let gate = c.index-gate.result.now in
    let front = drop-front e.begun e.gates.items gate c.requires.more (sym c.index-gate.ensures) in
    let share = c.in_ok-share-in-None.ensures ∙ ap (λ k. local_share k e.dealt e.values gate) c.number-in-None.ensures in
    ap (λ v. record e { values = v; begun = e.begun + 1 })
    (c.in_ok-push-in-None.ensures.ok ∙ ap (λ w. e.values ++ w ∷ []) share ∙ sym (ap (with_first e.dealt i e.values) front))

pub returns-in-Some-clause-exactly : goal.returns-in-Some-clause-exactly
returns-in-Some-clause-exactly g c =
    let e = c.args.self.now in
    let gate = c.index-gate.result.now in
    let front = drop-front e.begun e.gates.items gate c.requires.more (sym c.index-gate.ensures) in (
      λ told. absurd (false≢true told),
      λ h. absurd (exchanged-not c.number.result e.dealt e.values c.left.result.now gate c.in-Some.field-0
          (subst (λ x. BeginsAs c.number.result e.dealt e.values c.left.result.now gate (Ok x)) c.in-Some.is c.in-Ok.ensures)
          (subst (FirstRunsAlone e.dealt e.values) front h)),
    )

pub returns-in-Err-clause-exactly : goal.returns-in-Err-clause-exactly
returns-in-Err-clause-exactly g c =
    let e = c.args.self.now in
    let gate = c.index-gate.result.now in
    let front = drop-front e.begun e.gates.items gate c.requires.more (sym c.index-gate.ensures) in (
      λ told. absurd (false≢true told),
      λ h. absurd (stands-not c.number.result e.dealt e.values c.left.result.now gate c.in-Err.field-0 c.in-Err.ensures
          (subst (FirstRunsAlone e.dealt e.values) front h)),
    )
