use Rattle.std.proofs.Common.{◌≡◌, ℕ, List, [], Ok, Err, ap, ◌∙◌, sym, subst}
use Rattle.program_trees.specs.TypedPrograms.{typed_program_tree}
use Rattle.gates.specs.declared.gate.Gate.{Gate}
use Rattle.proto_core.specs.declared.link.Link.{Link}
use Rattle.language_model.specs.Learned.{learned_of}
use Rattle.view_simulator.specs.Sizes.{SizesFit}
use Rattle.view_model.specs.Dealing.{hidden_sizes}
use Rattle.counted_net.specs.Answers.{delivery_seen, IsNetAnswer}
use Rattle.view_simulator.specs.Refusals.{told_refusal, net_refusal}
use Rattle.view_simulator.specs.Making.{seen_of, seen_in_order}
use Rattle.view_simulator.specs.Simulating.{scripts_made, IsSimulation}
use Rattle.view_simulator.proofs.Answering.{handed_on, told_short, net_refuses, view_made}
use Rattle.view_simulator.proofs.simulating.simulate.Goals as goal

pub returns-in_err-report : goal.returns-in_err-report
returns-in_err-report c =
    let p = typed_program_tree c.args.run.now.program.now in
    let given = delivery_seen c.args.run.now.delivery.now in
    subst (IsSimulation c.args.miner p c.args.run.now.part.now c.args.run.now.opened.now c.args.run.now.tapes.now c.args.run.now.budget given)
    (handed_on c.from_residual.result (told_refusal c.in_err-report.field-0.0) c.from_residual.ensures.1)
    (told_short c.args.miner p c.args.run.now.part.now c.args.run.now.opened.now c.args.run.now.tapes.now c.args.run.now.budget given
    c.in_err-report.field-0.0 c.in_err-report.ensures.report)

pub delivered-requires : goal.delivered-requires
delivered-requires c =
    subst (λ (gates : List Gate). SizesFit (hidden_sizes c.args.run.now.part.now) [] gates) (sym c.deref.ensures.value) c.in_ok-report.ensures.fit

pub returns-in_err-order : goal.returns-in_err-order
returns-in_err-order c =
    let p = typed_program_tree c.args.run.now.program.now in
    let s = c.args.run.now.tapes.now in
    let given = delivery_seen c.args.run.now.delivery.now in
    subst (IsSimulation c.args.miner p c.args.run.now.part.now c.args.run.now.opened.now s c.args.run.now.budget given)
    (handed_on c.from_residual-in_err-order.result (net_refusal c.in_err-order.field-0.0) c.from_residual-in_err-order.ensures.1)
    (net_refuses c.args.miner p c.args.run.now.part.now c.args.run.now.opened.now s c.args.run.now.budget given
    c.in_ok-report.report c.in_ok-report.ensures.report c.in_err-order.field-0.0
    (subst (λ (gates : List Gate). IsNetAnswer (scripts_made c.args.miner c.args.run.now.part.now s.dealer gates) given (Err c.in_err-order.field-0.0))
    c.deref.ensures.value (c.in_err-order.ensures c.args.miner s.dealer)))

pub made_seen-requires : goal.made_seen-requires
made_seen-requires c = c.in_ok-report.ensures.can

pub returns : goal.returns
returns c =
    let i = c.args.miner in
    let p = typed_program_tree c.args.run.now.program.now in
    let part = c.args.run.now.part.now in
    let s = c.args.run.now.tapes.now in
    let given = delivery_seen c.args.run.now.delivery.now in
    let report = c.in_ok-report.report in
    let gates : c.deref.result.now ≡ report.gates.items = c.deref.ensures.value in
    let opened : List ℕ = learned_of report.events.items in
    let net =
    subst (λ (gs : List Gate). IsNetAnswer (scripts_made i part s.dealer gs) given (Ok c.in_ok-order.order)) gates (c.in_ok-order.ensures i s.dealer) in
    let seen : seen_of c.in_ok-made.made ≡ seen_in_order i part report.gates.items opened s c.in_ok-order.order.items =
    c.in_ok-made.ensures ∙ ap (λ (links : List Link). seen_in_order i part report.gates.items opened s links) c.deref-2.ensures.value in
    view_made i p part c.args.run.now.opened.now s c.args.run.now.budget given report c.in_ok-report.ensures.report
    c.in_ok-order.order.items (seen_of c.in_ok-made.made) c.in_ok-view_of.field-0 net.0 net.1 seen c.in_ok-view_of.ensures
