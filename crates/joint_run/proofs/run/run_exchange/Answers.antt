use Rattle.std.proofs.Common.{◌≡◌, ◌++◌, length, take, drop, sym, ◌∙◌, ap, subst}
use Rattle.proto_core.specs.declared.party.Number.{Number}
use Rattle.proto_core.specs.declared.party.Number.TheVariants.{One}
use Rattle.joint_run.specs.Three.{each_of, joint}
use Rattle.gate_exchanges.specs.Exchanges.{protocol_of, IsSized}
use Rattle.joint_run.specs.Adding.{AddsGate}
use Rattle.joint_run.specs.States.{state_of}
use Rattle.joint_run.specs.Steps.{size_in, joint_in}
use Rattle.joint_run.proofs.Blockwise.{same_joint}
use Rattle.joint_run.proofs.GateSteps.{exchange-sized}
use Rattle.joint_run.proofs.run.run_exchange.Goals as goal

pub add_gate-requires : goal.add_gate-requires
add_gate-requires c =
    let x = c.args.gate in
    let p = protocol_of x.exchange in
    let s = state_of c.args.run.now in
    let j = joint c.operands-operands.result in
    let size = ap length c.value-n.ensures in
    let words : (i : Number) → j.words i ≡ take (p.draws (size_in x s) i) (s.tapes i) = λ i.
    c.operands-operands.ensures.words i ∙ ap (λ t. each_of t i) c.words.view_is ∙ c.draw-words.ensures.drawn i
    ∙ ap (λ n. take (p.draws n i) (s.tapes i)) size in
    let same : j ≡ joint_in x s = same_joint j (joint_in x s) c.operands-operands.ensures.u c.operands-operands.ensures.v words in
    let first : size_in x s ≡ length (j.u One) = ap length (sym (c.operands-operands.ensures.u One)) in
    record { sized = subst (λ n. IsSized p n j) first (exchange-sized x s j c.requires same) }

pub returns : goal.returns
returns c =
    let x = c.args.gate in
    let p = protocol_of x.exchange in
    let s = state_of c.args.run.now in
    let j = joint c.operands-operands.result in
    let size = ap length c.value-n.ensures in
    let words : (i : Number) → j.words i ≡ take (p.draws (size_in x s) i) (s.tapes i) = λ i.
    c.operands-operands.ensures.words i ∙ ap (λ t. each_of t i) c.words.view_is ∙ c.draw-words.ensures.drawn i
    ∙ ap (λ n. take (p.draws n i) (s.tapes i)) size in
    let same : j ≡ joint_in x s = same_joint j (joint_in x s) c.operands-operands.ensures.u c.operands-operands.ensures.v words in
    let first : length (j.u One) ≡ size_in x s = ap length (c.operands-operands.ensures.u One) in
    let two = c.makes_two.result in
    let made = c.in_ok-made.made in
    let told = c.args.run.now.transcript in
    let raw : AddsGate two p (length (j.u One)) j told c.add_gate.new.transcript made =
    subst (λ b. AddsGate b p (length (j.u One)) j told c.add_gate.new.transcript made) (sym c.makes_two.ensures) c.in_ok-made.ensures in
    let added : AddsGate two p (size_in x s) (joint_in x s) told c.add_gate.new.transcript made =
    subst (λ k. AddsGate two p (size_in x s) k told c.add_gate.new.transcript made) same
    (subst (λ n. AddsGate two p n j told c.add_gate.new.transcript made) first raw) in
    record {
      shares = λ i. c.in_ok-keep.ensures i ∙ ap (λ w. s.shares i ++ w) (added.words i);
      tapes = λ i. c.draw-words.ensures.left i ∙ ap (λ n. drop (p.draws n i) (s.tapes i)) size;
      messages = added.told.sent;
      opened = added.told.learnt;
    }
