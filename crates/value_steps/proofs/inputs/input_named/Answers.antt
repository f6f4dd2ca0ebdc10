use Rattle.std.proofs.Common.{◌≡◌, ◌+◌, true, false, cond, sym, ◌∙◌, ap, arith}
use Rattle.std.specs.Prelude.{bytes_eq}
use Rattle.language_model.specs.Evaluation.{behind}
use Rattle.value_steps.specs.Views.{given_seen}
use Rattle.value_steps.proofs.Sought.{input_here, input_later, input_nowhere}
use Rattle.value_steps.proofs.inputs.input_named.Goals.{then-given, else-given}
use Rattle.value_steps.proofs.inputs.input_named.Goals as goal

pub returns-then-eq : goal.returns-then-eq
returns-then-eq c =
    let named : bytes_eq c.args.name.now c.given-item.result.name ≡ true = cc in
    sym (input_here c.loop-given.before c.args.name.now c.args.world.now.inputs.now c.loop-given.given-index c.given-item.result
    (omega arith) c.given-item.is named)
    ∙ c.loop-given.invariant.same

pub loop-given-preserved : goal.loop-given-preserved
loop-given-preserved c =
    let k = c.loop-given.before in
    let x = c.given-item.result in
    let named : bytes_eq c.args.name.now x.name ≡ false = cc in
    let later = λ (e : c.if-given.before ≡ behind (given_seen x) k). input_later k c.if-given.before c.args.name.now c.args.world.now.inputs.now
    c.loop-given.given-index x (omega arith) c.given-item.is named e ∙ c.loop-given.invariant.same in
    elim c.if-given.branch [
      | then-given w ↦ record { counted = omega arith; same = later (w.before-is ∙ ap (λ b. cond b (k + 1) k) (sym w.if-given.true)) }
      | else-given w ↦ record { counted = omega arith; same = later (w.before-is ∙ ap (λ b. cond b (k + 1) k) (sym w.if-given.false)) }
    ]

pub returns : goal.returns
returns c =
    sym (input_nowhere c.loop-given.before c.args.name.now c.args.world.now.inputs.now c.loop-given.given-index (omega arith))
    ∙ c.loop-given.invariant.same
