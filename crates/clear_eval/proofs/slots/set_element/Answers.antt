use Rattle.std.proofs.Common.{◌≡◌, Ok, ap, sym, ◌∙◌}
use Rattle.language_model.specs.Effects.{Run, carry, done}
use Rattle.language_model.specs.Values.{Value}
use Rattle.language_model.specs.Operations.{with_element}
use Rattle.language_model.specs.Evaluation.{Flow, Frame, goes, put}
use Rattle.value_steps.specs.Views.{value_seen, stage_seen}
use Rattle.clear_eval.specs.inner.Views.{frame_seen}
use Rattle.clear_eval.proofs.slots.set_element.Goals as goal

pub returns-clause-step : goal.returns-clause-step
returns-clause-step c =
    let k = c.args.place.slot in
    let fr = frame_seen c.args.frame.now.items in
    let j = value_seen c.args.index.now in
    let a = value_seen c.args.element.now in
    let s = stage_seen c.args.stage.now in
    let s' = stage_seen c.with_element.new.stage in
    let v = value_seen c.in_ok-array.array in
    let stepped : with_element c.args.place.line (fr k) j a s ≡ Ok (v, s') =
    ap (λ x. with_element c.args.place.line x j a s) (sym c.taken-array.ensures.value) ∙ c.in_ok-array.ensures.step in
    let behind : Run Value → Run Flow = λ r. carry r (λ x. done (goes (put k x fr))) in
    let ends : Frame → Run Flow = λ f. Ok (goes f, s') in
    ap behind stepped ∙ ap ends (sym (c.put.ensures.put ∙ c.taken-array.ensures.others v))
