use Rattle.std.proofs.Common.{◌≡◌, ◌+◌, [], ◌∷◌, ◌++◌, take, get_or, sym, ap, ◌∙◌}
use Rattle.std.specs.Prelude.{map}
use Rattle.std.specs.List.{flat_map}
use Rattle.std.proofs.lemmas.List.{take_more, map-append, flat_map_more}
use Rattle.code_model.specs.Instructions.{naming_all, step_names}
use Rattle.lowered_expressions.specs.Views.{step_seen}
use Rattle.lowering.specs.inner.Naming.{texts}
use Rattle.lowering.proofs.Noting.{naming_both}
use Rattle.lowering.proofs.naming.note_steps.Goals as goal

pub loop-step-preserved : goal.loop-step-preserved
loop-step-preserved c = λ same.
    let xs = c.args.steps.now in
    let i = c.loop-step.step-index in
    let x = c.step-item.result in
    let is = map step_seen (take i xs) in
    let first = texts c.args.names.now in
    let more : map step_seen (take (i + 1) xs) ≡ is ++ step_seen x ∷ [] = ap (map step_seen) (take_more xs i x c.loop-step-test.true)
    ∙ map-append step_seen (take i xs) (get_or xs i x ∷ []) ∙ ap (λ z. is ++ step_seen z ∷ []) (sym c.step-item.is) in
    let before = c.loop-step.invariant same in
    let now = c.in_ok-note_step.ensures before.1 in (
      now.0
          ∙ ap (λ names. naming_all names (step_names (step_seen x))) before.0
          ∙ sym (naming_both first (flat_map step_names is) (step_names (step_seen x)))
          ∙ ap (naming_all first) (flat_map_more step_names [] is (step_seen x) ∙ ap (flat_map step_names) (sym more)),
      now.1,
    )
