use Rattle.std.proofs.Common.{◌≡◌, ◌+◌, [], ◌∷◌, ◌++◌, take, get_or, sym, ap, ◌∙◌}
use Rattle.std.specs.Prelude.{map}
use Rattle.std.specs.List.{flat_map}
use Rattle.std.proofs.lemmas.List.{take_more, map-append, flat_map_more}
use Rattle.code_model.specs.Instructions.{naming_all, step_names, function_names, names_of}
use Rattle.lowered_expressions.specs.Views.{step_seen}
use Rattle.lowering.specs.inner.Naming.{texts}
use Rattle.lowering.specs.inner.Views.{function_seen}
use Rattle.lowering.proofs.Noting.{naming_both}
use Rattle.lowering.proofs.naming.names_of.Goals as goal

pub loop-function-preserved : goal.loop-function-preserved
loop-function-preserved c =
    let xs = c.args.functions.now in
    let i = c.loop-function.function-index in
    let x = c.function-item.result in
    let fs = map function_seen (take i xs) in
    let more : map function_seen (take (i + 1) xs) ≡ fs ++ function_seen x ∷ [] = ap (map function_seen) (take_more xs i x c.loop-function-test.true)
    ∙ map-append function_seen (take i xs) (get_or xs i x ∷ []) ∙ ap (λ z. fs ++ function_seen z ∷ []) (sym c.function-item.is) in
    let before = c.loop-function.invariant in
    let now = c.in_ok-note_steps.ensures before.1 in (
      now.0
          ∙ ap (λ steps. naming_all (texts c.loop-function.names) (flat_map step_names (map step_seen steps))) c.deref.ensures.value
          ∙ ap (λ names. naming_all names (function_names (function_seen x))) before.0
          ∙ sym (naming_both [] (flat_map function_names fs) (function_names (function_seen x)))
          ∙ ap (naming_all []) (flat_map_more function_names [] fs (function_seen x))
          ∙ ap names_of (sym more),
      now.1,
    )
