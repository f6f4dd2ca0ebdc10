use Rattle.std.proofs.Common.{◌≡◌, ◌+◌, [], ◌∷◌, ◌++◌, take, get_or, sym, ap, ap₂, ◌∙◌}
use Rattle.std.specs.Prelude.{map}
use Rattle.std.proofs.lemmas.List.{take_more, map-append}
use Rattle.program_trees.specs.TypedPrograms.{typed_program_tree}
use Rattle.reached_instances.specs.Instances.{instance_seen}
use Rattle.code_model.specs.Programs.{instance_code, numbers_in}
use Rattle.lowering.specs.inner.Views.{function_seen}
use Rattle.lowering.proofs.programs.all_steps.Goals as goal

pub loop-instance-preserved : goal.loop-instance-preserved
loop-instance-preserved c =
    let xs = c.as_slice-instance-items.result.now in
    let i = c.loop-instance.instance-index in
    let x = c.instance-item.result in
    let code = instance_code (typed_program_tree c.args.program.now).functions (numbers_in c.args.instances.now) in
    let is = map instance_seen (take i xs) in
    let more : map instance_seen (take (i + 1) xs) ≡ is ++ instance_seen x ∷ [] = ap (map instance_seen) (take_more xs i x c.loop-instance-test.true)
    ∙ map-append instance_seen (take i xs) (get_or xs i x ∷ []) ∙ ap (λ z. is ++ instance_seen z ∷ []) (sym c.instance-item.is) in
    ap (map function_seen) c.in_ok-push.ensures
    ∙ map-append function_seen c.loop-instance.all.items _
    ∙ ap₂ (λ l r. l ++ r ∷ []) c.loop-instance.invariant c.in_ok-steps.ensures
    ∙ sym (map-append code is (instance_seen x ∷ []))
    ∙ ap (map code) (sym more)
