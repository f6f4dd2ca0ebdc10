use Rattle.std.proofs.Common.{◌≡◌, ◌<◌, ap, sym, subst, ◌∙◌}
use Rattle.language_model.specs.Evaluation.{put}
use Rattle.language_model.specs.Values.{size}
use Rattle.value_steps.specs.Views.{value_seen, written}
use Rattle.code_machine.specs.Views.{registers_seen}
use Rattle.code_machine.proofs.Frames.{registers-at, registers-put}
use Rattle.code_machine.proofs.registers.put_element.Goals as goal

pub write_to-requires : goal.write_to-requires
write_to-requires c =
    let items = c.args.registers.now.items in
    let x = c.index_mut.result.now in
    let e : registers_seen items c.args.register.0 ≡ value_seen x =
    registers-at items c.args.register.0 x c.requires.there ∙ ap value_seen (sym c.index_mut.ensures.value) in
    subst (λ v. c.args.element.index < size v) e c.requires.within

pub returns-clause-put : goal.returns-clause-put
returns-clause-put c =
    let items = c.args.registers.now.items in
    let x = c.index_mut.result.now in
    let e : registers_seen items c.args.register.0 ≡ value_seen x =
    registers-at items c.args.register.0 x c.requires.there ∙ ap value_seen (sym c.index_mut.ensures.value) in
    registers-put items c.args.register.0 _ c.requires.there
    ∙ ap (λ v. put c.args.register.0 v (registers_seen items)) (c.write_to.ensures ∙ ap (λ v. written v c.args.element) (sym e))
