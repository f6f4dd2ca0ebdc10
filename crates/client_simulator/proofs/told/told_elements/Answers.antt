use Rattle.std.proofs.Common.{[], ◌∷◌, ◌++◌, refl, ◌∙◌, ap}
use Rattle.sc_text.specs.declared.elements.Element.{Element}
use Rattle.client_simulator.proofs.ToldEvents.{element-more}
use Rattle.client_simulator.proofs.told.told_elements.Goals as goal

pub loop-word-preserved : goal.loop-word-preserved
loop-word-preserved c =
    element-more c.args.kind c.args.words.now c.loop-word.told c.push.new.self c.loop-word.word-index _ _
    c.loop-word-test.true refl c.loop-word.invariant
    (c.in_ok-push.ensures.ok ∙ ap (λ (e : Element). c.loop-word.told ++ e ∷ []) c.element_as.ensures)
