use Rattle.std.proofs.Common.{ap, length, subst, sym, ◌∙◌}
use Rattle.verified_code.specs.InMemory.{place_of}
use Rattle.value_steps.specs.Views.{value_seen}
use Rattle.code_machine.specs.Changes.{returned}
use Rattle.code_machine.specs.Standing.{HasAny}
use Rattle.code_machine.specs.Views.{registers_seen}
use Rattle.code_machine.proofs.Frames.{registers-at}
use Rattle.code_machine.proofs.registers.taken.Goals as goal

pub returns-in-Some : goal.returns-in-Some
returns-in-Some c =
    let items = c.args.registers.now.items in
    let there = subst (λ o. HasAny (length items) (place_of o)) c.in-Some.is c.requires in
    ap value_seen (c.replace.ensures.value ∙ c.index_mut.ensures.value)
    ∙ sym (registers-at items c.in-Some.source.0 c.index_mut.result.now there)
    ∙ ap (λ o. returned (place_of o) (value_seen c.args.other) (registers_seen items)) (sym c.in-Some.is)
