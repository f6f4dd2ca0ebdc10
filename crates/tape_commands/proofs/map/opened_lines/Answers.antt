use Rattle.std.proofs.Common.{◌++◌, ◌∷◌, [], List, ℕ, ◌∙◌, sym, ap}
use Rattle.std.specs.Prelude.{string_bytes, String}
use Rattle.std.specs.declared.alloc.Global.{Global}
use Rattle.sc_text.specs.Elements.{elements_text}
use Rattle.tape_commands.proofs.OpenLines.{none_opened, none_told, opening_told}
use Rattle.tape_commands.proofs.map.opened_lines.Goals as goal
use Rattle.tape_commands.proofs.map.opened_lines.Goals.{in-Open+in_ok-writeln, in_default}

pub loop-event-preserved : goal.loop-event-preserved
loop-event-preserved c =
    let events = c.args.events.now in
    let k = c.loop-event.event-index in
    let e = c.event-item.result in
    elim c.match-event.branch [
      | in-Open+in_ok-writeln w ↦
          ap (λ (t : String Global). string_bytes t) w.text-is
          ∙ w.in_ok-writeln.ensures.bytes
          ∙ ap (λ (text : List ℕ). text ++ 111 ∷ 112 ∷ 101 ∷ 110 ∷ (elements_text w.in-Open.elements ++ 10 ∷ [])) c.loop-event.invariant
          ∙ sym (opening_told events k e e w.in-Open.elements c.loop-event-test.true c.event-item.is w.in-Open.is)
      | in_default w ↦
          ap (λ (t : String Global). string_bytes t) w.text-is
          ∙ c.loop-event.invariant
          ∙ sym (none_told events k e e c.loop-event-test.true c.event-item.is (none_opened e (λ elements same. w.in_default.not-Open elements same)))
    ]
