use Rattle.std.proofs.Common.{◌++◌, List, ℕ, ◌∙◌, sym, ap}
use Rattle.std.specs.Prelude.{string_bytes, String}
use Rattle.std.specs.declared.alloc.Global.{Global}
use Rattle.sc_text.specs.Event.{event_line}
use Rattle.client_commands.proofs.Handed.{none_handed, none_told, handed_told}
use Rattle.client_commands.proofs.map.published_lines.Goals as goal
use Rattle.client_commands.proofs.map.published_lines.Goals.{in-Hand+in_ok-write, in_default}

pub loop-event-preserved : goal.loop-event-preserved
loop-event-preserved c =
    let events = c.args.events.now in
    let k = c.loop-event.event-index in
    let e = c.event-item.result in
    elim c.match-event.branch [
      | in-Hand+in_ok-write w ↦
          ap (λ (t : String Global). string_bytes t) w.text-is
          ∙ w.in_ok-write.ensures.bytes
          ∙ ap (λ (text : List ℕ). text ++ event_line e) c.loop-event.invariant
          ∙ sym (handed_told events k e e _ _ _ c.loop-event-test.true c.event-item.is w.in-Hand.is)
      | in_default w ↦
          ap (λ (t : String Global). string_bytes t) w.text-is
          ∙ c.loop-event.invariant
          ∙ sym (none_told events k e e c.loop-event-test.true c.event-item.is (none_handed e (λ text kind elements same. w.in_default.not-Hand text kind elements same)))
    ]
