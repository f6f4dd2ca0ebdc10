use Rattle.std.proofs.Common.{◌≡◌, rules, true, false, drop, ◌&&◌}
use Rattle.proto_core.specs.Parties.{from_previous, from_next}
use Rattle.proto_core.specs.Strand.{same_link}
use Rattle.audit_steps.specs.Messages.{is_next}
use Rattle.std.proofs.lemmas.Bool.{and_left, and_right}
use Rattle.audit_steps.proofs.GotLines.{some_left, walk_first, walk_second}
use Rattle.audit_steps.proofs.messages.wrong_at.Goals.{then-are_same+then-is_next, else-are_same+then-are_same-2+then-is_next-2}
use Rattle.audit_steps.proofs.messages.wrong_at.Goals.{else-are_same-via-then-are_same+else-is_next, else-are_same-via-else-are_same}
use Rattle.audit_steps.proofs.messages.wrong_at.Goals.{else-taken-len-via-then-taken-len+else-other_taken-len, else-taken-len-via-else-taken-len}
use Rattle.audit_steps.proofs.messages.wrong_at.Goals as goal

pub loop-place-preserved : goal.loop-place-preserved
loop-place-preserved c =
    let link_is = same_link c.index-got-place.result.link (from_previous c.args.miner) in
    let is_it = is_next c.index-got-place.result.message (drop c.loop-place.taken c.args.previous.now) in
    elim c.if-are_same.branch [
      | then-are_same+then-is_next w ↦
          let e : same_link c.index-got-place.result.link (from_previous c.args.miner) ≡ true = search rules in
          let f : is_next c.index-got-place.result.message (drop c.loop-place.taken c.args.previous.now) ≡ true = search rules in
          walk_first c.args.miner c.args.previous.now c.args.next.now c.args.got.now c.loop-place.place c.loop-place.taken
          c.loop-place.other_taken c.loop-place.invariant
          c.index-got-place.result _ c.if-are_same.taken c.if-are_same.other_taken (search rules) c.index-got-place.is w.taken-is w.other_taken-is e f
      | else-are_same+then-are_same-2+then-is_next-2 w ↦
          let f : same_link c.index-got-place.result.link (from_next c.args.miner) ≡ true = search rules in
          let g : is_next c.index-got-place.result.message (drop c.loop-place.other_taken c.args.next.now) ≡ true = search rules in
          elim w.else-are_same.branch [
            | else-are_same-via-then-are_same+else-is_next w' ↦
                let e : (link_is && is_it) ≡ false = let no : is_it ≡ false = search rules in and_right link_is is_it no in
                walk_second c.args.miner c.args.previous.now c.args.next.now c.args.got.now c.loop-place.place c.loop-place.taken
                c.loop-place.other_taken c.loop-place.invariant
                c.index-got-place.result _ c.if-are_same.taken c.if-are_same.other_taken (search rules) c.index-got-place.is w.taken-is w.other_taken-is e f g
            | else-are_same-via-else-are_same w' ↦
                let e : (link_is && is_it) ≡ false = let no : link_is ≡ false = search rules in and_left link_is is_it no in
                walk_second c.args.miner c.args.previous.now c.args.next.now c.args.got.now c.loop-place.place c.loop-place.taken
                c.loop-place.other_taken c.loop-place.invariant
                c.index-got-place.result _ c.if-are_same.taken c.if-are_same.other_taken (search rules) c.index-got-place.is w.taken-is w.other_taken-is e f g
          ]
    ]

pub returns-else-taken-len : goal.returns-else-taken-len
returns-else-taken-len c =
    elim c.else-taken-len.branch [
      | else-taken-len-via-then-taken-len+else-other_taken-len w ↦ search (rules, some_left)
      | else-taken-len-via-else-taken-len w ↦ search (rules, some_left)
    ]
