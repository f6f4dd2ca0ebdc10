use Rattle.std.proofs.Common.{◌≡◌, rules, true, drop}
use Rattle.audit_steps.specs.Ends.{is_first_opening}
use Rattle.audit_steps.proofs.LastLines.{other_end, surplus, took_line, took_none, took_none_either}
use Rattle.audit_steps.proofs.ends.wrong_end_at.Goals.{in-Open+else-not-is_opening, in-Publish, in-Hand}
use Rattle.audit_steps.proofs.ends.wrong_end_at.Goals.{else-taken-opened-via-then-taken-opened+else-same_end, else-taken-opened-via-else-taken-opened}
use Rattle.audit_steps.proofs.ends.wrong_end_at.Goals as goal

pub loop-place-preserved : goal.loop-place-preserved
loop-place-preserved c =
    let events = c.args.events.now in
    let opened = c.args.opened.now in
    let p = c.loop-place.taken in
    let e = c.index-events-place.result in
    elim c.match-events-place.branch [
      | in-Open+else-not-is_opening w ↦
          let so : is_first_opening w.in-Open.elements (drop p opened) ≡ true = search rules in
          took_line events c.args.end c.args.shown opened c.loop-place.place p c.loop-place.invariant e _ (search rules) c.index-events-place.is
          w.in-Open.elements w.in-Open.is so c.match-events-place.taken w.taken-is
      | in-Publish w ↦
          took_none events c.args.end c.args.shown opened c.loop-place.place p c.loop-place.invariant e _ (search rules) c.index-events-place.is _ _
          w.in-Publish.is c.match-events-place.taken w.taken-is
      | in-Hand w ↦
          took_none_either events c.args.end c.args.shown opened c.loop-place.place p c.loop-place.invariant e _ (search rules) c.index-events-place.is _ _ _
          w.in-Hand.is c.match-events-place.taken w.taken-is
    ]

pub returns-else-taken-opened : goal.returns-else-taken-opened
returns-else-taken-opened c =
    elim c.else-taken-opened.branch [
      | else-taken-opened-via-then-taken-opened+else-same_end w ↦ search (rules, other_end)
      | else-taken-opened-via-else-taken-opened w ↦ search (rules, surplus)
    ]
