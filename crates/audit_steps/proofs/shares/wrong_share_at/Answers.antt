use Rattle.std.proofs.Common.{◌≡◌, rules, true, drop}
use Rattle.audit_steps.specs.Shares.{is_first_share}
use Rattle.audit_steps.proofs.InputLines.{surplus, took_line, took_none}
use Rattle.audit_steps.proofs.shares.wrong_share_at.Goals.{in-Known, in-Hidden+else-not-is_share}
use Rattle.audit_steps.proofs.shares.wrong_share_at.Goals as goal

pub loop-place-preserved : goal.loop-place-preserved
loop-place-preserved c =
    let part = c.args.part.now in
    let shares = c.args.shares.now in
    let p = c.loop-place.taken in
    let e = c.index-part-place.result in
    elim c.match-entry.branch [
      | in-Known w ↦
          took_none part shares c.loop-place.place p c.loop-place.invariant e _ (search rules) c.index-part-place.is _ w.in-Known.is
          c.match-entry.taken w.taken-is
      | in-Hidden+else-not-is_share w ↦
          let so : is_first_share e.name w.in-Hidden.data_type w.in-Hidden.shape (drop p shares) ≡ true = search rules in
          took_line part shares c.loop-place.place p c.loop-place.invariant e _ (search rules) c.index-part-place.is _ w.in-Hidden.shape w.in-Hidden.is so
          c.match-entry.taken w.taken-is
    ]

pub returns-else-taken-shares : goal.returns-else-taken-shares
returns-else-taken-shares c = search (rules, surplus)
