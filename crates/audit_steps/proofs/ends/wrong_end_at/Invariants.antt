use Rattle.audit_steps.proofs.LastLines.{Followed}
use Rattle.audit_steps.proofs.ends.wrong_end_at.Given as goal

-- so far each opening has its line
abbrev pub invariant-loop-place : goal.invariant-loop-place
invariant-loop-place l = Followed l.events l.fn.end l.fn.shown l.opened l.place l.taken
