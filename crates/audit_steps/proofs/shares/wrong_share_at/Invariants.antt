use Rattle.audit_steps.proofs.InputLines.{Compared}
use Rattle.audit_steps.proofs.shares.wrong_share_at.Given as goal

-- so far each hidden input has its line
abbrev pub invariant-loop-place : goal.invariant-loop-place
invariant-loop-place l = Compared l.part l.shares l.place l.taken
