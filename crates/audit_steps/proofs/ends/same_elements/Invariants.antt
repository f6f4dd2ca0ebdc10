use Rattle.audit_steps.proofs.LastLines.{Alike}
use Rattle.audit_steps.proofs.ends.same_elements.Given as goal

-- so far the elements are the same
abbrev pub invariant-loop-place : goal.invariant-loop-place
invariant-loop-place l = Alike l.elements l.others l.place
