use Rattle.audit_steps.proofs.GotLines.{Walked}
use Rattle.audit_steps.proofs.messages.wrong_at.Given as goal

-- all that came so far were the next of their links
abbrev pub invariant-loop-place : goal.invariant-loop-place
invariant-loop-place l = Walked l.fn.miner l.previous l.next l.got l.place l.taken l.other_taken
