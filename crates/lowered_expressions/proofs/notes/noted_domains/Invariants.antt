use Rattle.std.proofs.Common.{◌≡◌, ◌-◌, ◌++◌}
use Rattle.lowered_expressions.specs.inner.Notes.{noted_domains}
use Rattle.lowered_expressions.proofs.notes.noted_domains.Given as goal

abbrev pub invariant-loop-number : goal.invariant-loop-number
invariant-loop-number l = l.domains.items ++ noted_domains (l.count - l.number) l.rest ≡ noted_domains l.count l.notes
