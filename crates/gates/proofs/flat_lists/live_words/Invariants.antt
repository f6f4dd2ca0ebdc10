use Rattle.std.proofs.Common.{◌≡◌, ◌+◌}
use Rattle.std.specs.List.{sum_by}
use Rattle.std.specs.BTreeMap.{values}
use Rattle.gates.specs.declared.span.Span.{Span}
use Rattle.gates.proofs.flat_lists.live_words.Given as goal

abbrev pub invariant-loop-span : goal.invariant-loop-span
invariant-loop-span l = l.live + sum_by (λ (s : Span). s.len) l.span-iterator ≡ sum_by (λ (s : Span). s.len) (values l.spans)
