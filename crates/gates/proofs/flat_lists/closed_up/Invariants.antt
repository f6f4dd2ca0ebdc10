use Rattle.std.specs.List.Sorted.{IsStrictlySortedBy}
use Rattle.std.specs.Ordering.{nat_cmp}
use Rattle.std.specs.Map.{keys_of}
use Rattle.gates.specs.inner.Spans.{found, words_at, list_at, HasAllBut}
use Rattle.gates.proofs.flat_lists.closed_up.Given as goal

abbrev pub invariant-loop-number : goal.invariant-loop-number
invariant-loop-number l =
    record {
      sorted : IsStrictlySortedBy nat_cmp (keys_of l.number-iterator);
      moved : HasAllBut (words_at l.words (found l.spans.entries)) (list_at l.lists) l.number-iterator;
    }
