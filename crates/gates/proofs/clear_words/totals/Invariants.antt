use Rattle.std.proofs.Common.{◌≡◌, ◌*◌, length, map}
use Rattle.std.specs.Prelude.{min}
use Rattle.std.specs.List.{range_with_len}
use Rattle.gates.proofs.WordSteps.{total_at}
use Rattle.gates.proofs.clear_words.totals.Given as goal

abbrev pub invariant-loop-part : goal.invariant-loop-part
invariant-loop-part l =
    record {
      words : l.words.items ≡ map (total_at l.size l.xs) (range_with_len 0 l._part);
      from : l.from ≡ min (l._part * l.size) (length l.xs);
    }
