use Rattle.std.proofs.Common.{◌≡◌, ◌<◌, ℕ, [], length}
use Rattle.std.specs.Prelude.{map}
use Rattle.program_trees.specs.Programs.{item_tree}
use Rattle.secrec_parser.specs.inner.Steps.{at_end, item, list_from, listed}
use Rattle.secrec_parser.proofs.program.items.Given as goal

abbrev pub invariant-loop-alloc : goal.invariant-loop-alloc
invariant-loop-alloc l = record {
  step :
      (n : ℕ) × (length l.rest < n)
      × (listed (λ found w. at_end w) (item l.max_height) [] l.tokens
      ≡ list_from (λ found w. at_end w) (item l.max_height) n (map item_tree l.found.items) l.rest);
}

abbrev pub decreases-loop-alloc : goal.decreases-loop-alloc
decreases-loop-alloc l = length l.rest
