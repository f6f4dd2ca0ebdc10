use Rattle.std.proofs.Common.{◌≡◌, ◌<◌, ◌≤◌, ℕ, [], ◌∷◌, length}
use Rattle.secrec_parser.specs.inner.Steps.{comma_then, list_from, listed, no_comma, parameter}
use Rattle.secrec_parser.proofs.function.more_parameters.Given as goal

abbrev pub invariant-loop-alloc : goal.invariant-loop-alloc
invariant-loop-alloc l = record {
  shorter : length l.rest ≤ length l.tokens;
  step :
      (n : ℕ) × (length l.rest < n)
      × (listed no_comma (comma_then parameter) (l.fn.first ∷ []) l.tokens
      ≡ list_from no_comma (comma_then parameter) n l.found.items l.rest);
}

abbrev pub decreases-loop-alloc : goal.decreases-loop-alloc
decreases-loop-alloc l = length l.rest
