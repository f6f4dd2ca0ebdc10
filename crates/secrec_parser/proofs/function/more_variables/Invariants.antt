use Rattle.std.proofs.Common.{◌≡◌, ◌<◌, ◌≤◌, ℕ, [], ◌∷◌, length}
use Rattle.secrec_parser.specs.inner.Steps.{comma_then, domain_variable, list_from, listed, no_more_variables}
use Rattle.secrec_parser.proofs.function.more_variables.Given as goal

abbrev pub invariant-loop-found : goal.invariant-loop-found
invariant-loop-found l = record {
  shorter : length l.rest ≤ length l.tokens;
  step :
      (n : ℕ) × (length l.rest < n)
      × (listed no_more_variables (comma_then domain_variable) (l.fn.first ∷ []) l.tokens
      ≡ list_from no_more_variables (comma_then domain_variable) n l.found.items l.rest);
}

abbrev pub decreases-loop-found : goal.decreases-loop-found
decreases-loop-found l = length l.rest
