-- Sums and differences of words in a ring, element by element.
use Rattle.std.specs.Prelude.{ℕ, List}
use Rattle.proto_core.specs.Ring.{Ring}
use Rattle.proto_core.specs.Lists.{at, each}

unfoldable pub plus : Ring → ℕ → (x y : List ℕ) → List ℕ
plus r n x y = each n (λ k. r.add (at x k) (at y k))

unfoldable pub minus : Ring → ℕ → (x y : List ℕ) → List ℕ
minus r n x y = each n (λ k. r.sub (at x k) (at y k))

unfoldable pub zeros : Ring → ℕ → List ℕ
zeros r n = each n (λ k. r.zero)
