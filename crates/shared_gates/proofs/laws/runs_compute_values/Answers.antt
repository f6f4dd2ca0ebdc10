use Rattle.std.proofs.Common.{ℕ, ◌<◌, [], refl, arith}
use Rattle.shared_gates.proofs.Computing.{computes}
use Rattle.shared_gates.proofs.laws.runs_compute_values.Goals as goal

pub returns : goal.returns
returns c =
    λ dealt_kinds kinds inputs dealt dealt_sizes gates tapes inputs_held inputs_sizes same kinded suit ready.
    computes dealt_kinds kinds inputs dealt dealt_sizes inputs_held inputs_sizes same gates [] [] (λ i. []) tapes refl (λ i. refl)
    (λ k lt. absurd (below_none k lt)) kinded suit ready
  where
    below_none : (k : ℕ) → k < 0 → ⊥
    below_none k lt = omega arith
