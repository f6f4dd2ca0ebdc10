use Rattle.std.proofs.Common.{◌≡◌, map, drop}
use Rattle.verified_code.specs.Fitting.{arguments_fit}
use Rattle.verified_code.proofs.place.arguments_fit.Given as goal

abbrev pub invariant-loop-place : goal.invariant-loop-place
invariant-loop-place l =
    arguments_fit l.kinds (map (λ r. r.0) l.arguments) l.wanted ≡ arguments_fit l.kinds (drop l.place (map (λ r. r.0) l.arguments)) (drop l.place l.wanted)
