-- Words that are all zero.
use Rattle.std.proofs.Common.{◌≡◌, ℕ, replicate, sym}
use Rattle.std.proofs.lemmas.List.{length-replicate, get_or-replicate}
use Rattle.proto_core.specs.Rings.{xor_ring}
use Rattle.proto_core.specs.Elementwise.{zeros}
use Rattle.proto_core.proofs.Each.{each-is}

pub replicate-zeros : (n : ℕ) → replicate n 0 ≡ zeros xor_ring n
unfolding zeros
replicate-zeros n = sym (each-is n _ (replicate n 0) (length-replicate n 0) (λ k h. sym (get_or-replicate n k 0 0 h)))

pub ruleset zero_steps = (replicate-zeros)
