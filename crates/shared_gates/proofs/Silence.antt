-- The gates of a run tell nothing: what a miner tells is its own matter, not the protocols'.
use Rattle.std.proofs.Common.{ℕ, Bool, List, [], ◌∷◌, ◌++◌}
use Rattle.proto_core.specs.Ring.{Ring}
use Rattle.proto_core.specs.Rings.{add_ring, xor_ring}
use Rattle.proto_core.specs.declared.party.Number.{Number}
use Rattle.proto_core.specs.declared.party.Number.TheVariants.{One, Two, Three}
use Rattle.proto_core.specs.Protocol.{Protocol}
use Rattle.proto_core.specs.Script.{IsSilent}
use Rattle.protocol_model.specs.Gates.{AreSilent}
use Rattle.protocol_model.proofs.Scripts.{silent_then}
use Rattle.blocked_protocol.specs.Multiplying.{mul_protocol}
use Rattle.blocked_protocol.specs.Opening.{open_protocol}
use Rattle.blocked_protocol.specs.Resharing.{reshare_protocol}
use Rattle.blocked_protocol.specs.Converting.{conv_protocol}
use Rattle.blocked_protocol.specs.Splitting.{split_protocol}
use Rattle.gates.specs.Blocks.{block_sizes}
use Rattle.gates.specs.Clear.{Values, ring_of}
use Rattle.gates.specs.Counts.{size_of}
use Rattle.gates.specs.declared.gate.Gate.{Gate}
use Rattle.gates.specs.declared.gate.Gate.TheVariants.{Mul, And, Split, Conv, Open, Result}
use Rattle.blocked_protocol.specs.Blocked.{blocks_strand}
use Rattle.shared_gates.specs.Model.{sizes_made, run_gates}

-- no miner's part tells anything
Silent : Protocol → Type 0
Silent p = (n : ℕ) (i : Number) (u v words : List ℕ) → IsSilent (p.strand n i u v words)

multiplying : (r : Ring) → Silent (mul_protocol r)
unfolding Silent
multiplying r n i u v words = λ masks. λ factors. tt

opening : (r : Ring) → Silent (open_protocol r)
unfolding Silent
opening r n i u v words = λ mask. λ share. λ other. tt

sharing : (r : Ring) → Silent (reshare_protocol r)
unfolding Silent
sharing r n i u v words = λ mask. tt

converting : Silent conv_protocol
unfolding Silent
converting n One u v words = λ m. tt
converting n Two u v words = λ m. λ last. tt
converting n Three u v words = λ m. λ last. tt

splitting : (negated : Bool) → Silent (split_protocol negated)
unfolding Silent
splitting negated n One u v words = tt
splitting negated n Two u v words = λ m. tt
splitting negated n Three u v words = λ m. tt

in_blocks : (p : Protocol) → Silent p → (sizes : List ℕ) (i : Number) (u v words : List ℕ) → IsSilent (blocks_strand p sizes i u v words)
unfolding Silent
in_blocks p h [] i u v words = tt
in_blocks p h (m ∷ sizes) i u v words =
    silent_then (p.strand m i _ _ _) _ (h m i _ _ _)
    (λ here. silent_then (blocks_strand p sizes i _ _ _) _ (in_blocks p h sizes i _ _ _) (λ later. tt))

whole : (p : Protocol) → Silent p → (n : ℕ) (i : Number) (u v words : List ℕ) → IsSilent (blocks_strand p (block_sizes n) i u v words)
whole p h n = in_blocks p h (block_sizes n)

pub gates-silent : (dealt : Number → Values) (ds sizes : List ℕ) (gates : List Gate) → AreSilent (run_gates dealt ds sizes gates)
gates-silent dealt ds sizes [] = tt
gates-silent dealt ds sizes (Mul u v ∷ gates) =
    (whole (mul_protocol add_ring) (multiplying add_ring) (size_of sizes u), gates-silent dealt ds (sizes ++ sizes_made ds sizes (Mul u v)) gates)
gates-silent dealt ds sizes (And u v ∷ gates) =
    (whole (mul_protocol xor_ring) (multiplying xor_ring) (size_of sizes u), gates-silent dealt ds (sizes ++ sizes_made ds sizes (And u v)) gates)
gates-silent dealt ds sizes (Split u negated ∷ gates) = (
  whole (split_protocol negated) (splitting negated) (size_of sizes u),
  gates-silent dealt ds (sizes ++ sizes_made ds sizes (Split u negated)) gates,
)
gates-silent dealt ds sizes (Conv u ∷ gates) =
    (whole conv_protocol converting (size_of sizes u), gates-silent dealt ds (sizes ++ sizes_made ds sizes (Conv u)) gates)
gates-silent dealt ds sizes (Open ring u ∷ gates) = (
  whole (open_protocol (ring_of ring)) (opening (ring_of ring)) (size_of sizes u),
  gates-silent dealt ds (sizes ++ sizes_made ds sizes (Open ring u)) gates,
)
gates-silent dealt ds sizes (Result ring u ∷ gates) = (
  whole (reshare_protocol (ring_of ring)) (sharing (ring_of ring)) (size_of sizes u),
  gates-silent dealt ds (sizes ++ sizes_made ds sizes (Result ring u)) gates,
)
gates-silent dealt ds sizes (gate ∷ gates) = gates-silent dealt ds (sizes ++ sizes_made ds sizes gate) gates
