-- How many words each miner has of what a gate makes.
use Rattle.std.proofs.Common.{◌≡◌, ℕ, Bool, List, [], ◌∷◌, length, map, sym, ◌∙◌, ap}
use Rattle.proto_core.specs.Rings.{add_ring, xor_ring}
use Rattle.proto_core.specs.declared.party.Number.{Number}
use Rattle.proto_core.specs.declared.party.Number.TheVariants.{One, Two, Three}
use Rattle.proto_core.specs.Protocol.{Joint, Protocol}
use Rattle.proto_core.proofs.Each.{length-each}
use Rattle.proto_core.proofs.ElementwiseLaws.{length-zeros}
use Rattle.proto_core.proofs.ResharingLaws.{length-reshared, length-sum_of_three}
use Rattle.protocol_model.specs.Gates.{sizes_of}
use Rattle.split_share.specs.SplitStrand.{signed_sum}
use Rattle.split_share.specs.Splitting.{split_protocol}
use Rattle.gates.specs.Blocks.{block_sizes}
use Rattle.gates.specs.Clear.{ring_of}
use Rattle.shared_gates.specs.Blocked.{total, front, behind, blocks_output, blocked, sums, Blockable}
use Rattle.shared_gates.proofs.Fitting.{sizes-joined, sizes-none}
use Rattle.shared_gates.proofs.Sizes.{block_sizes-cut}
use Rattle.gate_exchanges.specs.declared.exchange.Exchange.{Exchange}
use Rattle.gate_exchanges.specs.declared.exchange.Exchange.TheVariants.{Product, Splitting, Conversion, Opening, Resharing}
use Rattle.gate_exchanges.specs.Exchanges.{protocol_of}
use Rattle.gate_exchanges.proofs.Blockables.{blockable-of}

length-signed : (negated : Bool) (n : ℕ) (u got : List ℕ) → length (signed_sum negated n u got) ≡ n
unfolding signed_sum
length-signed negated n u got = length-each n _

two-sizes : (n : ℕ) (x y : List ℕ) → length x ≡ n → length y ≡ n → length x ∷ length y ∷ [] ≡ n ∷ n ∷ []
two-sizes n x y e f = ap (λ k. k ∷ length y ∷ []) e ∙ ap (λ k. n ∷ k ∷ []) f

split-sizes : (negated : Bool) (n : ℕ) (j : Joint) (i : Number) → map length ((split_protocol negated).output n j i) ≡ n ∷ n ∷ []
split-sizes negated n j One = two-sizes n _ _ (length-zeros xor_ring n) (length-zeros xor_ring n)
split-sizes negated n j Two = two-sizes n _ _ (length-signed _ n _ _) (length-zeros xor_ring n)
split-sizes negated n j Three = two-sizes n _ _ (length-zeros xor_ring n) (length-signed _ n _ _)

-- of one block
block-output-sizes : (e : Exchange) (n : ℕ) (j : Joint) (i : Number) → map length ((protocol_of e).output n j i) ≡ (protocol_of e).made n
block-output-sizes (Product ring) n j i = ap (λ k. k ∷ []) (length-reshared (ring_of ring) n _ _ _)
block-output-sizes (Splitting negated) n j i = split-sizes negated n j i
block-output-sizes Conversion n j One = ap (λ k. k ∷ []) (length-reshared add_ring n _ _ _)
block-output-sizes Conversion n j Two = ap (λ k. k ∷ []) (length-reshared add_ring n _ _ _)
block-output-sizes Conversion n j Three = ap (λ k. k ∷ []) (length-reshared add_ring n _ _ _)
block-output-sizes (Opening ring) n j i = ap (λ k. k ∷ []) (length-sum_of_three (ring_of ring) n _ _ _)
block-output-sizes (Resharing ring) n j i = ap (λ k. k ∷ []) (length-reshared (ring_of ring) n _ _ _)

-- of several
blocks-output-sizes :
    (p : Protocol) → Blockable p → ((n : ℕ) (j : Joint) (i : Number) → map length (p.output n j i) ≡ p.made n) →
    (sizes : List ℕ) (j : Joint) (i : Number) → map length (blocks_output p sizes j i) ≡ p.made (total sizes)
blocks-output-sizes p blockable one [] j i = sizes-none (p.made 0) ∙ blockable.made_none
blocks-output-sizes p blockable one (m ∷ sizes) j i =
    sizes-joined (p.output m (front p m j) i) (blocks_output p sizes (behind p m j) i)
    ∙ ap (λ k. sums k (map length (blocks_output p sizes (behind p m j) i))) (one m (front p m j) i)
    ∙ ap (λ k. sums (p.made m) k) (blocks-output-sizes p blockable one sizes (behind p m j) i)
    ∙ sym (blockable.made_more m (total sizes))

pub output-sizes : (e : Exchange) (n : ℕ) (j : Joint) (i : Number) → sizes_of ((blocked (protocol_of e)).output n j i) ≡ (protocol_of e).made n
output-sizes e n j i =
    blocks-output-sizes (protocol_of e) (blockable-of e) (block-output-sizes e) (block_sizes n) j i
    ∙ ap (protocol_of e).made (block_sizes-cut n)
