-- The links of whole gates: those of one block, so many times.
use Rattle.std.proofs.Common.{◌≡◌, ℕ, zero, suc, ◌+◌, List, [], ◌∷◌, ◌++◌, length, refl, sym, ◌∙◌, ap, append_assoc, append-nil, add-one}
use Rattle.std.proofs.lemmas.List.{map-append}
use Rattle.std.specs.List.{repeat}
use Rattle.proto_core.specs.Rings.{add_ring, xor_ring}
use Rattle.proto_core.specs.declared.party.Number.{Number}
use Rattle.proto_core.specs.declared.party.Number.TheVariants.{One, Two, Three}
use Rattle.proto_core.specs.Script as script
use Rattle.proto_core.specs.Protocol.{Protocol}
use Rattle.protocol_model.specs.Gates.{gates_script}
use Rattle.protocol_model.specs.Gates as model
use Rattle.multiply.specs.Multiplying.{mul_protocol}
use Rattle.open_result.specs.Opening.{open_protocol}
use Rattle.reshare.specs.Resharing.{reshare_protocol}
use Rattle.share_convert.specs.Converting.{conv_protocol, conv_script}
use Rattle.split_share.specs.Splitting.{split_protocol, split_script}
use Rattle.blocked_protocol.specs.Blocked.{blocked, blocks_script}
use Rattle.gates.specs.Blocks.{block_sizes}
use Rattle.gates.specs.declared.gate.Gate.{Gate}
use Rattle.gates.specs.declared.gate.Gate.TheVariants.{Mul, And, Split, Conv, Open, Result}
use Rattle.gates.specs.Clear.{Values, ring_of}
use Rattle.gates.specs.Counts.{size_of}
use Rattle.shared_gates.specs.Model.{run_gate}
use Rattle.counted_net.specs.declared.moves.Move.{Move}
use Rattle.counted_net.specs.Scripts.{link_move, links_in}
use Rattle.view_simulator.specs.Blocks.{block_moves}
use Rattle.view_simulator.specs.Sizes.{exchanged}

links_in-append : (xs ys : List script.Move) → links_in (xs ++ ys) ≡ links_in xs ++ links_in ys
links_in-append xs ys = map-append link_move xs ys

-- ---- a block has the links of a full one

split-links : (n : ℕ) (i : Number) → links_in (split_script n i) ≡ links_in (split_script 512 i)
split-links n One = refl
split-links n Two = refl
split-links n Three = refl

conv-links : (n : ℕ) (i : Number) → links_in (conv_script n i) ≡ links_in (conv_script 512 i)
conv-links n One = refl
conv-links n Two = refl
conv-links n Three = refl

-- ---- all blocks of a gate

blocks-links :
    (p : Protocol) (i : Number) (block : List Move) → ((n : ℕ) → links_in (p.script n i) ≡ block) → (sizes : List ℕ) →
    links_in (blocks_script p sizes i) ≡ repeat (length sizes) block
blocks-links p i block same [] = refl
blocks-links p i block same (n ∷ sizes) =
    links_in-append (p.script n i) (blocks_script p sizes i)
    ∙ ap (λ here. here ++ links_in (blocks_script p sizes i)) (same n)
    ∙ ap (λ later. block ++ later) (blocks-links p i block same sizes)

-- and then what comes after it
joined-links :
    (p : Protocol) (i : Number) (block : List Move) → ((n : ℕ) → links_in (p.script n i) ≡ block) → (n : ℕ) (behind : List script.Move) →
    links_in ((blocked p).script n i ++ behind) ≡ repeat (length (block_sizes n)) block ++ links_in behind
joined-links p i block same n behind =
    links_in-append ((blocked p).script n i) behind ∙ ap (λ here. here ++ links_in behind) (blocks-links p i block same (block_sizes n))

pub gate-links :
    (shares : Number → Values) (dealt sizes : List ℕ) (gate : Gate) (gates : List model.Gate) (i : Number) →
    links_in (gates_script i (run_gate shares dealt sizes gate ∷ gates))
    ≡ repeat (length (block_sizes (exchanged sizes gate))) (block_moves gate i) ++ links_in (gates_script i gates)
gate-links shares dealt sizes (Mul u v) gates i =
    joined-links (mul_protocol add_ring) i (block_moves (Mul u v) i) (λ n. refl) (size_of sizes u) (gates_script i gates)
gate-links shares dealt sizes (And u v) gates i =
    joined-links (mul_protocol xor_ring) i (block_moves (And u v) i) (λ n. refl) (size_of sizes u) (gates_script i gates)
gate-links shares dealt sizes (Split u negated) gates i =
    joined-links (split_protocol negated) i (block_moves (Split u negated) i) (λ n. split-links n i) (size_of sizes u) (gates_script i gates)
gate-links shares dealt sizes (Conv u) gates i =
    joined-links conv_protocol i (block_moves (Conv u) i) (λ n. conv-links n i) (size_of sizes u) (gates_script i gates)
gate-links shares dealt sizes (Open ring u) gates i =
    joined-links (open_protocol (ring_of ring)) i (block_moves (Open ring u) i) (λ n. refl) (size_of sizes u) (gates_script i gates)
gate-links shares dealt sizes (Result ring u) gates i =
    joined-links (reshare_protocol (ring_of ring)) i (block_moves (Result ring u) i) (λ n. refl) (size_of sizes u) (gates_script i gates)
gate-links shares dealt sizes gate gates i = refl

-- one block more at the end
pub repeat-end : {A : Type 0} → (n : ℕ) (block : List A) → repeat n block ++ block ≡ repeat (n + 1) block
repeat-end n block = shown n block ∙ ap (λ k. repeat k block) (sym (add-one n))
  where
    shown : {A : Type 0} → (n : ℕ) (block : List A) → repeat n block ++ block ≡ repeat (suc n) block
    shown zero block = sym (append-nil block)
    shown (suc n) block = append_assoc block (repeat n block) block ∙ ap (λ later. block ++ later) (shown n block)
