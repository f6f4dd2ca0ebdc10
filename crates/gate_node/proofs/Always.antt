-- What a strand ends with, whatever messages come, also ones that it would not take.
use Rattle.std.proofs.Common.{◌≡◌, ℕ, ◌+◌, Bool, List, [], ◌∷◌, length, map, take, drop, refl, sym, ◌∙◌, ap, subst}
use Rattle.proto_core.specs.Rings.{add_ring, xor_ring}
use Rattle.proto_core.specs.declared.party.Number.{Number}
use Rattle.proto_core.specs.declared.party.Number.TheVariants.{One, Two, Three}
use Rattle.proto_core.specs.Protocol.{Protocol}
use Rattle.proto_core.specs.Strand.{Strand, Ends, Acts, Waits, then_do}
use Rattle.proto_core.proofs.Each.{length-each}
use Rattle.proto_core.proofs.ElementwiseLaws.{length-zeros, length-plus}
use Rattle.proto_core.proofs.ResharingLaws.{length-reshared, length-sum_of_three}
use Rattle.split_share.specs.SplitStrand.{signed_sum}
use Rattle.gates.specs.Blocks.{block_sizes}
use Rattle.gates.specs.Clear.{ring_of}
use Rattle.blocked_protocol.specs.Blocked.{total, joined, sums, blocks_strand, Blockable}
use Rattle.blocked_protocol.proofs.Fitting.{sizes-joined, sizes-none}
use Rattle.blocked_protocol.proofs.Sizes.{block_sizes-cut}
use Rattle.gate_exchanges.specs.declared.exchange.Exchange.{Exchange}
use Rattle.gate_exchanges.specs.declared.exchange.Exchange.TheVariants.{Product, Splitting, Conversion, Opening, Resharing}
use Rattle.gate_exchanges.specs.Exchanges.{protocol_of}
use Rattle.gate_exchanges.proofs.Blockables.{blockable-of}

abbrev pub EndsAlways : {A : Type 0} → (A → Type 0) → Strand A → Type 0
EndsAlways P (Ends a) = P a
EndsAlways P (Acts a s) = EndsAlways P s
EndsAlways P (Waits l shape k) = (m : List ℕ) → EndsAlways P (k m)

pub always-then :
    {A B : Type 0} (P : A → Type 0) (Q : B → Type 0) (s : Strand A) (f : A → Strand B) → EndsAlways P s →
    ((a : A) → P a → EndsAlways Q (f a)) → EndsAlways Q (then_do s f)
always-then P Q (Ends a) f h more = more a h
always-then P Q (Acts act s) f h more = always-then P Q s f h more
always-then P Q (Waits l shape k) f h more = λ m. always-then P Q (k m) f (h m) more

pub then-same :
    {A B : Type 0} (P : A → Type 0) (s : Strand A) (f g : A → Strand B) → EndsAlways P s →
    ((a : A) → P a → f a ≡ g a) → then_do s f ≡ then_do s g
then-same P (Ends a) f g h same = same a h
then-same P (Acts act s) f g h same = ap (Acts act) (then-same P s f g h same)
then-same P (Waits l shape k) f g h same = ap (Waits l shape) (λ d. λ m. then-same P (k m) f g (h m) same d)

pub then-all : {A B : Type 0} (s : Strand A) (f g : A → Strand B) → ((a : A) → f a ≡ g a) → then_do s f ≡ then_do s g
then-all (Ends a) f g same = same a
then-all (Acts act s) f g same = ap (Acts act) (then-all s f g same)
then-all (Waits l shape k) f g same = ap (Waits l shape) (λ d. λ m. then-all (k m) f g same d)

pub then-assoc : {A B C : Type 0} (s : Strand A) (f : A → Strand B) (g : B → Strand C) → then_do (then_do s f) g ≡ then_do s (λ a. then_do (f a) g)
then-assoc (Ends a) f g = refl
then-assoc (Acts act s) f g = ap (Acts act) (then-assoc s f g)
then-assoc (Waits l shape k) f g = ap (Waits l shape) (λ d. λ m. then-assoc (k m) f g d)

-- ---- the shares that a protocol makes have their sizes

two-sizes : (n : ℕ) (x y : List ℕ) → length x ≡ n → length y ≡ n → length x ∷ length y ∷ [] ≡ n ∷ n ∷ []
two-sizes n x y e f = ap (λ k. k ∷ length y ∷ []) e ∙ ap (λ k. n ∷ k ∷ []) f

one-size : (n : ℕ) (x : List ℕ) → length x ≡ n → length x ∷ [] ≡ n ∷ []
one-size n x e = ap (λ k. k ∷ []) e

length-signed : (negated : Bool) (n : ℕ) (u got : List ℕ) → length (signed_sum negated n u got) ≡ n
unfolding signed_sum
length-signed negated n u got = length-each n _

abbrev pub HaveSizes : List ℕ → List (List ℕ) → Type 0
HaveSizes sizes blocks = map length blocks ≡ sizes

block-sized : (e : Exchange) (n : ℕ) (i : Number) (u v words : List ℕ) → EndsAlways (HaveSizes ((protocol_of e).made n)) ((protocol_of e).strand n i u v words)
block-sized (Product ring) n i u v words = λ a b. one-size n _ (length-plus (ring_of ring) n _ _)
block-sized (Splitting negated) n One u v words = two-sizes n _ _ (length-zeros xor_ring n) (length-zeros xor_ring n)
block-sized (Splitting negated) n Two u v words = λ a. two-sizes n _ _ (length-signed _ n _ _) (length-zeros xor_ring n)
block-sized (Splitting negated) n Three u v words = λ a. two-sizes n _ _ (length-zeros xor_ring n) (length-signed _ n _ _)
block-sized Conversion n One u v words = λ a. one-size n _ (length-reshared add_ring n _ _ _)
block-sized Conversion n Two u v words = λ a b. one-size n _ (length-plus add_ring n _ _)
block-sized Conversion n Three u v words = λ a b. one-size n _ (length-reshared add_ring n _ _ _)
block-sized (Opening ring) n i u v words = λ a b c. one-size n _ (length-sum_of_three (ring_of ring) n _ _ _)
block-sized (Resharing ring) n i u v words = λ a. one-size n _ (length-reshared (ring_of ring) n _ _ _)

blocks-sized :
    (p : Protocol) → Blockable p → ((n : ℕ) (i : Number) (u v words : List ℕ) → EndsAlways (HaveSizes (p.made n)) (p.strand n i u v words)) →
    (sizes : List ℕ) (i : Number) (u v words : List ℕ) → EndsAlways (HaveSizes (p.made (total sizes))) (blocks_strand p sizes i u v words)
blocks-sized p blockable one [] i u v words = sizes-none (p.made 0) ∙ blockable.made_none
blocks-sized p blockable one (m ∷ sizes) i u v words =
    always-then (HaveSizes (p.made m)) (HaveSizes (p.made (m + total sizes))) (p.strand m i (take m u) (take (p.second m) v) (take (p.draws m i) words)) _
    (one m i _ _ _)
    (λ here e.
    always-then (HaveSizes (p.made (total sizes))) (HaveSizes (p.made (m + total sizes)))
    (blocks_strand p sizes i (drop m u) (drop (p.second m) v) (drop (p.draws m i) words)) (λ later. Ends (joined here later))
    (blocks-sized p blockable one sizes i _ _ _)
    (λ later f.
    sizes-joined here later
    ∙ ap (λ s. sums s (map length later)) e
    ∙ ap (λ s. sums (p.made m) s) f
    ∙ sym (blockable.made_more m (total sizes))))

-- of a whole gate of n elements
pub gate-sized :
    (e : Exchange) (n : ℕ) (i : Number) (u v words : List ℕ) →
    EndsAlways (HaveSizes ((protocol_of e).made n)) (blocks_strand (protocol_of e) (block_sizes n) i u v words)
gate-sized e n i u v words =
    subst (λ k. EndsAlways (HaveSizes ((protocol_of e).made k)) (blocks_strand (protocol_of e) (block_sizes n) i u v words)) (block_sizes-cut n)
    (blocks-sized (protocol_of e) (blockable-of e) (block-sized e) (block_sizes n) i u v words)
