-- What the rows of the protocols bring, and that each miner's part takes all of it, whatever the words are.
use Rattle.std.proofs.Common.{◌≡◌, ℕ, ◌*◌, ◌&&◌, true, List, [], ◌∷◌, ◌++◌, length, refl, ap, eq-eqb}
use Rattle.std.specs.Prelude.{Bool}
use Rattle.proto_core.specs.Ring.{Ring}
use Rattle.proto_core.specs.declared.party.Number.{Number}
use Rattle.proto_core.specs.declared.party.Number.TheVariants.{One, Two, Three}
use Rattle.proto_core.specs.Parties.{next_of, previous_of, from_previous, from_next}
use Rattle.proto_core.specs.Lists.{part}
use Rattle.proto_core.specs.Strand.{Words, Bits, accepts, one_field}
use Rattle.proto_core.specs.Net.{into}
use Rattle.proto_core.specs.Protocol.{Protocol}
use Rattle.proto_core.specs.Resharing.{reshared}
use Rattle.proto_core.proofs.Each.{length-each}
use Rattle.proto_core.proofs.Parts.{length-part}
use Rattle.proto_core.proofs.MessageFields.{accepts-words, accepts-bits, accepts-one_words, accepts-one_bits}
use Rattle.proto_core.proofs.Nodes.{mail-previous, mail-next}
use Rattle.multiply.specs.MulStrand.{masks_shape, factors_shape, mul_strand}
use Rattle.multiply.specs.Multiplying.{mul_received}
use Rattle.open_result.specs.Opening.{left_of_opened, open_received, open_strand}
use Rattle.reshare.specs.Resharing.{reshare_received, reshare_strand}
use Rattle.share_convert.specs.Bits.{bits}
use Rattle.share_convert.specs.BitLaws.{length-bits, AreAllBits-bits, all-bits}
use Rattle.share_convert.specs.ConvStrand.{shape12, shape13, shape23, shape32, b_of, e_of, m_of, to_two, conv_strand}
use Rattle.share_convert.specs.Converting.{conv_draws, conv_received}
use Rattle.share_convert.specs.ConvertingLaws.{fits12}
use Rattle.split_share.specs.Splitting.{split_draws, split_received}
use Rattle.split_share.specs.SplitStrand.{split_strand}
use Rattle.gates.specs.Clear.{ring_of}
use Rattle.gate_exchanges.specs.declared.exchange.Exchange.{Exchange}
use Rattle.gate_exchanges.specs.declared.exchange.Exchange.TheVariants.{Product, Splitting, Conversion, Opening, Resharing}
use Rattle.joint_run.specs.Exchanges.{protocol_of}
use Rattle.view_simulator.proofs.Taking.{TakesAll, takes-act, takes-end, takes-previous, takes-next, takes-into}

-- as many words of each miner as it draws
abbrev pub AreDrawn : Protocol → ℕ → (Number → List ℕ) → Type 0
AreDrawn p n words = (k : Number) → length (words k) ≡ p.draws n k

-- ---- messages that fit

masks-fit : (n : ℕ) (m : List ℕ) → length m ≡ 3 * n → accepts (masks_shape n) m ≡ true
masks-fit n m e = ap (λ b. b && true) (eq-eqb (length m) (3 * n) e)

factors-fit : (n : ℕ) (w : List ℕ) → accepts (factors_shape n) (part n 0 w ++ part n 1 w) ≡ true
factors-fit n w =
    accepts-words n (Words ∷ []) (part n 0 w) (part n 1 w) (length-part n 0 w) (accepts-one_words n (part n 1 w) (length-part n 1 w))

bits-fit : (n : ℕ) (x : List ℕ) → accepts (shape32 n) (bits n x) ≡ true
bits-fit n x = accepts-one_bits n (bits n x) (length-bits n x) (all-bits (bits n x) (AreAllBits-bits n x))

bits-words-fit : (n : ℕ) (x a : List ℕ) → length a ≡ n → accepts (shape23 n) (bits n x ++ a) ≡ true
bits-words-fit n x a e = accepts-bits n (Words ∷ []) (bits n x) a (length-bits n x) (all-bits (bits n x) (AreAllBits-bits n x)) (accepts-one_words n a e)

fit13 : (n : ℕ) (w : List ℕ) → accepts (shape13 n) (m_of n w ++ bits n (b_of n w)) ≡ true
fit13 n w = accepts-words n (Bits ∷ []) (m_of n w) (bits n (b_of n w)) (length-part n 2 w) (bits-fit n (b_of n w))

length-left : (r : Ring) (n : ℕ) (opened share other : List ℕ) → length (left_of_opened r n opened share other) ≡ n
length-left r n opened share other = length-each n _

-- ---- what the rows bring on the two links of a miner

pub mul-previous :
    (n : ℕ) (i : Number) (w : Number → List ℕ) →
    mul_received n i w (from_previous i) ≡ w (previous_of i) ∷ (part n 0 (w (next_of i)) ++ part n 1 (w (next_of i))) ∷ []
mul-previous n One w = refl
mul-previous n Two w = refl
mul-previous n Three w = refl

pub mul-next : (n : ℕ) (i : Number) (w : Number → List ℕ) → mul_received n i w (from_next i) ≡ []
mul-next n One w = refl
mul-next n Two w = refl
mul-next n Three w = refl

-- ---- each part takes all

mul-takes :
    (r : Ring) (n : ℕ) (i : Number) (u v : List ℕ) (w : Number → List ℕ) → ((k : Number) → length (w k) ≡ 3 * n) →
    TakesAll (mul_strand r n i u v (w i)) (into i (mul_received n i w))
mul-takes r n i u v w drawn =
    takes-into i (mul_strand r n i u v (w i)) (mul_received n i w) _ _ (mul-previous n i w) (mul-next n i w)
    (takes-act _ _ _
    (takes-previous i (masks_shape n) _ (w (previous_of i)) _ _ (masks-fit n (w (previous_of i)) (drawn (previous_of i)))
    (takes-act _ _ _ (takes-previous i (factors_shape n) _ _ _ _ (factors-fit n (w (next_of i))) (takes-end i _)))))

open-takes :
    (r : Ring) (n : ℕ) (i : Number) (u : List ℕ) (w : Number → List ℕ) (opened : List ℕ) → ((k : Number) → length (w k) ≡ n) →
    TakesAll (open_strand r n i u (w i)) (into i (open_received r n i u w opened))
open-takes r n i u w opened drawn =
    let last : List ℕ = left_of_opened r n opened (reshared r n u (w i) (w (previous_of i))) (w (next_of i)) in
    takes-into i (open_strand r n i u (w i)) (open_received r n i u w opened) _ _ (mail-previous i _ _) (mail-next i _ _)
    (takes-act _ _ _
    (takes-previous i (one_field n) _ (w (previous_of i)) _ _ (accepts-one_words n (w (previous_of i)) (drawn (previous_of i)))
    (takes-act _ _ _
    (takes-act _ _ _
    (takes-previous i (one_field n) _ (w (next_of i)) _ _ (accepts-one_words n (w (next_of i)) (drawn (next_of i)))
    (takes-next i (one_field n) _ last _ _ (accepts-one_words n last (length-left r n _ _ _)) (takes-act _ _ _ (takes-end i _))))))))

reshare-takes :
    (r : Ring) (n : ℕ) (i : Number) (u : List ℕ) (w : Number → List ℕ) → ((k : Number) → length (w k) ≡ n) →
    TakesAll (reshare_strand r n i u (w i)) (into i (reshare_received i w))
reshare-takes r n i u w drawn =
    takes-into i (reshare_strand r n i u (w i)) (reshare_received i w) _ _ (mail-previous i _ _) (mail-next i _ _)
    (takes-act _ _ _
    (takes-previous i (one_field n) _ (w (previous_of i)) _ _ (accepts-one_words n (w (previous_of i)) (drawn (previous_of i))) (takes-end i _)))

split-takes :
    (negated : Bool) (n : ℕ) (i : Number) (u : List ℕ) (w : Number → List ℕ) → ((k : Number) → length (w k) ≡ split_draws n k) →
    TakesAll (split_strand negated n i u (w i)) (into i (split_received w))
split-takes negated n One u w drawn =
    takes-into One (split_strand negated n One u (w One)) (split_received w) _ _ refl refl (takes-act _ _ _ (takes-act _ _ _ (takes-end One _)))
split-takes negated n Two u w drawn =
    takes-into Two (split_strand negated n Two u (w Two)) (split_received w) _ _ refl refl
    (takes-previous Two (one_field n) _ (w One) _ _ (accepts-one_words n (w One) (drawn One)) (takes-end Two _))
split-takes negated n Three u w drawn =
    takes-into Three (split_strand negated n Three u (w Three)) (split_received w) _ _ refl refl
    (takes-next Three (one_field n) _ (w One) _ _ (accepts-one_words n (w One) (drawn One)) (takes-end Three _))

conv-takes :
    (n : ℕ) (i : Number) (u : List ℕ) (w : Number → List ℕ) → ((k : Number) → length (w k) ≡ conv_draws n k) →
    TakesAll (conv_strand n i u (w i)) (into i (conv_received n w))
conv-takes n One u w drawn =
    takes-into One (conv_strand n One u (w One)) (conv_received n w) _ _ refl refl
    (takes-act _ _ _
    (takes-act _ _ _ (takes-previous One (one_field n) _ (w Three) _ _ (accepts-one_words n (w Three) (drawn Three)) (takes-end One _))))
conv-takes n Two u w drawn =
    takes-into Two (conv_strand n Two u (w Two)) (conv_received n w) _ _ refl refl
    (takes-previous Two (shape12 n) _ (to_two n (w One)) _ _ (fits12 n (w One))
    (takes-act _ _ _ (takes-next Two (shape32 n) _ (bits n (b_of n (w One))) _ _ (bits-fit n (b_of n (w One))) (takes-end Two _))))
conv-takes n Three u w drawn =
    takes-into Three (conv_strand n Three u (w Three)) (conv_received n w) _ _ refl refl
    (takes-act _ _ _
    (takes-next Three (shape13 n) _ (m_of n (w One) ++ bits n (b_of n (w One))) _ _ (fit13 n (w One))
    (takes-act _ _ _
    (takes-previous Three (shape23 n) _ (bits n (e_of n (w One)) ++ w Two) _ _ (bits-words-fit n (e_of n (w One)) (w Two) (drawn Two)) (takes-end Three _)))))

pub block-takes :
    (e : Exchange) (n : ℕ) (i : Number) (u v : List ℕ) (w : Number → List ℕ) (opened : List ℕ) → AreDrawn (protocol_of e) n w →
    TakesAll ((protocol_of e).strand n i u v (w i)) (into i ((protocol_of e).received n i u v w opened))
block-takes (Product ring) n i u v w opened drawn = mul-takes (ring_of ring) n i u v w drawn
block-takes (Splitting negated) n i u v w opened drawn = split-takes negated n i u w drawn
block-takes Conversion n i u v w opened drawn = conv-takes n i u w drawn
block-takes (Opening ring) n i u v w opened drawn = open-takes (ring_of ring) n i u w opened drawn
block-takes (Resharing ring) n i u v w opened drawn = reshare-takes (ring_of ring) n i u w drawn

-- no row reads the second operand
pub any-second :
    (e : Exchange) (n : ℕ) (i : Number) (u v v2 : List ℕ) (w : Number → List ℕ) (opened : List ℕ) →
    (protocol_of e).received n i u v w opened ≡ (protocol_of e).received n i u v2 w opened
any-second (Product ring) n i u v v2 w opened = refl
any-second (Splitting negated) n i u v v2 w opened = refl
any-second Conversion n i u v v2 w opened = refl
any-second (Opening ring) n i u v v2 w opened = refl
any-second (Resharing ring) n i u v v2 w opened = refl
