-- The protocol that multiplies: both factors are masked anew and passed on, and each miner adds three of the nine products.
use Rattle.std.specs.Prelude.{◌≡◌, ℕ, ◌*◌, if◌then◌else◌, List, [], ◌∷◌, ◌++◌}
use Rattle.proto_core.specs.Ring.{Ring}
use Rattle.proto_core.specs.declared.party.Number.{Number}
use Rattle.proto_core.specs.declared.party.Number.TheVariants.{One, Two, Three}
use Rattle.proto_core.specs.Parties.{next_of, previous_of, to_next, from_previous, sender_of, is_forward, is_same}
use Rattle.proto_core.specs.Lists.{part}
use Rattle.proto_core.specs.Strand.{Mail}
use Rattle.proto_core.specs.Script.{Move, Sends, Takes}
use Rattle.proto_core.specs.Protocol.{Joint, Protocol}
use Rattle.proto_core.specs.Resharing.{reshared, sum_of_three}
use Rattle.multiply.specs.Products.{times, cross}
use Rattle.multiply.specs.MulStrand.{masks_shape, factors_shape, mul_strand}

-- ---- of all three, by the words a, b, c that each drew

-- u' and v': u + a - a_p and v + b - b_p
abbrev pub factors_of : Ring → ℕ → Joint → Number → List ℕ
factors_of r n j i =
    reshared r n (j.u i) (part n 0 (j.words i)) (part n 0 (j.words (previous_of i)))
    ++ reshared r n (j.v i) (part n 1 (j.words i)) (part n 1 (j.words (previous_of i)))

-- u' v' + u' v'_p + u'_p v', of a miner's factors x and the previous miner's y
abbrev pub cross_of : Ring → ℕ → List ℕ → List ℕ → List ℕ
cross_of r n x y = cross r n (part n 0 x) (part n 1 x) (part n 0 y) (part n 1 y)

-- a miner's share of the product: that sum, + c - c_p
abbrev pub product_of : Ring → ℕ → Joint → Number → List ℕ
product_of r n j i =
    reshared r n (cross_of r n (factors_of r n j i) (factors_of r n j (previous_of i))) (part n 2 (j.words i))
    (part n 2 (j.words (previous_of i)))

-- each sends its masks and then its factors to the next
abbrev pub mul_messages : Ring → ℕ → Joint → Mail
mul_messages r n j l = if is_forward l then j.words (sender_of l) ∷ factors_of r n j (sender_of l) ∷ [] else []

-- ---- of one

abbrev pub mul_script : ℕ → Number → List Move
mul_script n i =
    Sends (to_next i) (masks_shape n) ∷ Takes (from_previous i) (masks_shape n) ∷ Sends (to_next i) (factors_shape n)
    ∷ Takes (from_previous i) (factors_shape n) ∷ []

-- the next miner's a and b become the factors that the previous miner would have masked with them
abbrev pub mul_tape : Ring → ℕ → Number → Joint → Number → List ℕ
mul_tape r n i j m =
    if is_same m (next_of i)
    then (reshared r n (j.u (previous_of i)) (part n 0 (j.words (previous_of i))) (part n 0 (j.words m))
    ++ reshared r n (j.v (previous_of i)) (part n 1 (j.words (previous_of i))) (part n 1 (j.words m)))
    ++ part n 2 (j.words m)
    else j.words m

-- the previous miner's masks, and then the next miner's slots of a and b
abbrev pub mul_received : ℕ → Number → (Number → List ℕ) → Mail
mul_received n i words l =
    if is_forward l then words (previous_of i) ∷ (part n 0 (words (next_of i)) ++ part n 1 (words (next_of i))) ∷ [] else []

abbrev pub mul_protocol : Ring → Protocol
mul_protocol r =
    record {
      second = λ n. n;
      draws = λ n i. 3 * n;
      opens = λ n. 0;
      made = λ n. n ∷ [];
      strand = mul_strand r;
      script = mul_script;
      messages = mul_messages r;
      output = λ n j i. product_of r n j i ∷ [];
      opened = λ n j. [];
      tape = mul_tape r;
      back = mul_tape r;
      received = λ n i u v words opened. mul_received n i words;
    }

-- the outputs add up to the product of the values
abbrev pub Multiplies : Ring → ℕ → Joint → Type 0
Multiplies r n j =
    sum_of_three r n (product_of r n j One) (product_of r n j Two) (product_of r n j Three)
    ≡ times r n (sum_of_three r n (j.u One) (j.u Two) (j.u Three)) (sum_of_three r n (j.v One) (j.v Two) (j.v Three))
