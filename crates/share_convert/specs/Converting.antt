-- The protocol that turns a bit shared by xor into the number 0 or 1 shared modulo 2^64.
use Rattle.std.specs.Prelude.{◌≡◌, ℕ, ◌*◌, bit_xor, List, [], ◌∷◌, ◌++◌}
use Rattle.proto_core.specs.Parties.{of_three, previous_of}
use Rattle.proto_core.specs.Rings.{add_ring}
use Rattle.proto_core.specs.declared.link.Link.TheVariants.{Link12, Link13, Link21, Link23, Link31, Link32}
use Rattle.proto_core.specs.declared.party.Number.{Number}
use Rattle.proto_core.specs.declared.party.Number.TheVariants.{One, Two, Three}
use Rattle.proto_core.specs.Lists.{at, each}
use Rattle.proto_core.specs.Strand.{Mail, one_field}
use Rattle.proto_core.specs.Script.{Move, Sends, Takes}
use Rattle.proto_core.specs.Protocol.{Joint, Protocol}
use Rattle.proto_core.specs.Elementwise.{zeros}
use Rattle.proto_core.specs.Resharing.{reshared, sum_of_three}
use Rattle.share_convert.specs.Bits.{bit, bits, xor_bits, xor_bits_of_three, bits_less, one_less_where, negative_where}
use Rattle.share_convert.specs.ConvStrand.{shape12, shape13, shape23, shape32, b_of, e_of, m_of, a_of, to_two, to_three, conv_strand}

abbrev pub conv_draws : ℕ → Number → ℕ
conv_draws n = of_three (4 * n) n n

abbrev pub conv_script : ℕ → Number → List Move
conv_script n One = Sends Link12 (shape12 n) ∷ Sends Link13 (shape13 n) ∷ Takes Link31 (one_field n) ∷ []
conv_script n Two = Takes Link12 (shape12 n) ∷ Sends Link23 (shape23 n) ∷ Takes Link32 (shape32 n) ∷ []
conv_script n Three = Sends Link31 (one_field n) ∷ Takes Link13 (shape13 n) ∷ Sends Link32 (shape32 n) ∷ Takes Link23 (shape23 n) ∷ []

-- ---- of all three

-- the bits of e xor u_2, and a_2
abbrev pub from_two : ℕ → Joint → List ℕ
from_two n j = xor_bits n (e_of n (j.words One)) (j.u Two) ++ j.words Two

-- the bits of b xor e xor u_3
abbrev pub from_three : ℕ → Joint → List ℕ
from_three n j = xor_bits_of_three n (b_of n (j.words One)) (e_of n (j.words One)) (j.u Three)

abbrev pub conv_messages : ℕ → Joint → Mail
conv_messages n j Link12 = to_two n (j.words One) ∷ []
conv_messages n j Link13 = to_three n (j.u One) (j.words One) ∷ []
conv_messages n j Link21 = []
conv_messages n j Link23 = from_two n j ∷ []
conv_messages n j Link31 = j.words Three ∷ []
conv_messages n j Link32 = from_three n j ∷ []

-- the bits of b xor u_2 xor u_3, by which two of them choose
abbrev pub choice : ℕ → Joint → List ℕ
choice n j = xor_bits_of_three n (b_of n (j.words One)) (j.u Two) (j.u Three)

-- the shares before they are masked anew: 0; m or 1 - m; f or -f
abbrev pub unmasked : ℕ → Joint → Number → List ℕ
unmasked n j One = zeros add_ring n
unmasked n j Two = one_less_where n (choice n j) (m_of n (j.words One))
unmasked n j Three = negative_where n (choice n j) (bits_less n (b_of n (j.words One)) (j.u One) (m_of n (j.words One)))

abbrev pub mask_of : ℕ → Joint → Number → List ℕ
mask_of n j One = a_of n (j.words One)
mask_of n j i = j.words i

abbrev pub converted : ℕ → Joint → Number → List ℕ
converted n j i = reshared add_ring n (unmasked n j i) (mask_of n j i) (mask_of n j (previous_of i))

-- ---- the views: of miner 1's words, those that a view's maker draws in their place

-- x with its lowest bit turned where y has one; the upper bits stay
unfoldable pub flipped : ℕ → (x y : List ℕ) → List ℕ
flipped n x y = each n (λ k. bit_xor (at x k) (bit (at y k)))

abbrev pub four : (b e m a : List ℕ) → List ℕ
four b e m a = b ++ (e ++ (m ++ a))

-- b becomes b xor the bit of e xor u_3
abbrev pub two_map : ℕ → (u3 w : List ℕ) → List ℕ
two_map n u3 w = four (flipped n (b_of n w) (xor_bits n (e_of n w) u3)) (e_of n w) (m_of n w) (a_of n w)

-- b becomes b xor the bit of e, e becomes e xor the bit of u_2, m becomes the bit of b xor u_1 without m
abbrev pub three_map : ℕ → (u1 u2 w : List ℕ) → List ℕ
three_map n u1 u2 w =
    four (flipped n (b_of n w) (e_of n w)) (flipped n (e_of n w) u2) (bits_less n (b_of n w) u1 (m_of n w)) (a_of n w)

-- the way back: e first, then b by it, then m by that
abbrev pub three_back : ℕ → (u1 u2 w : List ℕ) → List ℕ
three_back n u1 u2 w =
    let e = flipped n (e_of n w) u2 in
    let b = flipped n (b_of n w) e in
    four b e (bits_less n b u1 (m_of n w)) (a_of n w)

abbrev pub conv_tape : ℕ → Number → Joint → Number → List ℕ
conv_tape n Two j One = two_map n (j.u Three) (j.words One)
conv_tape n Three j One = three_map n (j.u One) (j.u Two) (j.words One)
conv_tape n _ j m = j.words m

abbrev pub conv_back : ℕ → Number → Joint → Number → List ℕ
conv_back n Three j One = three_back n (j.u One) (j.u Two) (j.words One)
conv_back n i j m = conv_tape n i j m

-- m, the bit of e and a_1, then the bit of b; m and the bit of b, then the bit of e and a_2; a_3
abbrev pub conv_received : ℕ → (words : Number → List ℕ) → Mail
conv_received n words Link12 = to_two n (words One) ∷ []
conv_received n words Link13 = (m_of n (words One) ++ bits n (b_of n (words One))) ∷ []
conv_received n words Link21 = []
conv_received n words Link23 = (bits n (e_of n (words One)) ++ words Two) ∷ []
conv_received n words Link31 = words Three ∷ []
conv_received n words Link32 = bits n (b_of n (words One)) ∷ []

abbrev pub conv_protocol : Protocol
conv_protocol =
    record {
      second = λ n. 0;
      draws = conv_draws;
      opens = λ n. 0;
      made = λ n. n ∷ [];
      strand = λ n i u v words. conv_strand n i u words;
      script = conv_script;
      messages = conv_messages;
      output = λ n j i. converted n j i ∷ [];
      opened = λ n j. [];
      tape = conv_tape;
      back = conv_back;
      received = λ n i u v words opened. conv_received n words;
    }

-- the outputs add up to the bit that the shares give
abbrev pub Converts : ℕ → Joint → Type 0
Converts n j =
    sum_of_three add_ring n (converted n j One) (converted n j Two) (converted n j Three)
    ≡ xor_bits_of_three n (j.u One) (j.u Two) (j.u Three)
