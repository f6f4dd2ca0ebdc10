-- Converting, as each miner does it.
use Rattle.std.specs.Prelude.{ℕ, List, [], ◌∷◌, ◌++◌}
use Rattle.proto_core.specs.Rings.{add_ring}
use Rattle.proto_core.specs.declared.party.Number.{Number}
use Rattle.proto_core.specs.declared.party.Number.TheVariants.{One, Two, Three}
use Rattle.proto_core.specs.declared.link.Link.TheVariants.{Link12, Link13, Link23, Link31, Link32}
use Rattle.proto_core.specs.Lists.{part}
use Rattle.proto_core.specs.Elementwise.{plus, minus, zeros}
use Rattle.proto_core.specs.Resharing.{reshared}
use Rattle.proto_core.specs.Strand.{Words, Bits, Shape, shaped, Strand, Ends, Acts, Waits, Sent, one_field}
use Rattle.share_convert.specs.Bits.{bits, xor_bits, bits_less, one_less_where, negative_where}

-- the messages on links 12, 13, 23 and 32; that on link 31 is one field
abbrev pub shape12 : ℕ → Shape
shape12 n = shaped n (Words ∷ Bits ∷ Words ∷ [])

abbrev pub shape13 : ℕ → Shape
shape13 n = shaped n (Words ∷ Bits ∷ [])

abbrev pub shape23 : ℕ → Shape
shape23 n = shaped n (Bits ∷ Words ∷ [])

abbrev pub shape32 : ℕ → Shape
shape32 n = shaped n (Bits ∷ [])

-- what a miner holds: bits shared by xor, a number shared modulo 2^64, and what masks its share
pub record Held : Type 0 where
  pub bits : List ℕ
  pub word : List ℕ
  pub mask : List ℕ

-- ---- miner 1, by its share u and its words b, e, m and a

abbrev pub b_of : ℕ → List ℕ → List ℕ
b_of n w = part n 0 w

abbrev pub e_of : ℕ → List ℕ → List ℕ
e_of n w = part n 1 w

abbrev pub m_of : ℕ → List ℕ → List ℕ
m_of n w = part n 2 w

abbrev pub a_of : ℕ → List ℕ → List ℕ
a_of n w = part n 3 w

-- m, the bits of e, and a
abbrev pub to_two : ℕ → (w : List ℕ) → List ℕ
to_two n w = (m_of n w ++ bits n (e_of n w)) ++ a_of n w

-- f, which is the bit of b xor u without m, and the bits of b xor e
abbrev pub to_three : ℕ → (u w : List ℕ) → List ℕ
to_three n u w = bits_less n (b_of n w) u (m_of n w) ++ xor_bits n (b_of n w) (e_of n w)

abbrev pub one_held : ℕ → (w : List ℕ) → Held
one_held n w = record { bits = []; word = []; mask = a_of n w }

-- 0 + a - a_3
abbrev pub one_share : ℕ → Held → (got : List ℕ) → List ℕ
one_share n held got = reshared add_ring n (zeros add_ring n) held.mask got

abbrev pub one_ends : ℕ → Held → List ℕ → Strand (List (List ℕ))
one_ends n held got = Ends (one_share n held got ∷ [])

abbrev pub awaits31 : ℕ → Held → Strand (List (List ℕ))
awaits31 n held = Waits Link31 (one_field n) (one_ends n held)

-- ---- miner 2, by its share u and its word a

abbrev pub begun : (u a : List ℕ) → Held
begun u a = record { bits = u; word = []; mask = a }

-- the bits of e xor u, m, and a - a_1
abbrev pub two_held : ℕ → Held → (got : List ℕ) → Held
two_held n held got =
    record {
      bits = xor_bits n (part n 1 got) held.bits;
      word = part n 0 got;
      mask = minus add_ring n held.mask (part n 2 got);
    }

-- with the bits of b xor e xor u_3 it knows those of b xor u xor u_3
abbrev pub two_share : ℕ → Held → (got : List ℕ) → List ℕ
two_share n held got = plus add_ring n (one_less_where n (xor_bits n held.bits got) held.word) held.mask

abbrev pub two_ends : ℕ → Held → List ℕ → Strand (List (List ℕ))
two_ends n held got = Ends (two_share n held got ∷ [])

abbrev pub awaits32 : ℕ → Held → Strand (List (List ℕ))
awaits32 n held = Waits Link32 (shape32 n) (two_ends n held)

-- the bits of e xor u and a go to miner 3
abbrev pub two_passes : ℕ → Held → List ℕ → Strand (List (List ℕ))
two_passes n held got = Acts (Sent Link23 (xor_bits n (part n 1 got) held.bits ++ held.mask)) (awaits32 n (two_held n held got))

abbrev pub awaits12 : ℕ → Held → Strand (List (List ℕ))
awaits12 n held = Waits Link12 (shape12 n) (two_passes n held)

-- ---- miner 3, by its share u and its word a

-- the bits of b xor e xor u, and f
abbrev pub three_held : ℕ → Held → (got : List ℕ) → Held
three_held n held got = record { bits = xor_bits n (part n 1 got) held.bits; word = part n 0 got; mask = held.mask }

-- with the bits of e xor u_2 it knows those of b xor u_2 xor u
abbrev pub three_share : ℕ → Held → (got : List ℕ) → List ℕ
three_share n held got =
    reshared add_ring n (negative_where n (xor_bits n (part n 0 got) held.bits) held.word) held.mask (part n 1 got)

abbrev pub three_ends : ℕ → Held → List ℕ → Strand (List (List ℕ))
three_ends n held got = Ends (three_share n held got ∷ [])

abbrev pub awaits23 : ℕ → Held → Strand (List (List ℕ))
awaits23 n held = Waits Link23 (shape23 n) (three_ends n held)

-- the bits of b xor e xor u go to miner 2
abbrev pub three_passes : ℕ → Held → List ℕ → Strand (List (List ℕ))
three_passes n held got = Acts (Sent Link32 (xor_bits n (part n 1 got) held.bits)) (awaits23 n (three_held n held got))

abbrev pub awaits13 : ℕ → Held → Strand (List (List ℕ))
awaits13 n held = Waits Link13 (shape13 n) (three_passes n held)

-- ---- each miner's part from the start

abbrev pub conv_strand : ℕ → Number → (u words : List ℕ) → Strand (List (List ℕ))
conv_strand n One u words =
    Acts (Sent Link12 (to_two n words)) (Acts (Sent Link13 (to_three n u words)) (awaits31 n (one_held n words)))
conv_strand n Two u words = awaits12 n (begun u words)
conv_strand n Three u words = Acts (Sent Link31 words) (awaits13 n (begun u words))
