-- A gate depends on the values that it takes alone: whether it can run, the words that it draws, and what it makes.
use Rattle.std.proofs.Common.{◌≡◌, ℕ, ◌+◌, ◌/◌, Bool, ◌==◌, ◌&&◌, nat_lt, nat_le, if◌then◌else◌, List, [], ◌∷◌, ◌++◌, length, take, drop, refl, ◌∙◌, ap, ◌*◌}
use Rattle.std.specs.Prelude.{Option, Some, None}
use Rattle.proto_core.specs.Rings.{add_ring, xor_ring}
use Rattle.proto_core.specs.declared.party.Number.{Number}
use Rattle.proto_core.specs.Protocol.{Protocol}
use Rattle.proto_core.specs.Strand.{Strand, Ends, then_do}
use Rattle.protocol_model.specs.Gates as model
use Rattle.protocol_model.specs.Gates.{Joined, Local, nth_value, operand, sizes_of, needed, gates_strand}
use Rattle.multiply.specs.Multiplying.{mul_protocol}
use Rattle.open_result.specs.Opening.{open_protocol}
use Rattle.reshare.specs.Resharing.{reshare_protocol}
use Rattle.share_convert.specs.Converting.{conv_protocol}
use Rattle.split_share.specs.Splitting.{split_protocol}
use Rattle.gate_exchanges.specs.Blocked.{blocked}
use Rattle.gates.specs.declared.gate.Gate.{Gate}
use Rattle.gates.specs.declared.gate.Gate.TheVariants.{Input, Const, Add, Sub, MulPub, Mul, Xor, And, Not, Shl, Shr, Low, Cat, Part, Put, Rep}
use Rattle.gates.specs.declared.gate.Gate.TheVariants.{Pack, Unpack, RepBit, PartBit, PutBit, CatBit}
use Rattle.gates.specs.declared.gate.Gate.TheVariants.{Sum, Stretch, Tile, SumEach, Split, Conv, Open, Result}
use Rattle.gates.specs.Bits.{words_for}
use Rattle.gates.specs.Clear.{Values, value, ring_of}
use Rattle.gates.specs.Counts.{size_of}
use Rattle.gates.specs.Taken.{Numbers, Takes, HaveSame}
use Rattle.gate_exchanges.specs.LocalGates.{local_share}
use Rattle.gate_node.specs.Suiting.{is_there, are_pair, suits}
use Rattle.gate_node.specs.OwnGates.{GatesEnd, Stuck, own_gate, own_draws, can_run, own_gates}
use Rattle.gate_node.proofs.Always.{then-assoc}
use Rattle.gate_node.proofs.Holding.{same_size, same_words, as_many_sizes}

-- the values that a gate makes
abbrev pub makes : Number → model.Gate → Values → (tape : List ℕ) → Strand Values
makes i (Joined p n u v) values tape = p.strand n i (nth_value values u) (operand values v) (take (p.draws n i) tape)
makes i (Local n f) values tape = Ends (f i values ∷ [])

pub made_behind :
    (i : Number) (g : model.Gate) (values : Values) (tape : List ℕ) →
    gates_strand i (g ∷ []) values tape ≡ then_do (makes i g values tape) (λ made. Ends (values ++ made))
made_behind i (Joined p n u v) values tape = refl
made_behind i (Local n f) values tape = refl

module _ (i : Number) (dealt values held : Values) (as_many : length held ≡ length values) where
  abbrev Same : Numbers
  Same = HaveSame values held

  -- ---- whether it suits

  there : (u : ℕ) → is_there (sizes_of values) u ≡ is_there (sizes_of held) u
  there u = ap (nat_lt u) (as_many_sizes values held as_many)

  size : (u : ℕ) → Same u → size_of (sizes_of values) u ≡ size_of (sizes_of held) u
  size = same_size values held

  pair : (u v : ℕ) → Same u → Same v → are_pair (sizes_of values) u v ≡ are_pair (sizes_of held) u v
  pair u v e f = λ d. there u d && (there v d && (size u e d == size v f d))

  pub same_suits : (gate : Gate) → Takes Same gate → suits (sizes_of dealt) (sizes_of values) gate ≡ suits (sizes_of dealt) (sizes_of held) gate
  same_suits (Input k) h = refl
  same_suits (Const list) h = refl
  same_suits (Add u v) h = pair u v h.0 h.1.0
  same_suits (Sub u v) h = pair u v h.0 h.1.0
  same_suits (MulPub ring u list) h = λ d. there u d && (size u h.0 d == length list)
  same_suits (Mul u v) h = pair u v h.0 h.1.0
  same_suits (Xor u v) h = pair u v h.0 h.1.0
  same_suits (And u v) h = pair u v h.0 h.1.0
  same_suits (Not u) h = there u
  same_suits (Shl u count) h = there u
  same_suits (Shr u count) h = there u
  same_suits (Low u) h = there u
  same_suits (Cat u v) h = λ d. there u d && there v d
  same_suits (Part u from count) h = λ d. there u d && nat_le (from + count) (size u h.0 d)
  same_suits (Put u index v) h = λ d. there u d && (there v d && (nat_lt index (size u h.0 d) && (size v h.1.0 d == 1)))
  same_suits (Rep u count) h = λ d. there u d && (size u h.0 d == 1)
  same_suits (Pack u) h = there u
  same_suits (Unpack u count) h = λ d. there u d && (size u h.0 d == words_for count)
  same_suits (RepBit u count) h = λ d. there u d && (size u h.0 d == 1)
  same_suits (PartBit u index) h = λ d. there u d && nat_lt (index / 64) (size u h.0 d)
  same_suits (PutBit u index v) h = λ d. there u d && (there v d && (nat_lt (index / 64) (size u h.0 d) && (size v h.1.0 d == 1)))
  same_suits (CatBit u n v m) h = λ d. there u d && (there v d && ((size u h.0 d == words_for n) && (size v h.1.0 d == words_for m)))
  same_suits (Sum u) h = there u
  same_suits (Stretch u count) h = there u
  same_suits (Tile u count) h = there u
  same_suits (SumEach u parts count) h = λ d. there u d && (size u h.0 d == parts * count)
  same_suits (Split u negated) h = there u
  same_suits (Conv u) h = there u
  same_suits (Open ring u) h = there u
  same_suits (Result ring u) h = there u

  -- ---- the words that it draws

  drawn : (p : Protocol) (u : ℕ) (v : Option ℕ) → Same u
      → needed (Joined (blocked p) (size_of (sizes_of values) u) u v ∷ []) i ≡ needed (Joined (blocked p) (size_of (sizes_of held) u) u v ∷ []) i
  drawn p u v n = ap (λ size. needed (Joined (blocked p) size u v ∷ []) i) (size u n)

  pub same_draws : (gate : Gate) → Takes Same gate → own_draws i dealt values gate ≡ own_draws i dealt held gate
  same_draws (Mul u v) h = drawn (mul_protocol add_ring) u (Some v) h.0
  same_draws (And u v) h = drawn (mul_protocol xor_ring) u (Some v) h.0
  same_draws (Split u negated) h = drawn (split_protocol negated) u None h.0
  same_draws (Conv u) h = drawn conv_protocol u None h.0
  same_draws (Open ring u) h = drawn (open_protocol (ring_of ring)) u None h.0
  same_draws (Result ring u) h = drawn (reshare_protocol (ring_of ring)) u None h.0
  same_draws gate h = refl

  pub same_can : (tape : List ℕ) (gate : Gate) → Takes Same gate → can_run i dealt values tape gate ≡ can_run i dealt held tape gate
  same_can tape gate h = λ d. same_suits gate h d && nat_le (same_draws gate h d) (length tape)

  -- ---- what it makes

  module _ (tape : List ℕ) where
    -- in a protocol
    words : (u : ℕ) → Same u → nth_value values u ≡ nth_value held u
    words = same_words values held

    joined : (p : Protocol) (u : ℕ) (v : Option ℕ) → Same u → operand values v ≡ operand held v
        → makes i (Joined (blocked p) (size_of (sizes_of values) u) u v) values tape
        ≡ makes i (Joined (blocked p) (size_of (sizes_of held) u) u v) held tape
    joined p u v n same =
        λ d. (blocked p).strand (size u n d) i (words u n d) (same d) (take ((blocked p).draws (size u n d) i) tape)

    -- of one operand and of two, by a gate that has them as its first values
    one : (gate : Gate) (u : ℕ) → Same u
        → Ends (local_share i dealt (value values u ∷ []) gate ∷ []) ≡ Ends (local_share i dealt (value held u ∷ []) gate ∷ [])
    one gate u e = λ d. Ends (local_share i dealt (e d ∷ []) gate ∷ [])

    two : (gate : Gate) (u v : ℕ) → Same u → Same v
        → Ends (local_share i dealt (value values u ∷ value values v ∷ []) gate ∷ [])
        ≡ Ends (local_share i dealt (value held u ∷ value held v ∷ []) gate ∷ [])
    two gate u v e f = λ d. Ends (local_share i dealt (e d ∷ f d ∷ []) gate ∷ [])

    pub same_made :
        (gate : Gate) → Takes Same gate → makes i (own_gate i dealt values gate) values tape ≡ makes i (own_gate i dealt held gate) held tape
    same_made (Input k) h = refl
    same_made (Const list) h = refl
    same_made (Add u v) h = two (Add 0 1) u v h.0 h.1.0
    same_made (Sub u v) h = two (Sub 0 1) u v h.0 h.1.0
    same_made (MulPub ring u list) h = one (MulPub ring 0 list) u h.0
    same_made (Mul u v) h = joined (mul_protocol add_ring) u (Some v) h.0 (words v h.1.0)
    same_made (Xor u v) h = two (Xor 0 1) u v h.0 h.1.0
    same_made (And u v) h = joined (mul_protocol xor_ring) u (Some v) h.0 (words v h.1.0)
    same_made (Not u) h = one (Not 0) u h.0
    same_made (Shl u count) h = one (Shl 0 count) u h.0
    same_made (Shr u count) h = one (Shr 0 count) u h.0
    same_made (Low u) h = one (Low 0) u h.0
    same_made (Cat u v) h = two (Cat 0 1) u v h.0 h.1.0
    same_made (Part u from count) h = one (Part 0 from count) u h.0
    same_made (Put u index v) h = two (Put 0 index 1) u v h.0 h.1.0
    same_made (Rep u count) h = one (Rep 0 count) u h.0
    same_made (Pack u) h = one (Pack 0) u h.0
    same_made (Unpack u count) h = one (Unpack 0 count) u h.0
    same_made (RepBit u count) h = one (RepBit 0 count) u h.0
    same_made (PartBit u index) h = one (PartBit 0 index) u h.0
    same_made (PutBit u index v) h = two (PutBit 0 index 1) u v h.0 h.1.0
    same_made (CatBit u n v m) h = two (CatBit 0 n 1 m) u v h.0 h.1.0
    same_made (Sum u) h = one (Sum 0) u h.0
    same_made (Stretch u count) h = one (Stretch 0 count) u h.0
    same_made (Tile u count) h = one (Tile 0 count) u h.0
    same_made (SumEach u parts count) h = one (SumEach 0 parts count) u h.0
    same_made (Split u negated) h = joined (split_protocol negated) u None h.0 refl
    same_made (Conv u) h = joined conv_protocol u None h.0 refl
    same_made (Open ring u) h = joined (open_protocol (ring_of ring)) u None h.0 refl
    same_made (Result ring u) h = joined (reshare_protocol (ring_of ring)) u None h.0 refl

-- a gate, if it can be run, and then others with what it makes
abbrev pub first_then : (b : Bool) → (first : Strand Values) → (Values → Strand GatesEnd) → Strand GatesEnd
first_then b first behind = if b then then_do first behind else Ends Stuck

module _ (i : Number) (dealt : Values) where
  abbrev pub made_by_gate : Gate → (values : Values) → (tape : List ℕ) → Strand Values
  made_by_gate gate values tape = makes i (own_gate i dealt values gate) values tape

  pub gate_first :
      (gate : Gate) (gates : List Gate) (values : Values) (tape : List ℕ) →
      own_gates i dealt (gate ∷ gates) values tape
      ≡ first_then (can_run i dealt values tape gate) (made_by_gate gate values tape)
      (λ made. own_gates i dealt gates (values ++ made) (drop (own_draws i dealt values gate) tape))
  gate_first gate gates values tape =
      ap (λ s. if can_run i dealt values tape gate then s else Ends Stuck)
      (ap (λ s. then_do s on) (made_behind i (own_gate i dealt values gate) values tape)
      ∙ then-assoc (made_by_gate gate values tape) (λ made. Ends (values ++ made)) on)
    where
      on : Values → Strand GatesEnd
      on all = own_gates i dealt gates all (drop (own_draws i dealt values gate) tape)
