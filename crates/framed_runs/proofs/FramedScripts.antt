-- What the scripts of a run's gates send has the size of a frame.
use Rattle.std.proofs.Common.{ℕ, zero, suc, ◌+◌, ◌*◌, ◌/◌, ◌%◌, ◌<◌, ◌≤◌, Bool, true, false, if◌then◌else◌, List, [], ◌∷◌, ◌++◌, length, replicate, arith}
use Rattle.proto_core.specs.declared.party.Number.{Number}
use Rattle.proto_core.specs.declared.party.Number.TheVariants.{One, Two, Three}
use Rattle.proto_core.specs.declared.link.Link.{Link}
use Rattle.proto_core.specs.Strand.{Shape, same_link}
use Rattle.proto_core.specs.Script.{Move, Sends, Takes, sends_on}
use Rattle.proto_core.specs.Protocol.{Protocol}
use Rattle.proto_core.specs.Ring.{Ring}
use Rattle.proto_core.specs.Rings.{add_ring, xor_ring}
use Rattle.protocol_model.specs.Gates.{Joined, Local}
use Rattle.protocol_model.specs.Gates as model
use Rattle.blocked_protocol.specs.Multiplying.{mul_protocol}
use Rattle.blocked_protocol.specs.Opening.{open_protocol}
use Rattle.blocked_protocol.specs.Resharing.{reshare_protocol}
use Rattle.blocked_protocol.specs.Converting.{conv_protocol}
use Rattle.blocked_protocol.specs.Splitting.{split_protocol}
use Rattle.blocked_protocol.specs.Blocked.{blocks_script}
use Rattle.gates.specs.Blocks.{last_block, block_sizes}
use Rattle.gates.specs.Clear.{Values, ring_of}
use Rattle.gates.specs.Counts.{size_of}
use Rattle.gates.specs.declared.gate.Gate.{Gate}
use Rattle.gates.specs.declared.gate.Gate.TheVariants.{Mul, And, Split, Conv, Open, Result}
use Rattle.shared_gates.specs.Model.{run_gate, run_gates, sizes_made}
use Rattle.wire.specs.Frames.{IsCount}

-- a message of this shape has the words of a frame
abbrev pub FitsFrame : Shape → Type 0
FitsFrame s = IsCount (length s.fields * s.count)

abbrev pub AllFit : List Shape → Type 0
AllFit [] = Unit {0}
AllFit (s ∷ shapes) = FitsFrame s × AllFit shapes

-- all that is sent by these moves
abbrev pub SendsFit : List Move → Type 0
SendsFit [] = Unit {0}
SendsFit (Sends l shape ∷ moves) = FitsFrame shape × SendsFit moves
SendsFit (Takes l shape ∷ moves) = SendsFit moves

pub sends_on-fit : (l : Link) (moves : List Move) → SendsFit moves → AllFit (sends_on l moves)
sends_on-fit l [] h = tt
sends_on-fit l (Sends k shape ∷ moves) h =
    elim (same_link l k) as (λ b. AllFit (if b then shape ∷ sends_on l moves else sends_on l moves))
    [ true ↦ (h.0, sends_on-fit l moves h.1) | false ↦ sends_on-fit l moves h.1 ]
sends_on-fit l (Takes k shape ∷ moves) h = sends_on-fit l moves h

sends-append : (xs ys : List Move) → SendsFit xs → SendsFit ys → SendsFit (xs ++ ys)
sends-append [] ys hx hy = hy
sends-append (Sends l shape ∷ xs) ys hx hy = (hx.0, sends-append xs ys hx.1 hy)
sends-append (Takes l shape ∷ xs) ys hx hy = sends-append xs ys hx hy

-- ---- blocks

-- a block has 1 to 512 elements
record IsBlockSize (m : ℕ) : Type 0 where
  some : 0 < m
  few : m ≤ 512

abbrev AreBlockSizes : List ℕ → Type 0
AreBlockSizes [] = Unit {0}
AreBlockSizes (m ∷ sizes) = IsBlockSize m × AreBlockSizes sizes

sizes-append : (xs ys : List ℕ) → AreBlockSizes xs → AreBlockSizes ys → AreBlockSizes (xs ++ ys)
sizes-append [] ys hx hy = hy
sizes-append (m ∷ xs) ys hx hy = (hx.0, sizes-append xs ys hx.1 hy)

full_blocks : (k : ℕ) → AreBlockSizes (replicate k 512)
full_blocks zero = tt
full_blocks (suc k) = (record { some = omega arith; few = omega arith }, full_blocks k)

last-block : (n : ℕ) → n < 512 → AreBlockSizes (last_block n)
last-block zero h = tt
last-block (suc n) h = (record { some = omega arith; few = omega arith }, tt)

block_sizes-fit : (n : ℕ) → AreBlockSizes (block_sizes n)
block_sizes-fit n = sizes-append (replicate (n / 512) 512) (last_block (n % 512)) (full_blocks (n / 512)) (last-block (n % 512) (omega arith))

-- what is sent of a block
abbrev BlocksFit : Protocol → Type 0
BlocksFit p = (m : ℕ) (i : Number) → IsBlockSize m → SendsFit (p.script m i)

blocks-fit : (p : Protocol) (sizes : List ℕ) (i : Number) → BlocksFit p → AreBlockSizes sizes → SendsFit (blocks_script p sizes i)
blocks-fit p [] i h sizes-fit = tt
blocks-fit p (m ∷ sizes) i h sizes-fit =
    sends-append (p.script m i) (blocks_script p sizes i) (h m i sizes-fit.0) (blocks-fit p sizes i h sizes-fit.1)

-- ---- the protocols

-- one, two or three fields of a block's elements
fields_fit : (k m : ℕ) → 0 < k → k ≤ 3 → IsBlockSize m → IsCount (k * m)
fields_fit zero m some few is = absurd (never some)
  where
    never : 0 < 0 → ⊥
    never h = omega arith
fields_fit (suc zero) m some few is =
    let more : 0 < m = is.some in
    let less : m ≤ 512 = is.few in
    record { some = omega arith; few = omega arith }
fields_fit (suc (suc zero)) m some few is =
    let more : 0 < m = is.some in
    let less : m ≤ 512 = is.few in
    record { some = omega arith; few = omega arith }
fields_fit (suc (suc (suc zero))) m some few is =
    let more : 0 < m = is.some in
    let less : m ≤ 512 = is.few in
    record { some = omega arith; few = omega arith }
fields_fit (suc (suc (suc (suc k)))) m some few is = absurd (never few)
  where
    never : suc (suc (suc (suc k))) ≤ 3 → ⊥
    never h = omega arith

one : (m : ℕ) → IsBlockSize m → IsCount (1 * m)
one m is = fields_fit 1 m (omega arith) (omega arith) is

two : (m : ℕ) → IsBlockSize m → IsCount (2 * m)
two m is = fields_fit 2 m (omega arith) (omega arith) is

three : (m : ℕ) → IsBlockSize m → IsCount (3 * m)
three m is = fields_fit 3 m (omega arith) (omega arith) is

mul-fits : (r : Ring) → BlocksFit (mul_protocol r)
mul-fits r m i is = (three m is, (two m is, tt))

open-fits : (r : Ring) → BlocksFit (open_protocol r)
open-fits r m i is = (one m is, (one m is, (one m is, tt)))

reshare-fits : (r : Ring) → BlocksFit (reshare_protocol r)
reshare-fits r m i is = (one m is, tt)

conv-fits : BlocksFit conv_protocol
conv-fits m One is = (three m is, (two m is, tt))
conv-fits m Two is = (two m is, tt)
conv-fits m Three is = (one m is, (one m is, tt))

split-fits : (negated : Bool) → BlocksFit (split_protocol negated)
split-fits negated m One is = (one m is, (one m is, tt))
split-fits negated m Two is = tt
split-fits negated m Three is = tt

-- ---- gates

abbrev pub GateFits : model.Gate → Type 0
GateFits (Joined p n u v) = (i : Number) → SendsFit (p.script n i)
GateFits (Local n f) = Unit {0}

abbrev pub GatesFit : List model.Gate → Type 0
GatesFit [] = Unit {0}
GatesFit (gate ∷ gates) = GateFits gate × GatesFit gates

whole-fits : (p : Protocol) (n : ℕ) → BlocksFit p → (i : Number) → SendsFit (blocks_script p (block_sizes n) i)
whole-fits p n h i = blocks-fit p (block_sizes n) i h (block_sizes-fit n)

gate-fits : (dealt : Number → Values) (ds sizes : List ℕ) (gate : Gate) → GateFits (run_gate dealt ds sizes gate)
gate-fits dealt ds sizes (Mul u v) = whole-fits (mul_protocol add_ring) (size_of sizes u) (mul-fits add_ring)
gate-fits dealt ds sizes (And u v) = whole-fits (mul_protocol xor_ring) (size_of sizes u) (mul-fits xor_ring)
gate-fits dealt ds sizes (Split u negated) = whole-fits (split_protocol negated) (size_of sizes u) (split-fits negated)
gate-fits dealt ds sizes (Conv u) = whole-fits conv_protocol (size_of sizes u) conv-fits
gate-fits dealt ds sizes (Open ring u) = whole-fits (open_protocol (ring_of ring)) (size_of sizes u) (open-fits (ring_of ring))
gate-fits dealt ds sizes (Result ring u) = whole-fits (reshare_protocol (ring_of ring)) (size_of sizes u) (reshare-fits (ring_of ring))
gate-fits dealt ds sizes _ = tt

pub run_gates-fit : (dealt : Number → Values) (ds sizes : List ℕ) (gates : List Gate) → GatesFit (run_gates dealt ds sizes gates)
run_gates-fit dealt ds sizes [] = tt
run_gates-fit dealt ds sizes (gate ∷ gates) = (gate-fits dealt ds sizes gate, run_gates-fit dealt ds (sizes ++ sizes_made ds sizes gate) gates)
