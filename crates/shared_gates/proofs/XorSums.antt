-- Sums of three by xor, of words that are shifted, turned or taken bit by bit.
use Rattle.std.proofs.Common.{◌≡◌, ℕ, ◌+◌, ◌-◌, ◌*◌, ◌/◌, ◌%◌, ◌<◌, ◌^◌, sym, ◌∙◌, ap, arith}
use Rattle.std.specs.Int.{w64, bit_at, bit_not}
use Rattle.std.specs.Prelude.{bit_xor}
use Rattle.std.proofs.Math.Nat.{mod-eq_of_lt, div-le_self}
use Rattle.std.proofs.lemmas.Nat.{mod_below, pow_pos, xor_lt, xor_mod, xor_shr, xor_block}
use Rattle.std.proofs.lemmas.Nat.Bits.{same_from_bits_below, bit_at_xor, bit_at-lt, bit_at_not}
use Rattle.proto_core.specs.Rings.{xor_ring}
use Rattle.blocked_protocol.specs.BitLaws.{bit-xor}
use Rattle.shared_gates.specs.Shares.{sum_of}

pub xor-word : (x y : ℕ) → x < 2 ^ 64 → y < 2 ^ 64 → xor_ring.add x y ≡ bit_xor x y
xor-word x y hx hy = mod-eq_of_lt (xor_lt 64 x y hx hy)

-- what goes through xor goes through sums of three
pub sum-xors :
    (g : ℕ → ℕ) → ((x : ℕ) → x < 2 ^ 64 → g x < 2 ^ 64) →
    ((x y : ℕ) → x < 2 ^ 64 → y < 2 ^ 64 → bit_xor (g x) (g y) ≡ g (bit_xor x y)) →
    (a b c : ℕ) → a < 2 ^ 64 → b < 2 ^ 64 → c < 2 ^ 64 → sum_of xor_ring (g a) (g b) (g c) ≡ g (sum_of xor_ring a b c)
sum-xors g words through a b c ha hb hc =
    let two : xor_ring.add (g a) (g b) ≡ g (xor_ring.add a b) =
    xor-word (g a) (g b) (words a ha) (words b hb) ∙ through a b ha hb ∙ sym (ap g (xor-word a b ha hb)) in
    let ab : xor_ring.add a b < 2 ^ 64 = mod_below (bit_xor a b) (2 ^ 64) (pow_pos 64) in
    ap (λ w. xor_ring.add w (g c)) two
    ∙ xor-word (g (xor_ring.add a b)) (g c) (words (xor_ring.add a b) ab) (words c hc)
    ∙ through (xor_ring.add a b) c ab hc
    ∙ sym (ap g (xor-word (xor_ring.add a b) c ab hc))

-- ---- shifts

pub shifted_up-word : (count x : ℕ) → x < 2 ^ 64 → x * 2 ^ count % 2 ^ 64 < 2 ^ 64
shifted_up-word count x h = mod_below (x * 2 ^ count) (2 ^ 64) (pow_pos 64)

xor-times : (count x y : ℕ) → bit_xor (x * 2 ^ count) (y * 2 ^ count) ≡ bit_xor x y * 2 ^ count
xor-times count x y =
    let a : x * 2 ^ count + 0 ≡ x * 2 ^ count = omega arith in
    let b : y * 2 ^ count + 0 ≡ y * 2 ^ count = omega arith in
    ap (λ w. bit_xor w (y * 2 ^ count)) (sym a)
    ∙ ap (bit_xor (x * 2 ^ count + 0)) (sym b)
    ∙ xor_block count x y 0 0 (pow_pos count) (pow_pos count)
    ∙ none (bit_xor x y * 2 ^ count)
  where
    none : (n : ℕ) → n + 0 ≡ n
    none n = omega arith

pub shifted_up-xor :
    (count x y : ℕ) → x < 2 ^ 64 → y < 2 ^ 64 →
    bit_xor (x * 2 ^ count % 2 ^ 64) (y * 2 ^ count % 2 ^ 64) ≡ bit_xor x y * 2 ^ count % 2 ^ 64
shifted_up-xor count x y hx hy =
    sym (xor_mod (x * 2 ^ count) (y * 2 ^ count) 64) ∙ ap (λ n. n % 2 ^ 64) (xor-times count x y)

pub shifted_down-word : (count x : ℕ) → x < 2 ^ 64 → x / 2 ^ count < 2 ^ 64
shifted_down-word count x h = let le = div-le_self x (2 ^ count) in omega arith

pub shifted_down-xor : (count x y : ℕ) → x < 2 ^ 64 → y < 2 ^ 64 → bit_xor (x / 2 ^ count) (y / 2 ^ count) ≡ bit_xor x y / 2 ^ count
shifted_down-xor count x y hx hy = sym (xor_shr x y count)

-- ---- single bits

pub low-word : (x : ℕ) → x < 2 ^ 64 → x % 2 < 2 ^ 64
low-word x h = omega arith

pub low-xor : (x y : ℕ) → x < 2 ^ 64 → y < 2 ^ 64 → bit_xor (x % 2) (y % 2) ≡ bit_xor x y % 2
low-xor x y hx hy = sym (xor_mod x y 1)

pub bit-word : (k x : ℕ) → x < 2 ^ 64 → bit_at x k < 2 ^ 64
bit-word k x h = let l = bit_at-lt x k in omega arith

xor-small : (p q : ℕ) → p < 2 → q < 2 → bit_xor p q ≡ (p + q) % 2
xor-small p q hp hq =
    let l : bit_xor p q < 2 = xor_lt 1 p q hp hq in
    let e : bit_xor p q % 2 ≡ (p % 2 + q % 2) % 2 = bit-xor p q in
    omega arith

pub bit-through : (k x y : ℕ) → x < 2 ^ 64 → y < 2 ^ 64 → bit_xor (bit_at x k) (bit_at y k) ≡ bit_at (bit_xor x y) k
bit-through k x y hx hy = xor-small (bit_at x k) (bit_at y k) (bit_at-lt x k) (bit_at-lt y k) ∙ sym (bit_at_xor x y k)

-- ---- bits turned round

pub turned-word : (x : ℕ) → x < 2 ^ 64 → bit_not w64 x < 2 ^ 64
turned-word x h = omega arith

turned-bit : (p q : ℕ) → p < 2 → q < 2 → (1 - p + q) % 2 ≡ 1 - (p + q) % 2
turned-bit p q hp hq = omega arith

pub turned-xor : (x y : ℕ) → x < 2 ^ 64 → y < 2 ^ 64 → bit_xor (bit_not w64 x) y ≡ bit_not w64 (bit_xor x y)
turned-xor x y hx hy =
    same_from_bits_below 64 _ _ (xor_lt 64 (bit_not w64 x) y (turned-word x hx) hy) (turned-word (bit_xor x y) (xor_lt 64 x y hx hy))
    (λ k h.
    bit_at_xor (bit_not w64 x) y k
    ∙ ap (λ n. (n + bit_at y k) % 2) (bit_at_not w64 x k hx h)
    ∙ turned-bit (bit_at x k) (bit_at y k) (bit_at-lt x k) (bit_at-lt y k)
    ∙ sym (ap (λ n. 1 - n) (bit_at_xor x y k))
    ∙ sym (bit_at_not w64 (bit_xor x y) k (xor_lt 64 x y hx hy) h))

-- where one of three is turned, so is the sum
pub sum-turned :
    (a b c : ℕ) → a < 2 ^ 64 → b < 2 ^ 64 → c < 2 ^ 64 → sum_of xor_ring (bit_not w64 a) b c ≡ bit_not w64 (sum_of xor_ring a b c)
sum-turned a b c ha hb hc =
    let ab : xor_ring.add a b < 2 ^ 64 = mod_below (bit_xor a b) (2 ^ 64) (pow_pos 64) in
    let two : xor_ring.add (bit_not w64 a) b ≡ bit_not w64 (xor_ring.add a b) =
    xor-word (bit_not w64 a) b (turned-word a ha) hb ∙ turned-xor a b ha hb ∙ sym (ap (bit_not w64) (xor-word a b ha hb)) in
    ap (λ w. xor_ring.add w c) two
    ∙ xor-word (bit_not w64 (xor_ring.add a b)) c (turned-word (xor_ring.add a b) ab) hc
    ∙ turned-xor (xor_ring.add a b) c ab hc
    ∙ sym (ap (bit_not w64) (xor-word (xor_ring.add a b) c ab hc))
