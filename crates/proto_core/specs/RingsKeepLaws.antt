-- Both rings keep the laws.
use Rattle.std.specs.Prelude.{◌≡◌, ℕ, ◌+◌, ◌-◌, ◌*◌, ◌<◌, ◌^◌, ◌%◌, min, bit_xor, bit_and}
use Rattle.std.proofs.Common.{arith, sym, ◌∙◌, ap}
use Rattle.std.proofs.Math.Nat.{mul-add, add-mod-mod, mod-add-mod, mod_self, mod-eq_of_lt, mod-mod}
use Rattle.std.proofs.lemmas.Nat.{mod_below, pow_pos, mul-mod_first, mul-mod_second, and_comm, and_assoc, xor_comm, xor_mod, xor_lt, and_mod, and_mask}
use Rattle.std.proofs.lemmas.Nat.Bits.{same_from_bits, bit_at_and, bit_at_xor, bit_at-lt}
use Rattle.std.specs.Int.{bit_at}
use Rattle.std.specs.Int.Bits.{xor_self, xor_zero_r, xor_assoc}
use Rattle.proto_core.specs.Ring.{RingLaws}
use Rattle.proto_core.specs.Rings.{add_ring, xor_ring}

-- ---- modulo m

sum-assoc : (m x y z : ℕ) → ((x + y) % m + z) % m ≡ (x + (y + z) % m) % m
sum-assoc m x y z = simp (mod-add-mod, add-mod-mod) (ap (λ n. n % m) (omega arith))

difference_is : (m x k : ℕ) → (x + k) % m ≡ (x + k % m) % m
difference_is m x k = sym (add-mod-mod x k m)

cancels : (m x : ℕ) → 0 < m → (x + (m - x % m) % m) % m ≡ 0
cancels m x h =
    let low : x % m < m = mod_below x m h in
    add-mod-mod x (m - x % m) m ∙ sym (mod-add-mod x m (m - x % m))
    ∙ ap (λ n. n % m) (omega arith) ∙ mod_self m

product-assoc : (m x y z : ℕ) → ((x * y) % m * z) % m ≡ (x * ((y * z) % m)) % m
product-assoc m x y z = mul-mod_first (x * y) z m ∙ ap (λ n. n % m) (grind arith) ∙ sym (mul-mod_second x (y * z) m)

product-sum : (m x y z : ℕ) → (x * ((y + z) % m)) % m ≡ ((x * y) % m + (x * z) % m) % m
product-sum m x y z = simp (mul-mod_second, mod-add-mod, add-mod-mod) (ap (λ n. n % m) (mul-add x y z))

pub add_ring_laws : RingLaws add_ring
add_ring_laws =
    record {
      zero_word = omega arith;
      add_word = λ x y. mod_below (x + y) (2 ^ 64) (omega arith);
      neg_word = λ x. mod_below (2 ^ 64 - x % 2 ^ 64) (2 ^ 64) (omega arith);
      sub_word = λ x y. mod_below (x + (2 ^ 64 - y % 2 ^ 64)) (2 ^ 64) (omega arith);
      mul_word = λ x y. mod_below (x * y) (2 ^ 64) (omega arith);
      add_comm = λ x y. ap (λ n. n % 2 ^ 64) (omega arith);
      add_assoc = sum-assoc (2 ^ 64);
      add_zero = λ x h. omega arith;
      sub_is = λ x y. difference_is (2 ^ 64) x (2 ^ 64 - y % 2 ^ 64);
      cancel = λ x. cancels (2 ^ 64) x (omega arith);
      mul_comm = λ x y. ap (λ n. n % 2 ^ 64) (grind arith);
      mul_assoc = product-assoc (2 ^ 64);
      mul_one = λ x h. omega arith;
      mul_add = product-sum (2 ^ 64);
    }

-- ---- bit by bit

-- bits, as 0 and 1, keep the distributive law
bits_and-xor : (c a b : ℕ) → c < 2 → a < 2 → b < 2 → min c ((a + b) % 2) ≡ (min c a + min c b) % 2
bits_and-xor c a b hc ha hb = omega arith

bit_and-xor : (c a b : ℕ) → bit_and c (bit_xor a b) ≡ bit_xor (bit_and c a) (bit_and c b)
bit_and-xor c a b =
    same_from_bits _ _
    (λ i.
    simp (bit_at_and, bit_at_xor)
    (bits_and-xor (bit_at c i) (bit_at a i) (bit_at b i) (bit_at-lt c i) (bit_at-lt a i) (bit_at-lt b i)))

xor-mod_first : (k a b : ℕ) → bit_xor (a % 2 ^ k) b % 2 ^ k ≡ bit_xor a b % 2 ^ k
xor-mod_first k a b = xor_mod (a % 2 ^ k) b k ∙ ap (λ n. bit_xor n (b % 2 ^ k)) (mod-mod a (2 ^ k)) ∙ sym (xor_mod a b k)

xor-mod_second : (k a b : ℕ) → bit_xor a (b % 2 ^ k) % 2 ^ k ≡ bit_xor a b % 2 ^ k
xor-mod_second k a b = xor_mod a (b % 2 ^ k) k ∙ ap (bit_xor (a % 2 ^ k)) (mod-mod b (2 ^ k)) ∙ sym (xor_mod a b k)

and-mod_first : (k a b : ℕ) → bit_and (a % 2 ^ k) b % 2 ^ k ≡ bit_and a b % 2 ^ k
and-mod_first k a b = and_mod (a % 2 ^ k) b k ∙ ap (λ n. bit_and n (b % 2 ^ k)) (mod-mod a (2 ^ k)) ∙ sym (and_mod a b k)

and-mod_second : (k a b : ℕ) → bit_and a (b % 2 ^ k) % 2 ^ k ≡ bit_and a b % 2 ^ k
and-mod_second k a b = and_mod a (b % 2 ^ k) k ∙ ap (bit_and (a % 2 ^ k)) (mod-mod b (2 ^ k)) ∙ sym (and_mod a b k)

xored-assoc : (k x y z : ℕ) → bit_xor (bit_xor x y % 2 ^ k) z % 2 ^ k ≡ bit_xor x (bit_xor y z % 2 ^ k) % 2 ^ k
xored-assoc k x y z = xor-mod_first k (bit_xor x y) z ∙ ap (λ n. n % 2 ^ k) (xor_assoc x y z) ∙ sym (xor-mod_second k x (bit_xor y z))

anded-assoc : (k x y z : ℕ) → bit_and (bit_and x y % 2 ^ k) z % 2 ^ k ≡ bit_and x (bit_and y z % 2 ^ k) % 2 ^ k
anded-assoc k x y z = and-mod_first k (bit_and x y) z ∙ ap (λ n. n % 2 ^ k) (and_assoc z x y) ∙ sym (and-mod_second k x (bit_and y z))

anded-xored : (k x y z : ℕ) → bit_and x (bit_xor y z % 2 ^ k) % 2 ^ k ≡ bit_xor (bit_and x y % 2 ^ k) (bit_and x z % 2 ^ k) % 2 ^ k
anded-xored k x y z =
    and-mod_second k x (bit_xor y z) ∙ ap (λ n. n % 2 ^ k) (bit_and-xor x y z)
    ∙ sym (xor-mod_first k (bit_and x y) (bit_and x z % 2 ^ k) ∙ xor-mod_second k (bit_and x y) (bit_and x z))

xored_zero : (k x : ℕ) → x < 2 ^ k → bit_xor x 0 % 2 ^ k ≡ x
xored_zero k x h = ap (λ n. n % 2 ^ k) (xor_zero_r x) ∙ mod-eq_of_lt h

xored_self : (k x : ℕ) → bit_xor x (x % 2 ^ k) % 2 ^ k ≡ 0
xored_self k x = xor-mod_second k x x ∙ ap (λ n. n % 2 ^ k) (xor_self x) ∙ mod-eq_of_lt (pow_pos k)

anded_ones : (k x : ℕ) → x < 2 ^ k → bit_and x (2 ^ k - 1) % 2 ^ k ≡ x
anded_ones k x h = ap (λ n. n % 2 ^ k) (and_mask x k) ∙ mod-mod x (2 ^ k) ∙ mod-eq_of_lt h

pub xor_ring_laws : RingLaws xor_ring
xor_ring_laws =
    record {
      zero_word = omega arith;
      add_word = λ x y. mod_below (bit_xor x y) (2 ^ 64) (omega arith);
      neg_word = λ x. mod_below x (2 ^ 64) (omega arith);
      sub_word = λ x y. mod_below (bit_xor x y) (2 ^ 64) (omega arith);
      mul_word = λ x y. mod_below (bit_and x y) (2 ^ 64) (omega arith);
      add_comm = λ x y. ap (λ n. n % 2 ^ 64) (xor_comm x y);
      add_assoc = xored-assoc 64;
      add_zero = xored_zero 64;
      sub_is = λ x y. sym (xor-mod_second 64 x y);
      cancel = xored_self 64;
      mul_comm = λ x y. ap (λ n. n % 2 ^ 64) (and_comm x y);
      mul_assoc = anded-assoc 64;
      mul_one = anded_ones 64;
      mul_add = anded-xored 64;
    }

-- what a word's xor is in the ring
pub xor_is_word : (x y : ℕ) → x < 2 ^ 64 → y < 2 ^ 64 → bit_xor x y ≡ bit_xor x y % 2 ^ 64
xor_is_word x y h k = sym (mod-eq_of_lt (xor_lt 64 x y h k))
