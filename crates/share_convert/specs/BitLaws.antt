-- Lowest bits, element by element: what they are of an xor, and what undoes itself.
use Rattle.std.proofs.Common.{◌≡◌, ℕ, zero, suc, ◌<◌, ◌^◌, ◌+◌, ◌-◌, ◌%◌, true, List, [], ◌∷◌, length, refl, sym, ◌∙◌, ap, arith, inl, inr, bit_xor}
use Rattle.std.specs.List.{list_all}
use Rattle.std.specs.Int.Bits.{xor_self, xor_zero_r, xor_assoc}
use Rattle.std.proofs.lemmas.Nat.{xor_lt, mod_below}
use Rattle.std.proofs.lemmas.Nat.Bits.{bit_at_lowest, bit_at_xor}
use Rattle.std.proofs.lemmas.Bool.{cases_lt}
use Rattle.proto_core.specs.Rings.{add_ring}
use Rattle.proto_core.specs.RingsKeepLaws.{add_ring_laws}
use Rattle.proto_core.proofs.Sums.{sub-sub}
use Rattle.proto_core.specs.Lists.{at, each, AreWords}
use Rattle.proto_core.specs.Strand.{is_bit}
use Rattle.proto_core.proofs.Each.{length-each, at-each, at-each_past, each-ext, each-is, AreWords-each}
use Rattle.proto_core.proofs.MessageFields.{both_true}
use Rattle.proto_core.proofs.Refusing.{bit_test}
use Rattle.share_convert.specs.Bits.{bit, bits, xor_bits, xor_bits_of_three, bits_less, chosen}
use Rattle.share_convert.specs.Converting.{flipped}

-- ---- one element

-- a bit of an xor, by the bits
pub bit-xor : (x y : ℕ) → bit (bit_xor x y) ≡ (x % 2 + y % 2) % 2
bit-xor x y = simp bit_at_lowest at (bit_at_xor x y 0)

pub bit-bit : (x : ℕ) → bit (bit x) ≡ bit x
bit-bit x = omega arith

pub bit-bit_second : (x y : ℕ) → bit (bit_xor x (bit y)) ≡ bit (bit_xor x y)
bit-bit_second x y = bit-xor x (bit y) ∙ omega arith ∙ sym (bit-xor x y)

pub bit-bit_first : (x y : ℕ) → bit (bit_xor (bit x) y) ≡ bit (bit_xor x y)
bit-bit_first x y = bit-xor (bit x) y ∙ omega arith ∙ sym (bit-xor x y)

xor-twice : (x y : ℕ) → bit_xor (bit_xor x y) y ≡ x
xor-twice x y = xor_assoc x y y ∙ ap (bit_xor x) (xor_self y) ∙ xor_zero_r x

xor-bit_word : (x y : ℕ) → x < 2 ^ 64 → bit_xor x (bit y) < 2 ^ 64
xor-bit_word x y h =
    let small : bit y < 2 = mod_below y 2 (omega arith) in
    let word : bit y < 2 ^ 64 = omega arith in
    xor_lt 64 x (bit y) h word

bit-below : (x : ℕ) → bit x < 2
bit-below x = mod_below x 2 (omega arith)

-- ---- lengths

pub length-bits : (n : ℕ) (x : List ℕ) → length (bits n x) ≡ n
unfolding bits
length-bits n x = length-each n _

pub length-xor_bits : (n : ℕ) (x y : List ℕ) → length (xor_bits n x y) ≡ n
unfolding xor_bits
length-xor_bits n x y = length-each n _

pub length-xor_bits_of_three : (n : ℕ) (x y z : List ℕ) → length (xor_bits_of_three n x y z) ≡ n
unfolding xor_bits_of_three
length-xor_bits_of_three n x y z = length-each n _

pub length-bits_less : (n : ℕ) (x y m : List ℕ) → length (bits_less n x y m) ≡ n
unfolding bits_less
length-bits_less n x y m = length-each n _

pub length-flipped : (n : ℕ) (x y : List ℕ) → length (flipped n x y) ≡ n
unfolding flipped
length-flipped n x y = length-each n _

-- ---- words and bits

pub AreWords-bits_less : (n : ℕ) (x y m : List ℕ) → AreWords (bits_less n x y m)
unfolding bits_less
AreWords-bits_less n x y m = AreWords-each n _ (λ k. add_ring_laws.sub_word _ _)

pub AreWords-flipped : (n : ℕ) (x y : List ℕ) → AreWords x → AreWords (flipped n x y)
unfolding flipped
AreWords-flipped n x y words = AreWords-each n _ (λ k. xor-bit_word (at x k) (at y k) (words k))

abbrev pub AreAllBits : List ℕ → Type 0
AreAllBits xs = (k : ℕ) → at xs k < 2

AreAllBits-each : (n : ℕ) (f : ℕ → ℕ) → ((k : ℕ) → f k < 2) → AreAllBits (each n f)
AreAllBits-each n f h k =
    elim (cases_lt k n) as (λ c. at (each n f) k < 2)
    [ inl below ↦ small _ _ (at-each n f k below) (h k) | inr past ↦ small _ _ (at-each_past n f k past) (omega arith) ]
  where
    small : (x y : ℕ) → x ≡ y → y < 2 → x < 2
    small x y e l = omega arith

pub AreAllBits-bits : (n : ℕ) (x : List ℕ) → AreAllBits (bits n x)
unfolding bits
AreAllBits-bits n x = AreAllBits-each n _ (λ k. bit-below _)

pub AreAllBits-xor_bits : (n : ℕ) (x y : List ℕ) → AreAllBits (xor_bits n x y)
unfolding xor_bits
AreAllBits-xor_bits n x y = AreAllBits-each n _ (λ k. bit-below _)

pub AreAllBits-xor_bits_of_three : (n : ℕ) (x y z : List ℕ) → AreAllBits (xor_bits_of_three n x y z)
unfolding xor_bits_of_three
AreAllBits-xor_bits_of_three n x y z = AreAllBits-each n _ (λ k. bit-below _)

pub all-bits : (xs : List ℕ) → AreAllBits xs → list_all is_bit xs ≡ true
all-bits [] h = refl
all-bits (x ∷ xs) h = both_true _ _ (bit_test x (h 0)) (all-bits xs (λ k. h (suc k)))

pub AreWords-all_bits : (xs : List ℕ) → AreAllBits xs → AreWords xs
AreWords-all_bits xs h k = let b : at xs k < 2 = h k in omega arith

-- ---- equations of lists

pub bits-flipped : (n : ℕ) (x y : List ℕ) → bits n (flipped n x y) ≡ xor_bits n x y
unfolding bits flipped xor_bits
bits-flipped n x y = each-ext n _ _ (λ k h. simp (at-each, h) (bit-bit_second (at x k) (at y k)))

pub bits-flipped_by_two : (n : ℕ) (x y z : List ℕ) → bits n (flipped n x (xor_bits n y z)) ≡ xor_bits_of_three n x y z
unfolding bits flipped xor_bits xor_bits_of_three
bits-flipped_by_two n x y z =
    each-ext n _ _
    (λ k h.
    simp (at-each, h, bit-bit)
    (bit-bit_second (at x k) (bit_xor (at y k) (at z k)) ∙ sym (ap bit (xor_assoc (at x k) (at y k) (at z k)))))

pub flipped-twice : (n : ℕ) (x y : List ℕ) → length x ≡ n → flipped n (flipped n x y) y ≡ x
unfolding flipped
flipped-twice n x y e = each-is n _ x e (λ k h. simp (at-each, h) (xor-twice (at x k) (bit (at y k))))

pub bits_less-twice : (n : ℕ) (x y m : List ℕ) → length m ≡ n → AreWords m → bits_less n x y (bits_less n x y m) ≡ m
unfolding bits_less
bits_less-twice n x y m e words = each-is n _ m e (λ k h. simp (at-each, h) (sub-sub add_ring_laws _ (at m k) (words k)))

-- what is sent, by the bits of e
pub xor_bits-bits : (n : ℕ) (x y : List ℕ) → xor_bits n (bits n x) y ≡ xor_bits n x y
unfolding bits xor_bits
xor_bits-bits n x y = each-ext n _ _ (λ k h. simp (at-each, h) (bit-bit_first (at x k) (at y k)))

pub xor_bits-xor_bits : (n : ℕ) (x y z : List ℕ) → xor_bits n (xor_bits n x y) z ≡ xor_bits_of_three n x y z
unfolding xor_bits xor_bits_of_three
xor_bits-xor_bits n x y z = each-ext n _ _ (λ k h. simp (at-each, h) (bit-bit_first (bit_xor (at x k) (at y k)) (at z k)))

choice_of : (b e u2 u3 : ℕ) → bit (bit_xor (bit (bit_xor e u2)) (bit (bit_xor (bit_xor b e) u3))) ≡ bit (bit_xor (bit_xor b u2) u3)
choice_of b e u2 u3 =
    omega (
      arith,
      bit-xor (bit (bit_xor e u2)) (bit (bit_xor (bit_xor b e) u3)),
      bit-xor (bit_xor b e) u3,
      bit-xor b e,
      bit-xor e u2,
      bit-xor (bit_xor b u2) u3,
      bit-xor b u2,
    )

-- what miners 2 and 3 send each other is, xored, the choice
pub choice-is : (n : ℕ) (b e u2 u3 : List ℕ) → xor_bits n (xor_bits n e u2) (xor_bits_of_three n b e u3) ≡ xor_bits_of_three n b u2 u3
unfolding xor_bits xor_bits_of_three
choice-is n b e u2 u3 = each-ext n _ _ (λ k h. simp (at-each, h) (choice_of (at b k) (at e k) (at u2 k) (at u3 k)))

-- ---- the sum

-- with the choice 0 the two bits are the same, with 1 they differ
choice_zero : (b u1 u2 u3 : ℕ) → bit (bit_xor (bit_xor b u2) u3) ≡ 0 → bit (bit_xor b u1) ≡ bit (bit_xor (bit_xor u1 u2) u3)
choice_zero b u1 u2 u3 e = omega (arith, bit-xor (bit_xor b u2) u3, bit-xor b u2, bit-xor b u1, bit-xor (bit_xor u1 u2) u3, bit-xor u1 u2)

choice_one : (b u1 u2 u3 : ℕ) → bit (bit_xor (bit_xor b u2) u3) ≡ 1 → 1 - bit (bit_xor b u1) ≡ bit (bit_xor (bit_xor u1 u2) u3)
choice_one b u1 u2 u3 e = omega (arith, bit-xor (bit_xor b u2) u3, bit-xor b u2, bit-xor b u1, bit-xor (bit_xor u1 u2) u3, bit-xor u1 u2)

summed_zero : (x m : ℕ) → x < 2 → add_ring.add (add_ring.add 0 m) (add_ring.sub x m) ≡ x
summed_zero x m h = omega arith

summed_one : (x m : ℕ) → x < 2 → add_ring.add (add_ring.add 0 (add_ring.sub 1 m)) (add_ring.neg (add_ring.sub x m)) ≡ 1 - x
summed_one x m h = omega arith

-- m, f and their opposites add up
summed_at :
    (s b u1 u2 u3 m : ℕ) → s < 2 → bit (bit_xor (bit_xor b u2) u3) ≡ s →
    let f = add_ring.sub (bit (bit_xor b u1)) m in
    add_ring.add (add_ring.add 0 (chosen s m (add_ring.sub 1 m))) (chosen s f (add_ring.neg f)) ≡ bit (bit_xor (bit_xor u1 u2) u3)
summed_at zero b u1 u2 u3 m h e = summed_zero (bit (bit_xor b u1)) m (bit-below _) ∙ choice_zero b u1 u2 u3 e
summed_at (suc zero) b u1 u2 u3 m h e = summed_one (bit (bit_xor b u1)) m (bit-below _) ∙ choice_one b u1 u2 u3 e
summed_at (suc (suc s)) b u1 u2 u3 m h e = absurd (omega arith)

pub summed :
    (b u1 u2 u3 m : ℕ) →
    let s = bit (bit_xor (bit_xor b u2) u3) in
    let f = add_ring.sub (bit (bit_xor b u1)) m in
    add_ring.add (add_ring.add 0 (chosen s m (add_ring.sub 1 m))) (chosen s f (add_ring.neg f)) ≡ bit (bit_xor (bit_xor u1 u2) u3)
summed b u1 u2 u3 m = summed_at (bit (bit_xor (bit_xor b u2) u3)) b u1 u2 u3 m (bit-below _) refl
