-- Three lists of words whose xor is a fourth: what is done with each of them makes three whose xor is what is done with the fourth.
use Rattle.std.proofs.Common.{◌≡◌, ℕ, zero, suc, ◌+◌, ◌-◌, ◌*◌, ◌/◌, ◌%◌, ◌^◌, ◌<◌, ◌≤◌, ◌⊎◌, inl, inr, Bool, true, false, cond, List, [], ◌∷◌, length}
use Rattle.std.proofs.Common.{refl, sym, ◌∙◌, ap, subst, arith, nat_lt, ◌==◌, bit_xor}
use Rattle.std.specs.Int.{bit_at}
use Rattle.std.proofs.Math.Nat.{mod-eq_of_lt}
use Rattle.std.proofs.lemmas.Bool.{cases_lt}
use Rattle.std.proofs.lemmas.Nat.{xor_lt}
use Rattle.std.proofs.lemmas.Nat.Bits.{bit_at_xor, bit_at_lowest}
use Rattle.proto_core.specs.Words.{AreWords}
use Rattle.proto_core.specs.Rings.{xor_ring}
use Rattle.bit_words.specs.Bits.{bit_of, words_with}
use Rattle.bit_words.specs.Gathered.{word, packed, unpacked, bits_repeated, bit_taken, bit_put, bits_joined, changed_at, joined_at}
use Rattle.bit_words.specs.Laws.{AddUp}
use Rattle.bit_words.proofs.BitLists.{words_with-ext, words_with-xor, words_with-words, length-words_with, bit_of-past, bit_of-lt, word-each_two}
use Rattle.bit_words.proofs.Packing.{word-unpacked, length-unpacked, unpacked-bits}

abbrev sum : ℕ → ℕ → ℕ → ℕ
sum x y z = xor_ring.add (xor_ring.add x y) z

-- ---- bits

three : (a b c : ℕ) → ((a + b) % 2 + c) % 2 ≡ (a + b + c) % 2
three a b c = omega arith

bit-sum : (x y z i : ℕ) → x < 2 ^ 64 → y < 2 ^ 64 → z < 2 ^ 64 → bit_at (sum x y z) i ≡ (bit_at x i + bit_at y i + bit_at z i) % 2
bit-sum x y z i hx hy hz =
    let two : xor_ring.add x y ≡ bit_xor x y = mod-eq_of_lt (xor_lt 64 x y hx hy) in
    let small : bit_xor x y < 2 ^ 64 = xor_lt 64 x y hx hy in
    ap (λ w. bit_at (xor_ring.add w z) i) two ∙ ap (λ w. bit_at w i) (mod-eq_of_lt (xor_lt 64 (bit_xor x y) z small hz))
    ∙ bit_at_xor (bit_xor x y) z i ∙ ap (λ b. (b + bit_at z i) % 2) (bit_at_xor x y i) ∙ three (bit_at x i) (bit_at y i) (bit_at z i)

module _ {a b c xs : List ℕ} (t : AddUp a b c xs) where
  pub bit_of-sum : (k : ℕ) → bit_of xs k ≡ (bit_of a k + bit_of b k + bit_of c k) % 2
  bit_of-sum k = go (cases_lt (k / 64) (length xs))
    where
      none : (p q r : ℕ) → p ≡ 0 → q ≡ 0 → r ≡ 0 → 0 ≡ (p + q + r) % 2
      none p q r e f g = omega arith

      go : (k / 64 < length xs) ⊎ (length xs ≤ k / 64) → bit_of xs k ≡ (bit_of a k + bit_of b k + bit_of c k) % 2
      go (inl there) =
          ap (λ x. bit_at x (k % 64)) (sym (t.sums (k / 64) there))
          ∙ bit-sum (word a (k / 64)) (word b (k / 64)) (word c (k / 64)) (k % 64) (t.words_first (k / 64)) (t.words_second (k / 64)) (t.words_third (k / 64))
      go (inr past) =
          bit_of-past xs k past
          ∙ none _ _ _ (bit_of-past a k (omega (arith, past, t.first))) (bit_of-past b k (omega (arith, past, t.second)))
          (bit_of-past c k (omega (arith, past, t.third)))

  -- bit 0 of each word
  pub parity-sum : (j : ℕ) → j < length xs → word xs j % 2 ≡ (word a j + word b j + word c j) % 2
  parity-sum j l =
      ap (λ x. x % 2) (sym (t.sums j l)) ∙ sym (bit_at_lowest (sum (word a j) (word b j) (word c j)))
      ∙ bit-sum (word a j) (word b j) (word c j) 0 (t.words_first j) (t.words_second j) (t.words_third j)
      ∙ ap (λ x. (x + bit_at (word b j) 0 + bit_at (word c j) 0) % 2) (bit_at_lowest (word a j))
      ∙ ap (λ x. (word a j % 2 + x + bit_at (word c j) 0) % 2) (bit_at_lowest (word b j))
      ∙ ap (λ x. (word a j % 2 + word b j % 2 + x) % 2) (bit_at_lowest (word c j))
      ∙ parities (word a j) (word b j) (word c j)
    where
      parities : (x y z : ℕ) → (x % 2 + y % 2 + z % 2) % 2 ≡ (x + y + z) % 2
      parities x y z = omega arith

-- ---- words of bits

pub words_with-sum : (n : ℕ) (f g h e : ℕ → ℕ) → ((k : ℕ) → k < n → e k % 2 ≡ (f k + g k + h k) % 2)
    → AddUp (words_with n f) (words_with n g) (words_with n h) (words_with n e)
words_with-sum n f g h e same =
    record {
      first = length-words_with n f ∙ sym (length-words_with n e);
      second = length-words_with n g ∙ sym (length-words_with n e);
      third = length-words_with n h ∙ sym (length-words_with n e);
      words_first = words_with-words n f;
      words_second = words_with-words n g;
      words_third = words_with-words n h;
      sums = sums;
    }
  where
    two : length (words_with n f) ≡ length (words_with n g)
    two = length-words_with n f ∙ sym (length-words_with n g)

    all : length (words_with n (λ k. f k + g k)) ≡ length (words_with n h)
    all = length-words_with n (λ k. f k + g k) ∙ sym (length-words_with n h)

    sums : (j : ℕ) → j < length (words_with n e) → sum (word (words_with n f) j) (word (words_with n g) j) (word (words_with n h) j) ≡ word (words_with n e) j
    sums j l =
        let in_first : j < length (words_with n f) = omega (arith, l, length-words_with n f, length-words_with n e) in
        let in_both : j < length (words_with n (λ k. f k + g k)) = omega (arith, l, length-words_with n (λ k. f k + g k), length-words_with n e) in
        ap (λ x. xor_ring.add x (word (words_with n h) j))
        (sym (word-each_two xor_ring.add (words_with n f) (words_with n g) j in_first two) ∙ ap (λ l. word l j) (words_with-xor n f g))
        ∙ sym (word-each_two xor_ring.add (words_with n (λ k. f k + g k)) (words_with n h) j in_both all)
        ∙ ap (λ l. word l j) (words_with-xor n (λ k. f k + g k) h ∙ words_with-ext n (λ k. f k + g k + h k) e (λ k lt. sym (same k lt)))

-- ---- each of the gates

-- as many words, and the same function of their bits
module _ {a b c xs : List ℕ} (t : AddUp a b c xs) where
  pub packed-sum : AddUp (packed a) (packed b) (packed c) (packed xs)
  unfolding packed
  packed-sum =
      subst (λ n. AddUp (words_with n (word a)) (words_with (length b) (word b)) (words_with (length c) (word c)) (words_with (length xs) (word xs))) (sym t.first)
      (subst (λ n. AddUp (words_with (length xs) (word a)) (words_with n (word b)) (words_with (length c) (word c)) (words_with (length xs) (word xs))) (sym t.second)
      (subst (λ n. AddUp (words_with (length xs) (word a)) (words_with (length xs) (word b)) (words_with n (word c)) (words_with (length xs) (word xs))) (sym t.third)
      (words_with-sum (length xs) (word a) (word b) (word c) (word xs) (parity-sum t))))

  twice : (x y : ℕ) → x ≡ y % 2 → x % 2 ≡ y % 2
  twice x y e = omega arith

  pub repeated-sum : (n : ℕ) → AddUp (bits_repeated a n) (bits_repeated b n) (bits_repeated c n) (bits_repeated xs n)
  unfolding bits_repeated
  repeated-sum n =
      words_with-sum n (λ k. bit_of a 0) (λ k. bit_of b 0) (λ k. bit_of c 0) (λ k. bit_of xs 0)
      (λ k l. twice (bit_of xs 0) (bit_of a 0 + bit_of b 0 + bit_of c 0) (bit_of-sum t 0))

  -- sums of single bits are those of words
  bits-add : (p q r s : ℕ) → p < 2 → q < 2 → r < 2 → s ≡ (p + q + r) % 2 → sum p q r ≡ s
  bits-add zero zero zero s hp hq hr e = sym e
  bits-add zero zero (suc zero) s hp hq hr e = sym e
  bits-add zero (suc zero) zero s hp hq hr e = sym e
  bits-add zero (suc zero) (suc zero) s hp hq hr e = sym e
  bits-add (suc zero) zero zero s hp hq hr e = sym e
  bits-add (suc zero) zero (suc zero) s hp hq hr e = sym e
  bits-add (suc zero) (suc zero) zero s hp hq hr e = sym e
  bits-add (suc zero) (suc zero) (suc zero) s hp hq hr e = sym e
  bits-add (suc (suc p)) q r s hp hq hr e = absurd (omega arith)
  bits-add zero (suc (suc q)) r s hp hq hr e = absurd (omega arith)
  bits-add (suc zero) (suc (suc q)) r s hp hq hr e = absurd (omega arith)
  bits-add zero zero (suc (suc r)) s hp hq hr e = absurd (omega arith)
  bits-add zero (suc zero) (suc (suc r)) s hp hq hr e = absurd (omega arith)
  bits-add (suc zero) zero (suc (suc r)) s hp hq hr e = absurd (omega arith)
  bits-add (suc zero) (suc zero) (suc (suc r)) s hp hq hr e = absurd (omega arith)

  small : (words : List ℕ) (n : ℕ) → AreWords (unpacked words n)
  small words n k = let l = unpacked-bits words n k in omega arith

  pub unpacked-sum : (n : ℕ) → AddUp (unpacked a n) (unpacked b n) (unpacked c n) (unpacked xs n)
  unpacked-sum n =
      record {
        first = length-unpacked a n ∙ sym (length-unpacked xs n);
        second = length-unpacked b n ∙ sym (length-unpacked xs n);
        third = length-unpacked c n ∙ sym (length-unpacked xs n);
        words_first = small a n;
        words_second = small b n;
        words_third = small c n;
        sums = λ j l. let inside : j < n = omega (arith, l, length-unpacked xs n) in
            ap (λ x. sum x (word (unpacked b n) j) (word (unpacked c n) j)) (word-unpacked a n j inside)
            ∙ ap (λ x. sum (bit_of a j) x (word (unpacked c n) j)) (word-unpacked b n j inside)
            ∙ ap (λ x. sum (bit_of a j) (bit_of b j) x) (word-unpacked c n j inside)
            ∙ bits-add (bit_of a j) (bit_of b j) (bit_of c j) (bit_of xs j) (bit_of-lt a j) (bit_of-lt b j) (bit_of-lt c j) (bit_of-sum t j)
            ∙ sym (word-unpacked xs n j inside);
      }

  one_word : (x : ℕ) → x < 2 → AreWords (x ∷ [])
  one_word x l zero = omega arith
  one_word x l (suc k) = omega arith

  at_one : (p q r s : ℕ) → sum p q r ≡ s → (j : ℕ) → j < 1 → sum (word (p ∷ []) j) (word (q ∷ []) j) (word (r ∷ []) j) ≡ word (s ∷ []) j
  at_one p q r s e zero l = e
  at_one p q r s e (suc j) l = absurd (omega arith)

  pub taken-sum : (i : ℕ) → AddUp (bit_taken a i) (bit_taken b i) (bit_taken c i) (bit_taken xs i)
  unfolding bit_taken
  taken-sum i =
      record {
        first = refl;
        second = refl;
        third = refl;
        words_first = one_word (bit_of a i) (bit_of-lt a i);
        words_second = one_word (bit_of b i) (bit_of-lt b i);
        words_third = one_word (bit_of c i) (bit_of-lt c i);
        sums = at_one (bit_of a i) (bit_of b i) (bit_of c i) (bit_of xs i)
            (bits-add (bit_of a i) (bit_of b i) (bit_of c i) (bit_of xs i) (bit_of-lt a i) (bit_of-lt b i) (bit_of-lt c i) (bit_of-sum t i));
      }

-- ---- of two values

module _ {a b c xs d e f ys : List ℕ} (t : AddUp a b c xs) (u : AddUp d e f ys) where
  two_ways : (x : Bool) (p q r s p' q' r' s' : ℕ) → s ≡ (p + q + r) % 2 → s' ≡ (p' + q' + r') % 2
      → cond x s s' % 2 ≡ (cond x p p' + cond x q q' + cond x r r') % 2
  two_ways true p q r s p' q' r' s' h k = omega arith
  two_ways false p q r s p' q' r' s' h k = omega arith

  pub put-sum : (i : ℕ) → AddUp (bit_put a i d) (bit_put b i e) (bit_put c i f) (bit_put xs i ys)
  unfolding bit_put
  put-sum i =
      let p = bit_of d 0 in
      let q = bit_of e 0 in
      let r = bit_of f 0 in
      let s = bit_of ys 0 in
      subst (λ n. AddUp (words_with (64 * n) (changed_at a i p)) (words_with (64 * length b) (changed_at b i q)) (words_with (64 * length c) (changed_at c i r))
      (words_with (64 * length xs) (changed_at xs i s))) (sym t.first)
      (subst (λ n. AddUp (words_with (64 * length xs) (changed_at a i p)) (words_with (64 * n) (changed_at b i q)) (words_with (64 * length c) (changed_at c i r))
      (words_with (64 * length xs) (changed_at xs i s))) (sym t.second)
      (subst (λ n. AddUp (words_with (64 * length xs) (changed_at a i p)) (words_with (64 * length xs) (changed_at b i q)) (words_with (64 * n) (changed_at c i r))
      (words_with (64 * length xs) (changed_at xs i s))) (sym t.third)
      (words_with-sum (64 * length xs) (changed_at a i p) (changed_at b i q) (changed_at c i r) (changed_at xs i s)
      (λ k l. two_ways (k == i) p q r s (bit_of a k) (bit_of b k) (bit_of c k) (bit_of xs k) (bit_of-sum u 0) (bit_of-sum t k)))))

  pub joined-sum : (n m : ℕ) → AddUp (bits_joined a n d m) (bits_joined b n e m) (bits_joined c n f m) (bits_joined xs n ys m)
  unfolding bits_joined
  joined-sum n m =
      words_with-sum (n + m) (joined_at a n d) (joined_at b n e) (joined_at c n f) (joined_at xs n ys)
      (λ k l. two_ways (nat_lt k n) (bit_of a k) (bit_of b k) (bit_of c k) (bit_of xs k) (bit_of d (k - n)) (bit_of e (k - n)) (bit_of f (k - n)) (bit_of ys (k - n))
      (bit_of-sum t k) (bit_of-sum u (k - n)))
