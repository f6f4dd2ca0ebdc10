-- What is done with truth values, done with their packed words.
use Rattle.std.proofs.Common.{◌≡◌, ℕ, zero, suc, ◌+◌, ◌-◌, ◌*◌, ◌/◌, ◌%◌, ◌<◌, ◌≤◌, ◌⊎◌, inl, inr, cond, List, [], ◌∷◌, ◌++◌, length, map, set}
use Rattle.std.proofs.Common.{refl, sym, ◌∙◌, ap, arith, min, nat_lt, replicate, lt-ltb, le-ltb, ext_get_or, length-append, length-set, eq-eqb, ne_eqb}
use Rattle.std.specs.List.{flat_map}
use Rattle.std.specs.Int.{bit_at}
use Rattle.std.proofs.Math.Nat.{mod-eq_of_lt}
use Rattle.std.proofs.lemmas.Bool.{cases_lt, cases_eq}
use Rattle.std.proofs.lemmas.List.Concat.{flat_map-cons}
use Rattle.std.proofs.lemmas.List.{length-map, get_or-map, get_or_append_left, get_or-append_right, get_or-set_same, get_or-set_other, get_or-replicate}
use Rattle.std.proofs.lemmas.List.{length-replicate, get_or_past}
use Rattle.std.proofs.lemmas.List.FromFn.{length-map-range_with_len, get_or-map-range_with_len}
use Rattle.proto_core.specs.Words.{AreWords}
use Rattle.proto_core.specs.Rings.{xor_ring}
use Rattle.bit_words.specs.Bits.{words_for, bit_of, number_with, words_with}
use Rattle.bit_words.specs.Gathered.{word, packed, unpacked, bits_repeated, bit_taken, bit_put, bits_joined, changed_at, joined_at}
use Rattle.bit_words.specs.Laws.{AreBits, each_two, word_bits}
use Rattle.bit_words.proofs.BitLists.{words_with-ext, words_with-xor, words_with-and, words_with_own, words_with-words, length-words_with, bit_of-words_with}
use Rattle.bit_words.proofs.BitLists.{bit_of-behind, bit_of-lt, length-each_two, word-each_two, same_words_from_bits}

pub length-packed : (xs : List ℕ) → length (packed xs) ≡ words_for (length xs)
unfolding packed
length-packed xs = length-words_with (length xs) (word xs)

pub packed-words : (xs : List ℕ) → AreWords (packed xs)
unfolding packed
packed-words xs = words_with-words (length xs) (word xs)

pub bit_of-packed : (xs : List ℕ) → AreBits xs → (k : ℕ) → k < length xs → bit_of (packed xs) k ≡ word xs k
unfolding packed
bit_of-packed xs p k h = bit_of-words_with (length xs) (word xs) k h ∙ mod-eq_of_lt (p k)

pub parity_of-packed : (xs : List ℕ) (k : ℕ) → k < length xs → bit_of (packed xs) k ≡ word xs k % 2
unfolding packed
parity_of-packed xs k h = bit_of-words_with (length xs) (word xs) k h

-- no surplus bits
pub none-behind : (xs : List ℕ) (k : ℕ) → length xs ≤ k → bit_of (packed xs) k ≡ 0
unfolding packed
none-behind xs k h = bit_of-behind (length xs) (word xs) k h

-- ---- there and back

pub length-unpacked : (words : List ℕ) (n : ℕ) → length (unpacked words n) ≡ n
unfolding unpacked
length-unpacked words n = length-map-range_with_len (bit_of words) 0 n

pub word-unpacked : (words : List ℕ) (n k : ℕ) → k < n → word (unpacked words n) k ≡ bit_of words k
unfolding unpacked
word-unpacked words n k h = get_or-map-range_with_len (bit_of words) 0 n k k 0 h (omega arith)

small_zero : (x : ℕ) → x ≡ 0 → x < 2
small_zero x e = omega arith

small_bit : (x y : ℕ) → x ≡ y → y < 2 → x < 2
small_bit x y e l = omega arith

pub unpacked-bits : (words : List ℕ) (n : ℕ) → AreBits (unpacked words n)
unpacked-bits words n k = go (cases_lt k n)
  where
    go : (k < n) ⊎ (n ≤ k) → word (unpacked words n) k < 2
    go (inl below) = small_bit _ _ (word-unpacked words n k below) (bit_of-lt words k)
    go (inr past) = small_zero _ (get_or_past (unpacked words n) k 0 (omega (arith, length-unpacked words n)))

pub unpacked-packed : (xs : List ℕ) → AreBits xs → unpacked (packed xs) (length xs) ≡ xs
unpacked-packed xs p =
    ext_get_or 0 (unpacked (packed xs) (length xs)) xs (length-unpacked (packed xs) (length xs))
    (λ k l. let below : k < length xs = omega (arith, length-unpacked (packed xs) (length xs)) in
    word-unpacked (packed xs) (length xs) k below ∙ bit_of-packed xs p k below)

-- by the bits of a list that is as long
pub packed-is : (xs : List ℕ) (n : ℕ) (f : ℕ → ℕ) → length xs ≡ n → ((k : ℕ) → k < n → word xs k % 2 ≡ f k % 2) → packed xs ≡ words_with n f
unfolding packed
packed-is xs n f long h = ap (λ m. words_with m (word xs)) long ∙ words_with-ext n (word xs) f h

pub packed-unpacked : (words : List ℕ) (n : ℕ) → AreWords words → length words ≡ words_for n → ((k : ℕ) → n ≤ k → k < 64 * length words → bit_of words k ≡ 0)
    → packed (unpacked words n) ≡ words
packed-unpacked words n p long none =
    packed-is (unpacked words n) n (bit_of words) (length-unpacked words n) (λ k l. ap (λ x. x % 2) (word-unpacked words n k l))
    ∙ words_with_own n words p long none

-- ---- operators

pub packed-xor : (h : ℕ → ℕ → ℕ) (xs ys : List ℕ) → length xs ≡ length ys
    → ((k : ℕ) → k < length xs → h (word xs k) (word ys k) % 2 ≡ (word xs k + word ys k) % 2)
    → packed (each_two h xs ys) ≡ each_two xor_ring.add (packed xs) (packed ys)
unfolding packed
packed-xor h xs ys e same =
    packed-is (each_two h xs ys) (length xs) (λ k. word xs k + word ys k) (length-each_two h xs ys e)
    (λ k l. ap (λ x. x % 2) (word-each_two h xs ys k l e) ∙ same k l)
    ∙ sym (words_with-xor (length xs) (word xs) (word ys))
    ∙ ap (λ n. each_two xor_ring.add (words_with (length xs) (word xs)) (words_with n (word ys))) e

pub packed-and : (h : ℕ → ℕ → ℕ) (xs ys : List ℕ) → length xs ≡ length ys
    → ((k : ℕ) → k < length xs → h (word xs k) (word ys k) % 2 ≡ min (word xs k % 2) (word ys k % 2) % 2)
    → packed (each_two h xs ys) ≡ each_two xor_ring.mul (packed xs) (packed ys)
unfolding packed
packed-and h xs ys e same =
    packed-is (each_two h xs ys) (length xs) (λ k. min (word xs k % 2) (word ys k % 2)) (length-each_two h xs ys e)
    (λ k l. ap (λ x. x % 2) (word-each_two h xs ys k l e) ∙ same k l)
    ∙ sym (words_with-and (length xs) (word xs) (word ys))
    ∙ ap (λ n. each_two xor_ring.mul (words_with (length xs) (word xs)) (words_with n (word ys))) e

-- ---- parts

pub packed-append : (xs ys : List ℕ) → packed (xs ++ ys) ≡ bits_joined (packed xs) (length xs) (packed ys) (length ys)
unfolding bits_joined
packed-append xs ys =
    packed-is (xs ++ ys) (length xs + length ys) (joined_at (packed xs) (length xs) (packed ys))
    (length-append xs ys) (λ k l. go k l (cases_lt k (length xs)))
  where
    once : (x : ℕ) → x % 2 ≡ x % 2 % 2
    once x = omega arith

    go : (k : ℕ) → k < length xs + length ys → (k < length xs) ⊎ (length xs ≤ k)
        → word (xs ++ ys) k % 2 ≡ cond (nat_lt k (length xs)) (bit_of (packed xs) k) (bit_of (packed ys) (k - length xs)) % 2
    go k l (inl below) =
        ap (λ x. x % 2) (get_or_append_left xs ys 0 k below) ∙ once (word xs k)
        ∙ ap (λ x. x % 2) (sym (parity_of-packed xs k below) ∙ sym (ap (λ t. cond t (bit_of (packed xs) k) (bit_of (packed ys) (k - length xs))) (lt-ltb k (length xs) below)))
    go k l (inr past) =
        let inside : k - length xs < length ys = omega arith in
        ap (λ x. x % 2) (get_or-append_right xs ys (length xs) k 0 refl past) ∙ once (word ys (k - length xs))
        ∙ ap (λ x. x % 2) (sym (parity_of-packed ys (k - length xs) inside)
        ∙ sym (ap (λ t. cond t (bit_of (packed xs) k) (bit_of (packed ys) (k - length xs))) (le-ltb k (length xs) past)))

one_parity : (x : ℕ) → bit_of (packed (x ∷ [])) 0 ≡ x % 2
one_parity x = parity_of-packed (x ∷ []) 0 (omega arith)

pub packed-replicate : (n x : ℕ) → packed (replicate n x) ≡ bits_repeated (packed (x ∷ [])) n
unfolding bits_repeated
packed-replicate n x =
    packed-is (replicate n x) n (λ k. bit_of (packed (x ∷ [])) 0) (length-replicate n x)
    (λ k l. ap (λ y. y % 2) (get_or-replicate n k x 0 l) ∙ once x ∙ ap (λ y. y % 2) (sym (one_parity x)))
  where
    once : (x : ℕ) → x % 2 ≡ x % 2 % 2
    once x = omega arith

-- a single element is its own word
pub packed-one : (x : ℕ) → x < 2 → packed (x ∷ []) ≡ x ∷ []
unfolding packed words_with number_with
packed-one zero h = refl
packed-one (suc zero) h = refl
packed-one (suc (suc x)) h = absurd (omega arith)

pub packed-taken : (xs : List ℕ) (i : ℕ) → AreBits xs → i < length xs → packed (word xs i ∷ []) ≡ bit_taken (packed xs) i
unfolding bit_taken
packed-taken xs i p l = packed-one (word xs i) (p i) ∙ ap (λ x. x ∷ []) (sym (bit_of-packed xs p i l))

module _ (xs : List ℕ) (i x : ℕ) where
  abbrev put : ℕ → ℕ
  put = changed_at (packed xs) i (bit_of (packed (x ∷ [])) 0)

  pub packed-set : i < length xs → packed (set xs i x) ≡ bit_put (packed xs) i (packed (x ∷ []))
  unfolding bit_put
  packed-set l =
      same_words_from_bits (packed (set xs i x)) (words_with (64 * length (packed xs)) put) (packed-words (set xs i x))
      (words_with-words (64 * length (packed xs)) put)
      long (λ k lt. bits k (omega (arith, length-packed (set xs i x), length-packed xs, length-set xs i x)) (cases_eq k i) (cases_lt k (length xs)))
    where
      long : length (packed (set xs i x)) ≡ length (words_with (64 * length (packed xs)) put)
      long = omega (arith, length-packed (set xs i x), length-packed xs, length-set xs i x, length-words_with (64 * length (packed xs)) put)

      once : (y : ℕ) → y % 2 ≡ y % 2 % 2
      once y = omega arith

      no_parity : (y : ℕ) → y ≡ 0 → 0 ≡ y % 2
      no_parity y e = omega arith

      bits : (k : ℕ) → k < 64 * length (packed xs) → (k ≡ i) ⊎ (k ≡ i → ⊥) → (k < length xs) ⊎ (length xs ≤ k)
          → bit_of (packed (set xs i x)) k ≡ bit_of (words_with (64 * length (packed xs)) put) k
      bits k lt (inl is) c =
          let here : k < length (set xs i x) = omega (arith, length-set xs i x) in
          parity_of-packed (set xs i x) k here
          ∙ ap (λ j. word (set xs i x) j % 2) is ∙ ap (λ y. y % 2) (get_or-set_same xs i x 0 l) ∙ once x
          ∙ ap (λ y. y % 2) (sym (one_parity x) ∙ sym (ap (λ t. cond t (bit_of (packed (x ∷ [])) 0) (bit_of (packed xs) k)) (eq-eqb k i is)))
          ∙ sym (bit_of-words_with (64 * length (packed xs)) put k lt)
      bits k lt (inr apart) (inl below) =
          let here : k < length (set xs i x) = omega (arith, length-set xs i x) in
          parity_of-packed (set xs i x) k here
          ∙ ap (λ y. y % 2) (get_or-set_other xs i k x 0 apart) ∙ once (word xs k)
          ∙ ap (λ y. y % 2) (sym (parity_of-packed xs k below) ∙ sym (ap (λ t. cond t (bit_of (packed (x ∷ [])) 0) (bit_of (packed xs) k)) (ne_eqb k i apart)))
          ∙ sym (bit_of-words_with (64 * length (packed xs)) put k lt)
      bits k lt (inr apart) (inr past) =
          let beyond : length (set xs i x) ≤ k = omega (arith, length-set xs i x) in
          none-behind (set xs i x) k beyond
          ∙ no_parity (bit_of (packed xs) k) (none-behind xs k past)
          ∙ ap (λ y. y % 2) (sym (ap (λ t. cond t (bit_of (packed (x ∷ [])) 0) (bit_of (packed xs) k)) (ne_eqb k i apart)))
          ∙ sym (bit_of-words_with (64 * length (packed xs)) put k lt)

-- ---- the bits of words are their own packed elements

length-word_bits : (x : ℕ) → length (word_bits x) ≡ 64
length-word_bits x = length-map-range_with_len (bit_at x) 0 64

pub length-spread : (ws : List ℕ) → length (flat_map word_bits ws) ≡ 64 * length ws
length-spread [] = refl
length-spread (x ∷ xs) =
    ap length (flat_map-cons word_bits x xs) ∙ length-append (word_bits x) (flat_map word_bits xs)
    ∙ omega (arith, length-word_bits x, length-spread xs)

pub word-spread : (ws : List ℕ) (k : ℕ) → k < 64 * length ws → word (flat_map word_bits ws) k ≡ bit_of ws k
word-spread [] k h = absurd (omega arith)
word-spread (x ∷ xs) k h = ap (λ l. word l k) (flat_map-cons word_bits x xs) ∙ go (word-spread xs) (cases_lt k 64)
  where
    go : ((j : ℕ) → j < 64 * length xs → word (flat_map word_bits xs) j ≡ bit_of xs j) → (k < 64) ⊎ (64 ≤ k) → word (word_bits x ++ flat_map word_bits xs) k ≡ bit_of (x ∷ xs) k
    go later_bits (inl low) =
        let here : k < length (word_bits x) = omega (arith, length-word_bits x) in
        let first : k / 64 ≡ 0 = omega arith in
        let own : k % 64 ≡ k = omega arith in
        get_or_append_left (word_bits x) (flat_map word_bits xs) 0 k here
        ∙ get_or-map-range_with_len (bit_at x) 0 64 k k 0 low (omega arith)
        ∙ sym (ap (λ j. bit_at (word (x ∷ xs) j) (k % 64)) first ∙ ap (bit_at x) own)
    go later_bits (inr high) =
        let rest : k - 64 < 64 * length xs = omega arith in
        let later : k / 64 ≡ suc ((k - 64) / 64) = omega arith in
        let same : k % 64 ≡ (k - 64) % 64 = omega arith in
        get_or-append_right (word_bits x) (flat_map word_bits xs) 64 k 0 (length-word_bits x) high
        ∙ later_bits (k - 64) rest
        ∙ sym (ap (λ j. bit_at (word (x ∷ xs) j) (k % 64)) later ∙ ap (bit_at (word xs ((k - 64) / 64))) same)

pub packed-spread : (ws : List ℕ) → AreWords ws → packed (flat_map word_bits ws) ≡ ws
packed-spread ws p =
    packed-is (flat_map word_bits ws) (64 * length ws) (bit_of ws) (length-spread ws) (λ k l. ap (λ y. y % 2) (word-spread ws k l))
    ∙ words_with_own (64 * length ws) ws p (omega arith) (λ k from lt. absurd (omega (arith, from, lt)))

-- ---- flips

-- all n bits turned: by xor with n ones
pub packed-flip : (h : ℕ → ℕ) (xs : List ℕ) → ((k : ℕ) → k < length xs → h (word xs k) % 2 ≡ (word xs k + 1) % 2)
    → packed (map h xs) ≡ each_two xor_ring.add (packed xs) (packed (replicate (length xs) 1))
unfolding packed
packed-flip h xs turned =
    packed-is (map h xs) (length xs) (λ k. word xs k + word (replicate (length xs) 1) k) (length-map xs h)
    (λ k l. ap (λ x. x % 2) (get_or-map h xs k 0 0 l) ∙ turned k l ∙ ap (λ y. (word xs k + y) % 2) (sym (get_or-replicate (length xs) k 1 0 l)))
    ∙ sym (words_with-xor (length xs) (word xs) (word (replicate (length xs) 1)))
    ∙ ap (λ n. each_two xor_ring.add (words_with (length xs) (word xs)) (words_with n (word (replicate (length xs) 1)))) (sym (length-replicate (length xs) 1))
