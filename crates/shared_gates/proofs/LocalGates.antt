-- A gate that sends nothing makes shares of what it makes of clear values.
use Rattle.std.proofs.Common.{◌≡◌, ℕ, zero, suc, ◌+◌, ◌*◌, ◌/◌, ◌%◌, ◌<◌, ◌≤◌, ◌^◌, List, [], ◌∷◌, ◌++◌, length, drop, take, map, sum, replicate, refl, sym}
use Rattle.std.proofs.Common.{◌∙◌, ap, subst, arith}
use Rattle.std.specs.List.{flat_map, range_with_len}
use Rattle.std.specs.Int.{w64, bit_at, bit_not}
use Rattle.std.proofs.lemmas.Nat.{mod_below, pow_pos}
use Rattle.std.proofs.lemmas.List.FromFn.{length-map-range_with_len, get_or-map-range_with_len}
use Rattle.std.proofs.lemmas.List.Sums.{sum_by-cons}
use Rattle.proto_core.specs.Ring.{Ring, RingLaws}
use Rattle.proto_core.specs.Rings.{add_ring, xor_ring}
use Rattle.proto_core.specs.RingsKeepLaws.{add_ring_laws, xor_ring_laws}
use Rattle.proto_core.specs.declared.party.Number.{Number}
use Rattle.proto_core.specs.declared.party.Number.TheVariants.{One, Two, Three}
use Rattle.proto_core.specs.Lists.{at, AreWords}
use Rattle.gates.specs.declared.ring_kind.RingKind.{RingKind}
use Rattle.gates.specs.declared.ring_kind.RingKind.TheVariants.{Arithmetic, Boolean}
use Rattle.gates.specs.declared.gate.Gate.{Gate}
use Rattle.gates.specs.declared.gate.Gate.TheVariants.{Input, Const, Add, Sub, MulPub, Mul, Xor, And, Not, Shl, Shr, Low, Cat, Part, Put, Rep}
use Rattle.gates.specs.declared.gate.Gate.TheVariants.{Pack, Unpack, RepBit, PartBit, PutBit, CatBit}
use Rattle.gates.specs.declared.gate.Gate.TheVariants.{Sum, Stretch, Tile, SumEach, Split, Conv, Open, Result}
use Rattle.gates.specs.Clear.{Values, value, ring_of, first_word, clear_value, Suits}
use Rattle.gates.proofs.Columns.{Column, Column-of, Column-map}
use Rattle.gates.specs.Gathered.{packed, unpacked, bits_repeated, bit_taken, bit_put, bits_joined}
use Rattle.gates.specs.Laws.{AddUp}
use Rattle.gates.proofs.Sharing.{packed-sum, unpacked-sum, repeated-sum, taken-sum, put-sum, joined-sum}
use Rattle.protocol_model.proofs.Sizes.{past_end}
use Rattle.blocked_protocol.proofs.Fitting.{no_words}
use Rattle.blocked_protocol.proofs.BlockViews.{same_words}
use Rattle.shared_gates.specs.Shares.{sum_of, AreShares, Kind, Shared, Holds, kind_at, share_at, AllHeld}
use Rattle.shared_gates.specs.LocalGates.{const_share, not_share, local_share, IsLocal}
use Rattle.shared_gates.specs.Kinds.{Kinded}
use Rattle.shared_gates.proofs.RingSums.{sum-sums, sum-differences, sum-products}
use Rattle.shared_gates.proofs.XorSums.{sum-xors, sum-turned, shifted_up-word, shifted_up-xor, shifted_down-word, shifted_down-xor, low-word, low-xor}
use Rattle.shared_gates.proofs.XorSums.{bit-word, bit-through, turned-word}
use Rattle.shared_gates.proofs.Sharing.{shares-by, shares-map, shares-two, shares-fixed, shares-append, shares-part, shares-set, shares-replicate}

pub laws_of : (ring : RingKind) → RingLaws (ring_of ring)
laws_of Arithmetic = add_ring_laws
laws_of Boolean = xor_ring_laws

-- ---- words that everybody knows

with_zeros : (ring : RingKind) (x : ℕ) → x < 2 ^ 64 → sum_of (ring_of ring) x 0 0 ≡ x
with_zeros Arithmetic x h = ap (λ w. add_ring.add w 0) (add_ring_laws.add_zero x h) ∙ add_ring_laws.add_zero x h
with_zeros Boolean x h = ap (λ w. xor_ring.add w 0) (xor_ring_laws.add_zero x h) ∙ xor_ring_laws.add_zero x h

abbrev const_word : Number → List ℕ → ℕ → ℕ
const_word One list k = at list k
const_word _ list k = 0

shares-const : (ring : RingKind) (list : List ℕ) → AreWords list → AreShares (ring_of ring) list (λ i. const_share i list)
shares-const ring list words =
    shares-by (ring_of ring) (length list) list (λ i. const_share i list) (λ k. at list k) (λ i k. const_word i list k)
    (Column-of (length list) list refl) part small (λ k lt. with_zeros ring (at list k) (words k))
  where
    nothing : Column (length list) (λ k. 0) (map (λ x. 0) list)
    nothing = Column-map (λ x. 0) (Column-of (length list) list refl)

    part : (i : Number) → Column (length list) (λ k. const_word i list k) (const_share i list)
    part One = Column-of (length list) list refl
    part Two = nothing
    part Three = nothing

    small : (i : Number) (k : ℕ) → k < length list → const_word i list k < 2 ^ 64
    small One k lt = words k
    small Two k lt = pow_pos 64
    small Three k lt = pow_pos 64

-- ---- bits turned round

abbrev turned_word : Number → ℕ → ℕ
turned_word One x = bit_not w64 x
turned_word _ x = x

shares-not : (xs : List ℕ) (s : Number → List ℕ) → AreShares xor_ring xs s → AreShares xor_ring (map (bit_not w64) xs) (λ i. not_share i (s i))
shares-not xs s h =
    shares-by xor_ring (length xs) (map (bit_not w64) xs) (λ i. not_share i (s i)) (λ k. bit_not w64 (at xs k)) (λ i k. turned_word i (at (s i) k))
    (Column-map (bit_not w64) (Column-of (length xs) xs refl)) part small
    (λ k lt. sum-turned _ _ _ (h.words One k) (h.words Two k) (h.words Three k) ∙ ap (bit_not w64) (h.sum k lt))
  where
    part : (i : Number) → Column (length xs) (λ k. turned_word i (at (s i) k)) (not_share i (s i))
    part One = Column-map (bit_not w64) (Column-of (length xs) (s One) (h.sizes One))
    part Two = Column-of (length xs) (s Two) (h.sizes Two)
    part Three = Column-of (length xs) (s Three) (h.sizes Three)

    small : (i : Number) (k : ℕ) → k < length xs → turned_word i (at (s i) k) < 2 ^ 64
    small One k lt = turned-word (at (s One) k) (h.words One k)
    small Two k lt = h.words Two k
    small Three k lt = h.words Three k

-- ---- words repeated

never_longer : {P : Type 0} (n : ℕ) → 0 ≡ suc n → P
never_longer n e = absurd (no_successor n e)
  where
    no_successor : (n : ℕ) → 0 ≡ suc n → ⊥
    no_successor n e = omega arith

first_and_rest : (xs : List ℕ) (n : ℕ) → length xs ≡ suc n → at xs 0 ∷ drop 1 xs ≡ xs
first_and_rest [] n e = never_longer n e
first_and_rest (x ∷ xs) n e = refl

shares-rest : (r : Ring) (x : ℕ) (xs : List ℕ) (s : Number → List ℕ) → AreShares r (x ∷ xs) s → AreShares r xs (λ i. drop 1 (s i))
shares-rest r x xs s h =
    let whole = subst (λ t. AreShares r (x ∷ xs) t)
    (same_words s (λ i. at (s i) 0 ∷ drop 1 (s i)) (λ i. sym (first_and_rest (s i) (length xs) (h.sizes i)))) h in
    record {
      sizes = λ i. shorter (length (drop 1 (s i))) (length xs) (whole.sizes i);
      words = λ i k. whole.words i (suc k);
      sum = λ k lt. whole.sum (suc k) (omega arith);
    }
  where
    shorter : (m n : ℕ) → suc m ≡ suc n → m ≡ n
    shorter m n e = omega arith

-- ---- packed bits

-- shares under xor add up, and lists that do are shares
pub adding : (xs : List ℕ) (s : Number → List ℕ) → AreShares xor_ring xs s → AddUp (s One) (s Two) (s Three) xs
adding xs s h =
    record {
      first = h.sizes One;
      second = h.sizes Two;
      third = h.sizes Three;
      words_first = h.words One;
      words_second = h.words Two;
      words_third = h.words Three;
      sums = h.sum;
    }

pub shares-adding : (xs : List ℕ) (s : Number → List ℕ) → AddUp (s One) (s Two) (s Three) xs → AreShares xor_ring xs s
shares-adding xs s t = record { sizes = sizes; words = words; sum = t.sums }
  where
    sizes : (i : Number) → length (s i) ≡ length xs
    sizes One = t.first
    sizes Two = t.second
    sizes Three = t.third

    words : (i : Number) → AreWords (s i)
    words One = t.words_first
    words Two = t.words_second
    words Three = t.words_third

-- ---- the sum of all words

added_up :
    (x a b c sx sa sb sc : ℕ) → sum_of add_ring a b c ≡ x → (sa + sb + sc) % 2 ^ 64 ≡ sx % 2 ^ 64 →
    (a + sa + (b + sb) + (c + sc)) % 2 ^ 64 ≡ (x + sx) % 2 ^ 64
added_up x a b c sx sa sb sc e f = omega arith

sum-three : (xs : List ℕ) (s : Number → List ℕ) → AreShares add_ring xs s → (sum (s One) + sum (s Two) + sum (s Three)) % 2 ^ 64 ≡ sum xs % 2 ^ 64
sum-three [] s h =
    let a : 0 ≡ sum (s One) = ap sum (no_words (s One) (h.sizes One)) in
    let b : 0 ≡ sum (s Two) = ap sum (no_words (s Two) (h.sizes Two)) in
    let c : 0 ≡ sum (s Three) = ap sum (no_words (s Three) (h.sizes Three)) in
    let none : sum (s One) + sum (s Two) + sum (s Three) ≡ 0 = omega arith in
    ap (λ n. n % 2 ^ 64) none
sum-three (x ∷ xs) s h =
    let a : sum (s One) ≡ at (s One) 0 + sum (drop 1 (s One)) = split One in
    let b : sum (s Two) ≡ at (s Two) 0 + sum (drop 1 (s Two)) = split Two in
    let c : sum (s Three) ≡ at (s Three) 0 + sum (drop 1 (s Three)) = split Three in
    ap (λ n. (n + sum (s Two) + sum (s Three)) % 2 ^ 64) a
    ∙ ap (λ n. (at (s One) 0 + sum (drop 1 (s One)) + n + sum (s Three)) % 2 ^ 64) b
    ∙ ap (λ n. (at (s One) 0 + sum (drop 1 (s One)) + (at (s Two) 0 + sum (drop 1 (s Two))) + n) % 2 ^ 64) c
    ∙ added_up x _ _ _ (sum xs) _ _ _ (h.sum 0 (omega arith)) (sum-three xs (λ i. drop 1 (s i)) (shares-rest add_ring x xs s h))
    ∙ sym (ap (λ n. n % 2 ^ 64) (sum_by-cons (λ y. y) x xs))
  where
    split : (i : Number) → sum (s i) ≡ at (s i) 0 + sum (drop 1 (s i))
    split i =
        sym (ap sum (first_and_rest (s i) (length xs) (h.sizes i)))
        ∙ sum_by-cons (λ y. y) (at (s i) 0) (drop 1 (s i))

sums_mod : (a b c x : ℕ) → (a + b + c) % 2 ^ 64 ≡ x % 2 ^ 64 → sum_of add_ring (a % 2 ^ 64) (b % 2 ^ 64) (c % 2 ^ 64) ≡ x % 2 ^ 64
sums_mod a b c x e = omega arith

shares-sum : (xs : List ℕ) (s : Number → List ℕ) → AreShares add_ring xs s → AreShares add_ring (sum xs % 2 ^ 64 ∷ []) (λ i. sum (s i) % 2 ^ 64 ∷ [])
shares-sum xs s h =
    shares-by add_ring 1 (sum xs % 2 ^ 64 ∷ []) (λ i. sum (s i) % 2 ^ 64 ∷ []) (λ k. sum xs % 2 ^ 64) (λ i k. sum (s i) % 2 ^ 64)
    (single (sum xs % 2 ^ 64)) (λ i. single (sum (s i) % 2 ^ 64)) (λ i k lt. mod_below (sum (s i)) (2 ^ 64) (pow_pos 64))
    (λ k lt. sums_mod (sum (s One)) (sum (s Two)) (sum (s Three)) (sum xs) (sum-three xs s h))
  where
    at_first : (x k : ℕ) → k < 1 → at (x ∷ []) k ≡ x
    at_first x zero lt = refl
    at_first x (suc k) lt = absurd (too_large k lt)
      where
        too_large : (k : ℕ) → suc k < 1 → ⊥
        too_large k l = omega arith

    single : (x : ℕ) → Column 1 (λ k. x) (x ∷ [])
    single x = record { size = refl; words = λ k lt. at_first x k lt }

-- ---- words several times, and the sums of parts

shares-none : (r : Ring) → AreShares r [] (λ i. [])
shares-none r = record { sizes = λ i. refl; words = λ i k. past_end k; sum = λ k lt. absurd (below_none k lt) }
  where
    below_none : (k : ℕ) → k < 0 → ⊥
    below_none k lt = omega arith

shares-stretch : (r : Ring) (count : ℕ) (xs : List ℕ) (s : Number → List ℕ) → AreShares r xs s
    → AreShares r (flat_map (λ x. replicate count x) xs) (λ i. flat_map (λ x. replicate count x) (s i))
shares-stretch r count [] s h =
    subst (λ t. AreShares r [] (λ i. flat_map (λ x. replicate count x) (t i))) (same_words (λ i. []) s (λ i. no_words (s i) (h.sizes i))) (shares-none r)
shares-stretch r count (x ∷ xs) s h =
    subst (λ t. AreShares r (replicate count x ++ flat_map (λ y. replicate count y) xs) t)
    (same_words (λ i. replicate count (at (s i) 0) ++ flat_map (λ y. replicate count y) (drop 1 (s i))) (λ i. flat_map (λ y. replicate count y) (s i))
    (λ i. ap (flat_map (λ y. replicate count y)) (first_and_rest (s i) (length xs) (h.sizes i))))
    (shares-append r (replicate count x) (flat_map (λ y. replicate count y) xs) (λ i. replicate count (at (s i) 0))
    (λ i. flat_map (λ y. replicate count y) (drop 1 (s i)))
    (shares-replicate r count x (λ i. at (s i) 0) (λ i. h.words i 0) (h.sum 0 (omega arith)))
    (shares-stretch r count xs (λ i. drop 1 (s i)) (shares-rest r x xs s h)))

shares-tile : (r : Ring) (from count : ℕ) (xs : List ℕ) (s : Number → List ℕ) → AreShares r xs s
    → AreShares r (flat_map (λ k. xs) (range_with_len from count)) (λ i. flat_map (λ k. s i) (range_with_len from count))
shares-tile r from zero xs s h = shares-none r
shares-tile r from (suc n) xs s h =
    shares-append r xs (flat_map (λ k. xs) (range_with_len (from + 1) n)) s (λ i. flat_map (λ k. s i) (range_with_len (from + 1) n)) h
    (shares-tile r (from + 1) n xs s h)

abbrev totals : (size from count : ℕ) → List ℕ → List ℕ
totals size from count xs = map (λ k. sum (take size (drop (k * size) xs)) % 2 ^ 64) (range_with_len from count)

shares-totals : (size from count : ℕ) (xs : List ℕ) (s : Number → List ℕ) → from * size + size * count ≤ length xs → AreShares add_ring xs s
    → AreShares add_ring (totals size from count xs) (λ i. totals size from count (s i))
shares-totals size from zero xs s le h = shares-none add_ring
shares-totals size from (suc n) xs s le h =
    let more : size * suc n ≡ size + size * n = grind arith in
    let next : (from + 1) * size ≡ from * size + size = grind arith in
    let within : from * size + size ≤ length xs = omega arith in
    let later : (from + 1) * size + size * n ≤ length xs = omega arith in
    shares-append add_ring (sum (take size (drop (from * size) xs)) % 2 ^ 64 ∷ []) (totals size (from + 1) n xs)
    (λ i. sum (take size (drop (from * size) (s i))) % 2 ^ 64 ∷ []) (λ i. totals size (from + 1) n (s i))
    (shares-sum (take size (drop (from * size) xs)) (λ i. take size (drop (from * size) (s i)))
    (shares-part add_ring (from * size) size xs s within h))
    (shares-totals size (from + 1) n xs s later h)

-- ---- each gate

module _ (dealt_kinds kinds : List Kind) (inputs values : Values) (dealt shares : Number → Values) (inputs_held : AllHeld dealt_kinds inputs dealt)
    (held : AllHeld kinds values shares) where
  abbrev next : ℕ
  next = length values

  -- the shares of an operand
  pub of_ring : (ring : RingKind) (u : ℕ) → u < next → kind_at kinds u ≡ Shared ring → AreShares (ring_of ring) (value values u) (share_at shares u)
  of_ring ring u lt e = subst (λ kind. Holds kind (value values u) (share_at shares u)) e (held u lt)

  makes : (ring : RingKind) (xs : List ℕ) (s : Number → List ℕ) → kind_at kinds next ≡ Shared ring → AreShares (ring_of ring) xs s
      → Holds (kind_at kinds next) xs s
  makes ring xs s e h = subst (λ kind. Holds kind xs s) (sym e) h

  pub local-held :
      (gate : Gate) → IsLocal gate → Kinded dealt_kinds kinds next gate → Suits inputs values next gate →
      Holds (kind_at kinds next) (clear_value inputs values gate) (λ i. local_share i (dealt i) (shares i) gate)
  local-held (Input k) local kinded suits =
      subst (λ kind. Holds kind (value inputs k) (share_at dealt k)) (sym kinded) (inputs_held k suits)
  local-held (Const list) local kinded suits =
      makes kinded.1.0 list (λ i. const_share i list) kinded.1.1.0 (shares-const kinded.1.0 list kinded.0)
  local-held (Add u v) local kinded suits =
      makes Arithmetic _ _ kinded.1.1.0
      (shares-two add_ring add_ring.add add_ring_laws.add_word (sum-sums add_ring_laws) (value values u) (value values v) (share_at shares u)
      (share_at shares v) suits.same_size
      (of_ring Arithmetic u suits.first kinded.0) (of_ring Arithmetic v suits.second kinded.1.0))
  local-held (Sub u v) local kinded suits =
      makes Arithmetic _ _ kinded.1.1.0
      (shares-two add_ring add_ring.sub add_ring_laws.sub_word (sum-differences add_ring_laws) (value values u) (value values v) (share_at shares u)
      (share_at shares v) suits.same_size
      (of_ring Arithmetic u suits.first kinded.0) (of_ring Arithmetic v suits.second kinded.1.0))
  local-held (MulPub ring u list) local kinded suits =
      makes ring _ _ kinded.1.0
      (shares-fixed (ring_of ring) (ring_of ring).mul (laws_of ring).mul_word (sum-products (laws_of ring)) (value values u) list (share_at shares u) suits.1
      (of_ring ring u suits.0 kinded.0))
  local-held (Mul u v) local kinded suits = absurd local
  local-held (Xor u v) local kinded suits =
      makes Boolean _ _ kinded.1.1.0
      (shares-two xor_ring xor_ring.add xor_ring_laws.add_word (sum-sums xor_ring_laws) (value values u) (value values v) (share_at shares u)
      (share_at shares v) suits.same_size
      (of_ring Boolean u suits.first kinded.0) (of_ring Boolean v suits.second kinded.1.0))
  local-held (And u v) local kinded suits = absurd local
  local-held (Not u) local kinded suits =
      makes Boolean _ _ kinded.1.0 (shares-not (value values u) (share_at shares u) (of_ring Boolean u suits kinded.0))
  local-held (Shl u count) local kinded suits =
      makes Boolean _ _ kinded.1.0
      (shares-map xor_ring (λ x. x * 2 ^ count % 2 ^ 64) (shifted_up-word count)
      (sum-xors (λ x. x * 2 ^ count % 2 ^ 64) (shifted_up-word count) (shifted_up-xor count))
      (value values u) (share_at shares u) (of_ring Boolean u suits kinded.0))
  local-held (Shr u count) local kinded suits =
      makes Boolean _ _ kinded.1.0
      (shares-map xor_ring (λ x. x / 2 ^ count) (shifted_down-word count) (sum-xors (λ x. x / 2 ^ count) (shifted_down-word count) (shifted_down-xor count))
      (value values u) (share_at shares u) (of_ring Boolean u suits kinded.0))
  local-held (Low u) local kinded suits =
      makes Boolean _ _ kinded.1.0
      (shares-map xor_ring (λ x. x % 2) low-word (sum-xors (λ x. x % 2) low-word low-xor) (value values u) (share_at shares u)
      (of_ring Boolean u suits kinded.0))
  local-held (Cat u v) local kinded suits =
      let ring = kinded.0 in
      makes ring _ _ kinded.1.1.1.0
      (shares-append (ring_of ring) (value values u) (value values v) (share_at shares u) (share_at shares v)
      (of_ring ring u suits.0 kinded.1.0) (of_ring ring v suits.1 kinded.1.1.0))
  local-held (Part u from count) local kinded suits =
      let ring = kinded.0 in
      makes ring _ _ kinded.1.1.0
      (shares-part (ring_of ring) from count (value values u) (share_at shares u) suits.1 (of_ring ring u suits.0 kinded.1.0))
  local-held (Put u index v) local kinded suits =
      let ring = kinded.0 in
      let element = of_ring ring v suits.1 kinded.1.1.0 in
      let some : 0 < length (value values v) = omega (arith, suits.3) in
      makes ring _ _ kinded.1.1.1.0
      (shares-set (ring_of ring) index (value values u) (share_at shares u) (first_word (value values v)) (λ i. first_word (share_at shares v i)) suits.2
      (of_ring ring u suits.0 kinded.1.0) (λ i. element.words i 0) (element.sum 0 some))
  local-held (Rep u count) local kinded suits =
      let ring = kinded.0 in
      let element = of_ring ring u suits.0 kinded.1.0 in
      let some : 0 < length (value values u) = omega (arith, suits.1) in
      makes ring _ _ kinded.1.1.0
      (shares-replicate (ring_of ring) count (first_word (value values u)) (λ i. first_word (share_at shares u i))
      (λ i. element.words i 0) (element.sum 0 some))
  local-held (Pack u) local kinded suits =
      makes Boolean _ _ kinded.1.0
      (shares-adding _ (λ i. packed (share_at shares u i)) (packed-sum (adding _ _ (of_ring Boolean u suits kinded.0))))
  local-held (Unpack u count) local kinded suits =
      makes Boolean _ _ kinded.1.0
      (shares-adding _ (λ i. unpacked (share_at shares u i) count) (unpacked-sum (adding _ _ (of_ring Boolean u suits.0 kinded.0)) count))
  local-held (RepBit u count) local kinded suits =
      makes Boolean _ _ kinded.1.0
      (shares-adding _ (λ i. bits_repeated (share_at shares u i) count) (repeated-sum (adding _ _ (of_ring Boolean u suits.0 kinded.0)) count))
  local-held (PartBit u index) local kinded suits =
      makes Boolean _ _ kinded.1.0
      (shares-adding _ (λ i. bit_taken (share_at shares u i) index) (taken-sum (adding _ _ (of_ring Boolean u suits.0 kinded.0)) index))
  local-held (PutBit u index v) local kinded suits =
      makes Boolean _ _ kinded.1.1.0
      (shares-adding _ (λ i. bit_put (share_at shares u i) index (share_at shares v i))
      (put-sum (adding _ _ (of_ring Boolean u suits.0 kinded.0)) (adding _ _ (of_ring Boolean v suits.1 kinded.1.0)) index))
  local-held (CatBit u n v m) local kinded suits =
      makes Boolean _ _ kinded.1.1.0
      (shares-adding _ (λ i. bits_joined (share_at shares u i) n (share_at shares v i) m)
      (joined-sum (adding _ _ (of_ring Boolean u suits.0 kinded.0)) (adding _ _ (of_ring Boolean v suits.1 kinded.1.0)) n m))
  local-held (Sum u) local kinded suits =
      makes Arithmetic _ _ kinded.1.0 (shares-sum (value values u) (share_at shares u) (of_ring Arithmetic u suits kinded.0))
  local-held (Stretch u count) local kinded suits =
      makes kinded.0 _ _ kinded.1.1.0
      (shares-stretch (ring_of kinded.0) count (value values u) (share_at shares u) (of_ring kinded.0 u suits kinded.1.0))
  local-held (Tile u count) local kinded suits =
      makes kinded.0 _ _ kinded.1.1.0
      (shares-tile (ring_of kinded.0) 0 count (value values u) (share_at shares u) (of_ring kinded.0 u suits kinded.1.0))
  local-held (SumEach u size count) local kinded suits =
      makes Arithmetic _ _ kinded.1.0
      (shares-totals size 0 count (value values u) (share_at shares u) (omega (arith, suits.1)) (of_ring Arithmetic u suits.0 kinded.0))
  local-held (Split u negated) local kinded suits = absurd local
  local-held (Conv u) local kinded suits = absurd local
  local-held (Open ring u) local kinded suits = absurd local
  local-held (Result ring u) local kinded suits = absurd local
