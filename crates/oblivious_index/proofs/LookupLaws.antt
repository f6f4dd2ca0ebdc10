-- The gates look elements up.
use Rattle.std.proofs.Common.{◌≡◌, ℕ, zero, suc, ◌+◌, ◌*◌, ◌%◌, ◌^◌, ◌<◌, ◌≤◌, Some, List, [], ◌∷◌, ◌++◌, length, map, take, drop, get_or, replicate}
use Rattle.std.proofs.Common.{refl, sym, ◌∙◌, ap, subst, arith, sum}
use Rattle.std.specs.Prelude.{slice_get}
use Rattle.std.specs.List.{flat_map, range_with_len}
use Rattle.std.proofs.lemmas.Bool.Decides.{nat_tests}
use Rattle.std.proofs.lemmas.List.{take_at, drop_at, length-map, length-append, length-replicate, drop-drop}
use Rattle.std.proofs.lemmas.List.Sums.{sum_by-cons}
use Rattle.std.proofs.lemmas.List.FromFn.{length-range_with_len}
use Rattle.std.proofs.lemmas.Nat.{pow_pos}
use Rattle.proto_core.specs.Words.{AreWords}
use Rattle.proto_core.proofs.Parts.{AreWords-append}
use Rattle.gates.specs.Rings.{add_ring}
use Rattle.gates.specs.declared.gate.Gate.{Gate}
use Rattle.gates.specs.declared.gate.Gate.TheVariants.{Conv, Mul, Tile, SumEach}
use Rattle.gates.specs.Clear.{Values, value, each_two, FitFrom}
use Rattle.gates.specs.WordTests.{zero_test}
use Rattle.gates.specs.Counts.{Miner, size_of, words_of_all, words_of_conversion}
use Rattle.gates.specs.Counts.Miner.{Miner1, Miner2, Miner3}
use Rattle.gates.proofs.Columns.{stands, Column-of, Column-each_two}
use Rattle.gates.proofs.Sizes.{size_of-value, words_of_all-append, FitFrom-append}
use Rattle.plans.specs.Equality.{eq_plan}
use Rattle.plans.specs.EqualityLaw as equality
use Rattle.plans.proofs.EqualityLaws.{tests_for_zero, takes_words}
use Rattle.oblivious_index.specs.Lookup.{looked, places, lookup_plan}
use Rattle.oblivious_index.specs.LookupLaw.{LooksUp, TakesWords, words_taken}

-- ---- a test at one place

test_other : (d : ℕ) → (d ≡ 0 → ⊥) → zero_test d ≡ 0
test_other zero h = absurd (h refl)
test_other (suc d) h = nonzero d
  where
    nonzero : (d : ℕ) → zero_test (suc d) ≡ 0
    nonzero d = grind (arith, nat_tests)

test_here : (k s : ℕ) → k < 2 ^ 64 → s ≡ k → zero_test (add_ring.sub k s) % 2 ≡ 1
test_here k s small e = let none : add_ring.sub k s ≡ 0 = omega arith in ap (λ d. zero_test d % 2) none

test_there : (k s : ℕ) → k < 2 ^ 64 → s < 2 ^ 64 → (s ≡ k → ⊥) → zero_test (add_ring.sub k s) % 2 ≡ 0
test_there k s small place other =
    ap (λ t. t % 2) (test_other (add_ring.sub k s) (λ e. let same : s ≡ k = omega arith in other same))

-- ---- one index, with all places from s on

-- each word times the test whether its place is k
abbrev pub marked : (s k : ℕ) → List ℕ → List ℕ
marked s k [] = []
marked s k (x ∷ xs) = add_ring.mul x (zero_test (add_ring.sub k s) % 2) ∷ marked (s + 1) k xs

times_one : (x t : ℕ) → x < 2 ^ 64 → t ≡ 1 → add_ring.mul x t ≡ x
times_one x t small e = ap (add_ring.mul x) e ∙ let one : x * 1 ≡ x = omega arith in ap (λ n. n % 2 ^ 64) one ∙ omega arith

times_none : (x t : ℕ) → t ≡ 0 → add_ring.mul x t ≡ 0
times_none x t e = ap (add_ring.mul x) e ∙ let none : x * 0 ≡ 0 = omega arith in ap (λ n. n % 2 ^ 64) none

-- none of the places is k
none_marked : (s k : ℕ) (xs : List ℕ) → k < s → s + length xs ≤ 2 ^ 64 → sum (marked s k xs) ≡ 0
none_marked s k [] lt le = refl
none_marked s k (x ∷ xs) lt le =
    let rest = none_marked (s + 1) k xs (omega arith) (omega arith) in
    let here = times_none x (zero_test (add_ring.sub k s) % 2) (test_there k s (omega arith) (omega arith) (λ e. omega arith)) in
    sum_by-cons (λ n. n) (add_ring.mul x (zero_test (add_ring.sub k s) % 2)) (marked (s + 1) k xs) ∙ omega arith

-- k is the place of number j among them, or is past them
one_marked : (s k j : ℕ) (xs : List ℕ) → AreWords xs → k < 2 ^ 64 → k ≡ s + j → s + length xs ≤ 2 ^ 64 → sum (marked s k xs) ≡ get_or xs j 0
one_marked s k j [] words small e le = refl
one_marked s k zero (x ∷ xs) words small e le =
    let rest = none_marked (s + 1) k xs (omega arith) (omega arith) in
    let here = times_one x (zero_test (add_ring.sub k s) % 2) (words 0) (test_here k s small (omega arith)) in
    sum_by-cons (λ n. n) (add_ring.mul x (zero_test (add_ring.sub k s) % 2)) (marked (s + 1) k xs) ∙ omega arith
one_marked s k (suc j) (x ∷ xs) words small e le =
    let rest = one_marked (s + 1) k j xs (λ i. words (suc i)) small (omega arith) (omega arith) in
    let here = times_none x (zero_test (add_ring.sub k s) % 2) (test_there k s small (omega arith) (λ g. omega arith)) in
    sum_by-cons (λ n. n) (add_ring.mul x (zero_test (add_ring.sub k s) % 2)) (marked (s + 1) k xs) ∙ omega arith

looked_at : (k : ℕ) (xs : List ℕ) → AreWords xs → k < 2 ^ 64 → length xs ≤ 2 ^ 64 → sum (marked 0 k xs) % 2 ^ 64 ≡ get_or xs k 0
looked_at k xs words small le =
    let is = one_marked 0 k k xs words small (omega arith) (omega arith) in
    let word : get_or xs k 0 < 2 ^ 64 = words k in
    ap (λ n. n % 2 ^ 64) is ∙ omega arith

length-marked : (s k : ℕ) (xs : List ℕ) → length (marked s k xs) ≡ length xs
length-marked s k [] = refl
length-marked s k (x ∷ xs) = ap suc (length-marked (s + 1) k xs)

-- what the gates make of one index
abbrev tests_at : (s k n : ℕ) → List ℕ
tests_at s k n = map (λ x. x % 2) (map zero_test (each_two add_ring.sub (replicate n k) (range_with_len s n)))

marked_is : (s k : ℕ) (xs : List ℕ) → each_two add_ring.mul xs (tests_at s k (length xs)) ≡ marked s k xs
marked_is s k [] = refl
marked_is s k (x ∷ xs) = ap (λ l. add_ring.mul x (zero_test (add_ring.sub k s) % 2) ∷ l) (marked_is (s + 1) k xs)

-- ---- all indices, one after another

each_two-append : (f : ℕ → ℕ → ℕ) (us vs cs ds : List ℕ) → length us ≡ length cs → each_two f (us ++ vs) (cs ++ ds) ≡ each_two f us cs ++ each_two f vs ds
each_two-append f [] vs [] ds e = refl
each_two-append f [] vs (c ∷ cs) ds e = absurd (omega arith)
each_two-append f (u ∷ us) vs [] ds e = absurd (omega arith)
each_two-append f (u ∷ us) vs (c ∷ cs) ds e = ap (λ l. f u c ∷ l) (each_two-append f us vs cs ds (omega arith))

map-append : (f : ℕ → ℕ) (xs ys : List ℕ) → map f (xs ++ ys) ≡ map f xs ++ map f ys
map-append f [] ys = refl
map-append f (x ∷ xs) ys = ap (λ l. f x ∷ l) (map-append f xs ys)

length-tests : (s k n : ℕ) → length (tests_at s k n) ≡ n
length-tests s k n =
    length-map (map zero_test (each_two add_ring.sub (replicate n k) (range_with_len s n))) (λ x. x % 2)
    ∙ length-map (each_two add_ring.sub (replicate n k) (range_with_len s n)) zero_test
    ∙ (Column-each_two add_ring.sub (Column-of n (replicate n k) (length-replicate n k)) (Column-of n (range_with_len s n) (length-range_with_len s n))).size

-- the differences of all indices, of which s have come before
differences : (n s : ℕ) (ks : List ℕ)
    → each_two add_ring.sub (flat_map (λ k. replicate n k) ks) (flat_map (λ j. range_with_len 0 n) (range_with_len s (length ks)))
    ≡ flat_map (λ k. each_two add_ring.sub (replicate n k) (range_with_len 0 n)) ks
differences n s [] = refl
differences n s (k ∷ ks) =
    each_two-append add_ring.sub (replicate n k) (flat_map (λ j. replicate n j) ks) (range_with_len 0 n)
    (flat_map (λ j. range_with_len 0 n) (range_with_len (s + 1) (length ks))) (length-replicate n k ∙ sym (length-range_with_len 0 n))
    ∙ ap (λ l. each_two add_ring.sub (replicate n k) (range_with_len 0 n) ++ l) (differences n (s + 1) ks)

tests : (n : ℕ) (ks : List ℕ)
    → map (λ x. x % 2) (map zero_test (flat_map (λ k. each_two add_ring.sub (replicate n k) (range_with_len 0 n)) ks))
    ≡ flat_map (λ k. tests_at 0 k n) ks
tests n [] = refl
tests n (k ∷ ks) =
    let here = each_two add_ring.sub (replicate n k) (range_with_len 0 n) in
    let later = flat_map (λ j. each_two add_ring.sub (replicate n j) (range_with_len 0 n)) ks in
    ap (map (λ x. x % 2)) (map-append zero_test here later)
    ∙ map-append (λ x. x % 2) (map zero_test here) (map zero_test later)
    ∙ ap (λ l. tests_at 0 k n ++ l) (tests n ks)

products : (xs : List ℕ) (s : ℕ) (ks : List ℕ)
    → each_two add_ring.mul (flat_map (λ j. xs) (range_with_len s (length ks))) (flat_map (λ k. tests_at 0 k (length xs)) ks)
    ≡ flat_map (λ k. marked 0 k xs) ks
products xs s [] = refl
products xs s (k ∷ ks) =
    each_two-append add_ring.mul xs (flat_map (λ j. xs) (range_with_len (s + 1) (length ks))) (tests_at 0 k (length xs))
    (flat_map (λ j. tests_at 0 j (length xs)) ks) (sym (length-tests 0 k (length xs)))
    ∙ ap (λ l. l ++ each_two add_ring.mul (flat_map (λ j. xs) (range_with_len (s + 1) (length ks))) (flat_map (λ j. tests_at 0 j (length xs)) ks))
    (marked_is 0 k xs)
    ∙ ap (λ l. marked 0 k xs ++ l) (products xs (s + 1) ks)

-- ---- the sums of the parts

map-later : (f : ℕ → ℕ) (s n : ℕ) → map f (range_with_len (s + 1) n) ≡ map (λ k. f (k + 1)) (range_with_len s n)
map-later f s zero = refl
map-later f s (suc n) = ap (λ l. f (s + 1) ∷ l) (map-later f (s + 1) n)

map-same : (f g : ℕ → ℕ) (ks : List ℕ) → ((k : ℕ) → f k ≡ g k) → map f ks ≡ map g ks
map-same f g [] h = refl
map-same f g (k ∷ ks) h = ap (λ n. n ∷ map f ks) (h k) ∙ ap (λ l. g k ∷ l) (map-same f g ks h)

first_part : (n : ℕ) (xs rest : List ℕ) → length xs ≡ n → take n (drop (0 * n) (xs ++ rest)) ≡ xs
first_part n xs rest h = let none : 0 * n ≡ 0 = omega arith in ap (λ m. take n (drop m (xs ++ rest))) none ∙ take_at xs rest n h

later_part : (n j : ℕ) (xs rest : List ℕ) → length xs ≡ n → drop ((j + 1) * n) (xs ++ rest) ≡ drop (j * n) rest
later_part n j xs rest h =
    let more : (j + 1) * n ≡ n + j * n = grind arith in
    ap (λ m. drop m (xs ++ rest)) more ∙ sym (drop-drop (j * n) n (xs ++ rest)) ∙ ap (drop (j * n)) (drop_at xs rest n h)

sums : (part : ℕ → List ℕ) (n : ℕ) (ks : List ℕ) → ((k : ℕ) → length (part k) ≡ n)
    → map (λ j. sum (take n (drop (j * n) (flat_map part ks))) % 2 ^ 64) (range_with_len 0 (length ks)) ≡ map (λ k. sum (part k) % 2 ^ 64) ks
sums part n [] h = refl
sums part n (k ∷ ks) h =
    let rest = flat_map part ks in
    let whole : List ℕ = part k ++ rest in
    let first : sum (take n (drop (0 * n) whole)) % 2 ^ 64 ≡ sum (part k) % 2 ^ 64 = ap (λ l. sum l % 2 ^ 64) (first_part n (part k) rest (h k)) in
    ap (λ v. v ∷ map (λ j. sum (take n (drop (j * n) whole)) % 2 ^ 64) (range_with_len (0 + 1) (length ks))) first
    ∙ ap (λ l. sum (part k) % 2 ^ 64 ∷ l)
    (map-later (λ j. sum (take n (drop (j * n) whole)) % 2 ^ 64) 0 (length ks)
    ∙ map-same (λ j. sum (take n (drop ((j + 1) * n) whole)) % 2 ^ 64) (λ j. sum (take n (drop (j * n) rest)) % 2 ^ 64) (range_with_len 0 (length ks))
    (λ j. ap (λ l. sum (take n l) % 2 ^ 64) (later_part n j (part k) rest (h k)))
    ∙ sums part n ks h)

all_looked : (xs ks : List ℕ) → AreWords xs → AreWords ks → length xs ≤ 2 ^ 64 → map (λ k. sum (marked 0 k xs) % 2 ^ 64) ks ≡ looked xs ks
all_looked xs [] words indices le = refl
all_looked xs (k ∷ ks) words indices le =
    ap (λ n. n ∷ map (λ j. sum (marked 0 j xs) % 2 ^ 64) ks) (looked_at k xs words (indices 0) le)
    ∙ ap (λ l. get_or xs k 0 ∷ l) (all_looked xs ks words (λ i. indices (suc i)) le)

-- the words of all gates that send messages
pub counted : (miner : Miner) (w e l c : ℕ) → w ≡ e + l → e ≡ equality.words_taken miner c → l ≡ words_of_conversion miner c + (0 + (3 * c + (0 + 0)))
    → 0 + (0 + (0 + w)) ≡ words_taken miner c
counted Miner1 w e l c e1 e2 e3 = omega arith
counted Miner2 w e l c e1 e2 e3 = omega arith
counted Miner3 w e l c e1 e2 e3 = omega arith

-- ---- lists of parts

length-flat : (part : ℕ → List ℕ) (n : ℕ) (js : List ℕ) → ((k : ℕ) → length (part k) ≡ n) → length (flat_map part js) ≡ n * length js
length-flat part n [] h = let none : n * 0 ≡ 0 = omega arith in sym none
length-flat part n (j ∷ js) h =
    let more : n * suc (length js) ≡ n + n * length js = grind arith in
    let rest = length-flat part n js h in
    let here = h j in
    length-append (part j) (flat_map part js) ∙ omega arith

-- the places are as many as this, and words
pub length-places : (n m : ℕ) → length (places n m) ≡ n * m
length-places n m =
    length-flat (λ k. range_with_len 0 n) n (range_with_len 0 m) (λ k. length-range_with_len 0 n) ∙ ap (λ c. n * c) (length-range_with_len 0 m)

range-words : (from n : ℕ) → from + n ≤ 2 ^ 64 → AreWords (range_with_len from n)
range-words from zero le k = pow_pos 64
range-words from (suc n) le zero = omega arith
range-words from (suc n) le (suc k) = range-words (from + 1) n (omega arith) k

flat-words : (part : ℕ → List ℕ) (js : List ℕ) → ((k : ℕ) → AreWords (part k)) → AreWords (flat_map part js)
flat-words part [] h k = pow_pos 64
flat-words part (j ∷ js) h k = AreWords-append (part j) (flat_map part js) (h j) (flat-words part js h) k

pub places-words : (n m : ℕ) → n < 2 ^ 64 → AreWords (places n m)
places-words n m small = flat-words (λ k. range_with_len 0 n) (range_with_len 0 m) (λ k. range-words 0 n (omega arith))

-- ---- the law

module _ (first array index : ℕ) (inputs values : Values) where
  abbrev xs : List ℕ
  xs = value values array

  abbrev ks : List ℕ
  ks = value values index

  abbrev last_gates : (n m : ℕ) → List Gate
  last_gates n m = Conv (first + 19) ∷ Tile array m ∷ Mul (first + 21) (first + 20) ∷ SumEach (first + 22) n m ∷ []

  -- what stands where the gates fit
  record Stands : Type 0 where
    differ : value values (first + 2) ≡ flat_map (λ k. each_two add_ring.sub (replicate (length xs) k) (range_with_len 0 (length xs))) ks
    eq_fit : FitFrom inputs values (first + 3) (eq_plan (first + 3) (first + 2))
    tested : value values (first + 19) ≡ map zero_test (value values (first + 2))
    tiled : value values (first + 21) ≡ flat_map (λ k. xs) (range_with_len 0 (length ks))
    marks : value values (first + 22) ≡ flat_map (λ k. marked 0 k xs) ks
    summed :
        slice_get values (first + 23)
        ≡ Some (map (λ j. sum (take (length xs) (drop (j * length xs) (value values (first + 22)))) % 2 ^ 64) (range_with_len 0 (length ks)))

  all_stand : FitFrom inputs values first (lookup_plan first array index (length xs) (length ks)) → Stands
  all_stand fit =
      let n = length xs in
      let m = length ks in
      let stretched : value values first ≡ flat_map (λ k. replicate n k) ks = stands values first fit.1 in
      let all : value values (first + 1) ≡ places n m = stands values (first + 1) fit.2.1 in
      let apart : value values (first + 2) ≡ each_two add_ring.sub (value values first) (value values (first + 1)) =
      stands values (first + 2) (ap (λ i. slice_get values i) (omega arith) ∙ fit.2.2.1) in
      let differ : value values (first + 2) ≡ flat_map (λ k. each_two add_ring.sub (replicate n k) (range_with_len 0 n)) ks =
      apart
      ∙ ap (λ l. each_two add_ring.sub l (value values (first + 1))) stretched
      ∙ ap (λ l. each_two add_ring.sub (flat_map (λ k. replicate n k) ks) l) all
      ∙ differences n 0 ks in
      let here : FitFrom inputs values (first + 3) (eq_plan (first + 3) (first + 2) ++ last_gates n m) =
      subst (λ i. FitFrom inputs values i (eq_plan (first + 3) (first + 2) ++ last_gates n m)) (omega arith) fit.2.2.2 in
      let parts = FitFrom-append inputs values (first + 3) (eq_plan (first + 3) (first + 2)) (last_gates n m) here in
      let last : FitFrom inputs values (first + 20) (last_gates n m) = subst (λ i. FitFrom inputs values i (last_gates n m)) (omega arith) parts.1 in
      let tested : value values (first + 19) ≡ map zero_test (value values (first + 2)) =
      stands values (first + 19)
      (ap (λ i. slice_get values i) (omega arith) ∙ tests_for_zero (first + 3) (first + 2) inputs values parts.0) in
      let turned : value values (first + 20) ≡ map (λ x. x % 2) (value values (first + 19)) = stands values (first + 20) last.1 in
      let tiled : value values (first + 21) ≡ flat_map (λ k. xs) (range_with_len 0 m) =
      stands values (first + 21) (ap (λ i. slice_get values i) (omega arith) ∙ last.2.1) in
      let product : value values (first + 22) ≡ each_two add_ring.mul (value values (first + 21)) (value values (first + 20)) =
      stands values (first + 22) (ap (λ i. slice_get values i) (omega arith) ∙ last.2.2.1) in
      let factors : value values (first + 20) ≡ flat_map (λ k. tests_at 0 k n) ks =
      turned ∙ ap (map (λ x. x % 2)) (tested ∙ ap (map zero_test) differ) ∙ tests n ks in
      record {
        differ = differ;
        eq_fit = parts.0;
        tested = tested;
        tiled = tiled;
        marks =
            product
            ∙ ap (λ l. each_two add_ring.mul l (value values (first + 20))) tiled
            ∙ ap (λ l. each_two add_ring.mul (flat_map (λ k. xs) (range_with_len 0 m)) l) factors
            ∙ products xs 0 ks;
        summed = ap (λ i. slice_get values i) (omega arith) ∙ last.2.2.2.1;
      }

  looks : length xs ≤ 2 ^ 64 → AreWords xs → AreWords ks → FitFrom inputs values first (lookup_plan first array index (length xs) (length ks))
      → slice_get values (first + 23) ≡ Some (looked xs ks)
  looks le words indices fit =
      let s = all_stand fit in
      s.summed
      ∙ ap Some
      (ap (λ (l : List ℕ). map (λ j. sum (take (length xs) (drop (j * length xs) l)) % 2 ^ 64) (range_with_len 0 (length ks))) s.marks
      ∙ sums (λ k. marked 0 k xs) (length xs) ks (λ k. length-marked 0 k xs)
      ∙ all_looked xs ks words indices le)

  takes : (miner : Miner) → FitFrom inputs values first (lookup_plan first array index (length xs) (length ks))
      → words_of_all (map length values) miner (lookup_plan first array index (length xs) (length ks)) ≡ words_taken miner (length xs * length ks)
  takes miner fit =
      let s = all_stand fit in
      let n = length xs in
      let m = length ks in
      let sizes = map length values in
      let size_d : length (value values (first + 2)) ≡ n * m =
      ap length s.differ
      ∙ length-flat (λ k. each_two add_ring.sub (replicate n k) (range_with_len 0 n)) n ks
      (λ k. (Column-each_two add_ring.sub (Column-of n (replicate n k) (length-replicate n k))
      (Column-of n (range_with_len 0 n) (length-range_with_len 0 n))).size) in
      let size_t : length (value values (first + 19)) ≡ n * m =
      ap length s.tested ∙ length-map (value values (first + 2)) zero_test ∙ size_d in
      let size_x : length (value values (first + 21)) ≡ n * m =
      ap length s.tiled ∙ length-flat (λ k. xs) n (range_with_len 0 m) (λ k. refl) ∙ ap (λ c. n * c) (length-range_with_len 0 m) in
      counted miner (words_of_all sizes miner (eq_plan (first + 3) (first + 2) ++ last_gates n m))
      (words_of_all sizes miner (eq_plan (first + 3) (first + 2))) (words_of_all sizes miner (last_gates n m)) (n * m)
      (words_of_all-append sizes miner (eq_plan (first + 3) (first + 2)) (last_gates n m))
      (takes_words (first + 3) (first + 2) (n * m) inputs values miner size_d s.eq_fit)
      (ap (λ c. words_of_conversion miner c + (0 + (3 * size_of (map length values) (first + 21) + (0 + 0)))) (size_of-value values (first + 19) ∙ size_t)
      ∙ ap (λ c. words_of_conversion miner (n * m) + (0 + (3 * c + (0 + 0)))) (size_of-value values (first + 21) ∙ size_x))

-- ---- as the contract says it

pub looks_up_from : (first array index n m : ℕ) (gates : List Gate) → n < 2 ^ 64 → gates ≡ lookup_plan first array index n m
    → LooksUp first array index n m gates
looks_up_from first array index n m gates small e inputs values size_a size_i words indices fit =
    looks first array index inputs values (omega arith) words indices
    (subst (λ g. FitFrom inputs values first g)
    (e ∙ ap (λ c. lookup_plan first array index c m) (sym size_a) ∙ ap (lookup_plan first array index (length (value values array))) (sym size_i)) fit)

pub takes_words_from : (first array index n m : ℕ) (gates : List Gate) → gates ≡ lookup_plan first array index n m → TakesWords first array index n m gates
takes_words_from first array index n m gates e inputs values miner size_a size_i fit =
    let plan : gates ≡ lookup_plan first array index (length (value values array)) (length (value values index)) =
    e ∙ ap (λ c. lookup_plan first array index c m) (sym size_a) ∙ ap (lookup_plan first array index (length (value values array))) (sym size_i) in
    ap (words_of_all (map length values) miner) plan
    ∙ takes first array index inputs values miner (subst (λ g. FitFrom inputs values first g) plan fit)
    ∙ ap (λ c. words_taken miner (c * length (value values index))) size_a
    ∙ ap (λ c. words_taken miner (n * c)) size_i
