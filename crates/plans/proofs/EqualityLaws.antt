-- The gates test for zero.
use Rattle.std.proofs.Common.{◌≡◌, ℕ, ◌+◌, ◌*◌, ◌/◌, ◌%◌, ◌^◌, ◌<◌, ◌≤◌, Some, List, [], ◌∷◌, ◌++◌, length, map, drop, get_or, refl, sym, ◌∙◌, ap}
use Rattle.std.proofs.Common.{subst, arith, true}
use Rattle.std.specs.Prelude.{slice_get}
use Rattle.std.specs.Int.{w64, bit_not}
use Rattle.gates.specs.Rings.{add_ring, xor_ring}
use Rattle.gates.specs.declared.gate.Gate.{Gate}
use Rattle.gates.specs.Clear.{Values, value, FitFrom}
use Rattle.gates.specs.WordTests.{zero_test}
use Rattle.gates.specs.Counts.{Miner, words_of_all, words_of_split}
use Rattle.gates.specs.Counts.Miner.{Miner1, Miner2, Miner3}
use Rattle.gates.proofs.Sizes.{size_of-value}
use Rattle.gates.proofs.Columns.{word, Column, stands, Column-of, Column-same, Column-ext, Column-map, Column-each_two, Column-split, same_columns}
use Rattle.gates.proofs.Orders.{AllOnes, folded, AllOnes-folded, AllOnes-from_folded, equal_by_ones}
use Rattle.std.proofs.lemmas.List.{append_assoc, drop_more}
use Rattle.gates.specs.declared.gate.Gate.TheVariants.{Shr, And}
use Rattle.plans.specs.Equality.{joining, shifts, eq_plan}
use Rattle.plans.specs.EqualityLaw.{TestsForZero, TakesWords, words_taken}

-- each shift is half of the one before, from half of this width down to 1
abbrev pub Halve : ℕ → List ℕ → Type 0
Halve width [] = width ≡ 1
Halve width (count ∷ counts) = (2 * count ≡ width) × Halve count counts

-- the low bits of p, as many as the width, are all 1 exactly where all 64 bits of q are
abbrev pub Stands : ℕ → ℕ → ℕ → Type 0
Stands width p q = (AllOnes p width → AllOnes q 64) × (AllOnes q 64 → AllOnes p width)

halved : (width count p q : ℕ) → 2 * count ≡ width → width ≤ 64 → Stands width p q → Stands count (folded count p) q
halved width count p q e le s =
    let small : 2 * count ≤ 64 = omega arith in (
      λ ones. s.0 (λ j lt. AllOnes-from_folded count p small ones j (omega arith)),
      λ ones. AllOnes-folded count p small (λ j lt. s.1 ones j (omega arith)),
    )

joining_law : (inputs values : Values) (n : ℕ) (q : ℕ → ℕ) (counts : List ℕ) (width same m : ℕ) (p : ℕ → ℕ)
    → Halve width counts → width ≤ 64
    → Column n p (value values same)
    → ((k : ℕ) → k < n → Stands width (p k) (q k))
    → FitFrom inputs values (same + 1) (joining same counts)
    → m ≡ same + 1 + 2 * length counts
    → (xs : List ℕ) × (slice_get values m ≡ Some xs) × (r : ℕ → ℕ) × Column n (λ k. r k % 2) xs × ((k : ℕ) → k < n → Stands 1 (r k) (q k))
joining_law inputs values n q [] width same m p halve le column stand fit e = (
  map (λ x. x % 2) (value values same),
  ap (λ i. slice_get values i) (e ∙ omega arith) ∙ fit.1,
  p,
  Column-map (λ x. x % 2) column,
  λ k lt. rw halve at (stand k lt),
)
joining_law inputs values n q (count ∷ counts) width same m p halve le column stand fit e =
    let shifted = Column-same (stands values (same + 1) fit.1) (Column-map (λ x. x / 2 ^ count) column) in
    let joined = Column-same (stands values (same + 1 + 1) fit.2.1) (Column-each_two xor_ring.mul column shifted) in
    joining_law inputs values n q counts count (same + 1 + 1) m (λ k. folded count (p k)) halve.1 (omega (arith, halve.0)) joined
    (λ k lt. halved width count (p k) (q k) halve.0 le (stand k lt)) fit.2.2 (e ∙ omega arith)

pub tests_for_zero : (first difference : ℕ) → TestsForZero first difference (eq_plan first difference)
tests_for_zero first difference inputs values fit =
    let us = value values difference in
    let n = length us in
    let split = fit.1.2 in
    let both = Column-split true split (Column-of n us refl) in
    let differing = Column-same (stands values (first + 2) fit.2.1) (Column-each_two xor_ring.add both.0 both.1) in
    let same = Column-same (stands values (first + 2 + 1) fit.2.2.1) (Column-map (bit_not w64) differing) in
    let end =
    joining_law inputs values n (λ k. bit_not w64 (xor_ring.add (word (value values first) k) (word (value values (first + 1)) k))) shifts 64
    (first + 2 + 1) (first + 16)
    (λ k. bit_not w64 (xor_ring.add (word (value values first) k) (word (value values (first + 1)) k)))
    (refl, (refl, (refl, (refl, (refl, (refl, refl)))))) (omega arith) same (λ k lt. (λ ones. ones, λ ones. ones)) fit.2.2.2 (omega arith) in
    let is_difference = λ (k : ℕ) (lt : k < n).
    ap (λ l. word l k) (sym split.join) ∙ (Column-each_two add_ring.sub both.0 both.1).words k lt in
    let tested = λ (k : ℕ) (lt : k < n).
    equal_by_ones (word (value values first) k) (word (value values (first + 1)) k) (end.2 k)
    (split.words k) (split.other_words k)
    (end.4 k lt).0 (end.4 k lt).1
    ∙ ap zero_test (sym (is_difference k lt)) in
    end.1 ∙ ap Some (same_columns n (λ k. zero_test (word us k)) end.0 (map zero_test us) (Column-ext tested end.3)
    (Column-map zero_test (Column-of n us refl)))

-- ---- the words that the gates take

joining_words : (inputs values : Values) (miner : Miner) (n : ℕ) (counts : List ℕ) (same : ℕ)
    → length (value values same) ≡ n
    → FitFrom inputs values (same + 1) (joining same counts)
    → words_of_all (map length values) miner (joining same counts) ≡ 3 * n * length counts
joining_words inputs values miner n [] same size fit = omega arith
joining_words inputs values miner n (count ∷ counts) same size fit =
    let column = Column-of n (value values same) size in
    let shifted = Column-same (stands values (same + 1) fit.1) (Column-map (λ x. x / 2 ^ count) column) in
    let joined = Column-same (stands values (same + 1 + 1) fit.2.1) (Column-each_two xor_ring.mul column shifted) in
    let rest = joining_words inputs values miner n counts (same + 1 + 1) joined.size fit.2.2 in
    grind (arith, size_of-value values same, size, rest)

total : (miner : Miner) (n : ℕ) → words_of_split miner n + 3 * n * 6 ≡ words_taken miner n
total Miner1 n = omega arith
total Miner2 n = omega arith
total Miner3 n = omega arith

pub takes_words : (first difference n : ℕ) → TakesWords first difference n (eq_plan first difference)
takes_words first difference n inputs values miner size fit =
    let split = fit.1.2 in
    let both = Column-split true split (Column-of n (value values difference) size) in
    let differing = Column-same (stands values (first + 2) fit.2.1) (Column-each_two xor_ring.add both.0 both.1) in
    let same = Column-same (stands values (first + 2 + 1) fit.2.2.1) (Column-map (bit_not w64) differing) in
    let rest = joining_words inputs values miner n shifts (first + 2 + 1) same.size fit.2.2.2 in
    ap (λ k. words_of_split miner k + (0 + (0 + words_of_all (map length values) miner (joining (first + 2 + 1) shifts))))
    (size_of-value values difference ∙ size)
    ∙ ap (λ k. words_of_split miner n + k) (omega (arith, rest)) ∙ total miner n

-- ---- as the contract says it

pub tests_for_zero_from : (first difference : ℕ) (gates : List Gate) → gates ≡ eq_plan first difference → TestsForZero first difference gates
tests_for_zero_from first difference gates e = subst (TestsForZero first difference) (sym e) (tests_for_zero first difference)

pub takes_words_from : (first difference n : ℕ) (gates : List Gate) → gates ≡ eq_plan first difference → TakesWords first difference n gates
takes_words_from first difference n gates e = subst (TakesWords first difference n) (sym e) (takes_words first difference n)

-- ---- the gates of one shift, after those so far

pub joining_more : (items one two plan : List Gate) (same i d : ℕ) → i < 6
    → items ++ joining same (drop i shifts) ≡ plan
    → one ≡ items ++ Shr same (get_or shifts i d) ∷ []
    → two ≡ one ++ And same (same + 1) ∷ []
    → two ++ joining (same + 1 + 1) (drop (i + 1) shifts) ≡ plan
joining_more items one two plan same i d lt planned e1 e2 =
    rw (e2, e1) (simp append_assoc (rw (drop_more shifts i d) at planned))
