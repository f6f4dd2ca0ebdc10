-- The gates compare.
use Rattle.std.proofs.Common.{◌≡◌, ℕ, ◌+◌, ◌*◌, ◌/◌, ◌%◌, ◌^◌, ◌<◌, ◌≤◌, Some, List, [], ◌∷◌, ◌++◌, length, map, drop, get_or, refl, sym, ◌∙◌, ap}
use Rattle.std.proofs.Common.{subst, arith, length-append}
use Rattle.std.specs.Prelude.{slice_get}
use Rattle.std.specs.Int.{w64, bit_not}
use Rattle.std.proofs.lemmas.List.{append_assoc, drop_more}
use Rattle.gates.specs.Rings.{xor_ring}
use Rattle.gates.specs.declared.gate.Gate.{Gate}
use Rattle.gates.specs.declared.gate.Gate.TheVariants.{Cat}
use Rattle.gates.specs.Clear.{Values, value, each_two, FitFrom}
use Rattle.gates.specs.WordTests.{less_test}
use Rattle.gates.specs.Counts.{Miner, size_of, words_of_all}
use Rattle.gates.specs.Counts.Miner.{Miner1, Miner2, Miner3}
use Rattle.gates.proofs.Sizes.{size_of-value, words_of_all-append, FitFrom-append}
use Rattle.gates.proofs.Columns.{word, Column, TwoColumns, stands, Column-of, Column-same, Column-ext, Column-map, Column-each_two, same_columns}
use Rattle.gates.proofs.Columns.{TwoColumns-same, TwoColumns-append, TwoColumns-each_two, first_part, second_part}
use Rattle.gates.proofs.Carries.{carry, carry-lt, SpansDown, down_generate, down_propagate, down_step}
use Rattle.gates.proofs.Orders.{down_start, less_by_carries}
use Rattle.plans.specs.BitExtract.{widths, bits_plan}
use Rattle.plans.specs.BitExtractLaw as bits
use Rattle.plans.proofs.BitExtractLaws as extracted
use Rattle.plans.specs.Compare.{order_start, order_step, comparing, less_plan}
use Rattle.plans.specs.CompareLaw.{TellsLess, TakesWords, words_taken}

-- each width is twice the one before, up to half of 64
abbrev pub Double : ℕ → List ℕ → Type 0
Double width [] = width ≡ 64
Double width (next ∷ widths) = (next ≡ width) × (0 < next) × Double (2 * next) widths

-- what one step makes of two columns
pub record Step (inputs values : Values) (n next width : ℕ) (g p : ℕ → ℕ) (rest : List Gate) : Type 0 where
  pub both : length (value values (next + 2)) ≡ n + n
  pub less : Column n (λ k. down_generate width (g k) (p k)) (value values (next + 6))
  pub same : Column n (λ k. down_propagate width (p k)) (value values (next + 7))
  pub fit : FitFrom inputs values (next + 8) rest

step_law : (inputs values : Values) (n next ng np width : ℕ) (g p : ℕ → ℕ) (rest : List Gate)
    → Column n g (value values ng)
    → Column n p (value values np)
    → FitFrom inputs values next (order_step n next ng np width ++ rest)
    → Step inputs values n next width g p rest
step_law inputs values n next ng np width g p rest less same fit =
    let moved_p = Column-same (stands values next fit.1) (Column-map (λ x. x / 2 ^ width) same) in
    let moved_g = Column-same (stands values (next + 1) fit.2.1) (Column-map (λ x. x / 2 ^ width) less) in
    let both = TwoColumns-same (stands values (next + 2) (ap (λ i. slice_get values i) (omega arith) ∙ fit.2.2.1)) (TwoColumns-append moved_p moved_p) in
    let old = TwoColumns-same (stands values (next + 3) (ap (λ i. slice_get values i) (omega arith) ∙ fit.2.2.2.1)) (TwoColumns-append less same) in
    let joined = TwoColumns-same (stands values (next + 4) (ap (λ i. slice_get values i) (omega arith) ∙ fit.2.2.2.2.1))
    (TwoColumns-each_two xor_ring.mul both old) in
    let low = Column-same (stands values (next + 5) (ap (λ i. slice_get values i) (omega arith) ∙ fit.2.2.2.2.2.1)) (first_part joined) in
    let new_g = Column-same (stands values (next + 6) (ap (λ i. slice_get values i) (omega arith) ∙ fit.2.2.2.2.2.2.1))
    (Column-each_two xor_ring.add moved_g low) in
    let new_p = Column-same (stands values (next + 7) (ap (λ i. slice_get values i) (omega arith) ∙ fit.2.2.2.2.2.2.2.1)) (second_part joined) in
    record {
      both = both.size;
      less = new_g;
      same = new_p;
      fit = subst (λ i. FitFrom inputs values i rest) (omega arith) fit.2.2.2.2.2.2.2.2;
    }

comparing_law : (inputs values : Values) (n : ℕ) (c : ℕ → ℕ → ℕ) (widths : List ℕ) (width next ng np m : ℕ) (g p : ℕ → ℕ)
    → ((k j : ℕ) → c k j < 2)
    → Double width widths
    → Column n g (value values ng)
    → Column n p (value values np)
    → ((k : ℕ) → k < n → SpansDown (c k) width (g k) (p k))
    → FitFrom inputs values next (comparing n next ng np widths)
    → m ≡ next + 8 * length widths
    → (xs : List ℕ) × (slice_get values m ≡ Some xs) × (r : ℕ → ℕ) × (q : ℕ → ℕ) × Column n (λ k. r k % 2) xs
    × ((k : ℕ) → k < n → SpansDown (c k) 64 (r k) (q k))
comparing_law inputs values n c [] width next ng np m g p bound double less same spans fit e = (
  map (λ x. x % 2) (value values ng),
  ap (λ i. slice_get values i) (e ∙ omega arith) ∙ fit.1,
  g,
  p,
  Column-map (λ x. x % 2) less,
  λ k lt. subst (λ w. SpansDown (c k) w (g k) (p k)) double (spans k lt),
)
comparing_law inputs values n c (count ∷ widths) width next ng np m g p bound double less same spans fit e =
    let step = step_law inputs values n next ng np count g p (comparing n (next + 8) (next + 6) (next + 7) widths) less same fit in
    comparing_law inputs values n c widths (2 * count) (next + 8) (next + 6) (next + 7) m (λ k. down_generate count (g k) (p k))
    (λ k. down_propagate count (p k))
    bound double.2 step.less step.same
    (λ k lt. down_step (c k) (bound k) count (g k) (p k) double.1 (subst (λ w. SpansDown (c k) w (g k) (p k)) (sym double.0) (spans k lt)))
    step.fit (e ∙ omega arith)

-- what stands before the first join
pub record Start (inputs values : Values) (first n : ℕ) (a b : ℕ → ℕ) (rest : List Gate) : Type 0 where
  pub less : Column n (λ k. xor_ring.mul (b k) (bit_not w64 (a k))) (value values (first + 58))
  pub same : Column n (λ k. bit_not w64 (xor_ring.add (a k) (b k))) (value values (first + 60))
  pub second : Column n b (value values (first + 56))
  pub fit : FitFrom inputs values (first + 61) rest

start_law : (inputs values : Values) (first n : ℕ) (a b : ℕ → ℕ) (rest : List Gate)
    → TwoColumns n a b (value values (first + 54))
    → FitFrom inputs values (first + 55) (order_start first n ++ rest)
    → Start inputs values first n a b rest
start_law inputs values first n a b rest bits fit =
    let left = Column-same (stands values (first + 55) fit.1) (first_part bits) in
    let right = Column-same (stands values (first + 56) (ap (λ i. slice_get values i) (omega arith) ∙ fit.2.1)) (second_part bits) in
    let turned = Column-same (stands values (first + 57) (ap (λ i. slice_get values i) (omega arith) ∙ fit.2.2.1)) (Column-map (bit_not w64) left) in
    let less = Column-same (stands values (first + 58) (ap (λ i. slice_get values i) (omega arith) ∙ fit.2.2.2.1))
    (Column-each_two xor_ring.mul right turned) in
    let differ = Column-same (stands values (first + 59) (ap (λ i. slice_get values i) (omega arith) ∙ fit.2.2.2.2.1))
    (Column-each_two xor_ring.add left right) in
    let same = Column-same (stands values (first + 60) (ap (λ i. slice_get values i) (omega arith) ∙ fit.2.2.2.2.2.1)) (Column-map (bit_not w64) differ) in
    record { less = less; same = same; second = right; fit = subst (λ i. FitFrom inputs values i rest) (omega arith) fit.2.2.2.2.2.2 }

-- what stands before the order of bits: the bits of all words
pub record Extracted (inputs values : Values) (first n : ℕ) (a b : ℕ → ℕ) (bits_gates rest : List Gate) : Type 0 where
  pub size : length (value values first) ≡ 2 * n
  pub bits_fit : FitFrom inputs values (first + 1) bits_gates
  pub left_word : (k : ℕ) → k < n → a k < 2 ^ 64
  pub right_word : (k : ℕ) → k < n → b k < 2 ^ 64
  pub bits : TwoColumns n a b (value values (first + 54))
  pub fit : FitFrom inputs values (first + 55) rest

extracted_law : (inputs values : Values) (first u v n : ℕ) (rest : List Gate)
    → length (value values u) ≡ n
    → length (value values v) ≡ n
    → FitFrom inputs values first (Cat u v ∷ (bits_plan (first + 1) first (2 * n) ++ rest))
    → Extracted inputs values first n (word (value values u)) (word (value values v)) (bits_plan (first + 1) first (2 * n)) rest
extracted_law inputs values first u v n rest size_u size_v fit =
    let all = TwoColumns-same (stands values first fit.1) (TwoColumns-append (Column-of n (value values u) size_u) (Column-of n (value values v) size_v)) in
    let parts = FitFrom-append inputs values (first + 1) (bits_plan (first + 1) first (2 * n)) rest fit.2 in
    let behind : first + 1 + 54 ≡ first + 55 = omega arith in
    let size : length (value values first) ≡ 2 * n = omega (arith, all.size) in
    let bits_stand = extracted.gives_bits (first + 1) first (2 * n) inputs values size parts.0 in
    let are_words = extracted.are_words inputs values (first + 1) first (2 * n) size parts.0 in
    record {
      size = size;
      bits_fit = parts.0;
      left_word = λ k lt. subst (λ w. w < 2 ^ 64) (all.first k lt) (are_words k (omega arith));
      right_word = λ k lt. subst (λ w. w < 2 ^ 64) (all.second k lt) (are_words (n + k) (omega arith));
      bits = TwoColumns-same (stands values (first + 54) (ap (λ i. slice_get values i) (omega arith) ∙ bits_stand)) all;
      fit = subst (λ i. FitFrom inputs values i rest) behind parts.1;
    }

pub tells_less : (first u v n : ℕ) → TellsLess first u v n (less_plan first u v n)
tells_less first u v n inputs values size_u size_v fit =
    let us = value values u in
    let vs = value values v in
    let x = extracted_law inputs values first u v n (order_start first n ++ comparing n (first + 61) (first + 58) (first + 60) widths) size_u size_v fit in
    let start = start_law inputs values first n (word us) (word vs) (comparing n (first + 61) (first + 58) (first + 60) widths) x.bits x.fit in
    let end =
    comparing_law inputs values n (λ k. carry (bit_not w64 (word us k)) (word vs k)) widths 1 (first + 61) (first + 58) (first + 60) (first + 109)
    (λ k. xor_ring.mul (word vs k) (bit_not w64 (word us k))) (λ k. bit_not w64 (xor_ring.add (word us k) (word vs k)))
    (λ k j. carry-lt (bit_not w64 (word us k)) (word vs k) j)
    (refl, omega arith, (refl, omega arith, (refl, omega arith, (refl, omega arith, (refl, omega arith, (refl, omega arith, refl))))))
    start.less start.same
    (λ k lt. down_start (word us k) (word vs k) (x.left_word k lt)) start.fit (omega arith) in
    let told = λ (k : ℕ) (lt : k < n).
    less_by_carries (word us k) (word vs k) (end.2 k) (end.3 k) (x.left_word k lt) (x.right_word k lt) (end.5 k lt) in
    end.1
    ∙ ap Some
    (same_columns n (λ k. less_test (word us k) (word vs k)) end.0 (each_two less_test us vs) (Column-ext told end.4)
    (Column-each_two less_test (Column-of n us size_u) (Column-of n vs size_v)))

-- ---- the words that the gates take

comparing_words : (inputs values : Values) (miner : Miner) (n : ℕ) (widths : List ℕ) (next ng np : ℕ)
    → length (value values ng) ≡ n
    → length (value values np) ≡ n
    → FitFrom inputs values next (comparing n next ng np widths)
    → words_of_all (map length values) miner (comparing n next ng np widths) ≡ 6 * n * length widths
comparing_words inputs values miner n [] next ng np size_g size_p fit = omega arith
comparing_words inputs values miner n (count ∷ widths) next ng np size_g size_p fit =
    let step =
    step_law inputs values n next ng np count (word (value values ng)) (word (value values np)) (comparing n (next + 8) (next + 6) (next + 7) widths)
    (Column-of n (value values ng) size_g) (Column-of n (value values np) size_p) fit in
    let rest = comparing_words inputs values miner n widths (next + 8) (next + 6) (next + 7) step.less.size step.same.size step.fit in
    let joins = size_of-value values (next + 2) ∙ step.both in
    grind (arith, joins, rest)

total : (miner : Miner) (n : ℕ) → bits.words_taken miner (2 * n) + (3 * n + 6 * n * 6) ≡ words_taken miner n
total Miner1 n = omega arith
total Miner2 n = omega arith
total Miner3 n = omega arith

pub takes_words : (first u v n : ℕ) → TakesWords first u v n (less_plan first u v n)
takes_words first u v n inputs values miner size_u size_v fit =
    let sizes = map length values in
    let extraction = bits_plan (first + 1) first (2 * n) in
    let joins = comparing n (first + 61) (first + 58) (first + 60) widths in
    let x = extracted_law inputs values first u v n (order_start first n ++ joins) size_u size_v fit in
    let start = start_law inputs values first n (word (value values u)) (word (value values v)) joins x.bits x.fit in
    added (words_of_all sizes miner (extraction ++ (order_start first n ++ joins))) (words_of_all sizes miner extraction)
    (words_of_all sizes miner (order_start first n)) (words_of_all sizes miner joins) (bits.words_taken miner (2 * n)) n (words_taken miner n)
    (words_of_all-append sizes miner extraction (order_start first n ++ joins)
    ∙ ap (λ k. words_of_all sizes miner extraction + k) (words_of_all-append sizes miner (order_start first n) joins))
    (extracted.takes_words (first + 1) first (2 * n) inputs values miner x.size x.bits_fit)
    (start_words (size_of sizes (first + 56)) (size_of-value values (first + 56) ∙ start.second.size))
    (comparing_words inputs values miner n widths (first + 61) (first + 58) (first + 60) start.less.size start.same.size start.fit)
    (total miner n)
  where
    added : (w b o c taken n t : ℕ) → w ≡ b + (o + c) → b ≡ taken → o ≡ 3 * n → c ≡ 6 * n * 6 → taken + (3 * n + 6 * n * 6) ≡ t → 0 + w ≡ t
    added w b o c taken n t e1 e2 e3 e4 e5 = omega arith

    start_words : (s : ℕ) → s ≡ n → 0 + (0 + (0 + (3 * s + (0 + (0 + 0))))) ≡ 3 * n
    start_words s e = omega arith

-- ---- as the contract says it

pub tells_less_from : (first u v n : ℕ) (gates : List Gate) → gates ≡ less_plan first u v n → TellsLess first u v n gates
tells_less_from first u v n gates e = subst (TellsLess first u v n) (sym e) (tells_less first u v n)

pub takes_words_from : (first u v n : ℕ) (gates : List Gate) → gates ≡ less_plan first u v n → TakesWords first u v n gates
takes_words_from first u v n gates e = subst (TakesWords first u v n) (sym e) (takes_words first u v n)

-- ---- gates pushed one after another

pub ruleset pushes = (append_assoc)

pub comparing_more : (items one plan : List Gate) (n next g p i d : ℕ) → i < 6
    → items ++ comparing n next g p (drop i widths) ≡ plan
    → one ≡ items ++ order_step n next g p (get_or widths i d)
    → one ++ comparing n (next + 8) (next + 6) (next + 7) (drop (i + 1) widths) ≡ plan
comparing_more items one plan n next g p i d lt planned e =
    rw e
    (append_assoc items (order_step n next g p (get_or widths i d)) (comparing n (next + 8) (next + 6) (next + 7) (drop (i + 1) widths))
    ∙ (rw (drop_more widths i d) at planned))
