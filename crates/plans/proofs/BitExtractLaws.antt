-- The gates give the bits.
use Rattle.std.proofs.Common.{◌≡◌, ℕ, ◌+◌, ◌*◌, ◌/◌, ◌%◌, ◌^◌, ◌<◌, ◌≤◌, Some, List, [], ◌∷◌, ◌++◌, length, map, drop, get_or, refl, sym, ◌∙◌, ap}
use Rattle.std.proofs.Common.{subst, arith, false}
use Rattle.std.specs.Prelude.{slice_get}
use Rattle.gates.specs.Rings.{add_ring, xor_ring}
use Rattle.gates.specs.declared.gate.Gate.{Gate}
use Rattle.gates.specs.Clear.{Values, value, each_two, FitFrom}
use Rattle.gates.specs.Counts.{Miner, size_of, words_of_all, words_of_split}
use Rattle.gates.specs.Counts.Miner.{Miner1, Miner2, Miner3}
use Rattle.gates.proofs.Sizes.{size_of-value}
use Rattle.gates.proofs.Columns.{word, Column, stands, Column-of, Column-same, Column-ext, Column-map, Column-each_two, Column-split, same_columns}
use Rattle.gates.proofs.Columns.{TwoColumns-same, TwoColumns-append, TwoColumns-each_two, first_part, second_part}
use Rattle.gates.proofs.Carries.{carry, carry-zero, carry-lt, SpansUp, shifted_up, up_generate, up_propagate, up_start, up_step, sum_by_carries}
use Rattle.std.proofs.lemmas.Nat.{mod_below, pow_pos}
use Rattle.std.proofs.lemmas.List.{append_assoc, drop_more}
use Rattle.plans.specs.BitExtract.{carry_step, carrying, widths, bits_plan}
use Rattle.plans.specs.BitExtractLaw.{GivesBits, TakesWords, words_taken}

-- each width is twice the one before, up to half of 64
abbrev pub Double : ℕ → List ℕ → Type 0
Double width [] = width ≡ 64
Double width (next ∷ widths) = (next ≡ width) × Double (2 * next) widths

-- what one step makes of two columns
pub record Step (inputs values : Values) (n next width : ℕ) (g p : ℕ → ℕ) (rest : List Gate) : Type 0 where
  pub both : length (value values next) ≡ n + n
  pub generated : Column n (λ k. up_generate width (g k) (p k)) (value values (next + 6))
  pub propagated : Column n (λ k. up_propagate width (p k)) (value values (next + 7))
  pub fit : FitFrom inputs values (next + 8) rest

step_law : (inputs values : Values) (n next ng np width : ℕ) (g p : ℕ → ℕ) (rest : List Gate)
    → Column n g (value values ng)
    → Column n p (value values np)
    → FitFrom inputs values next (carry_step n next ng np width ++ rest)
    → Step inputs values n next width g p rest
step_law inputs values n next ng np width g p rest generate propagate fit =
    let both = TwoColumns-same (stands values next fit.1) (TwoColumns-append propagate propagate) in
    let moved_g = Column-same (stands values (next + 1) fit.2.1) (Column-map (shifted_up width) generate) in
    let moved_p = Column-same (stands values (next + 2) (ap (λ i. slice_get values i) (omega arith) ∙ fit.2.2.1)) (Column-map (shifted_up width) propagate) in
    let moved = TwoColumns-same (stands values (next + 3) (ap (λ i. slice_get values i) (omega arith) ∙ fit.2.2.2.1)) (TwoColumns-append moved_g moved_p) in
    let joined = TwoColumns-same (stands values (next + 4) (ap (λ i. slice_get values i) (omega arith) ∙ fit.2.2.2.2.1))
    (TwoColumns-each_two xor_ring.mul both moved) in
    let low = Column-same (stands values (next + 5) (ap (λ i. slice_get values i) (omega arith) ∙ fit.2.2.2.2.2.1)) (first_part joined) in
    let new_g = Column-same (stands values (next + 6) (ap (λ i. slice_get values i) (omega arith) ∙ fit.2.2.2.2.2.2.1))
    (Column-each_two xor_ring.add generate low) in
    let new_p = Column-same (stands values (next + 7) (ap (λ i. slice_get values i) (omega arith) ∙ fit.2.2.2.2.2.2.2.1)) (second_part joined) in
    record {
      both = both.size;
      generated = new_g;
      propagated = new_p;
      fit = subst (λ i. FitFrom inputs values i rest) (omega arith) fit.2.2.2.2.2.2.2.2;
    }

carrying_law : (inputs values : Values) (n : ℕ) (x y : ℕ → ℕ) (widths : List ℕ) (width h next ng np m : ℕ) (g p : ℕ → ℕ)
    → Double width widths
    → Column n (λ k. xor_ring.add (x k) (y k)) (value values h)
    → Column n g (value values ng)
    → Column n p (value values np)
    → ((k : ℕ) → k < n → SpansUp (carry (x k) (y k)) width (g k) (p k))
    → FitFrom inputs values next (carrying n h next ng np widths)
    → m ≡ next + 1 + 8 * length widths
    → (xs : List ℕ) × (slice_get values m ≡ Some xs) × Column n (λ k. add_ring.add (x k) (y k)) xs
carrying_law inputs values n x y [] width h next ng np m g p double sum generate propagate spans fit e =
    let carries = Column-same (stands values next fit.1) (Column-map (shifted_up 1) generate) in (
      each_two xor_ring.add (value values h) (value values next),
      ap (λ i. slice_get values i) (e ∙ omega arith) ∙ fit.2.1,
      Column-ext (λ k lt. sum_by_carries (x k) (y k) (g k) (p k) (subst (λ w. SpansUp (carry (x k) (y k)) w (g k) (p k)) double (spans k lt)))
          (Column-each_two xor_ring.add sum carries),
    )
carrying_law inputs values n x y (count ∷ widths) width h next ng np m g p double sum generate propagate spans fit e =
    let step = step_law inputs values n next ng np count g p (carrying n h (next + 8) (next + 6) (next + 7) widths) generate propagate fit in
    carrying_law inputs values n x y widths (2 * count) h (next + 8) (next + 6) (next + 7) m (λ k. up_generate count (g k) (p k))
    (λ k. up_propagate count (p k))
    double.1 sum step.generated step.propagated
    (λ k lt. up_step (carry (x k) (y k)) (carry-zero (x k) (y k)) (carry-lt (x k) (y k)) count (g k) (p k)
    (subst (λ w. SpansUp (carry (x k) (y k)) w (g k) (p k)) (sym double.0) (spans k lt)))
    step.fit (e ∙ omega arith)

pub gives_bits : (first word n : ℕ) → GivesBits first word n (bits_plan first word n)
gives_bits first number n inputs values size fit =
    let us = value values number in
    let split = fit.1.2 in
    let both = Column-split false split (Column-of n us size) in
    let generate = Column-same (stands values (first + 2) fit.2.1) (Column-each_two xor_ring.mul both.0 both.1) in
    let sum = Column-same (stands values (first + 3) (ap (λ i. slice_get values i) (omega arith) ∙ fit.2.2.1)) (Column-each_two xor_ring.add both.0 both.1) in
    let behind : first + 2 + 1 + 1 ≡ first + 4 = omega arith in
    let rest = subst (λ i. FitFrom inputs values i (carrying n (first + 3) (first + 4) (first + 2) (first + 3) widths)) behind fit.2.2.2 in
    let x = word (value values first) in
    let y = word (value values (first + 1)) in
    let end =
    carrying_law inputs values n x y widths 1 (first + 3) (first + 4) (first + 2) (first + 3) (first + 53) (λ k. xor_ring.mul (x k) (y k))
    (λ k. xor_ring.add (x k) (y k))
    (refl, (refl, (refl, (refl, (refl, (refl, refl)))))) sum generate sum (λ k lt. up_start (x k) (y k)) rest (omega arith) in
    let added = Column-same (sym split.join) (Column-each_two add_ring.add both.0 both.1) in
    end.1 ∙ ap Some (same_columns n (λ k. add_ring.add (x k) (y k)) end.0 us end.2 added)

-- what fits is made of words, since it is a sum modulo 2^64
pub are_words : (inputs values : Values) (first number n : ℕ) → length (value values number) ≡ n
    → FitFrom inputs values first (bits_plan first number n) → (k : ℕ) → k < n → word (value values number) k < 2 ^ 64
are_words inputs values first number n size fit k lt =
    let split = fit.1.2 in
    let both = Column-split false split (Column-of n (value values number) size) in
    let x = word (value values first) k in
    let y = word (value values (first + 1)) k in
    let added : word (value values number) k ≡ add_ring.add x y = (Column-same (sym split.join) (Column-each_two add_ring.add both.0 both.1)).words k lt in
    subst (λ w. w < 2 ^ 64) (sym added) (mod_below (x + y) (2 ^ 64) (pow_pos 64))

-- ---- the words that the gates take

carrying_words : (inputs values : Values) (miner : Miner) (n : ℕ) (widths : List ℕ) (h next ng np : ℕ)
    → length (value values ng) ≡ n
    → length (value values np) ≡ n
    → FitFrom inputs values next (carrying n h next ng np widths)
    → words_of_all (map length values) miner (carrying n h next ng np widths) ≡ 6 * n * length widths
carrying_words inputs values miner n [] h next ng np size_g size_p fit = omega arith
carrying_words inputs values miner n (count ∷ widths) h next ng np size_g size_p fit =
    let step =
    step_law inputs values n next ng np count (word (value values ng)) (word (value values np)) (carrying n h (next + 8) (next + 6) (next + 7) widths)
    (Column-of n (value values ng) size_g) (Column-of n (value values np) size_p) fit in
    let rest = carrying_words inputs values miner n widths h (next + 8) (next + 6) (next + 7) step.generated.size step.propagated.size step.fit in
    let joins = size_of-value values next ∙ step.both in
    grind (arith, joins, rest)

total : (miner : Miner) (n : ℕ) → words_of_split miner n + (3 * n + 6 * n * 6) ≡ words_taken miner n
total Miner1 n = omega arith
total Miner2 n = omega arith
total Miner3 n = omega arith

pub takes_words : (first word n : ℕ) → TakesWords first word n (bits_plan first word n)
takes_words first number n inputs values miner size fit =
    let split = fit.1.2 in
    let both = Column-split false split (Column-of n (value values number) size) in
    let generate = Column-same (stands values (first + 2) fit.2.1) (Column-each_two xor_ring.mul both.0 both.1) in
    let sum = Column-same (stands values (first + 3) (ap (λ i. slice_get values i) (omega arith) ∙ fit.2.2.1)) (Column-each_two xor_ring.add both.0 both.1) in
    let behind : first + 2 + 1 + 1 ≡ first + 4 = omega arith in
    let fit_rest = subst (λ i. FitFrom inputs values i (carrying n (first + 3) (first + 4) (first + 2) (first + 3) widths)) behind fit.2.2.2 in
    let rest = carrying_words inputs values miner n widths (first + 3) (first + 4) (first + 2) (first + 3) generate.size sum.size fit_rest in
    let split_size = size_of-value values number ∙ size in
    let first_size = size_of-value values first ∙ both.0.size in
    ap (λ k. words_of_split miner k
    + (3 * size_of (map length values) first
    + (0 + words_of_all (map length values) miner (carrying n (first + 3) (first + 4) (first + 2) (first + 3) widths)))) split_size
    ∙ ap (λ k. words_of_split miner n + k) (omega (arith, rest, first_size)) ∙ total miner n

-- ---- as the contract says it

pub gives_bits_from : (first word n : ℕ) (gates : List Gate) → gates ≡ bits_plan first word n → GivesBits first word n gates
gives_bits_from first number n gates e = subst (GivesBits first number n) (sym e) (gives_bits first number n)

pub takes_words_from : (first word n : ℕ) (gates : List Gate) → gates ≡ bits_plan first word n → TakesWords first word n gates
takes_words_from first number n gates e = subst (TakesWords first number n) (sym e) (takes_words first number n)

-- gates pushed one after another are a list after those that were there
pub ruleset pushes = (append_assoc)

pub carrying_more : (items one plan : List Gate) (n h next g p i d : ℕ) → i < 6
    → items ++ carrying n h next g p (drop i widths) ≡ plan
    → one ≡ items ++ carry_step n next g p (get_or widths i d)
    → one ++ carrying n h (next + 8) (next + 6) (next + 7) (drop (i + 1) widths) ≡ plan
carrying_more items one plan n h next g p i d lt planned e =
    rw e
    (append_assoc items (carry_step n next g p (get_or widths i d)) (carrying n h (next + 8) (next + 6) (next + 7) (drop (i + 1) widths))
    ∙ (rw (drop_more widths i d) at planned))
