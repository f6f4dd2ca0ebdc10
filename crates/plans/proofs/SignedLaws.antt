-- The gates compare numbers with a sign.
use Rattle.std.proofs.Common.{◌≡◌, ℕ, ◌+◌, ◌<◌, Some, List, [], ◌∷◌, length, map, replicate, sym, ◌∙◌, ap, subst, arith, refl}
use Rattle.std.specs.Prelude.{slice_get}
use Rattle.std.proofs.lemmas.List.{length-replicate, get_or-replicate}
use Rattle.proto_core.specs.Words.{AreWords}
use Rattle.gates.specs.Rings.{add_ring}
use Rattle.gates.specs.declared.gate.Gate.{Gate}
use Rattle.gates.specs.declared.gate.Gate.TheVariants.{Const, Add, Pack}
use Rattle.gates.specs.Clear.{Values, value, each_two, FitFrom}
use Rattle.gates.specs.WordTests.{less_test}
use Rattle.gates.specs.Counts.{Miner, words_of_all}
use Rattle.gates.proofs.Columns.{word, Column, stands, Column-of, Column-same, Column-ext, Column-each_two, same_columns}
use Rattle.gates.proofs.Sizes.{FitFrom-append}
use Rattle.signed_words.specs.Signed.{half, raised, signed_less}
use Rattle.signed_words.proofs.Orders.{orders_are_raised}
use Rattle.plans.specs.Compare.{less_plan}
use Rattle.plans.specs.CompareLaw.{TakesWords, words_taken}
use Rattle.plans.specs.Signed.{signed_less_plan, packed_signed_less_plan, TellsSignedLess, PacksSignedLess}
use Rattle.plans.proofs.CompareLaws as comparison
use Rattle.plans.proofs.PackedLaws.{packs_last, takes_no_more}

-- what stands before the comparison: the words, raised
record Raised (inputs values : Values) (first u v n : ℕ) : Type 0 where
  left : Column n (λ k. raised (word (value values u) k)) (value values (first + 1))
  right : Column n (λ k. raised (word (value values v) k)) (value values (first + 2))
  fit : FitFrom inputs values (first + 3) (less_plan (first + 3) (first + 1) (first + 2) n)

raised_law : (inputs values : Values) (first u v n : ℕ)
    → length (value values u) ≡ n
    → length (value values v) ≡ n
    → FitFrom inputs values first (signed_less_plan first u v n)
    → Raised inputs values first u v n
raised_law inputs values first u v n size_u size_v fit =
    let halves = Column-same (stands values first fit.1) (halves_of n) in
    record {
      left = Column-same (stands values (first + 1) fit.2.1) (Column-each_two add_ring.add (Column-of n (value values u) size_u) halves);
      right = Column-same (stands values (first + 2) (ap (λ i. slice_get values i) (omega arith) ∙ fit.2.2.1))
          (Column-each_two add_ring.add (Column-of n (value values v) size_v) halves);
      fit = subst (λ i. FitFrom inputs values i (less_plan (first + 3) (first + 1) (first + 2) n)) (omega arith) fit.2.2.2;
    }
  where
    halves_of : (n : ℕ) → Column n (λ k. half) (replicate n half)
    halves_of n = record { size = length-replicate n half; words = λ k lt. get_or-replicate n k half 0 lt }

pub tells_signed_less : (first u v n : ℕ) → TellsSignedLess first u v n (signed_less_plan first u v n)
tells_signed_less first u v n inputs values size_u size_v words_u words_v fit =
    let us = value values u in
    let vs = value values v in
    let r = raised_law inputs values first u v n size_u size_v fit in
    let told = comparison.tells_less (first + 3) (first + 1) (first + 2) n inputs values r.left.size r.right.size r.fit in
    let same =
    same_columns n (λ k. signed_less (word us k) (word vs k)) (each_two less_test (value values (first + 1)) (value values (first + 2)))
    (each_two signed_less us vs)
    (Column-ext (λ k lt. orders_are_raised (word us k) (word vs k) (words_u k) (words_v k)) (Column-each_two less_test r.left r.right))
    (Column-each_two signed_less (Column-of n us size_u) (Column-of n vs size_v)) in
    ap (λ i. slice_get values i) (omega arith) ∙ told ∙ ap Some same

pub takes_words : (first u v n : ℕ) → TakesWords first u v n (signed_less_plan first u v n)
takes_words first u v n inputs values miner size_u size_v fit =
    let r = raised_law inputs values first u v n size_u size_v fit in
    let taken = comparison.takes_words (first + 3) (first + 1) (first + 2) n inputs values miner r.left.size r.right.size r.fit in
    ap (λ k. 0 + (0 + (0 + k))) taken ∙ omega arith

-- ---- as the contract says it

pub tells_signed_less_from : (first u v n : ℕ) (gates : List Gate) → gates ≡ signed_less_plan first u v n → TellsSignedLess first u v n gates
tells_signed_less_from first u v n gates e = subst (TellsSignedLess first u v n) (sym e) (tells_signed_less first u v n)

pub takes_words_from : (first u v n : ℕ) (gates : List Gate) → gates ≡ signed_less_plan first u v n → TakesWords first u v n gates
takes_words_from first u v n gates e = subst (TakesWords first u v n) (sym e) (takes_words first u v n)

pub packs_signed_less_from : (first u v n : ℕ) (gates : List Gate) → gates ≡ packed_signed_less_plan first u v n → PacksSignedLess first u v n gates
packs_signed_less_from first u v n gates e =
    subst (PacksSignedLess first u v n) (sym e) (λ inputs values size_u size_v words_u words_v fit.
    packs_last inputs values first 113 (first + 112) (signed_less_plan first u v n) _ refl fit
    (tells_signed_less first u v n inputs values size_u size_v words_u words_v
    (FitFrom-append inputs values first (signed_less_plan first u v n) (Pack (first + 112) ∷ []) fit).0))

pub packed_take_from : (first u v n : ℕ) (gates : List Gate) → gates ≡ packed_signed_less_plan first u v n → TakesWords first u v n gates
packed_take_from first u v n gates e =
    subst (TakesWords first u v n) (sym e) (λ inputs values miner size_u size_v fit.
    takes_no_more (map length values) miner (first + 112) (words_taken miner n) (signed_less_plan first u v n)
    (takes_words first u v n inputs values miner size_u size_v
    (FitFrom-append inputs values first (signed_less_plan first u v n) (Pack (first + 112) ∷ []) fit).0))
