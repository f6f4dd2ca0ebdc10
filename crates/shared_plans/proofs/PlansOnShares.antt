-- Each plan after a run: it suits, and its last value is shared.
use Rattle.std.proofs.Common.{◌≡◌, ℕ, ◌+◌, ◌*◌, ◌<◌, ◌≤◌, ◌^◌, ◌⊎◌, Some, List, ◌∷◌, length, map, refl, sym, ◌∙◌, ap, subst, inl, inr, arith}
use Rattle.std.specs.Prelude.{slice_get}
use Rattle.std.proofs.lemmas.Bool.{cases_lt}
use Rattle.std.proofs.lemmas.List.{get_or_past}
use Rattle.std.proofs.lemmas.Bool.Decides.{nat_tests}
use Rattle.proto_core.specs.Rings.{add_ring, xor_ring}
use Rattle.proto_core.specs.RingsKeepLaws.{add_ring_laws}
use Rattle.proto_core.specs.Lists.{AreWords}
use Rattle.proto_core.specs.declared.party.Number.{Number}
use Rattle.protocol_model.specs.Runs.{Tapes}
use Rattle.gates.specs.declared.ring_kind.RingKind.TheVariants.{Arithmetic, Boolean}
use Rattle.gates.specs.declared.gate.Gate.{Gate}
use Rattle.gates.specs.declared.gate.Gate.TheVariants.{Sub}
use Rattle.gates.proofs.Columns.{word, stands, Column-of, Column-same, Column-ext, Column-map, Column-each_two, same_columns}
use Rattle.gates.specs.Clear.{value, each_two}
use Rattle.gates.specs.Counts.{Miner}
use Rattle.gates.specs.WordTests.{zero_test, less_test}
use Rattle.plans.specs.Equality.{eq_plan}
use Rattle.plans.specs.EqualityLaw as equality
use Rattle.plans.proofs.EqualityLaws as equality_laws
use Rattle.plans.specs.BitExtract.{bits_plan}
use Rattle.plans.specs.BitExtractLaw as bits
use Rattle.plans.proofs.BitExtractLaws as bits_laws
use Rattle.plans.specs.Compare.{less_plan}
use Rattle.plans.specs.CompareLaw as compare
use Rattle.plans.proofs.CompareLaws as compare_laws
use Rattle.oblivious_index.specs.Lookup.{looked, lookup_plan}
use Rattle.oblivious_index.specs.LookupLaw as lookup
use Rattle.oblivious_index.proofs.LookupLaws as lookup_laws
use Rattle.shared_gates.specs.Shares.{AreShares}
use Rattle.shared_plans.specs.GateRuns.{GateRun, IsWellFormed, dealt_sizes, value_count, value_sizes, shares_of, IsNumber, Reach}
use Rattle.shared_plans.specs.Outcomes.{Follows}
use Rattle.shared_plans.specs.Plans.{zero_test_kinds, equality_kinds, bits_kinds, comparison_kinds, then_zero_test, then_equality, then_bits}
use Rattle.shared_plans.specs.Plans.{then_comparison, equal_test, lookup_kinds, then_lookup}
use Rattle.shared_plans.proofs.KindedPlans.{zero-test-kinded, equality-kinded, bits-kinded, comparison-kinded}
use Rattle.shared_plans.proofs.KindedLookup.{lookup-kinded}
use Rattle.shared_plans.proofs.SizedPlans.{At, suited-sizes, zero-test-suited, equality-suited, bits-suited, comparison-suited, lookup-suited}
use Rattle.shared_plans.proofs.GateRunLaws.{sizes-count}
use Rattle.shared_plans.proofs.PlanRuns.{number-below, outcome, operand-value, operand-size, result-shares, fits-plan}

-- ---- words are equal where their difference is 0

shares-words : (xs : List ℕ) (s : Number → List ℕ) → AreShares add_ring xs s → (k : ℕ) → k < length xs → word xs k < 2 ^ 64
shares-words xs s shares k lt = subst (λ x. x < 2 ^ 64) (shares.sum k lt) (add_ring_laws.add_word _ _)

pub all-words : (xs : List ℕ) (s : Number → List ℕ) → AreShares add_ring xs s → AreWords xs
all-words xs s shares k = by_place (cases_lt k (length xs))
  where
    small : (x : ℕ) → x ≡ 0 → x < 2 ^ 64
    small x e = omega arith

    by_place : (k < length xs) ⊎ (length xs ≤ k) → word xs k < 2 ^ 64
    by_place (inl below) = shares-words xs s shares k below
    by_place (inr past) = small (word xs k) (get_or_past xs k 0 past)

both_yes : (d x y : ℕ) → d ≡ 0 → x ≡ y → zero_test d ≡ equal_test x y
both_yes d x y none same = grind (arith, nat_tests)

both_no_below : (d x y : ℕ) → 0 < d → x < y → zero_test d ≡ equal_test x y
both_no_below d x y some below = grind (arith, nat_tests)

both_no_above : (d x y : ℕ) → 0 < d → y < x → zero_test d ≡ equal_test x y
both_no_above d x y some above = grind (arith, nat_tests)

equal_by_difference : (x y : ℕ) → x < 2 ^ 64 → y < 2 ^ 64 → zero_test (add_ring.sub x y) ≡ equal_test x y
equal_by_difference x y hx hy =
    elim (cases_lt x y) as (λ _. zero_test (add_ring.sub x y) ≡ equal_test x y) [
      | inl below ↦ both_no_below (add_ring.sub x y) x y (omega arith) below
      | inr not_below ↦ elim (cases_lt y x) as (λ _. zero_test (add_ring.sub x y) ≡ equal_test x y) [
        | inl above ↦ both_no_above (add_ring.sub x y) x y (omega arith) above
        | inr not_above ↦ both_yes (add_ring.sub x y) x y (omega arith) (omega arith)
      ]
    ]

equal-differences :
    (n : ℕ) (us vs : List ℕ) → length us ≡ n → length vs ≡ n → ((k : ℕ) → k < length us → word us k < 2 ^ 64) →
    ((k : ℕ) → k < length vs → word vs k < 2 ^ 64) → map zero_test (each_two add_ring.sub us vs) ≡ each_two equal_test us vs
equal-differences n us vs size_u size_v words_u words_v =
    let column_u = Column-of n us size_u in
    let column_v = Column-of n vs size_v in
    same_columns n (λ k. equal_test (word us k) (word vs k)) (map zero_test (each_two add_ring.sub us vs)) (each_two equal_test us vs)
    (Column-ext (λ k lt. equal_by_difference (word us k) (word vs k) (words_u k (omega arith)) (words_v k (omega arith)))
    (Column-map zero_test (Column-each_two add_ring.sub column_u column_v)))
    (Column-each_two equal_test column_u column_v)

module _ (r : GateRun) (good : IsWellFormed r) where
  pub stands-at : (u n : ℕ) → IsNumber r n u → At (value_sizes r) u n
  stands-at u n number =
      record { below = subst (λ count. u < count) (sym (sizes-count r good)) (number-below r good u n number); size = number.size }

  -- ---- equality

  pub zero-test-follows :
      (n word : ℕ) → IsNumber r n word →
      Follows r (eq_plan (value_count r) word) zero_test_kinds (λ miner. equality.words_taken miner n)
  unfolding zero_test_kinds
  zero-test-follows n word number =
      record {
        kinded = zero-test-kinded r.dealt_kinds r.kinds (value_count r) word good.counted number.kind;
        suits =
            suited-sizes (dealt_sizes r) (value_sizes r) (eq_plan (value_count r) word)
            (zero-test-suited (dealt_sizes r) (value_sizes r) (value_count r) word n (sizes-count r good) (stands-at word n number));
        counted = refl;
        opens_none = tt;
        takes = λ inputs values miner same fit.
            equality_laws.takes_words (value_count r) word n inputs values miner
            (same word (number-below r good word n number) ∙ number.size) fit;
      }

  pub zero-test-shared :
      (n word : ℕ) (tapes : Tapes) → IsNumber r n word → Reach r (λ miner. equality.words_taken miner n) tapes →
      (us : List ℕ) → AreShares add_ring us (shares_of r tapes word) →
      AreShares xor_ring (map zero_test us) (shares_of (then_zero_test r word) tapes (value_count r + 16))
  unfolding zero_test_kinds
  zero-test-shared n word tapes number reach us shares =
      let first = value_count r in
      let plan = eq_plan first word in
      let words = λ (miner : Miner). equality.words_taken miner n in
      let follows = zero-test-follows n word number in
      let out = outcome r plan zero_test_kinds words good follows tapes reach in
      let clear = operand-value r plan zero_test_kinds words good follows tapes reach word n number us shares in
      result-shares r plan zero_test_kinds words good follows tapes reach Boolean 16 (map zero_test us) (omega arith) refl
      (equality_laws.tests_for_zero first word r.inputs out.computed.more (fits-plan r plan zero_test_kinds words good follows tapes reach)
      ∙ ap (λ xs. Some (map zero_test xs)) (sym clear))

  pub equality-follows :
      (n u v : ℕ) → IsNumber r n u → IsNumber r n v →
      Follows r (Sub u v ∷ eq_plan (value_count r + 1) (value_count r)) equality_kinds (λ miner. equality.words_taken miner n)
  unfolding equality_kinds
  equality-follows n u v number_u number_v =
      let first = value_count r in
      record {
        kinded = equality-kinded r.dealt_kinds r.kinds first u v good.counted number_u.kind number_v.kind;
        suits =
            suited-sizes (dealt_sizes r) (value_sizes r) (Sub u v ∷ eq_plan (first + 1) first)
            (equality-suited (dealt_sizes r) (value_sizes r) first u v n (sizes-count r good) (stands-at u n number_u) (stands-at v n number_v));
        counted = refl;
        opens_none = tt;
        takes = λ inputs values miner same fit.
            let column_u = Column-of n (value values u) (same u (number-below r good u n number_u) ∙ number_u.size) in
            let column_v = Column-of n (value values v) (same v (number-below r good v n number_v) ∙ number_v.size) in
            let column = Column-same (stands values first fit.1) (Column-each_two add_ring.sub column_u column_v) in
            let taken = equality_laws.takes_words (first + 1) first n inputs values miner column.size fit.2 in
            omega arith;
      }

  pub equality-shared :
      (n u v : ℕ) (tapes : Tapes) → IsNumber r n u → IsNumber r n v → Reach r (λ miner. equality.words_taken miner n) tapes →
      (us vs : List ℕ) → AreShares add_ring us (shares_of r tapes u) → AreShares add_ring vs (shares_of r tapes v) →
      AreShares xor_ring (each_two equal_test us vs) (shares_of (then_equality r u v) tapes (value_count r + 17))
  unfolding equality_kinds
  equality-shared n u v tapes number_u number_v reach us vs shares_u shares_v =
      let first = value_count r in
      let plan : List Gate = Sub u v ∷ eq_plan (first + 1) first in
      let words = λ (miner : Miner). equality.words_taken miner n in
      let follows = equality-follows n u v number_u number_v in
      let out = outcome r plan equality_kinds words good follows tapes reach in
      let fit = fits-plan r plan equality_kinds words good follows tapes reach in
      let clear_u = operand-value r plan equality_kinds words good follows tapes reach u n number_u us shares_u in
      let clear_v = operand-value r plan equality_kinds words good follows tapes reach v n number_v vs shares_v in
      let size_u : length us ≡ n = ap length clear_u ∙ operand-size r plan equality_kinds words good follows tapes reach u n number_u in
      let size_v : length vs ≡ n = ap length clear_v ∙ operand-size r plan equality_kinds words good follows tapes reach v n number_v in
      let last : first + 17 ≡ first + 1 + 16 = omega arith in
      result-shares r plan equality_kinds words good follows tapes reach Boolean 17 (each_two equal_test us vs) (omega arith) refl
      (ap (slice_get out.computed.more) last
      ∙ equality_laws.tests_for_zero (first + 1) first r.inputs out.computed.more fit.2
      ∙ ap (λ xs. Some (map zero_test xs))
      (stands out.computed.more first fit.1
      ∙ ap (λ xs. each_two add_ring.sub xs (value out.computed.more v)) (sym clear_u)
      ∙ ap (λ xs. each_two add_ring.sub us xs) (sym clear_v))
      ∙ ap Some (equal-differences n us vs size_u size_v (shares-words us (shares_of r tapes u) shares_u) (shares-words vs (shares_of r tapes v) shares_v)))

  -- ---- bit extraction

  pub bits-follow : (n word : ℕ) → IsNumber r n word → Follows r (bits_plan (value_count r) word n) bits_kinds (λ miner. bits.words_taken miner n)
  unfolding bits_kinds
  bits-follow n word number =
      record {
        kinded = bits-kinded r.dealt_kinds r.kinds (value_count r) word n good.counted number.kind;
        suits =
            suited-sizes (dealt_sizes r) (value_sizes r) (bits_plan (value_count r) word n)
            (bits-suited (dealt_sizes r) (value_sizes r) (value_count r) word n (sizes-count r good) (stands-at word n number));
        counted = refl;
        opens_none = tt;
        takes = λ inputs values miner same fit.
            bits_laws.takes_words (value_count r) word n inputs values miner (same word (number-below r good word n number) ∙ number.size) fit;
      }

  pub bits-shared :
      (n word : ℕ) (tapes : Tapes) → IsNumber r n word → Reach r (λ miner. bits.words_taken miner n) tapes →
      (us : List ℕ) → AreShares add_ring us (shares_of r tapes word) →
      AreShares xor_ring us (shares_of (then_bits r n word) tapes (value_count r + 53))
  unfolding bits_kinds
  bits-shared n word tapes number reach us shares =
      let first = value_count r in
      let plan = bits_plan first word n in
      let words = λ (miner : Miner). bits.words_taken miner n in
      let follows = bits-follow n word number in
      let out = outcome r plan bits_kinds words good follows tapes reach in
      let clear = operand-value r plan bits_kinds words good follows tapes reach word n number us shares in
      result-shares r plan bits_kinds words good follows tapes reach Boolean 53 us (omega arith) refl
      (bits_laws.gives_bits first word n r.inputs out.computed.more (operand-size r plan bits_kinds words good follows tapes reach word n number)
      (fits-plan r plan bits_kinds words good follows tapes reach)
      ∙ ap (λ xs. Some xs) (sym clear))

  -- ---- comparison

  pub comparison-follows :
      (n u v : ℕ) → IsNumber r n u → IsNumber r n v →
      Follows r (less_plan (value_count r) u v n) comparison_kinds (λ miner. compare.words_taken miner n)
  unfolding comparison_kinds
  comparison-follows n u v number_u number_v =
      record {
        kinded = comparison-kinded r.dealt_kinds r.kinds (value_count r) u v n good.counted number_u.kind number_v.kind;
        suits =
            suited-sizes (dealt_sizes r) (value_sizes r) (less_plan (value_count r) u v n)
            (comparison-suited (dealt_sizes r) (value_sizes r) (value_count r) u v n (sizes-count r good) (stands-at u n number_u) (stands-at v n number_v));
        counted = refl;
        opens_none = tt;
        takes = λ inputs values miner same fit.
            compare_laws.takes_words (value_count r) u v n inputs values miner (same u (number-below r good u n number_u) ∙ number_u.size)
            (same v (number-below r good v n number_v) ∙ number_v.size) fit;
      }

  pub comparison-shared :
      (n u v : ℕ) (tapes : Tapes) → IsNumber r n u → IsNumber r n v → Reach r (λ miner. compare.words_taken miner n) tapes →
      (us vs : List ℕ) → AreShares add_ring us (shares_of r tapes u) → AreShares add_ring vs (shares_of r tapes v) →
      AreShares xor_ring (each_two less_test us vs) (shares_of (then_comparison r n u v) tapes (value_count r + 109))
  unfolding comparison_kinds
  comparison-shared n u v tapes number_u number_v reach us vs shares_u shares_v =
      let first = value_count r in
      let plan = less_plan first u v n in
      let words = λ (miner : Miner). compare.words_taken miner n in
      let follows = comparison-follows n u v number_u number_v in
      let out = outcome r plan comparison_kinds words good follows tapes reach in
      let clear_u = operand-value r plan comparison_kinds words good follows tapes reach u n number_u us shares_u in
      let clear_v = operand-value r plan comparison_kinds words good follows tapes reach v n number_v vs shares_v in
      result-shares r plan comparison_kinds words good follows tapes reach Boolean 109 (each_two less_test us vs) (omega arith) refl
      (compare_laws.tells_less first u v n r.inputs out.computed.more
      (operand-size r plan comparison_kinds words good follows tapes reach u n number_u)
      (operand-size r plan comparison_kinds words good follows tapes reach v n number_v)
      (fits-plan r plan comparison_kinds words good follows tapes reach)
      ∙ ap (λ xs. Some (each_two less_test xs (value out.computed.more v))) (sym clear_u)
      ∙ ap (λ xs. Some (each_two less_test us xs)) (sym clear_v))

  -- ---- look-up

  pub lookup-follows :
      (n m array index : ℕ) → n < 2 ^ 64 → IsNumber r n array → IsNumber r m index →
      Follows r (lookup_plan (value_count r) array index n m) lookup_kinds (λ miner. lookup.words_taken miner (n * m))
  unfolding lookup_kinds
  lookup-follows n m array index small number_a number_i =
      record {
        kinded =
            lookup-kinded r.dealt_kinds r.kinds (value_count r) array index n m good.counted (lookup_laws.places-words n m small) number_a.kind number_i.kind;
        suits =
            suited-sizes (dealt_sizes r) (value_sizes r) (lookup_plan (value_count r) array index n m)
            (lookup-suited (dealt_sizes r) (value_sizes r) (value_count r) array index n m (sizes-count r good) (stands-at array n number_a)
            (stands-at index m number_i));
        counted = refl;
        opens_none = tt;
        takes = λ inputs values miner same fit.
            lookup_laws.takes_words_from (value_count r) array index n m (lookup_plan (value_count r) array index n m) refl inputs values miner
            (same array (number-below r good array n number_a) ∙ number_a.size) (same index (number-below r good index m number_i) ∙ number_i.size) fit;
      }

  pub lookup-shared :
      (n m array index : ℕ) (tapes : Tapes) → n < 2 ^ 64 → IsNumber r n array → IsNumber r m index →
      Reach r (λ miner. lookup.words_taken miner (n * m)) tapes →
      (xs ks : List ℕ) → AreShares add_ring xs (shares_of r tapes array) → AreShares add_ring ks (shares_of r tapes index) →
      AreShares add_ring (looked xs ks) (shares_of (then_lookup r array index n m) tapes (value_count r + 23))
  unfolding lookup_kinds
  lookup-shared n m array index tapes small number_a number_i reach xs ks shares_a shares_i =
      let first = value_count r in
      let plan = lookup_plan first array index n m in
      let words = λ (miner : Miner). lookup.words_taken miner (n * m) in
      let follows = lookup-follows n m array index small number_a number_i in
      let out = outcome r plan lookup_kinds words good follows tapes reach in
      let clear_a = operand-value r plan lookup_kinds words good follows tapes reach array n number_a xs shares_a in
      let clear_i = operand-value r plan lookup_kinds words good follows tapes reach index m number_i ks shares_i in
      result-shares r plan lookup_kinds words good follows tapes reach Arithmetic 23 (looked xs ks) (omega arith) refl
      (lookup_laws.looks_up_from first array index n m plan small refl r.inputs out.computed.more
      (operand-size r plan lookup_kinds words good follows tapes reach array n number_a)
      (operand-size r plan lookup_kinds words good follows tapes reach index m number_i)
      (subst AreWords clear_a (all-words xs (shares_of r tapes array) shares_a))
      (subst AreWords clear_i (all-words ks (shares_of r tapes index) shares_i))
      (fits-plan r plan lookup_kinds words good follows tapes reach)
      ∙ ap (λ l. Some (looked l (value out.computed.more index))) (sym clear_a)
      ∙ ap (λ l. Some (looked xs l)) (sym clear_i))
