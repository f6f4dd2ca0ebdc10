-- What plans gain whose operands stand.
use Rattle.std.proofs.Common.{◌≡◌, ℕ, ◌*◌, ◌<◌, ◌^◌, Some, List, length, map, refl, sym, ap, ◌∙◌, subst}
use Rattle.proto_core.specs.Lists.{AreWords}
use Rattle.gates.specs.declared.ring_kind.RingKind.TheVariants.{Arithmetic, Boolean}
use Rattle.gates.specs.Clear.{value, each_two}
use Rattle.gates.specs.WordTests.{zero_test, less_test}
use Rattle.plans.specs.Equality.{eq_plan}
use Rattle.plans.specs.EqualityLaw as equality
use Rattle.plans.proofs.EqualityLaws as equality_laws
use Rattle.plans.specs.BitExtract.{bits_plan}
use Rattle.plans.specs.BitExtractLaw as bits
use Rattle.plans.proofs.BitExtractLaws as bits_laws
use Rattle.plans.specs.Compare.{less_plan}
use Rattle.plans.specs.CompareLaw as compare
use Rattle.plans.specs.Signed.{signed_less_plan}
use Rattle.plans.proofs.SignedLaws as signed_laws
use Rattle.signed_words.specs.Signed.{signed_less}
use Rattle.oblivious_index.specs.Lookup.{looked, lookup_plan}
use Rattle.oblivious_index.specs.LookupLaw as lookup
use Rattle.oblivious_index.proofs.LookupLaws as lookup_laws
use Rattle.plans.proofs.CompareLaws as compare_laws
use Rattle.shared_plans.specs.GateRuns.{GateRun, IsWellFormed, value_count, IsNumber}
use Rattle.shared_plans.specs.Plans.{zero_test_kinds, bits_kinds, comparison_kinds, signed_comparison_kinds, lookup_kinds}
use Rattle.shared_plans.proofs.PlansOnShares.{zero-test-follows, bits-follow, comparison-follows, lookup-follows}
use Rattle.shared_plans.proofs.SignedOnShares.{signed-follows}
use Rattle.gate_laws.specs.Facts.{Stands}
use Rattle.gate_laws.proofs.Gains.{Gain, fact}
use Rattle.gate_laws.proofs.Singles.{stands_size}

module _ (r : GateRun) (good : IsWellFormed r) where
  is_number : (u : ℕ) (us : List ℕ) → Stands r (fact u Arithmetic us) → IsNumber r (length us) u
  is_number u us h = record { kind = h.kind; size = stands_size r good u Arithmetic us h }

  pub zero_gain : (u : ℕ) (us : List ℕ) → Stands r (fact u Arithmetic us)
      → Gain r (eq_plan (value_count r) u) zero_test_kinds (λ m. equality.words_taken m (length us)) 16 Boolean (map zero_test us)
  unfolding zero_test_kinds
  zero_gain u us h =
      record {
        follows = zero-test-follows r good (length us) u (is_number u us h);
        none_handed = λ values. refl;
        kind = refl;
        makes = λ values before fit.
            equality_laws.tests_for_zero (value_count r) u r.inputs values fit ∙ ap (λ z. Some (map zero_test z)) (h.words values before);
      }

  pub bits_gain : (u : ℕ) (us : List ℕ) → Stands r (fact u Arithmetic us)
      → Gain r (bits_plan (value_count r) u (length us)) bits_kinds (λ m. bits.words_taken m (length us)) 53 Boolean us
  unfolding bits_kinds
  bits_gain u us h =
      record {
        follows = bits-follow r good (length us) u (is_number u us h);
        none_handed = λ values. refl;
        kind = refl;
        makes = λ values before fit.
            bits_laws.gives_bits (value_count r) u (length us) r.inputs values (ap length (h.words values before)) fit
            ∙ ap (λ z. Some z) (h.words values before);
      }

  pub less_gain : (n u v : ℕ) (us vs : List ℕ) → Stands r (fact u Arithmetic us) → Stands r (fact v Arithmetic vs) → length us ≡ n → length vs ≡ n
      → Gain r (less_plan (value_count r) u v n) comparison_kinds (λ m. compare.words_taken m n) 109 Boolean (each_two less_test us vs)
  unfolding comparison_kinds
  less_gain n u v us vs h k e f =
      record {
        follows = comparison-follows r good n u v
            (record { kind = h.kind; size = stands_size r good u Arithmetic us h ∙ e })
            (record { kind = k.kind; size = stands_size r good v Arithmetic vs k ∙ f });
        none_handed = λ values. refl;
        kind = refl;
        makes = λ values before fit.
            compare_laws.tells_less (value_count r) u v n r.inputs values (ap length (h.words values before) ∙ e) (ap length (k.words values before) ∙ f) fit
            ∙ ap (λ z. Some (each_two less_test z (value values v))) (h.words values before) ∙ ap (λ z. Some (each_two less_test us z)) (k.words values before);
      }

  pub signed_less_gain : (n u v : ℕ) (us vs : List ℕ) → AreWords us → AreWords vs → Stands r (fact u Arithmetic us) → Stands r (fact v Arithmetic vs)
      → length us ≡ n → length vs ≡ n
      → Gain r (signed_less_plan (value_count r) u v n) signed_comparison_kinds (λ m. compare.words_taken m n) 112 Boolean (each_two signed_less us vs)
  unfolding signed_comparison_kinds comparison_kinds
  signed_less_gain n u v us vs p q h k e f =
      record {
        follows = signed-follows r good n u v
            (record { kind = h.kind; size = stands_size r good u Arithmetic us h ∙ e })
            (record { kind = k.kind; size = stands_size r good v Arithmetic vs k ∙ f });
        none_handed = λ values. refl;
        kind = refl;
        makes = λ values before fit.
            signed_laws.tells_signed_less (value_count r) u v n r.inputs values (ap length (h.words values before) ∙ e)
            (ap length (k.words values before) ∙ f)
            (subst AreWords (sym (h.words values before)) p) (subst AreWords (sym (k.words values before)) q) fit
            ∙ ap (λ z. Some (each_two signed_less z (value values v))) (h.words values before)
            ∙ ap (λ z. Some (each_two signed_less us z)) (k.words values before);
      }

  -- the elements of an array u at places v
  pub lookup_gain : (u v : ℕ) (us vs : List ℕ) → AreWords us → AreWords vs → length us < 2 ^ 64 → Stands r (fact u Arithmetic us)
      → Stands r (fact v Arithmetic vs)
      → Gain r (lookup_plan (value_count r) u v (length us) (length vs)) lookup_kinds (λ m. lookup.words_taken m (length us * length vs)) 23 Arithmetic
      (looked us vs)
  unfolding lookup_kinds
  lookup_gain u v us vs p q small h k =
      record {
        follows = lookup-follows r good (length us) (length vs) u v small (is_number u us h) (is_number v vs k);
        none_handed = λ values. refl;
        kind = refl;
        makes = λ values before fit.
            lookup_laws.looks_up_from (value_count r) u v (length us) (length vs) (lookup_plan (value_count r) u v (length us) (length vs)) small refl r.inputs
            values (ap length (h.words values before)) (ap length (k.words values before)) (subst AreWords (sym (h.words values before)) p)
            (subst AreWords (sym (k.words values before)) q) fit
            ∙ ap (λ z. Some (looked z (value values v))) (h.words values before) ∙ ap (λ z. Some (looked us z)) (k.words values before);
      }
