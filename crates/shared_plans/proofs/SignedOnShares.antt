-- The comparison of numbers with a sign after a run: it suits, and its last value is shared.
use Rattle.std.proofs.Common.{◌≡◌, ℕ, ◌+◌, Some, List, refl, sym, ◌∙◌, ap, subst, arith}
use Rattle.proto_core.specs.Rings.{add_ring, xor_ring}
use Rattle.proto_core.specs.Lists.{AreWords}
use Rattle.protocol_model.specs.Runs.{Tapes}
use Rattle.gates.specs.declared.ring_kind.RingKind.TheVariants.{Boolean}
use Rattle.gates.specs.Clear.{value, each_two}
use Rattle.gates.specs.Counts.{Miner}
use Rattle.signed_words.specs.Signed.{signed_less}
use Rattle.plans.specs.CompareLaw as compare
use Rattle.plans.specs.Signed.{signed_less_plan}
use Rattle.plans.proofs.SignedLaws as signed_laws
use Rattle.shared_gates.specs.Shares.{AreShares}
use Rattle.shared_plans.specs.GateRuns.{GateRun, IsWellFormed, dealt_sizes, value_count, value_sizes, shares_of, IsNumber, Reach}
use Rattle.shared_plans.specs.Outcomes.{Follows}
use Rattle.shared_plans.specs.Plans.{signed_comparison_kinds, comparison_kinds, then_signed_comparison}
use Rattle.shared_plans.proofs.KindedSigned.{signed-kinded}
use Rattle.shared_plans.proofs.SizedPlans.{suited-sizes, signed-suited}
use Rattle.shared_plans.proofs.GateRunLaws.{sizes-count}
use Rattle.shared_plans.proofs.PlanRuns.{number-below, outcome, operand-value, operand-size, result-shares, fits-plan}
use Rattle.shared_plans.proofs.PlansOnShares.{all-words, stands-at}

module _ (r : GateRun) (good : IsWellFormed r) where
  pub signed-follows :
      (n u v : ℕ) → IsNumber r n u → IsNumber r n v →
      Follows r (signed_less_plan (value_count r) u v n) signed_comparison_kinds (λ miner. compare.words_taken miner n)
  unfolding signed_comparison_kinds comparison_kinds
  signed-follows n u v number_u number_v =
      record {
        kinded = signed-kinded r.dealt_kinds r.kinds (value_count r) u v n good.counted number_u.kind number_v.kind;
        suits =
            suited-sizes (dealt_sizes r) (value_sizes r) (signed_less_plan (value_count r) u v n)
            (signed-suited (dealt_sizes r) (value_sizes r) (value_count r) u v n (sizes-count r good) (stands-at r good u n number_u)
            (stands-at r good v n number_v));
        counted = refl;
        opens_none = tt;
        takes = λ inputs values miner same fit.
            signed_laws.takes_words (value_count r) u v n inputs values miner (same u (number-below r good u n number_u) ∙ number_u.size)
            (same v (number-below r good v n number_v) ∙ number_v.size) fit;
      }

  pub signed-shared :
      (n u v : ℕ) (tapes : Tapes) → IsNumber r n u → IsNumber r n v → Reach r (λ miner. compare.words_taken miner n) tapes →
      (us vs : List ℕ) → AreShares add_ring us (shares_of r tapes u) → AreShares add_ring vs (shares_of r tapes v) →
      AreShares xor_ring (each_two signed_less us vs) (shares_of (then_signed_comparison r n u v) tapes (value_count r + 112))
  unfolding signed_comparison_kinds comparison_kinds
  signed-shared n u v tapes number_u number_v reach us vs shares_u shares_v =
      let first = value_count r in
      let plan = signed_less_plan first u v n in
      let words = λ (miner : Miner). compare.words_taken miner n in
      let follows = signed-follows n u v number_u number_v in
      let out = outcome r plan signed_comparison_kinds words good follows tapes reach in
      let clear_u = operand-value r plan signed_comparison_kinds words good follows tapes reach u n number_u us shares_u in
      let clear_v = operand-value r plan signed_comparison_kinds words good follows tapes reach v n number_v vs shares_v in
      result-shares r plan signed_comparison_kinds words good follows tapes reach Boolean 112 (each_two signed_less us vs) (omega arith) refl
      (signed_laws.tells_signed_less first u v n r.inputs out.computed.more
      (operand-size r plan signed_comparison_kinds words good follows tapes reach u n number_u)
      (operand-size r plan signed_comparison_kinds words good follows tapes reach v n number_v)
      (subst AreWords clear_u (all-words us (shares_of r tapes u) shares_u))
      (subst AreWords clear_v (all-words vs (shares_of r tapes v) shares_v))
      (fits-plan r plan signed_comparison_kinds words good follows tapes reach)
      ∙ ap (λ xs. Some (each_two signed_less xs (value out.computed.more v))) (sym clear_u)
      ∙ ap (λ xs. Some (each_two signed_less us xs)) (sym clear_v))
