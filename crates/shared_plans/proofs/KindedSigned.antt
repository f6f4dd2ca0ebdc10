-- The operands of a comparison of numbers with a sign, and what its gates make, are shared as the gates take them.
use Rattle.std.proofs.Common.{◌≡◌, ℕ, zero, suc, ◌+◌, List, [], ◌∷◌, ◌++◌, length, refl, ◌∙◌, subst, arith, length-append, append_assoc}
use Rattle.std.specs.Prelude.{replicate}
use Rattle.gates.specs.declared.ring_kind.RingKind.TheVariants.{Arithmetic}
use Rattle.gates.specs.declared.gate.Gate.{Gate}
use Rattle.proto_core.specs.Lists.{AreWords}
use Rattle.signed_words.specs.Signed.{half}
use Rattle.plans.specs.Compare.{less_plan}
use Rattle.plans.specs.Signed.{signed_less_plan}
use Rattle.shared_gates.specs.Shares.{Kind, Shared, kind_at}
use Rattle.shared_gates.specs.Kinds.{AllKinded}
use Rattle.shared_plans.specs.Plans.{comparison_kinds, signed_comparison_kinds}
use Rattle.shared_plans.proofs.KindedPlans.{shared-grown, kind-behind, comparison-kinded}

halves-are-words : (n : ℕ) → AreWords (replicate n half)
halves-are-words zero k = omega arith
halves-are-words (suc n) zero = omega arith
halves-are-words (suc n) (suc k) = halves-are-words n k

pub signed-kinded :
    (dealt kinds : List Kind) (first u v n : ℕ) → length kinds ≡ first → kind_at kinds u ≡ Shared Arithmetic →
    kind_at kinds v ≡ Shared Arithmetic → AllKinded dealt (kinds ++ signed_comparison_kinds) first (signed_less_plan first u v n)
unfolding signed_comparison_kinds comparison_kinds
signed-kinded dealt kinds first u v n count of_u of_v =
    let number : Kind = Shared Arithmetic in
    let three : List Kind = replicate 3 number in
    let own : List Kind = three ++ comparison_kinds in
    let all : List Kind = kinds ++ own in
    let plan = less_plan (first + 3) (first + 1) (first + 2) n in
    let own_kind : (j k : ℕ) → length kinds + j ≡ k → kind_at own j ≡ number → kind_at all k ≡ number =
    λ j k place is. subst (λ p. kind_at all p ≡ number) place (kind-behind kinds own j ∙ is) in
    let raised : (j k : ℕ) → length kinds + j ≡ k → kind_at three j ≡ number → kind_at (kinds ++ three) k ≡ number =
    λ j k place is. subst (λ p. kind_at (kinds ++ three) p ≡ number) place (kind-behind kinds three j ∙ is) in
    let longer : length (kinds ++ three) ≡ first + 3 = omega (arith, length-append kinds three) in
    let compared : AllKinded dealt all (first + 3) plan =
    subst (λ ks. AllKinded dealt ks (first + 3) plan) (append_assoc kinds three comparison_kinds)
    (comparison-kinded dealt (kinds ++ three) (first + 3) (first + 1) (first + 2) n longer (raised 1 (first + 1) (omega arith) refl)
    (raised 2 (first + 2) (omega arith) refl)) in
    let place : first + 3 ≡ first + 1 + 1 + 1 = omega arith in
    let halves = own_kind 0 first (omega arith) refl in (
      (halves-are-words n, (Arithmetic, (halves, tt))),
      (
        (shared-grown kinds own u Arithmetic of_u, (halves, (own_kind 1 (first + 1) (omega arith) refl, tt))),
        (
          (shared-grown kinds own v Arithmetic of_v, (halves, (own_kind 2 (first + 1 + 1) (omega arith) refl, tt))),
          subst (λ k. AllKinded dealt all k plan) place compared,
        ),
      ),
    )
