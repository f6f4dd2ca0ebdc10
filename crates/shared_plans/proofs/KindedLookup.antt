-- The operands of a look-up, and what its gates make, are shared as the gates take them.
use Rattle.std.proofs.Common.{◌≡◌, ℕ, ◌+◌, List, [], ◌∷◌, ◌++◌, length, refl, ◌∙◌, subst, arith, length-append, append_assoc}
use Rattle.std.specs.Prelude.{replicate}
use Rattle.gates.specs.declared.ring_kind.RingKind.TheVariants.{Arithmetic, Boolean}
use Rattle.gates.specs.declared.gate.Gate.{Gate}
use Rattle.gates.specs.declared.gate.Gate.TheVariants.{Conv, Tile, Mul, SumEach}
use Rattle.proto_core.specs.Lists.{AreWords}
use Rattle.plans.specs.Equality as equality
use Rattle.oblivious_index.specs.Lookup.{places, lookup_plan}
use Rattle.shared_gates.specs.Shares.{Kind, Shared, kind_at}
use Rattle.shared_gates.specs.Kinds.{AllKinded}
use Rattle.shared_plans.specs.Plans.{zero_test_kinds, lookup_kinds}
use Rattle.shared_plans.proofs.KindedPlans.{shared-grown, kind-behind, kinded-append, zero-test-kinded}
use Rattle.shared_plans.proofs.GateLists.{all-kinded-still}

pub lookup-kinded :
    (dealt kinds : List Kind) (first array index n m : ℕ) → length kinds ≡ first → AreWords (places n m) → kind_at kinds array ≡ Shared Arithmetic →
    kind_at kinds index ≡ Shared Arithmetic → AllKinded dealt (kinds ++ lookup_kinds) first (lookup_plan first array index n m)
unfolding lookup_kinds zero_test_kinds
lookup-kinded dealt kinds first array index n m count words of_array of_index =
    let number : Kind = Shared Arithmetic in
    let three : List Kind = replicate 3 number in
    let tests : List Kind = replicate 17 (Shared Boolean) in
    let four : List Kind = replicate 4 number in
    let own : List Kind = three ++ (tests ++ four) in
    let all : List Kind = kinds ++ own in
    let differences = equality.eq_plan (first + 3) (first + 2) in
    let last : List Gate = Conv (first + 19) ∷ Tile array m ∷ Mul (first + 21) (first + 20) ∷ SumEach (first + 22) n m ∷ [] in
    let own_kind : (j k : ℕ) (kind : Kind) → length kinds + j ≡ k → kind_at own j ≡ kind → kind_at all k ≡ kind =
    λ j k kind place is. subst (λ p. kind_at all p ≡ kind) place (kind-behind kinds own j ∙ is) in
    let longer : length (kinds ++ three) ≡ first + 3 = omega (arith, length-append kinds three) in
    let difference : kind_at (kinds ++ three) (first + 2) ≡ number =
    let place : length kinds + 2 ≡ first + 2 = omega arith in
    subst (λ p. kind_at (kinds ++ three) p ≡ number) place (kind-behind kinds three 2) in
    let tested : AllKinded dealt all (first + 3) differences =
    subst (λ ks. AllKinded dealt ks (first + 3) differences)
    (append_assoc (kinds ++ three) tests four ∙ append_assoc kinds three (tests ++ four))
    (all-kinded-still dealt ((kinds ++ three) ++ tests) four (first + 3) differences (omega (arith, length-append (kinds ++ three) tests))
    (zero-test-kinded dealt (kinds ++ three) (first + 3) (first + 2) longer difference)) in
    let ended : AllKinded dealt all (first + 20) last = (
      ((own_kind 19 (first + 19) (Shared Boolean) (omega arith) refl, tt), (own_kind 20 (first + 20) number (omega arith) refl, tt)),
      (
        (Arithmetic, (shared-grown kinds own array Arithmetic of_array, (own_kind 21 (first + 20 + 1) number (omega arith) refl, tt))),
        (
          (
            own_kind 21 (first + 21) number (omega arith) refl,
            (own_kind 20 (first + 20) number (omega arith) refl, (own_kind 22 (first + 20 + 1 + 1) number (omega arith) refl, tt)),
          ),
          (
            (own_kind 22 (first + 22) number (omega arith) refl, (own_kind 23 (first + 20 + 1 + 1 + 1) number (omega arith) refl, tt)),
            tt,
          ),
        ),
      ),
    ) in
    let rest : AllKinded dealt all (first + 3) (differences ++ last) =
    kinded-append dealt all (first + 3) differences last tested
    (let place : first + 20 ≡ first + 3 + 17 = omega arith in subst (λ k. AllKinded dealt all k last) place ended) in
    let place : first + 3 ≡ first + 1 + 1 + 1 = omega arith in (
      (Arithmetic, (shared-grown kinds own index Arithmetic of_index, (own_kind 0 first number (omega arith) refl, tt))),
      (
        (words, (Arithmetic, (own_kind 1 (first + 1) number (omega arith) refl, tt))),
        (
          (
            own_kind 0 first number (omega arith) refl,
            (own_kind 1 (first + 1) number (omega arith) refl, (own_kind 2 (first + 1 + 1) number (omega arith) refl, tt)),
          ),
          subst (λ k. AllKinded dealt all k (differences ++ last)) place rest,
        ),
      ),
    )
