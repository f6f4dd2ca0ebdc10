-- The operands of each plan, and what its gates make, are shared as the gates take them.
use Rattle.std.proofs.Common.{◌≡◌, ℕ, zero, suc, ◌+◌, ◌*◌, ◌-◌, ◌<◌, ◌≤◌, List, [], ◌∷◌, ◌++◌, length, refl, ◌∙◌, ap, subst, arith, length-append, append_assoc}
use Rattle.std.specs.Prelude.{replicate}
use Rattle.gates.specs.declared.ring_kind.RingKind.{RingKind}
use Rattle.gates.specs.declared.ring_kind.RingKind.TheVariants.{Arithmetic, Boolean}
use Rattle.gates.specs.declared.gate.Gate.{Gate}
use Rattle.gates.specs.declared.gate.Gate.TheVariants.{Sub}
use Rattle.gates.specs.Counts.{made_by, made_by_all}
use Rattle.plans.specs.Equality as equality
use Rattle.plans.specs.BitExtract as bits
use Rattle.plans.specs.Compare as compare
use Rattle.shared_gates.specs.Shares.{Kind, Shared, Known, kind_at}
use Rattle.shared_gates.specs.Kinds.{AllKinded}
use Rattle.shared_plans.specs.Plans.{zero_test_kinds, equality_kinds, bits_kinds, comparison_kinds}

-- ---- kinds by number

known_is_shared : {P : Type 0} (ring : RingKind) → Known ≡ Shared ring → P
known_is_shared ring e = cc

-- more kinds after change none that are shared
pub shared-grown : (kinds more : List Kind) (k : ℕ) (ring : RingKind) → kind_at kinds k ≡ Shared ring → kind_at (kinds ++ more) k ≡ Shared ring
shared-grown [] more k ring e = known_is_shared ring e
shared-grown (kind ∷ kinds) more zero ring e = e
shared-grown (kind ∷ kinds) more (suc k) ring e = shared-grown kinds more k ring e

pub shared-below : (kinds : List Kind) (k : ℕ) (ring : RingKind) → kind_at kinds k ≡ Shared ring → k < length kinds
shared-below [] k ring e = known_is_shared ring e
shared-below (kind ∷ kinds) zero ring e = omega arith
shared-below (kind ∷ kinds) (suc k) ring e = let below : k < length kinds = shared-below kinds k ring e in omega arith

pub kind-behind : (kinds more : List Kind) (k : ℕ) → kind_at (kinds ++ more) (length kinds + k) ≡ kind_at more k
kind-behind [] more k = let e : 0 + k ≡ k = omega arith in ap (kind_at more) e
kind-behind (kind ∷ kinds) more k =
    let e : suc (length kinds) + k ≡ suc (length kinds + k) = omega arith in
    ap (kind_at (kind ∷ (kinds ++ more))) e ∙ kind-behind kinds more k

kind-replicate : (count k : ℕ) (kind : Kind) → k < count → kind_at (replicate count kind) k ≡ kind
kind-replicate zero k kind lt = absurd (none k lt)
  where
    none : (k : ℕ) → k < 0 → ⊥
    none k lt = omega arith
kind-replicate (suc count) zero kind lt = refl
kind-replicate (suc count) (suc k) kind lt = kind-replicate count k kind (omega arith)

-- the numbers from one up to another are shared bit by bit
abbrev pub AllBoolean : List Kind → (from to : ℕ) → Type 0
AllBoolean kinds from to = (k : ℕ) → from ≤ k → k < to → kind_at kinds k ≡ Shared Boolean

boolean-behind :
    (kinds : List Kind) (count first to : ℕ) → length kinds ≡ first → to ≡ first + count →
    AllBoolean (kinds ++ replicate count (Shared Boolean)) first to
boolean-behind kinds count first to same e k le lt =
    let split : length kinds + (k - first) ≡ k = omega arith in
    subst (λ m. kind_at (kinds ++ replicate count (Shared Boolean)) m ≡ Shared Boolean) split
    (kind-behind kinds (replicate count (Shared Boolean)) (k - first) ∙ kind-replicate count (k - first) (Shared Boolean) (omega arith))

pub kinded-append :
    (dealt kinds : List Kind) (next : ℕ) (xs ys : List Gate) → AllKinded dealt kinds next xs →
    AllKinded dealt kinds (next + made_by_all xs) ys → AllKinded dealt kinds next (xs ++ ys)
kinded-append dealt kinds next [] ys none later =
    let e : next + 0 ≡ next = omega arith in subst (λ n. AllKinded dealt kinds n ys) e later
kinded-append dealt kinds next (gate ∷ xs) ys here later =
    let e : next + (made_by gate + made_by_all xs) ≡ next + made_by gate + made_by_all xs = omega arith in
    (here.0, kinded-append dealt kinds (next + made_by gate) xs ys here.1 (subst (λ n. AllKinded dealt kinds n ys) e later))

-- ---- gates on values that are shared bit by bit

module _ (dealt kinds : List Kind) (from to : ℕ) (b : AllBoolean kinds from to) where
  joining-kinded :
      (counts : List ℕ) (same : ℕ) → from ≤ same → same + 1 + 2 * length counts < to →
      AllKinded dealt kinds (same + 1) (equality.joining same counts)
  joining-kinded [] same le lt = ((b same le (omega arith), (b (same + 1) (omega arith) (omega arith), tt)), tt)
  joining-kinded (count ∷ counts) same le lt = (
    (b same le (omega arith), (b (same + 1) (omega arith) (omega arith), tt)),
    (
      (b same le (omega arith), (b (same + 1) (omega arith) (omega arith), (b (same + 1 + 1) (omega arith) (omega arith), tt))),
      joining-kinded counts (same + 1 + 1) (omega arith) (omega arith),
    ),
  )

  carry-kinded :
      (n next g p width : ℕ) (rest : List Gate) → from ≤ g → g < next → from ≤ p → p < next → next + 8 ≤ to →
      AllKinded dealt kinds (next + 8) rest → AllKinded dealt kinds next (bits.carry_step n next g p width ++ rest)
  carry-kinded n next g p width rest le_g lt_g le_p lt_p le later =
      let of_g = b g le_g (omega arith) in
      let of_p = b p le_p (omega arith) in
      let at_0 = b next (omega arith) (omega arith) in
      let at_1 = b (next + 1) (omega arith) (omega arith) in
      let at_2 : kind_at kinds (next + 2) ≡ Shared Boolean = b (next + 2) (omega arith) (omega arith) in
      let at_3 : kind_at kinds (next + 3) ≡ Shared Boolean = b (next + 3) (omega arith) (omega arith) in
      let at_4 : kind_at kinds (next + 4) ≡ Shared Boolean = b (next + 4) (omega arith) (omega arith) in
      let at_5 : kind_at kinds (next + 5) ≡ Shared Boolean = b (next + 5) (omega arith) (omega arith) in
      let second = b (next + 1 + 1) (omega arith) (omega arith) in
      let third = b (next + 1 + 1 + 1) (omega arith) (omega arith) in
      let fourth = b (next + 1 + 1 + 1 + 1) (omega arith) (omega arith) in
      let fifth = b (next + 1 + 1 + 1 + 1 + 1) (omega arith) (omega arith) in
      let sixth = b (next + 1 + 1 + 1 + 1 + 1 + 1) (omega arith) (omega arith) in
      let seventh = b (next + 1 + 1 + 1 + 1 + 1 + 1 + 1) (omega arith) (omega arith) in
      let behind : next + 8 ≡ next + 1 + 1 + 1 + 1 + 1 + 1 + 1 + 1 = omega arith in (
        (Boolean, (of_p, (of_p, (at_0, tt)))),
        (
          (of_g, (at_1, tt)),
          (
            (of_p, (second, tt)),
            (
              (Boolean, (at_1, (at_2, (third, tt)))),
              (
                (at_0, (at_3, (fourth, tt))),
                (
                  (Boolean, (at_4, (fifth, tt))),
                  (
                    (of_g, (at_5, (sixth, tt))),
                    ((Boolean, (at_4, (seventh, tt))), subst (λ k. AllKinded dealt kinds k rest) behind later),
                  ),
                ),
              ),
            ),
          ),
        ),
      )

  carrying-kinded :
      (n h : ℕ) (widths : List ℕ) (next g p : ℕ) → from ≤ h → h < next → from ≤ g → g < next → from ≤ p → p < next →
      next + 8 * length widths + 2 ≤ to → AllKinded dealt kinds next (bits.carrying n h next g p widths)
  carrying-kinded n h [] next g p le_h lt_h le_g lt_g le_p lt_p le =
      let at_next = b next (omega arith) (omega arith) in
      ((b g le_g (omega arith), (at_next, tt)), ((b h le_h (omega arith), (at_next, (b (next + 1) (omega arith) (omega arith), tt))), tt))
  carrying-kinded n h (width ∷ widths) next g p le_h lt_h le_g lt_g le_p lt_p le =
      carry-kinded n next g p width (bits.carrying n h (next + 8) (next + 6) (next + 7) widths) le_g lt_g le_p lt_p (omega arith)
      (carrying-kinded n h widths (next + 8) (next + 6) (next + 7) le_h (omega arith) (omega arith) (omega arith) (omega arith) (omega arith) (omega arith))

  bits-kinded-in :
      (first word n : ℕ) → from ≤ first → first + 54 ≤ to → kind_at kinds word ≡ Shared Arithmetic →
      AllKinded dealt kinds first (bits.bits_plan first word n)
  bits-kinded-in first word n le_first le number =
      let x = b first (omega arith) (omega arith) in
      let y = b (first + 1) (omega arith) (omega arith) in
      let behind : first + 4 ≡ first + 2 + 1 + 1 = omega arith in (
        ((number, tt), (x, (y, tt))),
        (
          (x, (y, (b (first + 2) (omega arith) (omega arith), tt))),
          (
            (x, (y, (b (first + 2 + 1) (omega arith) (omega arith), tt))),
            subst (λ k. AllKinded dealt kinds k (bits.carrying n (first + 3) (first + 4) (first + 2) (first + 3) bits.widths)) behind
                (carrying-kinded n (first + 3) bits.widths (first + 4) (first + 2) (first + 3) (omega arith) (omega arith) (omega arith) (omega arith)
                (omega arith) (omega arith) (omega arith)),
          ),
        ),
      )

  order-kinded :
      (n next g p width : ℕ) (rest : List Gate) → from ≤ g → g < next → from ≤ p → p < next → next + 8 ≤ to →
      AllKinded dealt kinds (next + 8) rest → AllKinded dealt kinds next (compare.order_step n next g p width ++ rest)
  order-kinded n next g p width rest le_g lt_g le_p lt_p le later =
      let of_g = b g le_g (omega arith) in
      let of_p = b p le_p (omega arith) in
      let at_0 = b next (omega arith) (omega arith) in
      let at_1 = b (next + 1) (omega arith) (omega arith) in
      let at_2 : kind_at kinds (next + 2) ≡ Shared Boolean = b (next + 2) (omega arith) (omega arith) in
      let at_3 : kind_at kinds (next + 3) ≡ Shared Boolean = b (next + 3) (omega arith) (omega arith) in
      let at_4 : kind_at kinds (next + 4) ≡ Shared Boolean = b (next + 4) (omega arith) (omega arith) in
      let at_5 : kind_at kinds (next + 5) ≡ Shared Boolean = b (next + 5) (omega arith) (omega arith) in
      let second = b (next + 1 + 1) (omega arith) (omega arith) in
      let third = b (next + 1 + 1 + 1) (omega arith) (omega arith) in
      let fourth = b (next + 1 + 1 + 1 + 1) (omega arith) (omega arith) in
      let fifth = b (next + 1 + 1 + 1 + 1 + 1) (omega arith) (omega arith) in
      let sixth = b (next + 1 + 1 + 1 + 1 + 1 + 1) (omega arith) (omega arith) in
      let seventh = b (next + 1 + 1 + 1 + 1 + 1 + 1 + 1) (omega arith) (omega arith) in
      let behind : next + 8 ≡ next + 1 + 1 + 1 + 1 + 1 + 1 + 1 + 1 = omega arith in (
        (of_p, (at_0, tt)),
        (
          (of_g, (at_1, tt)),
          (
            (Boolean, (at_0, (at_0, (second, tt)))),
            (
              (Boolean, (of_g, (of_p, (third, tt)))),
              (
                (at_2, (at_3, (fourth, tt))),
                (
                  (Boolean, (at_4, (fifth, tt))),
                  (
                    (at_1, (at_5, (sixth, tt))),
                    ((Boolean, (at_4, (seventh, tt))), subst (λ k. AllKinded dealt kinds k rest) behind later),
                  ),
                ),
              ),
            ),
          ),
        ),
      )

  comparing-kinded :
      (n : ℕ) (widths : List ℕ) (next g p : ℕ) → from ≤ g → g < next → from ≤ p → p < next → next + 8 * length widths + 1 ≤ to →
      AllKinded dealt kinds next (compare.comparing n next g p widths)
  comparing-kinded n [] next g p le_g lt_g le_p lt_p le = ((b g le_g (omega arith), (b next (omega arith) (omega arith), tt)), tt)
  comparing-kinded n (width ∷ widths) next g p le_g lt_g le_p lt_p le =
      order-kinded n next g p width (compare.comparing n (next + 8) (next + 6) (next + 7) widths) le_g lt_g le_p lt_p (omega arith)
      (comparing-kinded n widths (next + 8) (next + 6) (next + 7) (omega arith) (omega arith) (omega arith) (omega arith) (omega arith))

  start-kinded :
      (first n : ℕ) (rest : List Gate) → from ≤ first + 1 → first + 61 ≤ to → AllKinded dealt kinds (first + 61) rest →
      AllKinded dealt kinds (first + 55) (compare.order_start first n ++ rest)
  start-kinded first n rest le_first le later =
      let number : (k : ℕ) → first + 1 ≤ k → k ≤ first + 60 → kind_at kinds k ≡ Shared Boolean = λ k above below. b k (omega arith) (omega arith) in
      let all_bits = number (first + 54) (omega arith) (omega arith) in
      let left = number (first + 55) (omega arith) (omega arith) in
      let right = number (first + 56) (omega arith) (omega arith) in
      let behind : first + 61 ≡ first + 55 + 1 + 1 + 1 + 1 + 1 + 1 = omega arith in (
        (Boolean, (all_bits, (left, tt))),
        (
          (Boolean, (all_bits, (number (first + 55 + 1) (omega arith) (omega arith), tt))),
          (
            (left, (number (first + 55 + 1 + 1) (omega arith) (omega arith), tt)),
            (
              (right, (number (first + 57) (omega arith) (omega arith), (number (first + 55 + 1 + 1 + 1) (omega arith) (omega arith), tt))),
              (
                (left, (right, (number (first + 55 + 1 + 1 + 1 + 1) (omega arith) (omega arith), tt))),
                (
                  (number (first + 59) (omega arith) (omega arith), (number (first + 55 + 1 + 1 + 1 + 1 + 1) (omega arith) (omega arith), tt)),
                  subst (λ k. AllKinded dealt kinds k rest) behind later,
                ),
              ),
            ),
          ),
        ),
      )

-- ---- the plans

pub zero-test-kinded :
    (dealt kinds : List Kind) (first word : ℕ) → length kinds ≡ first → kind_at kinds word ≡ Shared Arithmetic →
    AllKinded dealt (kinds ++ zero_test_kinds) first (equality.eq_plan first word)
unfolding zero_test_kinds
zero-test-kinded dealt kinds first word count number =
    let all : List Kind = kinds ++ replicate 17 (Shared Boolean) in
    let b : AllBoolean all first (first + 17) = boolean-behind kinds 17 first (first + 17) count refl in
    let x = b first (omega arith) (omega arith) in
    let y = b (first + 1) (omega arith) (omega arith) in
    let differing = b (first + 2) (omega arith) (omega arith) in (
      ((shared-grown kinds (replicate 17 (Shared Boolean)) word Arithmetic number, tt), (x, (y, tt))),
      (
        (x, (y, (differing, tt))),
        (
          (differing, (b (first + 2 + 1) (omega arith) (omega arith), tt)),
          joining-kinded dealt all first (first + 17) b equality.shifts (first + 2 + 1) (omega arith) (omega arith),
        ),
      ),
    )

pub equality-kinded :
    (dealt kinds : List Kind) (first u v : ℕ) → length kinds ≡ first → kind_at kinds u ≡ Shared Arithmetic →
    kind_at kinds v ≡ Shared Arithmetic → AllKinded dealt (kinds ++ equality_kinds) first (Sub u v ∷ equality.eq_plan (first + 1) first)
unfolding equality_kinds zero_test_kinds
equality-kinded dealt kinds first u v count number_u number_v =
    let bits_of_two : List Kind = replicate 17 (Shared Boolean) in
    let own : List Kind = Shared Arithmetic ∷ bits_of_two in
    let one : List Kind = kinds ++ Shared Arithmetic ∷ [] in
    let longer : length one ≡ first + 1 = omega (arith, length-append kinds (Shared Arithmetic ∷ [])) in
    let here : length kinds + 0 ≡ first = omega arith in
    let difference : (more : List Kind) → kind_at (kinds ++ Shared Arithmetic ∷ more) first ≡ Shared Arithmetic =
    λ more. subst (λ k. kind_at (kinds ++ Shared Arithmetic ∷ more) k ≡ Shared Arithmetic) here (kind-behind kinds (Shared Arithmetic ∷ more) 0) in (
      (shared-grown kinds own u Arithmetic number_u, (shared-grown kinds own v Arithmetic number_v, (difference bits_of_two, tt))),
      subst (λ ks. AllKinded dealt ks (first + 1) (equality.eq_plan (first + 1) first)) (append_assoc kinds (Shared Arithmetic ∷ []) bits_of_two)
          (zero-test-kinded dealt one (first + 1) first longer (difference [])),
    )

pub bits-kinded :
    (dealt kinds : List Kind) (first word n : ℕ) → length kinds ≡ first → kind_at kinds word ≡ Shared Arithmetic →
    AllKinded dealt (kinds ++ bits_kinds) first (bits.bits_plan first word n)
unfolding bits_kinds
bits-kinded dealt kinds first word n count number =
    bits-kinded-in dealt (kinds ++ replicate 54 (Shared Boolean)) first (first + 54) (boolean-behind kinds 54 first (first + 54) count refl) first word n
    (omega arith) (omega arith) (shared-grown kinds (replicate 54 (Shared Boolean)) word Arithmetic number)

pub comparison-kinded :
    (dealt kinds : List Kind) (first u v n : ℕ) → length kinds ≡ first → kind_at kinds u ≡ Shared Arithmetic →
    kind_at kinds v ≡ Shared Arithmetic → AllKinded dealt (kinds ++ comparison_kinds) first (compare.less_plan first u v n)
unfolding comparison_kinds
comparison-kinded dealt kinds first u v n count number_u number_v =
    let own : List Kind = Shared Arithmetic ∷ replicate 109 (Shared Boolean) in
    let all : List Kind = kinds ++ own in
    let longer : length (kinds ++ Shared Arithmetic ∷ []) ≡ first + 1 = omega (arith, length-append kinds (Shared Arithmetic ∷ [])) in
    let to : first + 110 ≡ first + 1 + 109 = omega arith in
    let b : AllBoolean all (first + 1) (first + 110) =
    subst (λ ks. AllBoolean ks (first + 1) (first + 110)) (append_assoc kinds (Shared Arithmetic ∷ []) (replicate 109 (Shared Boolean)))
    (boolean-behind (kinds ++ Shared Arithmetic ∷ []) 109 (first + 1) (first + 110) longer to) in
    let here : length kinds + 0 ≡ first = omega arith in
    let both : kind_at all first ≡ Shared Arithmetic = subst (λ k. kind_at all k ≡ Shared Arithmetic) here (kind-behind kinds own 0) in
    let joins = compare.comparing n (first + 61) (first + 58) (first + 60) bits.widths in
    let behind : first + 55 ≡ first + 1 + 54 = omega arith in (
      (Arithmetic, (shared-grown kinds own u Arithmetic number_u, (shared-grown kinds own v Arithmetic number_v, (both, tt)))),
      kinded-append dealt all (first + 1) (bits.bits_plan (first + 1) first (2 * n)) (compare.order_start first n ++ joins)
          (bits-kinded-in dealt all (first + 1) (first + 110) b (first + 1) first (2 * n) (omega arith) (omega arith) both)
          (subst (λ k. AllKinded dealt all k (compare.order_start first n ++ joins)) behind
          (start-kinded dealt all (first + 1) (first + 110) b first n joins (omega arith) (omega arith)
          (comparing-kinded dealt all (first + 1) (first + 110) b n bits.widths (first + 61) (first + 58) (first + 60) (omega arith) (omega arith)
          (omega arith) (omega arith) (omega arith)))),
    )
