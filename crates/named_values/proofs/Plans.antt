-- The plans take the values that they are given, and such as they make.
use Rattle.std.proofs.Common.{ℕ, ◌+◌, ◌*◌, ◌≤◌, List, [], ◌∷◌, ◌++◌, arith}
use Rattle.gates.specs.declared.gate.Gate.TheVariants.{Conv, Mul, Tile, SumEach}
use Rattle.gates.specs.Counts.{made_by_all}
use Rattle.plans.specs.Equality.{joining, shifts, eq_plan}
use Rattle.plans.specs.BitExtract.{carry_step, carrying, bits_plan}
use Rattle.plans.specs.BitExtract as bits
use Rattle.plans.specs.Compare.{order_start, order_step, comparing, less_plan}
use Rattle.plans.specs.Signed.{signed_less_plan}
use Rattle.language_model.specs.Lookup.{lookup_plan}
use Rattle.named_values.specs.Named.{Numbers, AllTake}
use Rattle.named_values.proofs.Effects.{HasFrom, all_take}

module _ (N : Numbers) where
  -- ---- equality

  joining_takes : (same : ℕ) (counts : List ℕ) → HasFrom N same → AllTake N (joining same counts)
  joining_takes same [] new = ((new same (omega arith), tt), tt)
  joining_takes same (count ∷ counts) new =
      let a = new same (omega arith) in
      let b = new (same + 1) (omega arith) in
      ((a, tt), ((a, (b, tt)), joining_takes (same + 1 + 1) counts (λ k le. new k (omega (arith, le)))))

  pub eq_takes : (first d : ℕ) → HasFrom N first → N d → AllTake N (eq_plan first d)
  eq_takes first d new h = (
    (h, tt),
    (
      (new first (omega arith), (new (first + 1) (omega arith), tt)),
      (
        (new (first + 2) (omega arith), tt),
        joining_takes (first + 2 + 1) shifts (λ k le. new k (omega (arith, le))),
      ),
    ),
  )

  -- ---- bits

  carrying_takes : (n h next g p : ℕ) (widths : List ℕ) → HasFrom N next → N h → N g → N p → AllTake N (carrying n h next g p widths)
  carrying_takes n h next g p [] new a b c = ((b, tt), ((a, (new next (omega arith), tt)), tt))
  carrying_takes n h next g p (width ∷ widths) new a b c =
      let v = λ (i : ℕ). new (next + i) (omega arith) in
      all_take N (carry_step n next g p width) (carrying n h (next + 8) (next + 6) (next + 7) widths)
      ((c, (c, tt)), ((b, tt), ((c, tt), ((v 1, (v 2, tt)), ((new next (omega arith), (v 3, tt)), ((v 4, tt), ((b, (v 5, tt)), ((v 4, tt), tt))))))))
      (carrying_takes n h (next + 8) (next + 6) (next + 7) widths (λ k le. new k (omega (arith, le))) a (v 6) (v 7))

  pub bits_takes : (first word n : ℕ) → HasFrom N first → N word → AllTake N (bits_plan first word n)
  bits_takes first word n new h =
      let x = new first (omega arith) in
      let v = λ (i : ℕ). new (first + i) (omega arith) in (
        (h, tt),
        (
          (x, (v 1, tt)),
          (
            (x, (v 1, tt)),
            carrying_takes n (first + 3) (first + 4) (first + 2) (first + 3) bits.widths (λ k le. new k (omega (arith, le))) (v 3) (v 2) (v 3),
          ),
        ),
      )

  -- ---- order

  comparing_takes : (n next g p : ℕ) (widths : List ℕ) → HasFrom N next → N g → N p → AllTake N (comparing n next g p widths)
  comparing_takes n next g p [] new a b = ((a, tt), tt)
  comparing_takes n next g p (width ∷ widths) new a b =
      let x = new next (omega arith) in
      let v = λ (i : ℕ). new (next + i) (omega arith) in
      all_take N (order_step n next g p width) (comparing n (next + 8) (next + 6) (next + 7) widths)
      ((b, tt), ((a, tt), ((x, (x, tt)), ((a, (b, tt)), ((v 2, (v 3, tt)), ((v 4, tt), ((v 1, (v 5, tt)), ((v 4, tt), tt))))))))
      (comparing_takes n (next + 8) (next + 6) (next + 7) widths (λ k le. new k (omega (arith, le))) (v 6) (v 7))

  pub less_takes : (first u v n : ℕ) → HasFrom N first → N u → N v → AllTake N (less_plan first u v n)
  less_takes first u v n new a b =
      let x = λ (i : ℕ). new (first + i) (omega arith) in (
        (a, (b, tt)),
        all_take N (bits_plan (first + 1) first (2 * n)) (order_start first n ++ comparing n (first + 61) (first + 58) (first + 60) bits.widths)
            (bits_takes (first + 1) first (2 * n) (λ k le. new k (omega (arith, le))) (new first (omega arith)))
            (all_take N (order_start first n) (comparing n (first + 61) (first + 58) (first + 60) bits.widths)
            ((x 54, tt), ((x 54, tt), ((x 55, tt), ((x 56, (x 57, tt)), ((x 55, (x 56, tt)), ((x 59, tt), tt))))))
            (comparing_takes n (first + 61) (first + 58) (first + 60) bits.widths (λ k le. new k (omega (arith, le))) (x 58) (x 60))),
      )

  pub signed_less_takes : (first u v n : ℕ) → HasFrom N first → N u → N v → AllTake N (signed_less_plan first u v n)
  signed_less_takes first u v n new a b =
      let x = λ (i : ℕ). new (first + i) (omega arith) in
      let half = new first (omega arith) in (
        tt,
        (
          (a, (half, tt)),
          ((b, (half, tt)), less_takes (first + 3) (first + 1) (first + 2) n (λ k le. new k (omega (arith, le))) (x 1) (x 2)),
        ),
      )

  -- ---- look-ups

  pub lookup_takes : (first array index n m : ℕ) → HasFrom N first → N array → N index → AllTake N (lookup_plan first array index n m)
  lookup_takes first array index n m new a b =
      let x = λ (i : ℕ). new (first + i) (omega arith) in (
        (b, tt),
        (
          tt,
          (
            (new first (omega arith), (x 1, tt)),
            all_take N (eq_plan (first + 3) (first + 2)) (Conv (first + 19) ∷ Tile array m ∷ Mul (first + 21) (first + 20) ∷ SumEach (first + 22) n m ∷ [])
                (eq_takes (first + 3) (first + 2) (λ k le. new k (omega (arith, le))) (x 2))
                ((x 19, tt), ((a, tt), ((x 21, (x 20, tt)), ((x 22, tt), tt)))),
          ),
        ),
      )

pub eq_some : (first d : ℕ) → 1 ≤ made_by_all (eq_plan first d)
eq_some first d = omega arith

pub bits_some : (first word n : ℕ) → 1 ≤ made_by_all (bits_plan first word n)
bits_some first word n = omega arith

pub less_some : (first u v n : ℕ) → 1 ≤ made_by_all (less_plan first u v n)
less_some first u v n = omega arith

pub signed_less_some : (first u v n : ℕ) → 1 ≤ made_by_all (signed_less_plan first u v n)
signed_less_some first u v n = omega arith

pub lookup_some : (first array index n m : ℕ) → 1 ≤ made_by_all (lookup_plan first array index n m)
lookup_some first array index n m = omega arith
