-- What follows in any ring: sums in any order, and masks that cancel.
use Rattle.std.proofs.Common.{◌≡◌, ℕ, ◌<◌, ◌^◌, sym, ◌∙◌, ap}
use Rattle.proto_core.specs.Ring.{Ring, RingLaws}

module _ {r : Ring} (laws : RingLaws r) where
  pub add-left_comm : (x y z : ℕ) → r.add x (r.add y z) ≡ r.add y (r.add x z)
  add-left_comm x y z = sym (laws.add_assoc x y z) ∙ ap (λ n. r.add n z) (laws.add_comm x y) ∙ laws.add_assoc y x z

  pub add-sum-zero : (x y : ℕ) → r.add (r.add x y) r.zero ≡ r.add x y
  add-sum-zero x y = laws.add_zero (r.add x y) (laws.add_word x y)

  pub zero-zero : r.add r.zero r.zero ≡ r.zero
  zero-zero = laws.add_zero r.zero laws.zero_word

  pub cancel_right : (x y z : ℕ) → x < 2 ^ 64 → y < 2 ^ 64 → r.add x z ≡ r.add y z → x ≡ y
  cancel_right x y z hx hy e = sym (back x hx) ∙ ap (λ n. r.add n (r.neg z)) e ∙ back y hy
    where
      back : (w : ℕ) → w < 2 ^ 64 → r.add (r.add w z) (r.neg z) ≡ w
      back w h = laws.add_assoc w z (r.neg z) ∙ ap (r.add w) (laws.cancel z) ∙ laws.add_zero w h

  pub add-sub : (w x : ℕ) → r.add x (r.sub w x) ≡ r.add w r.zero
  add-sub w x = ap (r.add x) (laws.sub_is w x) ∙ add-left_comm x w (r.neg x) ∙ ap (r.add w) (laws.cancel x)

  -- what is taken away twice
  pub sub-sub : (w x : ℕ) → x < 2 ^ 64 → r.sub w (r.sub w x) ≡ x
  sub-sub w x h =
      cancel_right _ _ (r.sub w x) (laws.sub_word w (r.sub w x)) h
      (laws.add_comm _ _ ∙ add-sub w (r.sub w x) ∙ sym (add-sub w x))

  -- the three masks of a resharing cancel
  pub masks_cancel :
      (u1 u2 u3 a1 a2 a3 : ℕ) →
      r.add (r.add (r.sub (r.add u1 a1) a3) (r.sub (r.add u2 a2) a1)) (r.sub (r.add u3 a3) a2)
      ≡ r.add (r.add u1 u2) u3
  masks_cancel u1 u2 u3 a1 a2 a3 =
      let sorted : r.add (r.add (r.sub (r.add u1 a1) a3) (r.sub (r.add u2 a2) a1)) (r.sub (r.add u3 a3) a2)
      ≡ r.add (r.add (r.add u1 u2) u3) (r.add (r.add a1 (r.neg a1)) (r.add (r.add a2 (r.neg a2)) (r.add a3 (r.neg a3)))) =
      simp (laws.sub_is, laws.add_assoc, laws.add_comm, add-left_comm) in
      sorted ∙ simp (laws.cancel, zero-zero) (add-sum-zero (r.add u1 u2) u3)

  -- a summand is what is left without the two others
  pub left_of_three : (x y z : ℕ) → z < 2 ^ 64 → r.sub (r.sub (r.add (r.add x y) z) x) y ≡ z
  left_of_three x y z h =
      let sorted : r.sub (r.sub (r.add (r.add x y) z) x) y ≡ r.add z (r.add (r.add x (r.neg x)) (r.add y (r.neg y))) =
      simp (laws.sub_is, laws.add_assoc, add-left_comm) in
      sorted ∙ simp (laws.cancel, zero-zero) (laws.add_zero z h)

  pub rotate : (x y z : ℕ) → r.add (r.add x y) z ≡ r.add (r.add y z) x
  rotate x y z = simp (laws.add_assoc, laws.add_comm, add-left_comm)

  pub add-mul : (x y z : ℕ) → r.mul (r.add x y) z ≡ r.add (r.mul x z) (r.mul y z)
  add-mul x y z = laws.mul_comm (r.add x y) z ∙ laws.mul_add z x y ∙ ap (r.add (r.mul z x)) (laws.mul_comm z y)
      ∙ ap (λ n. r.add n (r.mul y z)) (laws.mul_comm z x)

  -- each miner's three products, with masks that cancel, add up to the product of the sums
  pub products_of_three :
      (u1 u2 u3 v1 v2 v3 c1 c2 c3 : ℕ) →
      r.add
      (r.add (r.sub (r.add (r.add (r.add (r.mul u1 v1) (r.mul u1 v3)) (r.mul u3 v1)) c1) c3)
      (r.sub (r.add (r.add (r.add (r.mul u2 v2) (r.mul u2 v1)) (r.mul u1 v2)) c2) c1))
      (r.sub (r.add (r.add (r.add (r.mul u3 v3) (r.mul u3 v2)) (r.mul u2 v3)) c3) c2)
      ≡ r.mul (r.add (r.add u1 u2) u3) (r.add (r.add v1 v2) v3)
  products_of_three u1 u2 u3 v1 v2 v3 c1 c2 c3 =
      masks_cancel _ _ _ c1 c2 c3 ∙ simp (laws.mul_add, add-mul, laws.add_assoc, laws.add_comm, add-left_comm)
