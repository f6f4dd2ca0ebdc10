-- Sums of three in a ring: of sums, of differences and of products with one factor.
use Rattle.std.proofs.Common.{◌≡◌, ℕ, ◌<◌, ◌^◌, sym, ◌∙◌, ap}
use Rattle.proto_core.specs.Ring.{Ring, RingLaws}
use Rattle.proto_core.proofs.Sums.{add-left_comm, zero-zero, cancel_right, add-mul}
use Rattle.shared_gates.specs.Shares.{sum_of}

pub sum-same : (r : Ring) (a b c x y z : ℕ) → a ≡ x → b ≡ y → c ≡ z → sum_of r a b c ≡ sum_of r x y z
sum-same r a b c x y z e f g =
    ap (λ w. sum_of r w b c) e ∙ ap (λ w. sum_of r x w c) f ∙ ap (λ w. sum_of r x y w) g

module _ {r : Ring} (laws : RingLaws r) where
  pub sum-word : (a b c : ℕ) → sum_of r a b c < 2 ^ 64
  sum-word a b c = laws.add_word (r.add a b) c

  pub sum-sums : (a b c x y z : ℕ) → sum_of r (r.add a x) (r.add b y) (r.add c z) ≡ r.add (sum_of r a b c) (sum_of r x y z)
  sum-sums a b c x y z = simp (laws.add_assoc, laws.add_comm, add-left_comm)

  neg-add : (x y : ℕ) → r.neg (r.add x y) ≡ r.add (r.neg x) (r.neg y)
  neg-add x y =
      cancel_right laws _ _ (r.add x y) (laws.neg_word (r.add x y)) (laws.add_word (r.neg x) (r.neg y))
      (laws.add_comm (r.neg (r.add x y)) (r.add x y) ∙ laws.cancel (r.add x y) ∙ sym both_gone)
    where
      sorted : r.add (r.add (r.neg x) (r.neg y)) (r.add x y) ≡ r.add (r.add x (r.neg x)) (r.add y (r.neg y))
      sorted = simp (laws.add_assoc, laws.add_comm, add-left_comm)

      both_gone : r.add (r.add (r.neg x) (r.neg y)) (r.add x y) ≡ r.zero
      both_gone =
          sorted
          ∙ ap (λ w. r.add w (r.add y (r.neg y))) (laws.cancel x)
          ∙ ap (r.add r.zero) (laws.cancel y)
          ∙ zero-zero laws

  pub sum-differences : (a b c x y z : ℕ) → sum_of r (r.sub a x) (r.sub b y) (r.sub c z) ≡ r.sub (sum_of r a b c) (sum_of r x y z)
  sum-differences a b c x y z =
      sum-same r _ _ _ _ _ _ (laws.sub_is a x) (laws.sub_is b y) (laws.sub_is c z)
      ∙ sum-sums a b c (r.neg x) (r.neg y) (r.neg z)
      ∙ ap (r.add (sum_of r a b c)) (sym (neg-add (r.add x y) z ∙ ap (λ w. r.add w (r.neg z)) (neg-add x y)))
      ∙ sym (laws.sub_is (sum_of r a b c) (sum_of r x y z))

  pub sum-products : (a b c x : ℕ) → sum_of r (r.mul a x) (r.mul b x) (r.mul c x) ≡ r.mul (sum_of r a b c) x
  sum-products a b c x =
      ap (λ w. r.add w (r.mul c x)) (sym (add-mul laws a b x)) ∙ sym (add-mul laws (r.add a b) c x)
