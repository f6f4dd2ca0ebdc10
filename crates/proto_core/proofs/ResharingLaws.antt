-- What resharing keeps, in any ring.
use Rattle.std.proofs.Common.{◌≡◌, ℕ, ◌<◌, List, length, ◌∙◌, ap}
use Rattle.proto_core.specs.Ring.{Ring, RingLaws}
use Rattle.proto_core.proofs.Sums.{masks_cancel, sub-sub, left_of_three, add-left_comm}
use Rattle.proto_core.specs.Lists.{at, each, AreWords}
use Rattle.proto_core.proofs.Each.{length-each, at-each, each-ext, each-is, same_words, AreWords-each}
use Rattle.proto_core.specs.Resharing.{reshared, sum_of_three}

-- ---- any operations at all
module _ (r : Ring) where
  pub at-reshared : (n : ℕ) (u mask got : List ℕ) (k : ℕ) → k < n → at (reshared r n u mask got) k ≡ r.sub (r.add (at u k) (at mask k)) (at got k)
  unfolding reshared
  at-reshared n u mask got k h = at-each n (λ i. r.sub (r.add (at u i) (at mask i)) (at got i)) k h

  pub length-reshared : (n : ℕ) (u mask got : List ℕ) → length (reshared r n u mask got) ≡ n
  unfolding reshared
  length-reshared n u mask got = length-each n (λ k. r.sub (r.add (at u k) (at mask k)) (at got k))

  pub at-sum_of_three : (n : ℕ) (x y z : List ℕ) (k : ℕ) → k < n → at (sum_of_three r n x y z) k ≡ r.add (r.add (at x k) (at y k)) (at z k)
  unfolding sum_of_three
  at-sum_of_three n x y z k h = at-each n (λ i. r.add (r.add (at x i) (at y i)) (at z i)) k h

  pub length-sum_of_three : (n : ℕ) (x y z : List ℕ) → length (sum_of_three r n x y z) ≡ n
  unfolding sum_of_three
  length-sum_of_three n x y z = length-each n (λ k. r.add (r.add (at x k) (at y k)) (at z k))

-- ---- in a ring
module _ {r : Ring} (laws : RingLaws r) where
  -- mapped twice, a mask is as it was
  pub reshared-twice : (n : ℕ) (u mask got : List ℕ) → length got ≡ n → AreWords got → reshared r n u mask (reshared r n u mask got) ≡ got
  reshared-twice n u mask got e words =
      same_words n _ got (length-reshared r n _ _ _) e
      (λ k h. simp (at-reshared, h) (sub-sub laws (r.add (at u k) (at mask k)) (at got k) (words k)))

  pub AreWords-reshared : (n : ℕ) (u mask got : List ℕ) → AreWords (reshared r n u mask got)
  unfolding reshared
  AreWords-reshared n u mask got =
      AreWords-each n (λ k. r.sub (r.add (at u k) (at mask k)) (at got k)) (λ k. laws.sub_word (r.add (at u k) (at mask k)) (at got k))

  pub AreWords-sum_of_three : (n : ℕ) (x y z : List ℕ) → AreWords (sum_of_three r n x y z)
  unfolding sum_of_three
  AreWords-sum_of_three n x y z =
      AreWords-each n (λ k. r.add (r.add (at x k) (at y k)) (at z k)) (λ k. laws.add_word (r.add (at x k) (at y k)) (at z k))

  -- the masked share that is left of the opened words
  pub left_over :
      (n : ℕ) (x y z opened : List ℕ) → length z ≡ n → AreWords z → opened ≡ sum_of_three r n x y z →
      each n (λ k. r.sub (r.sub (at opened k) (at x k)) (at y k)) ≡ z
  left_over n x y z opened e words is =
      each-is n _ z e
      (λ k h.
      ap (λ w. r.sub (r.sub w (at x k)) (at y k)) (ap (λ l. at l k) is ∙ at-sum_of_three r n x y z k h)
      ∙ left_of_three laws (at x k) (at y k) (at z k) (words k))

  pub swap_last : (n : ℕ) (x y z : List ℕ) → sum_of_three r n x y z ≡ sum_of_three r n x z y
  unfolding sum_of_three
  swap_last n x y z = each-ext n _ _ (λ k h. simp (laws.add_assoc, laws.add_comm))

  pub swap_first : (n : ℕ) (x y z : List ℕ) → sum_of_three r n x y z ≡ sum_of_three r n y x z
  unfolding sum_of_three
  swap_first n x y z = each-ext n _ _ (λ k h. simp laws.add_comm)

  pub swap_ends : (n : ℕ) (x y z : List ℕ) → sum_of_three r n x y z ≡ sum_of_three r n z y x
  unfolding sum_of_three
  swap_ends n x y z = each-ext n _ _ (λ k h. simp (laws.add_assoc, laws.add_comm, add-left_comm laws))

  -- resharing keeps the value
  pub sum-reshared :
      (n : ℕ) (u1 u2 u3 a1 a2 a3 : List ℕ) →
      sum_of_three r n (reshared r n u1 a1 a3) (reshared r n u2 a2 a1) (reshared r n u3 a3 a2) ≡ sum_of_three r n u1 u2 u3
  unfolding sum_of_three
  sum-reshared n u1 u2 u3 a1 a2 a3 =
      each-ext n _ _
      (λ k h. simp (at-reshared, h) (masks_cancel laws (at u1 k) (at u2 k) (at u3 k) (at a1 k) (at a2 k) (at a3 k)))

  -- each miner's own sum of three reshared shares
  pub opened_by_first :
      (n : ℕ) (u1 u2 u3 a1 a2 a3 : List ℕ) →
      sum_of_three r n (reshared r n u1 a1 a3) (reshared r n u3 a3 a2) (reshared r n u2 a2 a1) ≡ sum_of_three r n u1 u2 u3
  opened_by_first n u1 u2 u3 a1 a2 a3 = swap_last n _ _ _ ∙ sum-reshared n u1 u2 u3 a1 a2 a3

  pub opened_by_second :
      (n : ℕ) (u1 u2 u3 a1 a2 a3 : List ℕ) →
      sum_of_three r n (reshared r n u2 a2 a1) (reshared r n u1 a1 a3) (reshared r n u3 a3 a2) ≡ sum_of_three r n u1 u2 u3
  opened_by_second n u1 u2 u3 a1 a2 a3 = swap_first n _ _ _ ∙ sum-reshared n u1 u2 u3 a1 a2 a3

  pub opened_by_third :
      (n : ℕ) (u1 u2 u3 a1 a2 a3 : List ℕ) →
      sum_of_three r n (reshared r n u3 a3 a2) (reshared r n u2 a2 a1) (reshared r n u1 a1 a3) ≡ sum_of_three r n u1 u2 u3
  opened_by_third n u1 u2 u3 a1 a2 a3 = swap_ends n _ _ _ ∙ sum-reshared n u1 u2 u3 a1 a2 a3
