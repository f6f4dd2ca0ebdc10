-- Sums and differences element by element: their lengths, and how they are a share masked anew.
use Rattle.std.proofs.Common.{◌≡◌, ℕ, List, length, sym, ◌∙◌, ap}
use Rattle.proto_core.specs.Ring.{Ring, RingLaws}
use Rattle.proto_core.specs.Lists.{at, AreWords}
use Rattle.proto_core.specs.Resharing.{reshared}
use Rattle.proto_core.specs.Elementwise.{plus, minus, zeros}
use Rattle.proto_core.proofs.Each.{length-each, at-each, each-ext, AreWords-each}

module _ (r : Ring) where
  pub length-plus : (n : ℕ) (x y : List ℕ) → length (plus r n x y) ≡ n
  unfolding plus
  length-plus n x y = length-each n (λ k. r.add (at x k) (at y k))

  pub length-minus : (n : ℕ) (x y : List ℕ) → length (minus r n x y) ≡ n
  unfolding minus
  length-minus n x y = length-each n (λ k. r.sub (at x k) (at y k))

  pub length-zeros : (n : ℕ) → length (zeros r n) ≡ n
  unfolding zeros
  length-zeros n = length-each n (λ k. r.zero)

  -- the own mask is added first, and then the previous miner's is taken away
  pub minus-plus : (n : ℕ) (u mask got : List ℕ) → minus r n (plus r n u mask) got ≡ reshared r n u mask got
  unfolding minus plus reshared
  minus-plus n u mask got = each-ext n _ _ (λ k h. ap (λ w. r.sub w (at got k)) (at-each n (λ i. r.add (at u i) (at mask i)) k h))

module _ {r : Ring} (laws : RingLaws r) where
  pub AreWords-minus : (n : ℕ) (x y : List ℕ) → AreWords (minus r n x y)
  unfolding minus
  AreWords-minus n x y = AreWords-each n _ (λ k. laws.sub_word (at x k) (at y k))

  pub AreWords-zeros : (n : ℕ) → AreWords (zeros r n)
  unfolding zeros
  AreWords-zeros n = AreWords-each n _ (λ k. laws.zero_word)

  -- a mask less the previous miner's, added at once
  pub plus-minus : (n : ℕ) (u mask got : List ℕ) → plus r n u (minus r n mask got) ≡ reshared r n u mask got
  unfolding plus minus reshared
  plus-minus n u mask got =
      each-ext n _ _
      (λ k h.
      ap (r.add (at u k)) (at-each n (λ i. r.sub (at mask i) (at got i)) k h ∙ laws.sub_is (at mask k) (at got k))
      ∙ sym (laws.add_assoc (at u k) (at mask k) (r.neg (at got k)))
      ∙ sym (laws.sub_is (r.add (at u k) (at mask k)) (at got k)))
