-- Products of shares in any ring.
use Rattle.std.proofs.Common.{◌≡◌, ℕ, ◌+◌, List, ◌++◌, sym, ◌∙◌, ap, arith}
use Rattle.proto_core.specs.Ring.{Ring, RingLaws}
use Rattle.proto_core.proofs.Sums.{products_of_three}
use Rattle.proto_core.specs.Lists.{at, each, part}
use Rattle.proto_core.specs.Elementwise.{plus, minus}
use Rattle.proto_core.specs.Resharing.{reshared, sum_of_three}
use Rattle.proto_core.proofs.Each.{at-each, each-ext}
use Rattle.proto_core.proofs.Parts.{at-part, two_first, two_second}
use Rattle.proto_core.proofs.ElementwiseLaws.{minus-plus, plus-minus}
use Rattle.proto_core.proofs.ResharingLaws.{length-reshared}
use Rattle.multiply.specs.Products.{times, cross}
use Rattle.multiply.specs.MulStrand.{product}

module _ {r : Ring} (laws : RingLaws r) where
  -- a miner's products, by the factors as they were masked
  pub product-is :
      (n : ℕ) (u v a b ga gb c gc got : List ℕ) →
      let x = reshared r n u a ga in
      let y = reshared r n v b gb in
      product r n (record { u = minus r n (plus r n u a) ga; v = minus r n (plus r n v b) gb; mask = minus r n c gc }) got
      ≡ reshared r n (cross r n (part n 0 (x ++ y)) (part n 1 (x ++ y)) (part n 0 got) (part n 1 got)) c gc
  product-is n u v a b ga gb c gc got =
      let x = reshared r n u a ga in
      let y = reshared r n v b gb in
      let first : minus r n (plus r n u a) ga ≡ part n 0 (x ++ y) = minus-plus r n u a ga ∙ sym (two_first n x y (length-reshared r n u a ga)) in
      let second : minus r n (plus r n v b) gb ≡ part n 1 (x ++ y) =
      minus-plus r n v b gb ∙ sym (two_second n x y (length-reshared r n u a ga) (length-reshared r n v b gb)) in
      plus-minus laws n _ c gc
      ∙ ap (λ w. reshared r n (cross r n w (minus r n (plus r n v b) gb) (part n 0 got) (part n 1 got)) c gc) first
      ∙ ap (λ w. reshared r n (cross r n (part n 0 (x ++ y)) w (part n 0 got) (part n 1 got)) c gc) second

  -- the nine products, three at each miner, add up to the product
  pub products-sum :
      (n : ℕ) (x1 x2 x3 y1 y2 y3 c1 c2 c3 : List ℕ) →
      sum_of_three r n (reshared r n (cross r n x1 y1 x3 y3) c1 c3) (reshared r n (cross r n x2 y2 x1 y1) c2 c1)
      (reshared r n (cross r n x3 y3 x2 y2) c3 c2)
      ≡ times r n (sum_of_three r n x1 x2 x3) (sum_of_three r n y1 y2 y3)
  unfolding sum_of_three times reshared cross
  products-sum n x1 x2 x3 y1 y2 y3 c1 c2 c3 =
      each-ext n _ _
      (λ k h.
      simp (at-each, h)
      (products_of_three laws (at x1 k) (at x2 k) (at x3 k) (at y1 k) (at y2 k) (at y3 k) (at c1 k) (at c2 k) (at c3 k)))

-- the words of two fields, read where they stand
pub cross-fields :
    (r : Ring) (n : ℕ) (u v mask got : List ℕ) →
    each n
    (λ k.
    r.add
    (r.add (r.add (r.mul (at u k) (at v k)) (r.mul (at u k) (at got (n + k)))) (r.mul (at got k) (at v k)))
    (at mask k))
    ≡ plus r n (cross r n u v (part n 0 got) (part n 1 got)) mask
unfolding plus cross
cross-fields r n u v mask got =
    each-ext n _ _
    (λ k h.
    let first : at (part n 0 got) k ≡ at got k = at-part n 0 got k h ∙ ap (at got) (omega arith) in
    let second : at (part n 1 got) k ≡ at got (n + k) = at-part n 1 got k h ∙ ap (at got) (omega arith) in
    simp (at-each, h, first, second))
