-- What the outputs of a whole gate are shares of.
use Rattle.std.proofs.Common.{◌≡◌, ℕ, ◌%◌, ◌<◌, ◌^◌, Bool, true, false, List, [], ◌∷◌, length, map, bit_xor, refl, sym, ◌∙◌, ap, subst}
use Rattle.std.proofs.lemmas.Nat.{xor_lt}
use Rattle.proto_core.specs.Ring.{Ring, RingLaws}
use Rattle.proto_core.specs.Rings.{add_ring, xor_ring}
use Rattle.proto_core.specs.declared.party.Number.{Number}
use Rattle.proto_core.specs.declared.party.Number.TheVariants.{One, Two, Three}
use Rattle.proto_core.specs.Lists.{at, AreWords}
use Rattle.proto_core.specs.Elementwise.{plus, minus}
use Rattle.proto_core.specs.Protocol.{Joint, AreBlocks}
use Rattle.proto_core.specs.Resharing.{sum_of_three}
use Rattle.proto_core.proofs.Each.{each-is}
use Rattle.proto_core.proofs.ResharingLaws.{at-sum_of_three, length-sum_of_three, AreWords-sum_of_three}
use Rattle.protocol_model.specs.Gates.{nth_value}
use Rattle.blocked_protocol.specs.Products.{times}
use Rattle.blocked_protocol.specs.Bits.{bit, xor_bits_of_three}
use Rattle.blocked_protocol.specs.Splitting as splitting
use Rattle.gates.specs.Clear.{each_two, rejoined}
use Rattle.gates.specs.Clear as clear
use Rattle.gates.proofs.Columns.{Column-of, Column-map, Column-each_two}
use Rattle.blocked_protocol.specs.Outcomes.{value_of, nth, IsProduct, IsOpened, IsReshared, IsConverted, IsSplit}
use Rattle.shared_gates.specs.Shares.{sum_of, AreShares}
use Rattle.shared_gates.proofs.XorSums.{xor-word}

-- ---- blocks

pub one-block : (n : ℕ) (xs : List (List ℕ)) → AreBlocks (n ∷ []) xs → nth_value xs 0 ∷ [] ≡ xs
one-block n [] h = absurd h
one-block n (x ∷ []) h = refl
one-block n (x ∷ y ∷ xs) h = absurd h.1

pub two-blocks : (m n : ℕ) (xs : List (List ℕ)) → AreBlocks (m ∷ n ∷ []) xs → nth_value xs 0 ∷ nth_value xs 1 ∷ [] ≡ xs
two-blocks m n [] h = absurd h
two-blocks m n (x ∷ []) h = absurd h.1
two-blocks m n (x ∷ y ∷ []) h = refl
two-blocks m n (x ∷ y ∷ z ∷ xs) h = absurd h.1.1

pub first-block-size : (n : ℕ) (s : List ℕ) (xs : List (List ℕ)) → AreBlocks (n ∷ s) xs → length (nth_value xs 0) ≡ n
first-block-size n s [] h = absurd h
first-block-size n s (x ∷ xs) h = h.0.len

first-block-words : (n : ℕ) (s : List ℕ) (xs : List (List ℕ)) → AreBlocks (n ∷ s) xs → AreWords (nth_value xs 0)
first-block-words n s [] h = absurd h
first-block-words n s (x ∷ xs) h = h.0.words

pub second-block-size : (m n : ℕ) (s : List ℕ) (xs : List (List ℕ)) → AreBlocks (m ∷ n ∷ s) xs → length (nth_value xs 1) ≡ n
second-block-size m n s [] h = absurd h
second-block-size m n s (x ∷ xs) h = first-block-size n s xs h.1

second-block-words : (m n : ℕ) (s : List ℕ) (xs : List (List ℕ)) → AreBlocks (m ∷ n ∷ s) xs → AreWords (nth_value xs 1)
second-block-words m n s [] h = absurd h
second-block-words m n s (x ∷ xs) h = first-block-words n s xs h.1

-- ---- values and shares

-- shares add up to their value
pub value-is : (r : Ring) (n : ℕ) (xs : List ℕ) (s : Number → List ℕ) → length xs ≡ n → AreShares r xs s → value_of r n s ≡ xs
unfolding sum_of_three
value-is r n xs s e h = each-is n _ xs e (λ k lt. h.sum k (subst (λ m. k < m) (sym e) lt))

-- and lists that add up to a value are shares of it
pub shares-of : (r : Ring) (n : ℕ) (xs : List ℕ) (s : Number → List ℕ) → length xs ≡ n → ((i : Number) → length (s i) ≡ n)
    → ((i : Number) → AreWords (s i)) → value_of r n s ≡ xs → AreShares r xs s
shares-of r n xs s e sizes words sums =
    record {
      sizes = λ i. sizes i ∙ sym e;
      words = words;
      sum = λ k lt.
          sym (at-sum_of_three r n (s One) (s Two) (s Three) k (subst (λ m. k < m) e lt)) ∙ ap (λ l. at l k) sums;
    }

-- ---- operations on lists of one length

module _ (r : Ring) (n : ℕ) (xs ys : List ℕ) (hx : length xs ≡ n) (hy : length ys ≡ n) where
  times-each : times r n xs ys ≡ each_two r.mul xs ys
  unfolding times
  times-each =
      let column = Column-each_two r.mul (Column-of n xs hx) (Column-of n ys hy) in
      each-is n _ _ column.size (λ k lt. sym (column.words k lt))

  plus-each : plus r n xs ys ≡ each_two r.add xs ys
  unfolding plus
  plus-each =
      let column = Column-each_two r.add (Column-of n xs hx) (Column-of n ys hy) in
      each-is n _ _ column.size (λ k lt. sym (column.words k lt))

  minus-each : minus r n xs ys ≡ each_two r.sub xs ys
  unfolding minus
  minus-each =
      let column = Column-each_two r.sub (Column-of n xs hx) (Column-of n ys hy) in
      each-is n _ _ column.size (λ k lt. sym (column.words k lt))

  pub length-two : (f : ℕ → ℕ → ℕ) → length (each_two f xs ys) ≡ n
  length-two f = (Column-each_two f (Column-of n xs hx) (Column-of n ys hy)).size

joined-each : (negated : Bool) (n : ℕ) (xs ys : List ℕ) → length xs ≡ n → length ys ≡ n → splitting.sum_or_difference negated n xs ys ≡ rejoined negated xs ys
joined-each false n xs ys hx hy = plus-each add_ring n xs ys hx hy
joined-each true n xs ys hx hy = minus-each add_ring n xs ys hx hy

sum-xor : (a b c : ℕ) → a < 2 ^ 64 → b < 2 ^ 64 → c < 2 ^ 64 → sum_of xor_ring a b c ≡ bit_xor (bit_xor a b) c
sum-xor a b c ha hb hc =
    ap (λ w. xor_ring.add w c) (xor-word a b ha hb) ∙ xor-word (bit_xor a b) c (xor_lt 64 a b ha hb) hc

bits-each :
    (n : ℕ) (xs : List ℕ) (s : Number → List ℕ) → length xs ≡ n → AreShares xor_ring xs s →
    xor_bits_of_three n (s One) (s Two) (s Three) ≡ map (λ x. x % 2) xs
unfolding xor_bits_of_three
bits-each n xs s e h =
    let column = Column-map (λ x. x % 2) (Column-of n xs e) in
    each-is n _ _ column.size
    (λ k lt.
    ap bit (sym (sum-xor _ _ _ (h.words One k) (h.words Two k) (h.words Three k)))
    ∙ ap bit (h.sum k (subst (λ m. k < m) (sym e) lt))
    ∙ sym (column.words k lt))

-- ---- the gates

module _ (n : ℕ) (j : Joint) (out : Number → List (List ℕ)) (opened : List ℕ) where
  pub gained-product :
      (r : Ring) (xs ys : List ℕ) → ((i : Number) → AreBlocks (n ∷ []) (out i)) → length xs ≡ n → length ys ≡ n →
      AreShares r xs j.u → AreShares r ys j.v → IsProduct r n j out opened → AreShares r (each_two r.mul xs ys) (nth 0 out)
  gained-product r xs ys blocks hx hy u v h =
      shares-of r n (each_two r.mul xs ys) (nth 0 out) (length-two r n xs ys hx hy r.mul)
      (λ i. first-block-size n [] (out i) (blocks i)) (λ i. first-block-words n [] (out i) (blocks i))
      (h
      ∙ ap (λ w. times r n w (value_of r n j.v)) (value-is r n xs j.u hx u)
      ∙ ap (times r n xs) (value-is r n ys j.v hy v)
      ∙ times-each r n xs ys hx hy)

  pub gained-opened :
      (r : Ring) (xs : List ℕ) → length xs ≡ n → AreShares r xs j.u → IsOpened r n j out opened →
      (opened ≡ xs) × ((i : Number) → nth 0 out i ≡ xs)
  gained-opened r xs hx u h =
      let same : value_of r n j.u ≡ xs = value-is r n xs j.u hx u in
      (h.0 ∙ same, λ i. h.1 i ∙ same)

  pub gained-reshared :
      (r : Ring) (xs : List ℕ) → ((i : Number) → AreBlocks (n ∷ []) (out i)) → length xs ≡ n → AreShares r xs j.u →
      IsReshared r n j out opened → AreShares r xs (nth 0 out)
  gained-reshared r xs blocks hx u h =
      shares-of r n xs (nth 0 out) hx
      (λ i. first-block-size n [] (out i) (blocks i)) (λ i. first-block-words n [] (out i) (blocks i))
      (h ∙ value-is r n xs j.u hx u)

  pub gained-converted :
      (xs : List ℕ) → ((i : Number) → AreBlocks (n ∷ []) (out i)) → length xs ≡ n → AreShares xor_ring xs j.u →
      IsConverted n j out opened → AreShares add_ring (map (λ x. x % 2) xs) (nth 0 out)
  gained-converted xs blocks hx u h =
      shares-of add_ring n (map (λ x. x % 2) xs) (nth 0 out) (Column-map (λ x. x % 2) (Column-of n xs hx)).size
      (λ i. first-block-size n [] (out i) (blocks i)) (λ i. first-block-words n [] (out i) (blocks i))
      (h ∙ bits-each n xs j.u hx u)

  -- the two words of a splitting
  abbrev pub word_of : ℕ → List ℕ
  word_of k = value_of xor_ring n (nth k out)

  pub length-word : (k : ℕ) → length (word_of k) ≡ n
  length-word k = length-sum_of_three xor_ring n (nth k out One) (nth k out Two) (nth k out Three)

  module _ (laws : RingLaws xor_ring) where
    word-words : (k : ℕ) → AreWords (word_of k)
    word-words k = AreWords-sum_of_three laws n (nth k out One) (nth k out Two) (nth k out Three)

    pub gained-split :
        (negated : Bool) (xs : List ℕ) → length xs ≡ n → AreShares add_ring xs j.u →
        IsSplit negated n j out opened → clear.IsSplit negated xs (word_of 0) (word_of 1)
    gained-split negated xs hx u h =
        record {
          same_size = length-word 0 ∙ sym (length-word 1);
          words = word-words 0;
          other_words = word-words 1;
          join =
              sym (joined-each negated n (word_of 0) (word_of 1) (length-word 0) (length-word 1))
              ∙ h
              ∙ value-is add_ring n xs j.u hx u;
        }

  pub first-word-shares : ((i : Number) → AreBlocks (n ∷ n ∷ []) (out i)) → AreShares xor_ring (word_of 0) (nth 0 out)
  first-word-shares blocks =
      shares-of xor_ring n (word_of 0) (nth 0 out) (length-word 0)
      (λ i. first-block-size n (n ∷ []) (out i) (blocks i)) (λ i. first-block-words n (n ∷ []) (out i) (blocks i)) refl

  pub second-word-shares : ((i : Number) → AreBlocks (n ∷ n ∷ []) (out i)) → AreShares xor_ring (word_of 1) (nth 1 out)
  second-word-shares blocks =
      shares-of xor_ring n (word_of 1) (nth 1 out) (length-word 1)
      (λ i. second-block-size n n [] (out i) (blocks i)) (λ i. second-block-words n n [] (out i) (blocks i)) refl
