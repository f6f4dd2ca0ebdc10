-- Run block after block, each protocol gives of all elements what it gives of a block's.
use Rattle.std.proofs.Common.{◌≡◌, ℕ, ◌+◌, Bool, true, false, List, [], ◌∷◌, ◌++◌, length, take, drop, refl, sym, ◌∙◌, ap, subst}
use Rattle.proto_core.specs.Ring.{Ring, RingLaws}
use Rattle.proto_core.specs.Rings.{add_ring, xor_ring}
use Rattle.proto_core.specs.declared.party.Number.{Number}
use Rattle.proto_core.specs.declared.party.Number.TheVariants.{One, Two, Three}
use Rattle.proto_core.specs.Elementwise.{plus, minus}
use Rattle.proto_core.specs.Protocol.{Joint, Protocol, Fits, Lawful, AreBlocks}
use Rattle.proto_core.proofs.MessageFields.{take-front, drop-front}
use Rattle.proto_core.proofs.ResharingLaws.{length-sum_of_three}
use Rattle.protocol_model.specs.Gates.{nth_value}
use Rattle.multiply.specs.Products.{times}
use Rattle.multiply.specs.Multiplying.{mul_protocol}
use Rattle.multiply.specs.MultiplyingLaws.{mul_lawful}
use Rattle.open_result.specs.Opening.{open_protocol}
use Rattle.open_result.specs.OpeningLaws.{open-lawful}
use Rattle.open_result.specs.Resharing.{reshare_protocol}
use Rattle.open_result.specs.ResharingLaws.{reshare-lawful}
use Rattle.share_convert.specs.Converting.{conv_protocol}
use Rattle.share_convert.specs.ConvertingLaws.{conv_lawful}
use Rattle.split_share.specs.Splitting as splitting
use Rattle.split_share.specs.SplittingLaws.{split_lawful}
use Rattle.blocked_protocol.specs.Blocked.{total, joined, front, behind, blocks_output, blocks_opened, in_blocks, IsCut, Blockable}
use Rattle.blocked_protocol.specs.Outcomes.{Outcome, Elementwise, Makes, value_of, nth, IsProduct, IsOpened, IsReshared, IsConverted, IsSplit}
use Rattle.blocked_protocol.proofs.Fitting.{fits-front, fits-behind, fits-whole}
use Rattle.blocked_protocol.proofs.BlockRuns.{in_blocks-sound, blocks-made}
use Rattle.blocked_protocol.proofs.BlockViews.{in_blocks-private, same_words}
use Rattle.blocked_protocol.proofs.Blockables.{mul-blockable, open-blockable, reshare-blockable, conv-blockable, split-blockable}
use Rattle.blocked_protocol.proofs.Cuts.{sum-cut, times-cut, plus-cut, minus-cut, xor_bits-cut, sum-none, times-none, plus-none, minus-none}
use Rattle.blocked_protocol.proofs.Cuts.{xor_bits-none, two-ends}

-- ---- any protocol

module _ (p : Protocol) (blockable : Blockable p) (Clear : ℕ → Joint → Type 0) (lawful : Lawful p Clear) (R : Outcome) (by_elements : Elementwise p R)
    (clear_makes : (n : ℕ) (j : Joint) → Clear n j → Makes p R n j) where
  blocks-outcome : (sizes : List ℕ) (j : Joint) → Fits p (total sizes) j → R (total sizes) j (blocks_output p sizes j) (blocks_opened p sizes j)
  blocks-outcome [] j fits = by_elements.none j
  blocks-outcome (m ∷ sizes) j fits =
      let first = front p m j in
      let rest = behind p m j in
      let here : Fits p m first = fits-front p blockable m (total sizes) j fits in
      let there : Fits p (total sizes) rest = fits-behind p blockable m (total sizes) j fits in
      by_elements.more m (total sizes) j (p.output m first) (blocks_output p sizes rest) (p.opened m first) (blocks_opened p sizes rest)
      (lawful.sound.blocks m first here) (blocks-made p blockable lawful.sound sizes rest there)
      (clear_makes m first (lawful.clear m first here)) (blocks-outcome sizes rest there)

  pub in_blocks-lawful : (cut : ℕ → List ℕ) → IsCut cut → Lawful (in_blocks p cut) (Makes (in_blocks p cut) R)
  in_blocks-lawful cut is_cut =
      record {
        sound = in_blocks-sound p blockable lawful.sound cut is_cut;
        private = in_blocks-private p blockable lawful.sound lawful.private cut is_cut;
        clear = λ n j fits.
            subst (λ k. R k j (blocks_output p (cut n) j) (blocks_opened p (cut n) j)) (is_cut n)
            (blocks-outcome (cut n) j (fits-whole p blockable cut is_cut n j fits));
      }

-- ---- blocks end to end

first-joined : (a b : ℕ) (s t : List ℕ) (xs ys : List (List ℕ)) → AreBlocks (a ∷ s) xs → AreBlocks (b ∷ t) ys
    → nth_value (joined xs ys) 0 ≡ nth_value xs 0 ++ nth_value ys 0
first-joined a b s t [] ys h k = absurd h
first-joined a b s t (x ∷ xs) [] h k = absurd k
first-joined a b s t (x ∷ xs) (y ∷ ys) h k = refl

first-sized : (a : ℕ) (s : List ℕ) (xs : List (List ℕ)) → AreBlocks (a ∷ s) xs → length (nth_value xs 0) ≡ a
first-sized a s [] h = absurd h
first-sized a s (x ∷ xs) h = h.0.len

second-joined : (a b c d : ℕ) (s t : List ℕ) (xs ys : List (List ℕ)) → AreBlocks (a ∷ b ∷ s) xs → AreBlocks (c ∷ d ∷ t) ys
    → nth_value (joined xs ys) 1 ≡ nth_value xs 1 ++ nth_value ys 1
second-joined a b c d s t [] ys h k = absurd h
second-joined a b c d s t (x ∷ xs) [] h k = absurd k
second-joined a b c d s t (x ∷ xs) (y ∷ ys) h k = first-joined b d s t xs ys h.1 k.1

second-sized : (a b : ℕ) (s : List ℕ) (xs : List (List ℕ)) → AreBlocks (a ∷ b ∷ s) xs → length (nth_value xs 1) ≡ b
second-sized a b s [] h = absurd h
second-sized a b s (x ∷ xs) h = first-sized b s xs h.1

-- ---- values end to end

module _ (r : Ring) (m n : ℕ) where
  value-cut : (s : Number → List ℕ) → value_of r (m + n) s ≡ value_of r m (λ i. take m (s i)) ++ value_of r n (λ i. drop m (s i))
  value-cut s = sum-cut r m n (s One) (s Two) (s Three)

  length-value : (s : Number → List ℕ) → length (value_of r m s) ≡ m
  length-value s = length-sum_of_three r m (s One) (s Two) (s Three)

  value-ends :
      (whole x y : Number → List ℕ) → ((i : Number) → whole i ≡ x i ++ y i) → ((i : Number) → length (x i) ≡ m) →
      value_of r (m + n) whole ≡ value_of r m x ++ value_of r n y
  value-ends whole x y ends len =
      value-cut whole
      ∙ ap (λ s. value_of r m s ++ value_of r n (λ i. drop m (whole i)))
      (same_words _ x (λ i. ap (take m) (ends i) ∙ take-front m (x i) (y i) (len i)))
      ∙ ap (λ s. value_of r m x ++ value_of r n s)
      (same_words _ y (λ i. ap (drop m) (ends i) ∙ drop-front m (x i) (y i) (len i)))

-- of blocks of which each miner has one, or two
value-first :
    (r : Ring) (m n : ℕ) (s t : List ℕ) (x y : Number → List (List ℕ)) → ((i : Number) → AreBlocks (m ∷ s) (x i)) → ((i : Number) → AreBlocks (n ∷ t) (y i)) →
    value_of r (m + n) (nth 0 (λ i. joined (x i) (y i))) ≡ value_of r m (nth 0 x) ++ value_of r n (nth 0 y)
value-first r m n s t x y hx hy =
    value-ends r m n (nth 0 (λ i. joined (x i) (y i))) (nth 0 x) (nth 0 y)
    (λ i. first-joined m n s t (x i) (y i) (hx i) (hy i))
    (λ i. first-sized m s (x i) (hx i))

value-second :
    (r : Ring) (m n : ℕ) (x y : Number → List (List ℕ)) → ((i : Number) → AreBlocks (m ∷ m ∷ []) (x i)) → ((i : Number) → AreBlocks (n ∷ n ∷ []) (y i)) →
    value_of r (m + n) (nth 1 (λ i. joined (x i) (y i))) ≡ value_of r m (nth 1 x) ++ value_of r n (nth 1 y)
value-second r m n x y hx hy =
    value-ends r m n (nth 1 (λ i. joined (x i) (y i))) (nth 1 x) (nth 1 y)
    (λ i. second-joined m m n n [] [] (x i) (y i) (hx i) (hy i))
    (λ i. second-sized m m [] (x i) (hx i))

-- two equations, end to end
both : (x1 x2 y1 y2 : List ℕ) → x1 ≡ x2 → y1 ≡ y2 → x1 ++ y1 ≡ x2 ++ y2
both x1 x2 y1 y2 e f = ap (λ w. w ++ y1) e ∙ ap (λ w. x2 ++ w) f

-- ---- each gate

product-elementwise : (r : Ring) → Elementwise (mul_protocol r) (IsProduct r)
product-elementwise r =
    record {
      none = λ j. sum-none r _ _ _ ∙ sym (times-none r _ _);
      more = λ m n j x y a b hx hy e f.
          value-first r m n [] [] x y hx hy
          ∙ both _ _ _ _ e f
          ∙ sym
          (ap (λ w. times r (m + n) w (value_of r (m + n) j.v)) (value-cut r m n j.u)
          ∙ ap (λ w. times r (m + n) (value_of r m (λ i. take m (j.u i)) ++ value_of r n (λ i. drop m (j.u i))) w) (value-cut r m n j.v)
          ∙ two-ends (times r) m n (times-cut r m n) _ _ _ _ (length-value r m n (λ i. take m (j.u i))) (length-value r m n (λ i. take m (j.v i))));
    }

opened-elementwise : (r : Ring) → Elementwise (open_protocol r) (IsOpened r)
opened-elementwise r =
    record {
      none = λ j. (sym (sum-none r _ _ _), λ i. sym (sum-none r _ _ _));
      more = λ m n j x y a b hx hy e f. (
        both _ _ _ _ e.0 f.0 ∙ sym (value-cut r m n j.u),
        λ i. first-joined m n [] [] (x i) (y i) (hx i) (hy i) ∙ both _ _ _ _ (e.1 i) (f.1 i) ∙ sym (value-cut r m n j.u),
      );
    }

reshared-elementwise : (r : Ring) → Elementwise (reshare_protocol r) (IsReshared r)
reshared-elementwise r =
    record {
      none = λ j. sum-none r _ _ _ ∙ sym (sum-none r _ _ _);
      more = λ m n j x y a b hx hy e f.
          value-first r m n [] [] x y hx hy ∙ both _ _ _ _ e f ∙ sym (value-cut r m n j.u);
    }

converted-elementwise : Elementwise conv_protocol IsConverted
converted-elementwise =
    record {
      none = λ j. sum-none add_ring _ _ _ ∙ sym (xor_bits-none _ _ _);
      more = λ m n j x y a b hx hy e f.
          value-first add_ring m n [] [] x y hx hy
          ∙ both _ _ _ _ e f
          ∙ sym (xor_bits-cut m n (j.u One) (j.u Two) (j.u Three));
    }

joined-none : (negated : Bool) (x y : List ℕ) → splitting.sum_or_difference negated 0 x y ≡ []
joined-none false x y = plus-none add_ring x y
joined-none true x y = minus-none add_ring x y

joined-ends :
    (negated : Bool) (m n : ℕ) (x1 x2 y1 y2 : List ℕ) → length x1 ≡ m → length y1 ≡ m →
    splitting.sum_or_difference negated (m + n) (x1 ++ x2) (y1 ++ y2)
    ≡ splitting.sum_or_difference negated m x1 y1 ++ splitting.sum_or_difference negated n x2 y2
joined-ends false m n x1 x2 y1 y2 hx hy = two-ends (plus add_ring) m n (plus-cut add_ring m n) x1 x2 y1 y2 hx hy
joined-ends true m n x1 x2 y1 y2 hx hy = two-ends (minus add_ring) m n (minus-cut add_ring m n) x1 x2 y1 y2 hx hy

split-elementwise : (negated : Bool) → Elementwise (splitting.split_protocol negated) (IsSplit negated)
split-elementwise negated =
    record {
      none = λ j. joined-none negated _ _ ∙ sym (sum-none add_ring _ _ _);
      more = λ m n j x y a b hx hy e f.
          ap (λ w. splitting.sum_or_difference negated (m + n) w (value_of xor_ring (m + n) (nth 1 (λ i. joined (x i) (y i)))))
          (value-first xor_ring m n (m ∷ []) (n ∷ []) x y hx hy)
          ∙ ap (λ w. splitting.sum_or_difference negated (m + n) (value_of xor_ring m (nth 0 x) ++ value_of xor_ring n (nth 0 y)) w)
          (value-second xor_ring m n x y hx hy)
          ∙ joined-ends negated m n _ _ _ _ (length-value xor_ring m n (nth 0 x)) (length-value xor_ring m n (nth 1 x))
          ∙ both _ _ _ _ e f
          ∙ sym (value-cut add_ring m n j.u);
    }

-- ---- whole gates

module _ (cut : ℕ → List ℕ) (is_cut : IsCut cut) where
  pub mul_whole : {r : Ring} → RingLaws r → Lawful (in_blocks (mul_protocol r) cut) (Makes (in_blocks (mul_protocol r) cut) (IsProduct r))
  mul_whole {r} laws =
      in_blocks-lawful (mul_protocol r) (mul-blockable r) _ (mul_lawful laws) (IsProduct r) (product-elementwise r) (λ n j h. h) cut is_cut

  pub open_whole : {r : Ring} → RingLaws r → Lawful (in_blocks (open_protocol r) cut) (Makes (in_blocks (open_protocol r) cut) (IsOpened r))
  open_whole {r} laws =
      in_blocks-lawful (open_protocol r) (open-blockable r) _ (open-lawful laws) (IsOpened r) (opened-elementwise r) (λ n j h. (h, λ i. h)) cut is_cut

  pub reshare_whole : {r : Ring} → RingLaws r → Lawful (in_blocks (reshare_protocol r) cut) (Makes (in_blocks (reshare_protocol r) cut) (IsReshared r))
  reshare_whole {r} laws =
      in_blocks-lawful (reshare_protocol r) (reshare-blockable r) _ (reshare-lawful laws) (IsReshared r) (reshared-elementwise r) (λ n j h. h) cut is_cut

  pub conv_whole : Lawful (in_blocks conv_protocol cut) (Makes (in_blocks conv_protocol cut) IsConverted)
  conv_whole =
      in_blocks-lawful conv_protocol conv-blockable _ conv_lawful IsConverted converted-elementwise (λ n j h. h) cut is_cut

  pub split_whole :
      (negated : Bool) →
      Lawful (in_blocks (splitting.split_protocol negated) cut) (Makes (in_blocks (splitting.split_protocol negated) cut) (IsSplit negated))
  split_whole negated =
      in_blocks-lawful (splitting.split_protocol negated) (split-blockable negated) _ (split_lawful negated) (IsSplit negated)
      (split-elementwise negated) (λ n j h. h) cut is_cut
