-- Each step of the code is the strand's: what it sends and holds is what the miner's part does next.
use Rattle.std.proofs.Common.{◌≡◌, ℕ, ◌*◌, true, List, [], ◌∷◌, ◌++◌, length, sym, ◌∙◌, ap, subst}
use Rattle.proto_core.specs.Ring.{Ring, RingLaws}
use Rattle.proto_core.specs.declared.party.Number.{Number}
use Rattle.proto_core.specs.Parties.{to_next, previous_of}
use Rattle.proto_core.specs.Lists.{part}
use Rattle.proto_core.specs.Protocol.{Joint}
use Rattle.proto_core.specs.Strand.{accepts, Ends, Acts, Sent}
use Rattle.proto_core.proofs.MessageFields.{accepted-length}
use Rattle.proto_core.proofs.Parts.{length-part, parts_of_two}
use Rattle.multiply.specs.MulStrand.{Held, masked, crossed, product, masks_shape, factors_shape, mul_strand, mul_masked, mul_passes, mul_crossed, mul_ends}
use Rattle.multiply.specs.Multiplying.{factors_of, product_of}
use Rattle.multiply.specs.MultiplyingLaws.{masks_fit, factors_fit, held_of, factors-held, product-held}
use Rattle.multiply.specs.Steps.{Starts, Crosses, Multiplied}

abbrev holds : List ℕ → List ℕ → List ℕ → Held
holds x y z = record { u = x; v = y; mask = z }

pub same_held : (a b : Held) → a.u ≡ b.u → a.v ≡ b.v → a.mask ≡ b.mask → a ≡ b
same_held a b u v mask = ap (λ x. holds x a.v a.mask) u ∙ ap (λ y. holds b.u y a.mask) v ∙ ap (λ z. holds b.u b.v z) mask

module _ (r : Ring) (n : ℕ) where
  pub started : (u v words : List ℕ) (after : Held) (out : List ℕ) → length u ≡ n → Starts r u v words after out → after ≡ masked r n u v words
  started u v words after out e s =
      subst (λ k. after ≡ masked r k u v words) e (same_held after (masked r (length u) u v words) s.u_masked s.v_masked s.mask)

  pub passed : (before : Held) (message : List ℕ) (after : Held) (out : List ℕ) → length before.mask ≡ n → Crosses r before message after out
      → after ≡ crossed r n before message
  passed before message after out e s =
      subst (λ k. after ≡ crossed r k before message) e (same_held after (crossed r (length before.mask) before message) s.u s.v s.mask)

  -- the start sends the words drawn, and awaits the previous miner's
  pub start-is :
      (i : Number) (u v words : List ℕ) (after : Held) (out : List ℕ) → length u ≡ n → Starts r u v words after out →
      mul_strand r n i u v words ≡ Acts (Sent (to_next i) out) (mul_masked r n i after)
  start-is i u v words after out e s =
      ap (λ m. Acts (Sent (to_next i) m) (mul_masked r n i (masked r n u v words))) (sym s.next)
      ∙ ap (λ h. Acts (Sent (to_next i) out) (mul_masked r n i h)) (sym (started u v words after out e s))

  -- with the previous miner's words it sends its factors, and awaits the previous miner's
  pub masked-got-is :
      (i : Number) (before : Held) (message : List ℕ) (after : Held) (out : List ℕ) → length before.mask ≡ n → Crosses r before message after out →
      mul_passes r n i (crossed r n before message) ≡ Acts (Sent (to_next i) out) (mul_crossed r n i after)
  masked-got-is i before message after out e s =
      ap (mul_passes r n i) (sym (passed before message after out e s)) ∙ ap (λ m. Acts (Sent (to_next i) m) (mul_crossed r n i after)) (sym s.next)

  -- with the previous miner's factors it ends with its share
  pub crossed-got-is :
      (before : Held) (message share : List ℕ) → length before.mask ≡ n → Multiplied r before message share →
      mul_ends r n before message ≡ Ends (share ∷ [])
  crossed-got-is before message share e s = ap (λ k. mul_ends r k before message) (sym e) ∙ ap (λ x. Ends (x ∷ [])) (sym s.share)

-- ---- of three miners together

module _ {r : Ring} (laws : RingLaws r) (n : ℕ) (j : Joint) (i : Number) where
  -- one miner's start and the message that it got from the previous one
  pub record Begun (start held : Held) (out got factors : List ℕ) : Type 0 where
    pub fits : length (j.u i) ≡ n
    pub starts : Starts r (j.u i) (j.v i) (j.words i) start out
    pub words : got ≡ j.words (previous_of i)
    pub crosses : Crosses r start got held factors

  module _ (start held : Held) (out got factors : List ℕ) (b : Begun start held out got factors) where
    size : length start.mask ≡ n
    size = b.starts.len ∙ b.fits

    holds-of : held ≡ held_of laws n j i
    holds-of =
        passed r n start got held factors size b.crosses ∙ ap (crossed r n start) b.words
        ∙ ap (λ h. crossed r n h (j.words (previous_of i))) (started r n (j.u i) (j.v i) (j.words i) start out b.fits b.starts)

    pub factors-are : factors ≡ factors_of r n j i
    factors-are = b.crosses.next ∙ ap (λ h. h.u ++ h.v) holds-of ∙ factors-held laws n j i

    pub share-is : (theirs share : List ℕ) → theirs ≡ factors_of r n j (previous_of i) → Multiplied r held theirs share → share ≡ product_of r n j i
    share-is theirs share e s =
        s.share ∙ ap (λ k. product r k held theirs) (b.crosses.len ∙ size) ∙ ap (λ h. product r n h theirs) holds-of
        ∙ ap (product r n (held_of laws n j i)) e ∙ product-held laws n j i

-- ---- a message is refused exactly where it has not the shape that the strand waits for

pub accepts-masks : (n : ℕ) (m : List ℕ) → length m ≡ 3 * n → accepts (masks_shape n) m ≡ true
accepts-masks n m e = masks_fit n m e

pub accepted-masks : (n : ℕ) (m : List ℕ) → accepts (masks_shape n) m ≡ true → length m ≡ 3 * n
accepted-masks n m h = accepted-length (masks_shape n) m h

pub accepts-factors : (n : ℕ) (m : List ℕ) → length m ≡ 2 * n → accepts (factors_shape n) m ≡ true
accepts-factors n m e =
    ap (accepts (factors_shape n)) (sym (parts_of_two n m e)) ∙ factors_fit n (part n 0 m) (part n 1 m) (length-part n 0 m) (length-part n 1 m)

pub accepted-factors : (n : ℕ) (m : List ℕ) → accepts (factors_shape n) m ≡ true → length m ≡ 2 * n
accepted-factors n m h = accepted-length (factors_shape n) m h
