-- Each step of a product, an opening and a resharing is the next one of the miner's part.
use Rattle.std.proofs.Common.{◌≡◌, ℕ, ◌*◌, List, [], ◌∷◌, ◌++◌, length, refl, sym, ◌∙◌, ap, Some}
use Rattle.proto_core.specs.Ring.{Ring}
use Rattle.proto_core.specs.declared.party.Number.{Number}
use Rattle.proto_core.specs.Parties.{to_next, to_previous, from_previous, from_next}
use Rattle.proto_core.specs.Strand.{Sent, Opened, Mail, Ends, Acts, run, rest_of, one_field}
use Rattle.proto_core.specs.Net.{mail_of}
use Rattle.proto_core.specs.Lists.{part}
use Rattle.proto_core.proofs.MessageFields.{accepts-one_words}
use Rattle.proto_core.specs.Resharing.{reshared, sum_of_three}
use Rattle.proto_core.proofs.ElementwiseLaws.{length-minus}
use Rattle.proto_core.proofs.ResharingLaws.{length-reshared}
use Rattle.proto_core.proofs.Parts.{length-part}
use Rattle.multiply.specs.MulStrand.{Held, masked, crossed, product, mul_strand, masks_shape, factors_shape, mul_masked, mul_passes, mul_crossed, mul_ends}
use Rattle.multiply.proofs.Tails.{accepts-masks, accepts-factors}
use Rattle.reshare.specs.Steps.{left_sent, after_sent}
use Rattle.open_result.specs.Steps.{Masks, Keeps, Sums, left_masked, after_masked, left_from_previous, after_from_previous, left_from_next, after_from_next}
use Rattle.open_result.proofs.StepsLemmas as opening
use Rattle.block_steps.specs.Inboxes.{FrontIs}
use Rattle.block_steps.specs.Outcomes.{outcome}
use Rattle.block_steps.proofs.Turns.{outcome-sent_next, outcome-sent_previous, outcome-opened, took-previous, took-next}

module _ (r : Ring) (i : Number) where
  -- ---- products

  pub begun-turn :
      (state : Held) (u v words : List ℕ) (n n2 p : List (List ℕ)) (o : List ℕ) (x : Mail) → state ≡ masked r (length u) u v words →
      n2 ≡ n ++ words ∷ [] →
      outcome i n2 p o (run (mul_masked r (length state.mask) i state) x) ≡ outcome i n p o (run (mul_strand r (length u) i u v words) x)
  begun-turn state u v words n n2 p o x is next =
      let size = length u in
      let same : length state.mask ≡ size = ap (λ (w : Held). length w.mask) is ∙ length-part size 2 words in
      ap (λ w. outcome i n2 p o (run (mul_masked r w i state) x)) same
      ∙ ap (λ (w : Held). outcome i n2 p o (run (mul_masked r size i w) x)) is
      ∙ outcome-sent_next i n n2 p o words (to_next i) (mul_masked r size i (masked r size u v words)) x refl next

  pub masked-turn :
      (held after : Held) (m : List ℕ) (front front2 q n n2 p : List (List ℕ)) (o : List ℕ) → FrontIs (Some m) front → front2 ≡ rest_of front →
      length m ≡ 3 * length held.mask → after ≡ crossed r (length held.mask) held m → n2 ≡ n ++ (after.u ++ after.v) ∷ [] →
      outcome i n2 p o (run (mul_crossed r (length after.mask) i after) (mail_of i front2 q))
      ≡ outcome i n p o (run (mul_masked r (length held.mask) i held) (mail_of i front q))
  masked-turn held after m front front2 q n n2 p o h e fits is next =
      let size = length held.mask in
      let s = mul_crossed r size i after in
      let same : length after.mask ≡ size = ap (λ (w : Held). length w.mask) is ∙ length-minus r size held.mask (part size 2 m) in
      ap (λ w. outcome i n2 p o (run (mul_crossed r w i after) (mail_of i front2 q))) same
      ∙ outcome-sent_next i n n2 p o (after.u ++ after.v) (to_next i) s (mail_of i front2 q) refl next
      ∙ took-previous i (from_previous i) (masks_shape size) (λ got. mul_passes r size i (crossed r size held got)) m
      (Acts (Sent (to_next i) (after.u ++ after.v)) s) front front2 q n p o
      refl h e (accepts-masks size m fits) (ap (mul_passes r size i) (sym is))

  pub crossed-end :
      (held : Held) (m made : List ℕ) (front front2 q n p : List (List ℕ)) (o : List ℕ) → FrontIs (Some m) front → front2 ≡ rest_of front →
      length m ≡ 2 * length held.mask → made ≡ product r (length held.mask) held m →
      outcome i n p o (run (Ends (made ∷ [])) (mail_of i front2 q))
      ≡ outcome i n p o (run (mul_crossed r (length held.mask) i held) (mail_of i front q))
  crossed-end held m made front front2 q n p o h e fits is =
      let size = length held.mask in
      took-previous i (from_previous i) (factors_shape size) (mul_ends r size held) m (Ends (made ∷ [])) front front2 q n p o
      refl h e (accepts-factors size m fits) (ap (λ w. Ends (w ∷ [])) (sym is))

  -- ---- openings

  pub mask-turn :
      (held after : List ℕ × List ℕ) (m : List ℕ) (front front2 q n n2 p p2 : List (List ℕ)) (o : List ℕ) → FrontIs (Some m) front →
      front2 ≡ rest_of front → length m ≡ length held.0 → after ≡ (reshared r (length held.0) held.0 held.1 m, held.1) →
      n2 ≡ n ++ after.0 ∷ [] → p2 ≡ p ++ after.0 ∷ [] →
      outcome i n2 p2 o (run (left_from_previous r i after) (mail_of i front2 q)) ≡ outcome i n p o (run (left_masked r i held) (mail_of i front q))
  mask-turn held after m front front2 q n n2 p p2 o h e fits is next previous =
      let size = length held.0 in
      let s = left_from_previous r i after in
      let x = mail_of i front2 q in
      let came : Masks r held m after after.0 after.0 =
      record {
        fits = fits;
        share = ap (λ (w : List ℕ × List ℕ). w.0) is;
        len = ap (λ (w : List ℕ × List ℕ). length w.0) is ∙ length-reshared r size held.0 held.1 m;
        next = refl;
        previous = refl;
      } in
      outcome-sent_previous i n2 p p2 o after.0 (to_previous i) s x refl previous
      ∙ outcome-sent_next i n n2 p o after.0 (to_next i) (Acts (Sent (to_previous i) after.0) s) x refl next
      ∙ took-previous i (from_previous i) (one_field size) (after_masked r i held) m (Acts (Sent (to_next i) after.0)
      (Acts (Sent (to_previous i) after.0) s)) front front2 q n p o
      refl h e (accepts-one_words size m fits) (opening.masks_is r i held m after after.0 after.0 came)

  pub keep-turn :
      (held after : List ℕ × List ℕ) (m : List ℕ) (front front2 q n p : List (List ℕ)) (o : List ℕ) → FrontIs (Some m) front →
      front2 ≡ rest_of front → length m ≡ length held.0 → after ≡ (held.0, m) →
      outcome i n p o (run (left_from_next r i after) (mail_of i front2 q)) ≡ outcome i n p o (run (left_from_previous r i held) (mail_of i front q))
  keep-turn held after m front front2 q n p o h e fits is =
      let came : Keeps held m after =
      record { fits = fits; share = ap (λ (w : List ℕ × List ℕ). w.0) is; other = ap (λ (w : List ℕ × List ℕ). w.1) is } in
      took-previous i (from_previous i) (one_field (length held.0)) (after_from_previous r i held) m (left_from_next r i after) front front2 q n p o
      refl h e (accepts-one_words (length held.0) m fits) (opening.keeps_is r i held m after came)

  pub opened-end :
      (held : List ℕ × List ℕ) (m opened : List ℕ) (front front2 q n p : List (List ℕ)) (o o2 : List ℕ) → FrontIs (Some m) front →
      front2 ≡ rest_of front → length m ≡ length held.0 → opened ≡ sum_of_three r (length held.0) held.0 held.1 m → o2 ≡ o ++ opened →
      outcome i n p o2 (run (Ends (opened ∷ [])) (mail_of i q front2)) ≡ outcome i n p o (run (left_from_next r i held) (mail_of i q front))
  opened-end held m opened front front2 q n p o o2 h e fits is more =
      let came : Sums r held m opened = record { fits = fits; sum = is } in
      outcome-opened i n p o o2 opened (Ends (opened ∷ [])) (mail_of i q front2) more
      ∙ took-next i (from_next i) (one_field (length held.0)) (after_from_next r held) m (Acts (Opened opened) (Ends (opened ∷ []))) front front2 q n p o
      refl h e (accepts-one_words (length held.0) m fits) (opening.sums_is r i held m opened came)

  -- ---- resharing

  pub reshared-end :
      (held after : List ℕ × List ℕ) (m made : List ℕ) (front front2 q n p : List (List ℕ)) (o : List ℕ) → FrontIs (Some m) front →
      front2 ≡ rest_of front → length m ≡ length held.0 → after ≡ (reshared r (length held.0) held.0 held.1 m, held.1) → made ≡ after.0 →
      outcome i n p o (run (Ends (made ∷ [])) (mail_of i front2 q)) ≡ outcome i n p o (run (left_sent r i held) (mail_of i front q))
  reshared-end held after m made front front2 q n p o h e fits is same =
      took-previous i (from_previous i) (one_field (length held.0)) (after_sent r held) m (Ends (made ∷ [])) front front2 q n p o
      refl h e (accepts-one_words (length held.0) m fits)
      (ap (λ (w : List ℕ × List ℕ). Ends (w.0 ∷ [])) (sym is) ∙ ap (λ w. Ends (w ∷ [])) (sym same))
