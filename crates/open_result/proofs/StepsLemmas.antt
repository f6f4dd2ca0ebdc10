-- The steps of the code are those of a miner's part; and what they give where the shares and words of all are known.
use Rattle.std.proofs.Common.{◌≡◌, ℕ, List, [], ◌∷◌, length, refl, sym, ◌∙◌, ap}
use Rattle.proto_core.specs.Ring.{Ring, RingLaws}
use Rattle.proto_core.specs.declared.party.Number.{Number}
use Rattle.proto_core.specs.declared.party.Number.TheVariants.{One, Two, Three}
use Rattle.proto_core.specs.Parties.{to_next, to_previous, from_previous, from_next}
use Rattle.proto_core.specs.Strand.{Sent, Acts, Waits, one_field}
use Rattle.proto_core.specs.Protocol.{Joint}
use Rattle.proto_core.specs.Resharing.{reshared, reshared_of, sum_of_three}
use Rattle.open_result.specs.declared.together.Part.{Part}
use Rattle.open_result.specs.Opening.{open_strand, open_ends, open_from_next, open_from_previous, open_messages, opened_words, finished}
use Rattle.open_result.specs.OpeningRuns.{open-run}
use Rattle.open_result.specs.OpeningLaws.{opens}
use Rattle.open_result.specs.Parts.{IsPart}
use Rattle.open_result.specs.Steps.{left_masked, after_masked, left_from_previous, after_from_previous, left_from_next, after_from_next, Masks, Keeps, Sums}

-- ---- code and strand
module _ (r : Ring) (i : Number) where
  -- after the start the mask is sent, and the rest is the state's
  pub start_is :
      (u words mask : List ℕ) (state : List ℕ × List ℕ) → state ≡ (u, words) → mask ≡ words →
      open_strand r (length u) i u words ≡ Acts (Sent (to_next i) mask) (left_masked r i state)
  start_is u words mask state same sent =
      ap (λ m. Acts (Sent (to_next i) m) (left_masked r i (u, words))) (sym sent)
      ∙ ap (λ s. Acts (Sent (to_next i) mask) (left_masked r i s)) (sym same)

  -- each state waits for the message that its step takes
  pub masked_waits : (state : List ℕ × List ℕ) → left_masked r i state ≡ Waits (from_previous i) (one_field (length state.0)) (after_masked r i state)
  masked_waits state = refl

  pub from_previous_waits : (state : List ℕ × List ℕ)
      → left_from_previous r i state ≡ Waits (from_previous i) (one_field (length state.0)) (after_from_previous r i state)
  from_previous_waits state = refl

  pub from_next_waits : (state : List ℕ × List ℕ) → left_from_next r i state ≡ Waits (from_next i) (one_field (length state.0)) (after_from_next r state)
  from_next_waits state = refl

  -- and goes on as the step says
  pub masks_is :
      (before : List ℕ × List ℕ) (message : List ℕ) (after : List ℕ × List ℕ) (forward backward : List ℕ) →
      Masks r before message after forward backward →
      after_masked r i before message
      ≡ Acts (Sent (to_next i) forward) (Acts (Sent (to_previous i) backward) (left_from_previous r i after))
  masks_is before message after forward backward is =
      ap (λ s. Acts (Sent (to_next i) s) (Acts (Sent (to_previous i) s) (open_from_previous r (length before.0) i s))) (sym is.share)
      ∙ ap (λ n. Acts (Sent (to_next i) after.0) (Acts (Sent (to_previous i) after.0) (open_from_previous r n i after.0))) (sym is.len)
      ∙ ap (λ s. Acts (Sent (to_next i) s) (Acts (Sent (to_previous i) after.0) (left_from_previous r i after))) (sym is.next)
      ∙ ap (λ s. Acts (Sent (to_next i) forward) (Acts (Sent (to_previous i) s) (left_from_previous r i after))) (sym is.previous)

  pub keeps_is :
      (before : List ℕ × List ℕ) (message : List ℕ) (after : List ℕ × List ℕ) → Keeps before message after →
      after_from_previous r i before message ≡ left_from_next r i after
  keeps_is before message after is =
      ap (λ s. open_from_next r (length s) i s message) (sym is.share)
      ∙ ap (λ s. open_from_next r (length after.0) i after.0 s) (sym is.other)

  pub sums_is :
      (before : List ℕ × List ℕ) (message opened : List ℕ) → Sums r before message opened →
      after_from_next r before message ≡ open_ends opened
  sums_is before message opened is = ap open_ends (sym is.sum)

-- ---- where shares and words are known

pub masked :
    (r : Ring) (n : ℕ) (u mask got message : List ℕ) (before after : List ℕ × List ℕ) (to_next to_previous : List ℕ) →
    before ≡ (u, mask) → length u ≡ n → message ≡ got → Masks r before message after to_next to_previous →
    after.0 ≡ reshared r n u mask got
masked r n u mask got message before after to_next to_previous state len came is =
    is.share ∙ ap (λ s. reshared r (length s.0) s.0 s.1 message) state ∙ ap (λ k. reshared r k u mask message) len
    ∙ ap (reshared r n u mask) came

pub summed :
    (r : Ring) (n : ℕ) (x y z from_previous from_next opened : List ℕ) (before kept : List ℕ × List ℕ) →
    before.0 ≡ x → from_previous ≡ y → from_next ≡ z → length x ≡ n →
    Keeps before from_previous kept → Sums r kept from_next opened → opened ≡ sum_of_three r n x y z
summed r n x y z from_previous from_next opened before kept share previous next len keeps sums =
    let own = keeps.share ∙ share in
    sums.sum ∙ ap (λ l. sum_of_three r (length l) l kept.1 from_next) own
    ∙ ap (λ k. sum_of_three r k x kept.1 from_next) len
    ∙ ap (λ l. sum_of_three r n x l from_next) (keeps.other ∙ previous) ∙ ap (sum_of_three r n x y) next

-- a miner's messages and opened words make it a part of the joint run
pub part_is :
    {r : Ring} (laws : RingLaws r) (n : ℕ) (j : Joint) → ((i : Number) → length (j.words i) ≡ n) → (i : Number) (part : Part) →
    part.mask ≡ j.words i → part.to_next ≡ reshared_of r n j i → part.to_previous ≡ reshared_of r n j i →
    part.opened ≡ opened_words r n j → IsPart r n i j part
part_is {r} laws n j words i part mask next previous opened =
    record {
      forward = ap (λ m. m ∷ part.to_next ∷ []) mask ∙ ap (λ s. j.words i ∷ s ∷ []) next ∙ forward_of i;
      backward = ap (λ s. s ∷ []) previous ∙ backward_of i;
      output = opened;
      value = opened ∙ opens laws n j;
      runs = open-run r n j words laws i
          ∙ ap (λ m. finished i m (reshared_of r n j i) (reshared_of r n j i) (opened_words r n j)) (sym mask)
          ∙ ap (λ s. finished i part.mask s (reshared_of r n j i) (opened_words r n j)) (sym next)
          ∙ ap (λ s. finished i part.mask part.to_next s (opened_words r n j)) (sym previous)
          ∙ ap (λ s. finished i part.mask part.to_next part.to_previous s) (sym opened);
    }
  where
    forward_of : (k : Number) → j.words k ∷ reshared_of r n j k ∷ [] ≡ open_messages r n j (to_next k)
    forward_of = elim [ One ↦ refl | Two ↦ refl | Three ↦ refl ]

    backward_of : (k : Number) → reshared_of r n j k ∷ [] ≡ open_messages r n j (to_previous k)
    backward_of = elim [ One ↦ refl | Two ↦ refl | Three ↦ refl ]
