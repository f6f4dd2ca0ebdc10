-- The steps of the code are those of a miner's part.
use Rattle.std.proofs.Common.{◌≡◌, ℕ, List, [], ◌∷◌, length, refl, sym, ◌∙◌, ap}
use Rattle.proto_core.specs.Ring.{Ring, RingLaws}
use Rattle.proto_core.specs.declared.party.Number.{Number}
use Rattle.proto_core.specs.Parties.{to_next, from_previous}
use Rattle.proto_core.specs.declared.party.Number.TheVariants.{One, Two, Three}
use Rattle.proto_core.specs.Net.{nothing}
use Rattle.proto_core.specs.Protocol.{Joint}
use Rattle.proto_core.specs.Resharing.{reshared, reshared_of, sum_of_three}
use Rattle.proto_core.specs.Strand.{Sent, Ends, Acts, Waits, one_field}
use Rattle.reshare.specs.Resharing.{reshare_strand, reshare_messages, reshare_output}
use Rattle.reshare.specs.ResharingRuns.{reshare-run}
use Rattle.reshare.specs.ResharingLaws.{reshares}
use Rattle.proto_core.specs.Parties.{of_three}
use Rattle.reshare.specs.Parts.{IsPart}
use Rattle.reshare.specs.Steps.{left_sent, after_sent, Reshared}

module _ (r : Ring) (i : Number) where
  -- after the start the mask is sent, and the rest is the state's
  pub start_is :
      (u words mask : List ℕ) (state : List ℕ × List ℕ) → state ≡ (u, words) → mask ≡ words →
      reshare_strand r (length u) i u words ≡ Acts (Sent (to_next i) mask) (left_sent r i state)
  start_is u words mask state same sent =
      ap (λ m. Acts (Sent (to_next i) m) (left_sent r i (u, words))) (sym sent)
      ∙ ap (λ s. Acts (Sent (to_next i) mask) (left_sent r i s)) (sym same)

  pub waits_is : (state : List ℕ × List ℕ) → left_sent r i state ≡ Waits (from_previous i) (one_field (length state.0)) (after_sent r state)
  waits_is state = refl

  pub got_is : (before : List ℕ × List ℕ) (message share : List ℕ) → Reshared r before message share → after_sent r before message ≡ Ends (share ∷ [])
  got_is before message share is = ap (λ s. Ends (s ∷ [])) (sym is.is)

-- the new share, where the state and the message are known
pub reshared_share :
    (r : Ring) (n : ℕ) (u words got message share : List ℕ) (before : List ℕ × List ℕ) → before ≡ (u, words) → length u ≡ n →
    message ≡ got → Reshared r before message share → share ≡ reshared r n u words got
reshared_share r n u words got message share before state len came is =
    is.is ∙ ap (λ s. reshared r (length s.0) s.0 s.1 message) state ∙ ap (λ k. reshared r k u words message) len
    ∙ ap (reshared r n u words) came

-- a miner's mask and new share make it a part of the joint run
pub part_is :
    (r : Ring) (n : ℕ) (j : Joint) → ((i : Number) → length (j.words i) ≡ n) → (i : Number) (mask share : List ℕ) →
    mask ≡ j.words i → share ≡ reshared_of r n j i → IsPart r n i j mask share
part_is r n j words i mask share sent made =
    record {
      sent = ap (λ m. m ∷ []) sent ∙ sent_next j i;
      output = ap (λ s. s ∷ []) made;
      runs = reshare-run r n j words i
          ∙ ap (λ m. record { acts = Sent (to_next i) m ∷ []; left = Ends (reshare_output r n j i); unread = nothing }) (sym sent)
          ∙ ap (λ s. record { acts = Sent (to_next i) mask ∷ []; left = Ends (s ∷ []); unread = nothing }) (sym made);
    }
  where
    sent_next : (j : Joint) (i : Number) → j.words i ∷ [] ≡ reshare_messages j (to_next i)
    sent_next j = elim [ One ↦ refl | Two ↦ refl | Three ↦ refl ]

pub of_three_has :
    (n : ℕ) (x y z : List ℕ) → length x ≡ n → length y ≡ n → length z ≡ n → (i : Number) → length (of_three x y z i) ≡ n
of_three_has n x y z one two three = elim [ One ↦ one | Two ↦ two | Three ↦ three ]

-- new shares that are the joint run's add up to what the old ones did
pub value_is :
    {r : Ring} (laws : RingLaws r) (n : ℕ) (j : Joint) (x y z : List ℕ) → x ≡ reshared_of r n j One → y ≡ reshared_of r n j Two →
    z ≡ reshared_of r n j Three → sum_of_three r n x y z ≡ sum_of_three r n (j.u One) (j.u Two) (j.u Three)
value_is {r} laws n j x y z one two three =
    ap (λ l. sum_of_three r n l y z) one ∙ ap (λ l. sum_of_three r n (reshared_of r n j One) l z) two
    ∙ ap (λ l. sum_of_three r n (reshared_of r n j One) (reshared_of r n j Two) l) three ∙ reshares laws n j
