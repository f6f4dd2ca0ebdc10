-- Resharing is right, and what a miner receives are words that another drew.
use Rattle.std.proofs.Common.{◌≡◌, ℕ, List, [], ◌∷◌, map, length, refl, ap, subst}
use Rattle.proto_core.specs.Ring.{Ring, RingLaws}
use Rattle.proto_core.specs.declared.party.Number.{Number}
use Rattle.proto_core.specs.declared.party.Number.TheVariants.{One, Two, Three}
use Rattle.proto_core.specs.declared.link.Link.{Link}
use Rattle.proto_core.specs.declared.link.Link.TheVariants.{Link12, Link13, Link21, Link23, Link31, Link32}
use Rattle.proto_core.specs.Parties.{sender_of, receiver_of}
use Rattle.proto_core.specs.Script.{EndsWith, Matched, Moves, UsesOwnLinks, sends_on}
use Rattle.proto_core.specs.Strand.{opened_in, one_field}
use Rattle.proto_core.specs.Protocol.{Joint, Fits, AreMessages, IsMessage, AreBlocks, Sound, Private, Lawful}
use Rattle.proto_core.proofs.MessageFields.{accepts-one_words}
use Rattle.proto_core.proofs.ResharingLaws.{length-reshared, AreWords-reshared, sum-reshared}
use Rattle.reshare.specs.Resharing.{reshare_strand, reshare_script, reshare_messages, reshare_output, reshare_protocol, reshare_received, Reshares}
use Rattle.reshare.specs.ResharingRuns.{reshare-run, reshare-finishes}

matched : (n : ℕ) → Matched (reshare_script n)
matched n = elim [ Link12 ↦ refl | Link13 ↦ refl | Link21 ↦ refl | Link23 ↦ refl | Link31 ↦ refl | Link32 ↦ refl ]

own_links : (n : ℕ) (i : Number) → UsesOwnLinks i (reshare_script n i)
own_links n = elim [ One ↦ (refl, (refl, tt)) | Two ↦ (refl, (refl, tt)) | Three ↦ (refl, (refl, tt)) ]

moves : (r : Ring) (n : ℕ) (i : Number) (u words : List ℕ) → length words ≡ n → Moves (reshare_strand r n i u words) (reshare_script n i)
moves r n i u words len = (refl, accepts-one_words n words len, (refl, refl, λ m h. tt))

sizes :
    (r : Ring) (n : ℕ) (i : Number) (u words : List ℕ) →
    EndsWith (λ blocks. map length blocks ≡ n ∷ []) (reshare_strand r n i u words)
sizes r n i u words = λ m h. ap (λ k. k ∷ []) (length-reshared r n u words m)

messages : (r : Ring) (n : ℕ) (j : Joint) → Fits (reshare_protocol r) n j → (l : Link)
    → AreMessages (sends_on l (reshare_script n (sender_of l))) (reshare_messages j l)
messages r n j fits =
    elim [
      | Link12 ↦ (mask One, tt)
      | Link13 ↦ tt
      | Link21 ↦ tt
      | Link23 ↦ (mask Two, tt)
      | Link31 ↦ (mask Three, tt)
      | Link32 ↦ tt
    ]
  where
    mask : (i : Number) → IsMessage (one_field n) (j.words i)
    mask i = record { shape = accepts-one_words n (j.words i) (fits.words i); words = fits.are_words i }

reshare-seen : (j : Joint) (i : Number) (l : Link) → receiver_of l ≡ i → reshare_messages j l ≡ reshare_received i j.words l
reshare-seen j i l h = subst (λ k. reshare_messages j l ≡ reshare_received k j.words l) h (at_link l)
  where
    at_link : (l : Link) → reshare_messages j l ≡ reshare_received (receiver_of l) j.words l
    at_link = elim [ Link12 ↦ refl | Link13 ↦ refl | Link21 ↦ refl | Link23 ↦ refl | Link31 ↦ refl | Link32 ↦ refl ]

pub reshare-private : (r : Ring) → Private (reshare_protocol r)
reshare-private r =
    record {
      own = λ n i j fits. refl;
      kept = λ n i j fits. fits;
      back_kept = λ n i j fits. fits;
      back_tape = λ n i j fits m. refl;
      tape_back = λ n i j fits m. refl;
      seen = λ n i j fits l h. reshare-seen j i l h;
    }

module _ {r : Ring} (laws : RingLaws r) where
  blocks : (n : ℕ) (j : Joint) (i : Number) → AreBlocks (n ∷ []) (reshare_output r n j i)
  blocks n j i = (record { len = length-reshared r n _ _ _; words = AreWords-reshared laws n _ _ _ }, tt)

  pub reshare-sound : Sound (reshare_protocol r)
  reshare-sound =
      record {
        matched = matched;
        own_links = own_links;
        moves = λ n i u v words hu hv hw. moves r n i u words hw;
        sizes = λ n i u v words hu hv hw. sizes r n i u words;
        finishes = λ n j fits. reshare-finishes r n j fits.words;
        messages = messages r;
        blocks = λ n j fits i. blocks n j i;
        opened = λ n j fits i. ap (λ v. opened_in v.acts) (reshare-run r n j fits.words i);
        opens = λ n j fits. refl;
      }

  pub reshares : (n : ℕ) (j : Joint) → Reshares r n j
  reshares n j = sum-reshared laws n (j.u One) (j.u Two) (j.u Three) (j.words One) (j.words Two) (j.words Three)

  pub reshare-lawful : Lawful (reshare_protocol r) (Reshares r)
  reshare-lawful = record { sound = reshare-sound; private = reshare-private r; clear = λ n j fits. reshares n j }
