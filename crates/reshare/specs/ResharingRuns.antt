-- Three miners that reshare come to the end.
use Rattle.std.proofs.Common.{◌≡◌, ℕ, List, [], ◌∷◌, length, refl, ◌∙◌, ap}
use Rattle.proto_core.specs.Ring.{Ring}
use Rattle.proto_core.specs.declared.party.Number.{Number}
use Rattle.proto_core.specs.declared.party.Number.TheVariants.{One, Two, Three}
use Rattle.proto_core.specs.declared.link.Link.{Link}
use Rattle.proto_core.specs.declared.link.Link.TheVariants.{Link12, Link13, Link21, Link23, Link31, Link32}
use Rattle.proto_core.specs.Parties.{to_next, sender_of}
use Rattle.proto_core.specs.Resharing.{reshared}
use Rattle.proto_core.specs.Strand.{Sent, Ends, acted, run, on_link, Begins, one_field}
use Rattle.proto_core.specs.Net.{nothing, mail_of, run_of, rounds, Finishes}
use Rattle.proto_core.specs.Protocol.{Joint, strands_of}
use Rattle.proto_core.proofs.MessageFields.{accepts-one_words}
use Rattle.proto_core.proofs.Nodes.{into-is, mail-none, run-previous}
use Rattle.reshare.specs.Resharing.{reshare_strand, reshare_messages, reshare_output, reshare_protocol}

-- one miner, with the previous one's mask
run-reshare :
    (r : Ring) (n : ℕ) (i : Number) (u words mask : List ℕ) → length mask ≡ n →
    run (reshare_strand r n i u words) (mail_of i (mask ∷ []) [])
    ≡ record { acts = Sent (to_next i) words ∷ []; left = Ends (reshared r n u words mask ∷ []); unread = nothing }
run-reshare r n i u words mask len =
    ap (acted (Sent (to_next i) words))
    (run-previous i (one_field n) (λ m. Ends (reshared r n u words m ∷ [])) mask [] [] (accepts-one_words n mask len)
    ∙ ap (λ v. record { acts = []; left = Ends (reshared r n u words mask ∷ []); unread = v }) (mail-none i))

module _ (r : Ring) (n : ℕ) (j : Joint) (words : (i : Number) → length (j.words i) ≡ n) where
  -- each miner, with all messages
  pub reshare-run :
      (i : Number) →
      run_of (strands_of (reshare_protocol r) n j) (reshare_messages j) i
      ≡ record { acts = Sent (to_next i) (j.words i) ∷ []; left = Ends (reshare_output r n j i); unread = nothing }
  reshare-run One = ap (run (reshare_strand r n One (j.u One) (j.words One))) (into-is One (reshare_messages j)) ∙ run-reshare r n One _ _ _ (words Three)
  reshare-run Two = ap (run (reshare_strand r n Two (j.u Two) (j.words Two))) (into-is Two (reshare_messages j)) ∙ run-reshare r n Two _ _ _ (words One)
  reshare-run Three = ap (run (reshare_strand r n Three (j.u Three) (j.words Three))) (into-is Three (reshare_messages j))
      ∙ run-reshare r n Three _ _ _ (words Two)

  sent_all : (l : Link) → on_link l (Sent (to_next (sender_of l)) (j.words (sender_of l)) ∷ []) ≡ reshare_messages j l
  sent_all = elim [ Link12 ↦ refl | Link13 ↦ refl | Link21 ↦ refl | Link23 ↦ refl | Link31 ↦ refl | Link32 ↦ refl ]

  -- all masks are sent before any comes
  first_round : (l : Link) → Begins (reshare_messages j l) (rounds (strands_of (reshare_protocol r) n j) 1 nothing l)
  first_round =
      elim [
        | Link12 ↦ (refl, tt)
        | Link13 ↦ tt
        | Link21 ↦ tt
        | Link23 ↦ (refl, tt)
        | Link31 ↦ (refl, tt)
        | Link32 ↦ tt
      ]

  pub reshare-finishes : Finishes (strands_of (reshare_protocol r) n j) (reshare_messages j) (reshare_output r n j)
  reshare-finishes =
      record {
        sent = λ l. ap (λ v. on_link l v.acts) (reshare-run (sender_of l)) ∙ sent_all l;
        ended = λ i. ap (λ v. v.left) (reshare-run i);
        read = λ i. ap (λ v. v.unread) (reshare-run i);
        count = 1;
        all = first_round;
      }
