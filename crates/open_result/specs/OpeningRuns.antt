-- Three miners that open come to the end.
use Rattle.std.proofs.Common.{◌≡◌, ℕ, List, [], ◌∷◌, length, refl, sym, ◌∙◌, ap, subst}
use Rattle.proto_core.specs.Ring.{Ring, RingLaws}
use Rattle.proto_core.specs.declared.party.Number.{Number}
use Rattle.proto_core.specs.declared.party.Number.TheVariants.{One, Two, Three}
use Rattle.proto_core.specs.declared.link.Link.{Link}
use Rattle.proto_core.specs.declared.link.Link.TheVariants.{Link12, Link13, Link21, Link23, Link31, Link32}
use Rattle.proto_core.specs.Parties.{next_of, previous_of, to_next, to_previous, sender_of}
use Rattle.proto_core.specs.Resharing.{reshared, reshared_of, sum_of_three}
use Rattle.proto_core.specs.Strand.{Act, Sent, Opened, Strand, Ends, Ran, acted, run, on_link, Begins, one_field}
use Rattle.proto_core.specs.Net.{nothing, mail_of, posted, run_of, rounds, Finishes}
use Rattle.proto_core.specs.Protocol.{Joint, strands_of}
use Rattle.proto_core.proofs.Beginnings.{begins-self}
use Rattle.proto_core.proofs.MessageFields.{accepts-one_words}
use Rattle.proto_core.proofs.Nodes.{into-is, mail-none, run-previous, run-next, run-waits_previous}
use Rattle.proto_core.proofs.ResharingLaws.{length-reshared, swap_last, swap_first, swap_ends}
use Rattle.open_result.specs.Opening.{open_strand, open_sends, open_from_next, open_ends, open_messages, opened_words, open_protocol, finished}

-- what a miner sends: its mask, and its new share twice
abbrev sends_of : Number → (words share : List ℕ) → List Act
sends_of i words share = Sent (to_next i) words ∷ Sent (to_next i) share ∷ Sent (to_previous i) share ∷ []

abbrev done : Number → (words share opened : List ℕ) → Ran (List (List ℕ))
done i words share opened = finished i words share share opened

-- ---- one miner
module _ (r : Ring) (n : ℕ) (i : Number) (u words mask : List ℕ) (len : length mask ≡ n) where
  abbrev share : List ℕ
  share = reshared r n u words mask

  abbrev sent : Ran (List (List ℕ)) → Ran (List (List ℕ))
  sent rest = acted (Sent (to_next i) share) (acted (Sent (to_previous i) share) rest)

  -- with the previous miner's mask alone: it sends all that it ever sends
  run-mask : (run (open_strand r n i u words) (mail_of i (mask ∷ []) [])).acts ≡ sends_of i words share
  run-mask =
      ap (λ v. (acted (Sent (to_next i) words) v).acts)
      (run-previous i (one_field n) (λ m. open_sends r n i (reshared r n u words m)) mask [] [] (accepts-one_words n mask len)
      ∙ ap sent (run-waits_previous i (one_field n) (λ m. open_from_next r n i share m) []))

  -- with all of its messages
  run-all :
      (from_previous from_next : List ℕ) → length from_previous ≡ n → length from_next ≡ n →
      run (open_strand r n i u words) (mail_of i (mask ∷ from_previous ∷ []) (from_next ∷ []))
      ≡ done i words share (sum_of_three r n share from_previous from_next)
  run-all p q hp hq =
      ap (acted (Sent (to_next i) words))
      (run-previous i (one_field n) (λ m. open_sends r n i (reshared r n u words m)) mask (p ∷ []) (q ∷ []) (accepts-one_words n mask len)
      ∙ ap sent
      (run-previous i (one_field n) (λ m. open_from_next r n i share m) p [] (q ∷ []) (accepts-one_words n p hp)
      ∙ run-next i (one_field n) (λ m. open_ends (sum_of_three r n share p m)) q [] [] (accepts-one_words n q hq)
      ∙ ap (λ v. acted (Opened (sum_of_three r n share p q)) (record { acts = []; left = Ends (sum_of_three r n share p q ∷ []); unread = v })) (mail-none i)))

-- ---- all three
module _ (r : Ring) (n : ℕ) (j : Joint) (words : (i : Number) → length (j.words i) ≡ n) where
  abbrev nodes : Number → Strand (List (List ℕ))
  nodes = strands_of (open_protocol r) n j

  size : (i : Number) → length (reshared_of r n j i) ≡ n
  size i = length-reshared r n _ _ _

  -- the sum as a miner makes it: its own new share, the previous miner's, the next one's
  abbrev own_sum : Number → List ℕ
  own_sum i = sum_of_three r n (reshared_of r n j i) (reshared_of r n j (previous_of i)) (reshared_of r n j (next_of i))

  own_run : (i : Number) → run_of nodes (open_messages r n j) i ≡ done i (j.words i) (reshared_of r n j i) (own_sum i)
  own_run One = ap (run (nodes One)) (into-is One (open_messages r n j)) ∙ run-all r n One _ _ _ (words Three) _ _ (size Three) (size Two)
  own_run Two = ap (run (nodes Two)) (into-is Two (open_messages r n j)) ∙ run-all r n Two _ _ _ (words One) _ _ (size One) (size Three)
  own_run Three = ap (run (nodes Three)) (into-is Three (open_messages r n j)) ∙ run-all r n Three _ _ _ (words Two) _ _ (size Two) (size One)

  -- once all masks came, all is sent
  second_round : (i : Number) → (run_of nodes (posted nodes nothing) i).acts ≡ sends_of i (j.words i) (reshared_of r n j i)
  second_round One = ap (λ m. (run (nodes One) m).acts) (into-is One (posted nodes nothing)) ∙ run-mask r n One _ _ _ (words Three)
  second_round Two = ap (λ m. (run (nodes Two) m).acts) (into-is Two (posted nodes nothing)) ∙ run-mask r n Two _ _ _ (words One)
  second_round Three = ap (λ m. (run (nodes Three) m).acts) (into-is Three (posted nodes nothing)) ∙ run-mask r n Three _ _ _ (words Two)

  sent_all : (opened : List ℕ) (l : Link)
      → on_link l (done (sender_of l) (j.words (sender_of l)) (reshared_of r n j (sender_of l)) opened).acts ≡ open_messages r n j l
  sent_all opened = elim [ Link12 ↦ refl | Link13 ↦ refl | Link21 ↦ refl | Link23 ↦ refl | Link31 ↦ refl | Link32 ↦ refl ]

  sent_second : (l : Link) → on_link l (sends_of (sender_of l) (j.words (sender_of l)) (reshared_of r n j (sender_of l))) ≡ open_messages r n j l
  sent_second = elim [ Link12 ↦ refl | Link13 ↦ refl | Link21 ↦ refl | Link23 ↦ refl | Link31 ↦ refl | Link32 ↦ refl ]

  all : (l : Link) → Begins (open_messages r n j l) (rounds nodes 2 nothing l)
  all l =
      subst (λ v. Begins (open_messages r n j l) v) (sym (ap (on_link l) (second_round (sender_of l)) ∙ sent_second l))
      (begins-self (open_messages r n j l))

  module _ (laws : RingLaws r) where
    same_sum : (i : Number) → own_sum i ≡ opened_words r n j
    same_sum = elim [ One ↦ swap_last laws n _ _ _ | Two ↦ swap_first laws n _ _ _ | Three ↦ swap_ends laws n _ _ _ ]

    -- each miner, with all messages: they open the same words
    pub open-run : (i : Number) → run_of nodes (open_messages r n j) i ≡ finished i (j.words i) (reshared_of r n j i) (reshared_of r n j i) (opened_words r n j)
    open-run i = own_run i ∙ ap (done i (j.words i) (reshared_of r n j i)) (same_sum i)

    pub open-finishes : Finishes nodes (open_messages r n j) (λ i. opened_words r n j ∷ [])
    open-finishes =
        record {
          sent = λ l. ap (λ v. on_link l v.acts) (open-run (sender_of l)) ∙ sent_all (opened_words r n j) l;
          ended = λ i. ap (λ v. v.left) (open-run i);
          read = λ i. ap (λ v. v.unread) (open-run i);
          count = 2;
          all = all;
        }
