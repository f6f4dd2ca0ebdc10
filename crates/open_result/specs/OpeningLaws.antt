-- The protocol is right, and each view can be made from the opened words.
use Rattle.std.proofs.Common.{◌≡◌, ℕ, true, false, cond, List, [], ◌∷◌, map, length, refl, sym, ◌∙◌, ap, subst}
use Rattle.proto_core.specs.Ring.{Ring, RingLaws}
use Rattle.proto_core.specs.declared.party.Number.{Number}
use Rattle.proto_core.specs.declared.party.Number.TheVariants.{One, Two, Three}
use Rattle.proto_core.specs.declared.link.Link.{Link}
use Rattle.proto_core.specs.declared.link.Link.TheVariants.{Link12, Link13, Link21, Link23, Link31, Link32}
use Rattle.proto_core.specs.Parties.{next_of, previous_of, is_same, sender_of, receiver_of}
use Rattle.proto_core.specs.Lists.{AreWords}
use Rattle.proto_core.specs.Script.{EndsWith, Matched, Moves, UsesOwnLinks, sends_on}
use Rattle.proto_core.specs.Strand.{opened_in, one_field}
use Rattle.proto_core.specs.Net.{opened_by}
use Rattle.proto_core.specs.Protocol.{Joint, Fits, with_words, strands_of, AreMessages, IsMessage, AreBlocks, Sound, Private, Lawful}
use Rattle.proto_core.specs.Resharing.{reshared, reshared_of, sum_of_three}
use Rattle.proto_core.proofs.Beginnings.{append-none}
use Rattle.proto_core.proofs.MessageFields.{accepts-one_words}
use Rattle.proto_core.proofs.ResharingLaws.{length-sum_of_three, AreWords-sum_of_three, length-reshared, AreWords-reshared, reshared-twice, left_over}
use Rattle.proto_core.proofs.ResharingLaws.{swap_last, swap_first, swap_ends, sum-reshared}
use Rattle.open_result.specs.Opening.{open_protocol, open_script, open_strand, open_messages, open_tape, open_received, left_of_opened, opened_words, Opens}
use Rattle.open_result.specs.OpeningRuns.{open-run, open-finishes}

matched : (n : ℕ) → Matched (open_script n)
matched n = elim [ Link12 ↦ refl | Link13 ↦ refl | Link21 ↦ refl | Link23 ↦ refl | Link31 ↦ refl | Link32 ↦ refl ]

own_links : (n : ℕ) (i : Number) → UsesOwnLinks i (open_script n i)
own_links n =
    elim [
      | One ↦ (refl, (refl, (refl, (refl, (refl, (refl, tt))))))
      | Two ↦ (refl, (refl, (refl, (refl, (refl, (refl, tt))))))
      | Three ↦ (refl, (refl, (refl, (refl, (refl, (refl, tt))))))
    ]

moves :
    (r : Ring) (n : ℕ) (i : Number) (u words : List ℕ) → length words ≡ n → Moves (open_strand r n i u words) (open_script n i)
moves r n i u words len = (
  refl,
  accepts-one_words n words len,
  (
    refl,
    refl,
    λ m h.
        let fits = accepts-one_words n (reshared r n u words m) (length-reshared r n u words m) in
        (refl, fits, (refl, fits, (refl, refl, λ m2 h2. (refl, refl, λ m3 h3. tt)))),
  ),
)

sizes :
    (r : Ring) (n : ℕ) (i : Number) (u words : List ℕ) →
    EndsWith (λ blocks. map length blocks ≡ n ∷ []) (open_strand r n i u words)
sizes r n i u words = λ m h m2 h2 m3 h3. ap (λ k. k ∷ []) (length-sum_of_three r n _ _ _)

module _ {r : Ring} (laws : RingLaws r) where
  messages :
      (n : ℕ) (j : Joint) → Fits (open_protocol r) n j → (l : Link) →
      AreMessages (sends_on l (open_script n (sender_of l))) (open_messages r n j l)
  messages n j fits =
      elim [
        | Link12 ↦ (mask One, (share One, tt))
        | Link13 ↦ (share One, tt)
        | Link21 ↦ (share Two, tt)
        | Link23 ↦ (mask Two, (share Two, tt))
        | Link31 ↦ (mask Three, (share Three, tt))
        | Link32 ↦ (share Three, tt)
      ]
    where
      mask : (i : Number) → IsMessage (one_field n) (j.words i)
      mask i = record { shape = accepts-one_words n (j.words i) (fits.words i); words = fits.are_words i }

      share : (i : Number) → IsMessage (one_field n) (reshared_of r n j i)
      share i =
          record {
            shape = accepts-one_words n (reshared_of r n j i) (length-reshared r n _ _ _);
            words = AreWords-reshared laws n _ _ _;
          }

  blocks : (n : ℕ) (j : Joint) → AreBlocks (n ∷ []) (opened_words r n j ∷ [])
  blocks n j = (record { len = length-sum_of_three r n _ _ _; words = AreWords-sum_of_three laws n _ _ _ }, tt)

  opened :
      (n : ℕ) (j : Joint) → Fits (open_protocol r) n j → (i : Number) →
      opened_by (strands_of (open_protocol r) n j) (open_messages r n j) i ≡ opened_words r n j
  opened n j fits i = ap (λ v. opened_in v.acts) (open-run r n j fits.words laws i) ∙ append-none (opened_words r n j)

  pub open-sound : Sound (open_protocol r)
  open-sound =
      record {
        matched = matched;
        own_links = own_links;
        moves = λ n i u v words hu hv hw. moves r n i u words hw;
        sizes = λ n i u v words hu hv hw. sizes r n i u words;
        finishes = λ n j fits. open-finishes r n j fits.words laws;
        messages = messages;
        blocks = λ n j fits i. blocks n j;
        opened = opened;
        opens = λ n j fits. length-sum_of_three r n _ _ _;
      }

  tape-own : (n : ℕ) (i : Number) (j : Joint) → open_tape r n i j i ≡ j.words i
  tape-own n One j = refl
  tape-own n Two j = refl
  tape-own n Three j = refl

  -- a test of the mapped words holds where it holds of the drawn words and of reshared ones
  tape-has :
      (P : List ℕ → Type 0) (n : ℕ) (i : Number) (j : Joint) (m : Number) →
      P (j.words m) → P (reshared r n (j.u (previous_of i)) (j.words (previous_of i)) (j.words m)) → P (open_tape r n i j m)
  tape-has P n i j m one other =
      elim (is_same m (next_of i)) as (λ b. P (cond b (reshared r n (j.u (previous_of i)) (j.words (previous_of i)) (j.words m)) (j.words m)))
      [ true ↦ other | false ↦ one ]

  tape-kept : (n : ℕ) (i : Number) (j : Joint) → Fits (open_protocol r) n j → Fits (open_protocol r) n (with_words j (open_tape r n i j))
  tape-kept n i j fits =
      record {
        u = fits.u;
        v = fits.v;
        words = λ m. tape-has (λ l. length l ≡ n) n i j m (fits.words m) (length-reshared r n _ _ _);
        are_words = λ m. tape-has AreWords n i j m (fits.are_words m) (AreWords-reshared laws n _ _ _);
      }

  tape-tape : (n : ℕ) (i : Number) (j : Joint) → Fits (open_protocol r) n j → (m : Number) → open_tape r n i (with_words j (open_tape r n i j)) m ≡ j.words m
  tape-tape n One j fits One = refl
  tape-tape n One j fits Two = reshared-twice laws n (j.u Three) (j.words Three) (j.words Two) (fits.words Two) (fits.are_words Two)
  tape-tape n One j fits Three = refl
  tape-tape n Two j fits One = refl
  tape-tape n Two j fits Two = refl
  tape-tape n Two j fits Three = reshared-twice laws n (j.u One) (j.words One) (j.words Three) (fits.words Three) (fits.are_words Three)
  tape-tape n Three j fits One = reshared-twice laws n (j.u Two) (j.words Two) (j.words One) (fits.words One) (fits.are_words One)
  tape-tape n Three j fits Two = refl
  tape-tape n Three j fits Three = refl

  open-seen :
      (n : ℕ) (j : Joint) (i : Number) (l : Link) → receiver_of l ≡ i →
      open_messages r n j l ≡ open_received r n i (j.u i) (open_tape r n i j) (opened_words r n j) l
  open-seen n j i l h = subst (λ k. open_messages r n j l ≡ open_received r n k (j.u k) (open_tape r n k j) (opened_words r n j) l) h (at_link l)
    where
      left : (x y z : List ℕ) → length z ≡ n → AreWords z → opened_words r n j ≡ sum_of_three r n x y z
          → z ∷ [] ≡ left_of_opened r n (opened_words r n j) x y ∷ []
      left x y z e words is = ap (λ l. l ∷ []) (sym (left_over laws n x y z (opened_words r n j) e words is))

      at_link : (l : Link) → open_messages r n j l
          ≡ open_received r n (receiver_of l) (j.u (receiver_of l)) (open_tape r n (receiver_of l) j) (opened_words r n j) l
      at_link =
          elim [
            | Link12 ↦ refl
            | Link23 ↦ refl
            | Link31 ↦ refl
            | Link21 ↦ left (reshared_of r n j One) (reshared_of r n j Three) (reshared_of r n j Two) (length-reshared r n _ _ _)
                (AreWords-reshared laws n _ _ _) (swap_last laws n _ _ _)
            | Link32 ↦ left (reshared_of r n j Two) (reshared_of r n j One) (reshared_of r n j Three) (length-reshared r n _ _ _)
                (AreWords-reshared laws n _ _ _) (swap_first laws n _ _ _)
            | Link13 ↦ left (reshared_of r n j Three) (reshared_of r n j Two) (reshared_of r n j One) (length-reshared r n _ _ _)
                (AreWords-reshared laws n _ _ _) (swap_ends laws n _ _ _)
          ]

  pub open-private : Private (open_protocol r)
  open-private =
      record {
        own = λ n i j fits. tape-own n i j;
        kept = tape-kept;
        back_kept = tape-kept;
        back_tape = tape-tape;
        tape_back = tape-tape;
        seen = λ n i j fits l h. open-seen n j i l h;
      }

  pub opens : (n : ℕ) (j : Joint) → Opens r n j
  opens n j = sum-reshared laws n (j.u One) (j.u Two) (j.u Three) (j.words One) (j.words Two) (j.words Three)

  pub open-lawful : Lawful (open_protocol r) (Opens r)
  open-lawful = record { sound = open-sound; private = open-private; clear = λ n j fits. opens n j }
