-- The protocol converts, and each view can be made without the others' shares.
use Rattle.std.proofs.Common.{◌≡◌, ℕ, ◌*◌, true, List, [], ◌∷◌, ◌++◌, map, length, refl, sym, ◌∙◌, ap, subst, arith, length-append, append_assoc}
use Rattle.proto_core.specs.Rings.{add_ring}
use Rattle.proto_core.specs.RingsKeepLaws.{add_ring_laws}
use Rattle.proto_core.specs.declared.link.Link.{Link}
use Rattle.proto_core.specs.declared.link.Link.TheVariants.{Link12, Link13, Link21, Link23, Link31, Link32}
use Rattle.proto_core.specs.declared.party.Number.{Number}
use Rattle.proto_core.specs.declared.party.Number.TheVariants.{One, Two, Three}
use Rattle.proto_core.specs.Parties.{sender_of, receiver_of}
use Rattle.proto_core.specs.Lists.{at, part, AreWords}
use Rattle.proto_core.specs.Strand.{Words, Bits, accepts, Act, Sent, Mail, Ends, Ran, acted, run, on_link, opened_in, Begins, one_field}
use Rattle.proto_core.specs.Net.{posted, run_of, nothing, Finishes}
use Rattle.proto_core.specs.Script.{EndsWith, Moves, Matched, UsesOwnLinks, sends_on}
use Rattle.proto_core.specs.Protocol.{Joint, Fits, Lawful, with_words, strands_of, AreMessages, AreBlocks}
use Rattle.proto_core.specs.Elementwise.{plus, zeros}
use Rattle.proto_core.specs.Resharing.{reshared, sum_of_three}
use Rattle.proto_core.proofs.Each.{at-each, each-ext}
use Rattle.proto_core.proofs.Parts.{length-part, AreWords-part, AreWords-append, two_first, two_second, three_first, three_second, three_third}
use Rattle.proto_core.proofs.Parts.{four_first, four_second, four_third, four_fourth, parts_of_four}
use Rattle.proto_core.proofs.ElementwiseLaws.{length-plus, plus-minus}
use Rattle.proto_core.proofs.ResharingLaws.{length-reshared, AreWords-reshared, sum-reshared}
use Rattle.proto_core.proofs.MessageFields.{accepts-words, accepts-bits, accepts-one_words, accepts-one_bits}
use Rattle.proto_core.proofs.Beginnings.{begins-self}
use Rattle.proto_core.proofs.Nodes.{into-is, mail-none, run-previous, run-next, run-waits_previous, run-waits_next}
use Rattle.share_convert.specs.Bits.{bits, xor_bits, xor_bits_of_three, bits_less, one_less_where, negative_where}
use Rattle.share_convert.specs.BitLaws.{length-bits, length-xor_bits, length-xor_bits_of_three, length-bits_less, length-flipped, AreWords-bits_less}
use Rattle.share_convert.specs.BitLaws.{AreWords-flipped, AreAllBits-bits, AreAllBits-xor_bits, AreAllBits-xor_bits_of_three, all-bits}
use Rattle.share_convert.specs.BitLaws.{AreWords-all_bits, bits-flipped, bits-flipped_by_two, flipped-twice, bits_less-twice, xor_bits-bits}
use Rattle.share_convert.specs.BitLaws.{xor_bits-xor_bits, choice-is, summed}
use Rattle.share_convert.specs.ConvStrand.{Held, shape12, shape13, shape23, shape32, b_of, e_of, m_of, a_of, to_two, to_three, one_held}
use Rattle.share_convert.specs.ConvStrand.{one_ends, begun, two_held, two_ends, two_passes, three_held, three_ends, three_passes, conv_strand}
use Rattle.share_convert.specs.Converting.{conv_draws, conv_script, conv_messages, from_two, from_three, choice, unmasked, converted, four, two_map}
use Rattle.share_convert.specs.Converting.{three_map, three_back, conv_tape, conv_back, conv_received, conv_protocol, Converts}

conv_matched : (n : ℕ) → Matched (conv_script n)
conv_matched n = elim [ Link12 ↦ refl | Link13 ↦ refl | Link21 ↦ refl | Link23 ↦ refl | Link31 ↦ refl | Link32 ↦ refl ]

conv_own_links : (n : ℕ) (i : Number) → UsesOwnLinks i (conv_script n i)
conv_own_links n One = (refl, (refl, (refl, tt)))
conv_own_links n Two = (refl, (refl, (refl, tt)))
conv_own_links n Three = (refl, (refl, (refl, (refl, tt))))

-- ---- shapes

pub fits12 : (n : ℕ) (w : List ℕ) → accepts (shape12 n) (to_two n w) ≡ true
fits12 n w =
    ap (accepts (shape12 n)) (append_assoc (m_of n w) (bits n (e_of n w)) (a_of n w))
    ∙ accepts-words n (Bits ∷ Words ∷ []) (m_of n w) (bits n (e_of n w) ++ a_of n w) (length-part n 2 w)
    (accepts-bits n (Words ∷ []) (bits n (e_of n w)) (a_of n w) (length-bits n _) (all-bits _ (AreAllBits-bits n _))
    (accepts-one_words n (a_of n w) (length-part n 3 w)))

pub fits13 : (n : ℕ) (u w : List ℕ) → accepts (shape13 n) (to_three n u w) ≡ true
fits13 n u w =
    accepts-words n (Bits ∷ []) (bits_less n (b_of n w) u (m_of n w)) (xor_bits n (b_of n w) (e_of n w)) (length-bits_less n _ _ _)
    (accepts-one_bits n _ (length-xor_bits n _ _) (all-bits _ (AreAllBits-xor_bits n _ _)))

pub fits23 : (n : ℕ) (x y a : List ℕ) → length a ≡ n → accepts (shape23 n) (xor_bits n x y ++ a) ≡ true
fits23 n x y a e = accepts-bits n (Words ∷ []) (xor_bits n x y) a (length-xor_bits n x y) (all-bits _ (AreAllBits-xor_bits n x y)) (accepts-one_words n a e)

fits32 : (n : ℕ) (x y : List ℕ) → accepts (shape32 n) (xor_bits n x y) ≡ true
fits32 n x y = accepts-one_bits n _ (length-xor_bits n x y) (all-bits _ (AreAllBits-xor_bits n x y))

pub fits32_of_three : (n : ℕ) (x y z : List ℕ) → accepts (shape32 n) (xor_bits_of_three n x y z) ≡ true
fits32_of_three n x y z = accepts-one_bits n _ (length-xor_bits_of_three n x y z) (all-bits _ (AreAllBits-xor_bits_of_three n x y z))

moves :
    (n : ℕ) (i : Number) (u v words : List ℕ) → length u ≡ n → length v ≡ 0 → length words ≡ conv_draws n i →
    Moves (conv_strand n i u words) (conv_script n i)
moves n One u v words hu hv hw = (refl, fits12 n words, (refl, fits13 n u words, (refl, refl, λ got e. tt)))
moves n Two u v words hu hv hw = (refl, refl, λ got e. (refl, fits23 n (part n 1 got) u words hw, (refl, refl, λ back e2. tt)))
moves n Three u v words hu hv hw = (
  refl,
  accepts-one_words n words hw,
  (refl, refl, λ got e. (refl, fits32 n (part n 1 got) u, (refl, refl, λ theirs e2. tt))),
)

sizes : (n : ℕ) (i : Number) (u words : List ℕ) → EndsWith (λ blocks. map length blocks ≡ n ∷ []) (conv_strand n i u words)
sizes n One u words = λ got e. ap (λ k. k ∷ []) (length-reshared add_ring n _ _ _)
sizes n Two u words = λ got e back e2. ap (λ k. k ∷ []) (length-plus add_ring n _ _)
sizes n Three u words = λ got e theirs e2. ap (λ k. k ∷ []) (length-reshared add_ring n _ _ _)

-- ---- three miners together

module _ (n : ℕ) (j : Joint) where
  -- what miners 2 and 3 hold and send once the first message came
  abbrev pub held12 : Held
  held12 = two_held n (begun (j.u Two) (j.words Two)) (to_two n (j.words One))

  abbrev pub held13 : Held
  held13 = three_held n (begun (j.u Three) (j.words Three)) (to_three n (j.u One) (j.words One))

  e-sent : part n 1 (to_two n (j.words One)) ≡ bits n (e_of n (j.words One))
  e-sent = three_second n (m_of n (j.words One)) (bits n (e_of n (j.words One))) (a_of n (j.words One)) (length-part n 2 _) (length-bits n _)

  be-sent : part n 1 (to_three n (j.u One) (j.words One)) ≡ xor_bits n (b_of n (j.words One)) (e_of n (j.words One))
  be-sent = two_second n _ _ (length-bits_less n _ _ _) (length-xor_bits n _ _)

  bits-two : xor_bits n (part n 1 (to_two n (j.words One))) (j.u Two) ≡ xor_bits n (e_of n (j.words One)) (j.u Two)
  bits-two = ap (λ e. xor_bits n e (j.u Two)) e-sent ∙ xor_bits-bits n _ _

  pub bits-three : xor_bits n (part n 1 (to_three n (j.u One) (j.words One))) (j.u Three) ≡ from_three n j
  bits-three = ap (λ e. xor_bits n e (j.u Three)) be-sent ∙ xor_bits-xor_bits n _ _ _

  pub two-sent : xor_bits n (part n 1 (to_two n (j.words One))) (j.u Two) ++ j.words Two ≡ from_two n j
  two-sent = ap (λ x. x ++ j.words Two) bits-two

  pub ends-two : plus add_ring n (one_less_where n (xor_bits n held12.bits (from_three n j)) held12.word) held12.mask ≡ converted n j Two
  ends-two =
      plus-minus add_ring_laws n _ _ _
      ∙ ap (λ x. reshared add_ring n (one_less_where n (xor_bits n x (from_three n j)) held12.word) (j.words Two) (part n 2 (to_two n (j.words One)))) bits-two
      ∙ ap (λ s. reshared add_ring n (one_less_where n s held12.word) (j.words Two) (part n 2 (to_two n (j.words One)))) (choice-is n _ _ _ _)
      ∙ ap (λ m. reshared add_ring n (one_less_where n (choice n j) m) (j.words Two) (part n 2 (to_two n (j.words One))))
      (three_first n (m_of n (j.words One)) (bits n (e_of n (j.words One))) (a_of n (j.words One)) (length-part n 2 _))
      ∙ ap (λ a. reshared add_ring n (unmasked n j Two) (j.words Two) a)
      (three_third n (m_of n (j.words One)) (bits n (e_of n (j.words One))) (a_of n (j.words One)) (length-part n 2 _) (length-bits n _) (length-part n 3 _))

  pub ends-three :
      length (j.words Two) ≡ n →
      reshared add_ring n (negative_where n (xor_bits n (part n 0 (from_two n j)) held13.bits) held13.word) held13.mask (part n 1 (from_two n j))
      ≡ converted n j Three
  ends-three size =
      let first : part n 0 (from_two n j) ≡ xor_bits n (e_of n (j.words One)) (j.u Two) = two_first n _ (j.words Two) (length-xor_bits n _ _) in
      let second : part n 1 (from_two n j) ≡ j.words Two = two_second n _ (j.words Two) (length-xor_bits n _ _) size in
      let f : held13.word ≡ bits_less n (b_of n (j.words One)) (j.u One) (m_of n (j.words One)) = two_first n _ _ (length-bits_less n _ _ _) in
      ap (λ x. reshared add_ring n (negative_where n (xor_bits n x held13.bits) held13.word) (j.words Three) (part n 1 (from_two n j))) first
      ∙ ap (λ x. reshared add_ring n (negative_where n (xor_bits n (xor_bits n (e_of n (j.words One)) (j.u Two)) x) held13.word) (j.words Three)
      (part n 1 (from_two n j))) bits-three
      ∙ ap (λ s. reshared add_ring n (negative_where n s held13.word) (j.words Three) (part n 1 (from_two n j))) (choice-is n _ _ _ _)
      ∙ ap (λ x. reshared add_ring n (negative_where n (choice n j) x) (j.words Three) (part n 1 (from_two n j))) f
      ∙ ap (λ a. reshared add_ring n (unmasked n j Three) (j.words Three) a) second

module _ (n : ℕ) (j : Joint) (fits : Fits conv_protocol n j) where
  abbrev sends_of : Number → List Act
  sends_of One = Sent Link12 (to_two n (j.words One)) ∷ Sent Link13 (to_three n (j.u One) (j.words One)) ∷ []
  sends_of Two = Sent Link23 (from_two n j) ∷ []
  sends_of Three = Sent Link31 (j.words Three) ∷ Sent Link32 (from_three n j) ∷ []

  abbrev done_of : Number → Ran (List (List ℕ))
  done_of i = record { acts = sends_of i; left = Ends (converted n j i ∷ []); unread = nothing }

  whole : (i : Number) → run_of (strands_of conv_protocol n j) (conv_messages n j) i ≡ done_of i
  whole One =
      ap (run (conv_strand n One (j.u One) (j.words One))) (into-is One (conv_messages n j))
      ∙ ap (λ v. acted (Sent Link12 (to_two n (j.words One))) (acted (Sent Link13 (to_three n (j.u One) (j.words One))) v))
      (run-previous One (one_field n) (one_ends n (one_held n (j.words One))) (j.words Three) [] [] (accepts-one_words n _ (fits.words Three))
      ∙ ap (λ m. record { acts = []; left = Ends (converted n j One ∷ []); unread = m }) (mail-none One))
  whole Two =
      ap (run (conv_strand n Two (j.u Two) (j.words Two))) (into-is Two (conv_messages n j))
      ∙ run-previous Two (shape12 n) (two_passes n (begun (j.u Two) (j.words Two))) (to_two n (j.words One)) [] (from_three n j ∷ []) (fits12 n _)
      ∙ ap (acted (Sent Link23 (xor_bits n (part n 1 (to_two n (j.words One))) (j.u Two) ++ j.words Two)))
      (run-next Two (shape32 n) (two_ends n (held12 n j)) (from_three n j) [] [] (fits32_of_three n _ _ _)
      ∙ ap (λ m. record { acts = []; left = two_ends n (held12 n j) (from_three n j); unread = m }) (mail-none Two)
      ∙ ap (λ x. record { acts = []; left = Ends (x ∷ []); unread = nothing }) (ends-two n j))
      ∙ ap (λ x. record { acts = Sent Link23 x ∷ []; left = Ends (converted n j Two ∷ []); unread = nothing }) (two-sent n j)
  whole Three =
      ap (run (conv_strand n Three (j.u Three) (j.words Three))) (into-is Three (conv_messages n j))
      ∙ ap (acted (Sent Link31 (j.words Three)))
      (run-next Three (shape13 n) (three_passes n (begun (j.u Three) (j.words Three))) (to_three n (j.u One) (j.words One)) (from_two n j ∷ []) []
      (fits13 n _ _)
      ∙ ap (acted (Sent Link32 (xor_bits n (part n 1 (to_three n (j.u One) (j.words One))) (j.u Three))))
      (run-previous Three (shape23 n) (three_ends n (held13 n j)) (from_two n j) [] [] (fits23 n _ _ _ (fits.words Two))
      ∙ ap (λ m. record { acts = []; left = three_ends n (held13 n j) (from_two n j); unread = m }) (mail-none Three)
      ∙ ap (λ x. record { acts = []; left = Ends (x ∷ []); unread = nothing }) (ends-three n j (fits.words Two)))
      ∙ ap (λ x. record { acts = Sent Link32 x ∷ []; left = Ends (converted n j Three ∷ []); unread = nothing }) (bits-three n j))

  abbrev first_posted : Mail
  first_posted = posted (strands_of conv_protocol n j) nothing

  half : (i : Number) → (run_of (strands_of conv_protocol n j) first_posted i).acts ≡ sends_of i
  half One =
      ap (λ m. (run (conv_strand n One (j.u One) (j.words One)) m).acts) (into-is One first_posted)
      ∙ ap (λ v. Sent Link12 (to_two n (j.words One)) ∷ Sent Link13 (to_three n (j.u One) (j.words One)) ∷ v.acts)
      (run-previous One (one_field n) (one_ends n (one_held n (j.words One))) (j.words Three) [] [] (accepts-one_words n _ (fits.words Three)))
  half Two =
      ap (λ m. (run (conv_strand n Two (j.u Two) (j.words Two)) m).acts) (into-is Two first_posted)
      ∙ ap (λ v. v.acts)
      (run-previous Two (shape12 n) (two_passes n (begun (j.u Two) (j.words Two))) (to_two n (j.words One)) [] [] (fits12 n _))
      ∙ ap (λ v. Sent Link23 (xor_bits n (part n 1 (to_two n (j.words One))) (j.u Two) ++ j.words Two) ∷ v.acts)
      (run-waits_next Two (shape32 n) (two_ends n (held12 n j)) [])
      ∙ ap (λ x. Sent Link23 x ∷ []) (two-sent n j)
  half Three =
      ap (λ m. (run (conv_strand n Three (j.u Three) (j.words Three)) m).acts) (into-is Three first_posted)
      ∙ ap (λ v. Sent Link31 (j.words Three) ∷ v.acts)
      (run-next Three (shape13 n) (three_passes n (begun (j.u Three) (j.words Three))) (to_three n (j.u One) (j.words One)) [] [] (fits13 n _ _))
      ∙ ap (λ v. Sent Link31 (j.words Three) ∷ Sent Link32 (xor_bits n (part n 1 (to_three n (j.u One) (j.words One))) (j.u Three)) ∷ v.acts)
      (run-waits_previous Three (shape23 n) (three_ends n (held13 n j)) [])
      ∙ ap (λ x. Sent Link31 (j.words Three) ∷ Sent Link32 x ∷ []) (bits-three n j)

  sent_all : (l : Link) → on_link l (sends_of (sender_of l)) ≡ conv_messages n j l
  sent_all Link12 = refl
  sent_all Link13 = refl
  sent_all Link21 = refl
  sent_all Link23 = refl
  sent_all Link31 = refl
  sent_all Link32 = refl

  finishes : Finishes (strands_of conv_protocol n j) (conv_messages n j) (λ i. converted n j i ∷ [])
  finishes =
      record {
        sent = λ l. ap (λ v. on_link l v.acts) (whole (sender_of l)) ∙ sent_all l;
        ended = λ i. ap (λ v. v.left) (whole i);
        read = λ i. ap (λ v. v.unread) (whole i);
        count = 2;
        all = λ l. subst (λ v. Begins (conv_messages n j l) v) (sym (ap (on_link l) (half (sender_of l)) ∙ sent_all l)) (begins-self (conv_messages n j l));
      }

  opened : (i : Number) → opened_in (run_of (strands_of conv_protocol n j) (conv_messages n j) i).acts ≡ []
  opened One = ap (λ v. opened_in v.acts) (whole One)
  opened Two = ap (λ v. opened_in v.acts) (whole Two)
  opened Three = ap (λ v. opened_in v.acts) (whole Three)

  field_words : (k : ℕ) → AreWords (part n k (j.words One))
  field_words k = AreWords-part n k (j.words One) (fits.are_words One)

  messages : (l : Link) → AreMessages (sends_on l (conv_script n (sender_of l))) (conv_messages n j l)
  messages Link12 = (
    record {
      shape = fits12 n (j.words One);
      words = AreWords-append _ _ (AreWords-append _ _ (field_words 2) (AreWords-all_bits _ (AreAllBits-bits n _))) (field_words 3);
    },
    tt,
  )
  messages Link13 = (
    record {
      shape = fits13 n (j.u One) (j.words One);
      words = AreWords-append _ _ (AreWords-bits_less n _ _ _) (AreWords-all_bits _ (AreAllBits-xor_bits n _ _));
    },
    tt,
  )
  messages Link21 = tt
  messages Link23 = (
    record {
      shape = fits23 n _ _ _ (fits.words Two);
      words = AreWords-append _ _ (AreWords-all_bits _ (AreAllBits-xor_bits n _ _)) (fits.are_words Two);
    },
    tt,
  )
  messages Link31 = (record { shape = accepts-one_words n _ (fits.words Three); words = fits.are_words Three }, tt)
  messages Link32 = (record { shape = fits32_of_three n _ _ _; words = AreWords-all_bits _ (AreAllBits-xor_bits_of_three n _ _ _) }, tt)

  blocks : (i : Number) → AreBlocks (n ∷ []) (converted n j i ∷ [])
  blocks One = (record { len = length-reshared add_ring n _ _ _; words = AreWords-reshared add_ring_laws n _ _ _ }, tt)
  blocks Two = (record { len = length-reshared add_ring n _ _ _; words = AreWords-reshared add_ring_laws n _ _ _ }, tt)
  blocks Three = (record { len = length-reshared add_ring n _ _ _; words = AreWords-reshared add_ring_laws n _ _ _ }, tt)

-- ---- the value

summed-shares : (n : ℕ) (j : Joint)
    → sum_of_three add_ring n (unmasked n j One) (unmasked n j Two) (unmasked n j Three) ≡ xor_bits_of_three n (j.u One) (j.u Two) (j.u Three)
unfolding sum_of_three zeros one_less_where negative_where bits_less xor_bits_of_three
summed-shares n j =
    each-ext n _ _
    (λ k h.
    simp (at-each, h)
    (summed (at (b_of n (j.words One)) k) (at (j.u One) k) (at (j.u Two) k) (at (j.u Three) k) (at (m_of n (j.words One)) k)))

pub converts : (n : ℕ) (j : Joint) → Converts n j
converts n j = sum-reshared add_ring_laws n _ _ _ _ _ _ ∙ summed-shares n j

-- ---- views

length-four : (n : ℕ) (b e m a : List ℕ) → length b ≡ n → length e ≡ n → length m ≡ n → length a ≡ n → length (four b e m a) ≡ 4 * n
length-four n b e m a hb he hm ha = simp (length-append, hb, he, hm, ha) (omega arith)

AreWords-four : (b e m a : List ℕ) → AreWords b → AreWords e → AreWords m → AreWords a → AreWords (four b e m a)
AreWords-four b e m a hb he hm ha = AreWords-append b _ hb (AreWords-append e _ he (AreWords-append m a hm ha))

two-twice : (n : ℕ) (u3 w : List ℕ) → length w ≡ 4 * n → two_map n u3 (two_map n u3 w) ≡ w
two-twice n u3 w len = simp (four_first, four_second, four_third, four_fourth, length-flipped, length-part, flipped-twice) (parts_of_four n w len)

three-back : (n : ℕ) (u1 u2 w : List ℕ) → length w ≡ 4 * n → AreWords w → three_back n u1 u2 (three_map n u1 u2 w) ≡ w
three-back n u1 u2 w len words =
    simp (four_first, four_second, four_third, four_fourth, length-flipped, length-bits_less, length-part, flipped-twice, bits_less-twice, AreWords-part, words)
    (parts_of_four n w len)

back-three : (n : ℕ) (u1 u2 w : List ℕ) → length w ≡ 4 * n → AreWords w → three_map n u1 u2 (three_back n u1 u2 w) ≡ w
back-three n u1 u2 w len words =
    simp (four_first, four_second, four_third, four_fourth, length-flipped, length-bits_less, length-part, flipped-twice, bits_less-twice, AreWords-part, words)
    (parts_of_four n w len)

fits_with :
    (n : ℕ) (j : Joint) (w : Number → List ℕ) → Fits conv_protocol n j → length (w One) ≡ 4 * n → AreWords (w One) →
    w Two ≡ j.words Two → w Three ≡ j.words Three → Fits conv_protocol n (with_words j w)
fits_with n j w fits len words two three =
    record {
      u = fits.u;
      v = fits.v;
      words = elim [ One ↦ len | Two ↦ ap length two ∙ fits.words Two | Three ↦ ap length three ∙ fits.words Three ];
      are_words = elim [ One ↦ words | Two ↦ rw two (fits.are_words Two) | Three ↦ rw three (fits.are_words Three) ];
    }

module _ (n : ℕ) (j : Joint) (fits : Fits conv_protocol n j) where
  one_words : (k : ℕ) → AreWords (part n k (j.words One))
  one_words k = AreWords-part n k (j.words One) (fits.are_words One)

  tape-kept : (i : Number) → Fits conv_protocol n (with_words j (conv_tape n i j))
  tape-kept One = fits_with n j (conv_tape n One j) fits (fits.words One) (fits.are_words One) refl refl
  tape-kept Two =
      fits_with n j (conv_tape n Two j) fits
      (length-four n _ _ _ _ (length-flipped n _ _) (length-part n 1 _) (length-part n 2 _) (length-part n 3 _))
      (AreWords-four _ _ _ _ (AreWords-flipped n _ _ (one_words 0)) (one_words 1) (one_words 2) (one_words 3)) refl refl
  tape-kept Three =
      fits_with n j (conv_tape n Three j) fits
      (length-four n _ _ _ _ (length-flipped n _ _) (length-flipped n _ _) (length-bits_less n _ _ _) (length-part n 3 _))
      (AreWords-four _ _ _ _ (AreWords-flipped n _ _ (one_words 0)) (AreWords-flipped n _ _ (one_words 1)) (AreWords-bits_less n _ _ _) (one_words 3)) refl refl

  back-kept : (i : Number) → Fits conv_protocol n (with_words j (conv_back n i j))
  back-kept One = fits_with n j (conv_back n One j) fits (fits.words One) (fits.are_words One) refl refl
  back-kept Two = tape-kept Two
  back-kept Three =
      fits_with n j (conv_back n Three j) fits
      (length-four n _ _ _ _ (length-flipped n _ _) (length-flipped n _ _) (length-bits_less n _ _ _) (length-part n 3 _))
      (AreWords-four _ _ _ _ (AreWords-flipped n _ _ (one_words 0)) (AreWords-flipped n _ _ (one_words 1)) (AreWords-bits_less n _ _ _) (one_words 3)) refl refl

  back-tape : (i : Number) (m : Number) → conv_back n i (with_words j (conv_tape n i j)) m ≡ j.words m
  back-tape One m = refl
  back-tape Two One = two-twice n (j.u Three) (j.words One) (fits.words One)
  back-tape Two Two = refl
  back-tape Two Three = refl
  back-tape Three One = three-back n (j.u One) (j.u Two) (j.words One) (fits.words One) (fits.are_words One)
  back-tape Three Two = refl
  back-tape Three Three = refl

  tape-back : (i : Number) (m : Number) → conv_tape n i (with_words j (conv_back n i j)) m ≡ j.words m
  tape-back One m = refl
  tape-back Two One = two-twice n (j.u Three) (j.words One) (fits.words One)
  tape-back Two Two = refl
  tape-back Two Three = refl
  tape-back Three One = back-three n (j.u One) (j.u Two) (j.words One) (fits.words One) (fits.are_words One)
  tape-back Three Two = refl
  tape-back Three Three = refl

tape-own : (n : ℕ) (i : Number) (j : Joint) → conv_tape n i j i ≡ j.words i
tape-own n One j = refl
tape-own n Two j = refl
tape-own n Three j = refl

seen-on : (n : ℕ) (j : Joint) (l : Link) → conv_messages n j l ≡ conv_received n (conv_tape n (receiver_of l) j) l
seen-on n j Link12 = simp (four_second, four_third, four_fourth, length-flipped, length-part)
seen-on n j Link13 = simp (four_first, four_third, length-flipped, length-bits_less, bits-flipped)
seen-on n j Link21 = refl
seen-on n j Link23 = simp (four_second, length-flipped, bits-flipped)
seen-on n j Link31 = refl
seen-on n j Link32 = simp (four_first, length-flipped, bits-flipped_by_two)

pub conv_lawful : Lawful conv_protocol Converts
conv_lawful =
    record {
      sound = record {
        matched = conv_matched;
        own_links = conv_own_links;
        moves = moves;
        sizes = λ n i u v words hu hv hw. sizes n i u words;
        finishes = finishes;
        messages = messages;
        blocks = blocks;
        opened = opened;
        opens = λ n j fits. refl;
      };
      private = record {
        own = λ n i j fits. tape-own n i j;
        kept = λ n i j fits. tape-kept n j fits i;
        back_kept = λ n i j fits. back-kept n j fits i;
        back_tape = λ n i j fits. back-tape n j fits i;
        tape_back = λ n i j fits. tape-back n j fits i;
        seen = λ n i j fits l h. subst (λ k. conv_messages n j l ≡ conv_received n (conv_tape n k j) l) h (seen-on n j l);
      };
      clear = λ n j fits. converts n j;
    }
