-- The protocol multiplies, and each view can be made without the others' shares.
use Rattle.std.proofs.Common.{◌≡◌, ℕ, ◌*◌, true, false, cond, List, [], ◌∷◌, ◌++◌, length, refl, sym, ◌∙◌, ap, subst, arith, map, length-append, append_assoc}
use Rattle.proto_core.specs.Ring.{Ring, RingLaws}
use Rattle.proto_core.specs.declared.link.Link.{Link}
use Rattle.proto_core.specs.declared.link.Link.TheVariants.{Link12, Link13, Link21, Link23, Link31, Link32}
use Rattle.proto_core.specs.declared.party.Number.{Number}
use Rattle.proto_core.specs.declared.party.Number.TheVariants.{One, Two, Three}
use Rattle.proto_core.specs.Parties.{next_of, previous_of, to_next, sender_of, receiver_of, is_same}
use Rattle.proto_core.specs.Lists.{part, AreWords}
use Rattle.proto_core.specs.Strand.{Words, accepts, Act, Sent, Mail, Ends, Ran, acted, run, on_link, opened_in, Begins}
use Rattle.proto_core.specs.Net.{mail_of, posted, run_of, nothing, Finishes}
use Rattle.proto_core.specs.Script.{EndsWith, Moves, Matched, UsesOwnLinks, sends_on}
use Rattle.proto_core.specs.Protocol.{Joint, Fits, Lawful, with_words, strands_of, IsMessage, AreMessages, AreBlocks}
use Rattle.proto_core.specs.Resharing.{reshared}
use Rattle.proto_core.proofs.Parts.{length-part, AreWords-part, AreWords-append, three_first, three_second, three_third, two_first, two_second, parts_of_three}
use Rattle.proto_core.proofs.ResharingLaws.{length-reshared, AreWords-reshared, reshared-twice, sum-reshared}
use Rattle.proto_core.proofs.ElementwiseLaws.{length-minus, minus-plus, length-plus}
use Rattle.proto_core.proofs.MessageFields.{accepts-words, accepts-one_words}
use Rattle.proto_core.proofs.Beginnings.{begins-self}
use Rattle.proto_core.proofs.Nodes.{into-is, mail-none, run-previous, run-waits_previous}
use Rattle.multiply.specs.ProductLaws.{products-sum, product-is}
use Rattle.multiply.specs.MulStrand.{Held, masked, crossed, product, masks_shape, factors_shape, mul_strand, mul_passes, mul_ends}
use Rattle.multiply.specs.Multiplying.{factors_of, product_of, mul_messages, mul_script, mul_tape, mul_received, mul_protocol, Multiplies}

mul_matched : (n : ℕ) → Matched (mul_script n)
mul_matched n = elim [ Link12 ↦ refl | Link13 ↦ refl | Link21 ↦ refl | Link23 ↦ refl | Link31 ↦ refl | Link32 ↦ refl ]

mul_own_links : (n : ℕ) (i : Number) → UsesOwnLinks i (mul_script n i)
mul_own_links n One = (refl, (refl, (refl, (refl, tt))))
mul_own_links n Two = (refl, (refl, (refl, (refl, tt))))
mul_own_links n Three = (refl, (refl, (refl, (refl, tt))))

-- ---- shapes

pub masks_fit : (n : ℕ) (w : List ℕ) → length w ≡ 3 * n → accepts (masks_shape n) w ≡ true
masks_fit n w e =
    ap (accepts (masks_shape n)) (sym (parts_of_three n w e))
    ∙ accepts-words n (Words ∷ Words ∷ []) (part n 0 w) (part n 1 w ++ part n 2 w) (length-part n 0 w)
    (accepts-words n (Words ∷ []) (part n 1 w) (part n 2 w) (length-part n 1 w) (accepts-one_words n (part n 2 w) (length-part n 2 w)))

pub factors_fit : (n : ℕ) (x y : List ℕ) → length x ≡ n → length y ≡ n → accepts (factors_shape n) (x ++ y) ≡ true
factors_fit n x y hx hy = accepts-words n (Words ∷ []) x y hx (accepts-one_words n y hy)

module _ (r : Ring) where
  moves :
      (n : ℕ) (i : Number) (u v words : List ℕ) → length u ≡ n → length v ≡ n → length words ≡ 3 * n →
      Moves (mul_strand r n i u v words) (mul_script n i)
  moves n i u v words hu hv hw = (
    refl,
    masks_fit n words hw,
    (
      refl,
      refl,
      λ got e.
          (refl, factors_fit n _ _ (length-minus r n _ _) (length-minus r n _ _), (refl, refl, λ theirs e2. tt)),
    ),
  )

  sizes :
      (n : ℕ) (i : Number) (u v words : List ℕ) → length u ≡ n → length v ≡ n → length words ≡ 3 * n →
      EndsWith (λ blocks. map length blocks ≡ n ∷ []) (mul_strand r n i u v words)
  sizes n i u v words hu hv hw =
      λ got e theirs e2. ap (λ k. k ∷ []) (length-plus r n _ _)

  -- ---- one miner's run, with the previous miner's words w and factors x

  half-run :
      (n : ℕ) (i : Number) (u v words w : List ℕ) → length w ≡ 3 * n →
      let held = crossed r n (masked r n u v words) w in
      (run (mul_strand r n i u v words) (mail_of i (w ∷ []) [])).acts
      ≡ Sent (to_next i) words ∷ Sent (to_next i) (held.u ++ held.v) ∷ []
  half-run n i u v words w hw =
      let first = masked r n u v words in
      let held = crossed r n first w in
      ap (λ v. Sent (to_next i) words ∷ v.acts)
      (run-previous i (masks_shape n) (λ got. mul_passes r n i (crossed r n first got)) w [] [] (masks_fit n w hw)
      ∙ ap (acted (Sent (to_next i) (held.u ++ held.v))) (run-waits_previous i (factors_shape n) (mul_ends r n held) []))

  whole-run :
      (n : ℕ) (i : Number) (u v words w x : List ℕ) → length w ≡ 3 * n → accepts (factors_shape n) x ≡ true →
      let held = crossed r n (masked r n u v words) w in
      run (mul_strand r n i u v words) (mail_of i (w ∷ x ∷ []) [])
      ≡ record {
        acts = Sent (to_next i) words ∷ Sent (to_next i) (held.u ++ held.v) ∷ [];
        left = Ends (product r n held x ∷ []);
        unread = nothing;
      }
  whole-run n i u v words w x hw hx =
      let first = masked r n u v words in
      let held = crossed r n first w in
      ap (acted (Sent (to_next i) words))
      (run-previous i (masks_shape n) (λ got. mul_passes r n i (crossed r n first got)) w (x ∷ []) [] (masks_fit n w hw)
      ∙ ap (acted (Sent (to_next i) (held.u ++ held.v)))
      (run-previous i (factors_shape n) (mul_ends r n held) x [] [] hx
      ∙ ap (λ m. record { acts = []; left = Ends (product r n held x ∷ []); unread = m }) (mail-none i)))

  -- ---- lengths

  length-factors : (n : ℕ) (j : Joint) (i : Number) → accepts (factors_shape n) (factors_of r n j i) ≡ true
  length-factors n j i = factors_fit n _ _ (length-reshared r n _ _ _) (length-reshared r n _ _ _)

module _ {r : Ring} (laws : RingLaws r) where
  pub multiplies : (n : ℕ) (j : Joint) → Multiplies r n j
  multiplies n j = simp (two_first, two_second, length-reshared, products-sum laws, sum-reshared laws)

  -- ---- three miners together

  -- what a miner holds once its factors are masked
  abbrev pub held_of : ℕ → Joint → Number → Held
  held_of n j i = crossed r n (masked r n (j.u i) (j.v i) (j.words i)) (j.words (previous_of i))

  pub factors-held : (n : ℕ) (j : Joint) (i : Number) → (held_of n j i).u ++ (held_of n j i).v ≡ factors_of r n j i
  factors-held n j i =
      ap (λ x. x ++ (held_of n j i).v) (minus-plus r n _ _ _)
      ∙ ap (λ x. reshared r n (j.u i) (part n 0 (j.words i)) (part n 0 (j.words (previous_of i))) ++ x) (minus-plus r n _ _ _)

  pub product-held : (n : ℕ) (j : Joint) (i : Number) → product r n (held_of n j i) (factors_of r n j (previous_of i)) ≡ product_of r n j i
  product-held n j i = product-is laws n (j.u i) (j.v i) _ _ _ _ _ _ _

  module _ (n : ℕ) (j : Joint) (fits : Fits (mul_protocol r) n j) where
    abbrev sends_of : Number → List Act
    sends_of i = Sent (to_next i) (j.words i) ∷ Sent (to_next i) (factors_of r n j i) ∷ []

    abbrev done_of : Number → Ran (List (List ℕ))
    done_of i = record { acts = sends_of i; left = Ends (product_of r n j i ∷ []); unread = nothing }

    whole-at :
        (i : Number) →
        run (strands_of (mul_protocol r) n j i) (mail_of i (j.words (previous_of i) ∷ factors_of r n j (previous_of i) ∷ []) []) ≡ done_of i
    whole-at i =
        whole-run r n i (j.u i) (j.v i) (j.words i) (j.words (previous_of i)) (factors_of r n j (previous_of i)) (fits.words (previous_of i))
        (length-factors r n j (previous_of i))
        ∙ ap (λ x. record {
          acts = Sent (to_next i) (j.words i) ∷ Sent (to_next i) x ∷ [];
          left =
              Ends (product r n (held_of n j i) (factors_of r n j (previous_of i)) ∷ []);
          unread = nothing;
        }) (factors-held n j i)
        ∙ ap (λ x. record { acts = sends_of i; left = Ends (x ∷ []); unread = nothing }) (product-held n j i)

    half-at : (i : Number) → (run (strands_of (mul_protocol r) n j i) (mail_of i (j.words (previous_of i) ∷ []) [])).acts ≡ sends_of i
    half-at i =
        half-run r n i (j.u i) (j.v i) (j.words i) (j.words (previous_of i)) (fits.words (previous_of i))
        ∙ ap (λ x. Sent (to_next i) (j.words i) ∷ Sent (to_next i) x ∷ []) (factors-held n j i)

    whole : (i : Number) → run_of (strands_of (mul_protocol r) n j) (mul_messages r n j) i ≡ done_of i
    whole One = ap (run (strands_of (mul_protocol r) n j One)) (into-is One (mul_messages r n j)) ∙ whole-at One
    whole Two = ap (run (strands_of (mul_protocol r) n j Two)) (into-is Two (mul_messages r n j)) ∙ whole-at Two
    whole Three = ap (run (strands_of (mul_protocol r) n j Three)) (into-is Three (mul_messages r n j)) ∙ whole-at Three

    abbrev first_posted : Mail
    first_posted = posted (strands_of (mul_protocol r) n j) nothing

    half : (i : Number) → (run_of (strands_of (mul_protocol r) n j) first_posted i).acts ≡ sends_of i
    half One = ap (λ m. (run (strands_of (mul_protocol r) n j One) m).acts) (into-is One first_posted) ∙ half-at One
    half Two = ap (λ m. (run (strands_of (mul_protocol r) n j Two) m).acts) (into-is Two first_posted) ∙ half-at Two
    half Three = ap (λ m. (run (strands_of (mul_protocol r) n j Three) m).acts) (into-is Three first_posted) ∙ half-at Three

    sent_all : (l : Link) → on_link l (sends_of (sender_of l)) ≡ mul_messages r n j l
    sent_all Link12 = refl
    sent_all Link13 = refl
    sent_all Link21 = refl
    sent_all Link23 = refl
    sent_all Link31 = refl
    sent_all Link32 = refl

    finishes : Finishes (strands_of (mul_protocol r) n j) (mul_messages r n j) (λ i. product_of r n j i ∷ [])
    finishes =
        record {
          sent = λ l. ap (λ v. on_link l v.acts) (whole (sender_of l)) ∙ sent_all l;
          ended = λ i. ap (λ v. v.left) (whole i);
          read = λ i. ap (λ v. v.unread) (whole i);
          count = 2;
          all = λ l. subst (λ v. Begins (mul_messages r n j l) v) (sym (ap (on_link l) (half (sender_of l)) ∙ sent_all l)) (begins-self (mul_messages r n j l));
        }

    masks : (i : Number) → IsMessage (masks_shape n) (j.words i)
    masks i = record { shape = masks_fit n (j.words i) (fits.words i); words = fits.are_words i }

    factors : (i : Number) → IsMessage (factors_shape n) (factors_of r n j i)
    factors i =
        record {
          shape = length-factors r n j i;
          words = AreWords-append _ _ (AreWords-reshared laws n _ _ _) (AreWords-reshared laws n _ _ _);
        }

    messages : (l : Link) → AreMessages (sends_on l (mul_script n (sender_of l))) (mul_messages r n j l)
    messages Link12 = (masks One, (factors One, tt))
    messages Link13 = tt
    messages Link21 = tt
    messages Link23 = (masks Two, (factors Two, tt))
    messages Link31 = (masks Three, (factors Three, tt))
    messages Link32 = tt

    blocks : (i : Number) → AreBlocks (n ∷ []) (product_of r n j i ∷ [])
    blocks i = (record { len = length-reshared r n _ _ _; words = AreWords-reshared laws n _ _ _ }, tt)

  -- ---- views

  factors-twice :
      (n : ℕ) (u v words got : List ℕ) → length got ≡ 3 * n → AreWords got →
      let mapped = (reshared r n u (part n 0 words) (part n 0 got) ++ reshared r n v (part n 1 words) (part n 1 got)) ++ part n 2 got in
      (reshared r n u (part n 0 words) (part n 0 mapped) ++ reshared r n v (part n 1 words) (part n 1 mapped)) ++ part n 2 mapped ≡ got
  factors-twice n u v words got e are_words =
      simp (three_first, three_second, three_third, length-reshared, length-part, reshared-twice laws, AreWords-part, are_words)
      (append_assoc (part n 0 got) (part n 1 got) (part n 2 got) ∙ parts_of_three n got e)

  tape-own : (n : ℕ) (i : Number) (j : Joint) → mul_tape r n i j i ≡ j.words i
  tape-own n One j = refl
  tape-own n Two j = refl
  tape-own n Three j = refl

  -- the words of m with the factors of p in the place of a and b
  mapped : ℕ → Joint → Number → Number → List ℕ
  mapped n j p m =
      (reshared r n (j.u p) (part n 0 (j.words p)) (part n 0 (j.words m)) ++ reshared r n (j.v p) (part n 1 (j.words p)) (part n 1 (j.words m)))
      ++ part n 2 (j.words m)

  length-mapped : (n : ℕ) (j : Joint) (p m : Number) → length (mapped n j p m) ≡ 3 * n
  unfolding mapped
  length-mapped n j p m = simp (length-append, length-reshared, length-part) (omega arith)

  AreWords-mapped : (n : ℕ) (j : Joint) (p m : Number) → AreWords (j.words m) → AreWords (mapped n j p m)
  unfolding mapped
  AreWords-mapped n j p m words =
      AreWords-append _ _ (AreWords-append _ _ (AreWords-reshared laws n _ _ _) (AreWords-reshared laws n _ _ _)) (AreWords-part n 2 (j.words m) words)

  tape-has : (P : List ℕ → Type 0) (n : ℕ) (i : Number) (j : Joint) (m : Number) → P (j.words m) → P (mapped n j (previous_of i) m) → P (mul_tape r n i j m)
  unfolding mapped
  tape-has P n i j m one other =
      elim (is_same m (next_of i)) as (λ b. P (cond b (mapped n j (previous_of i) m) (j.words m))) [ true ↦ other | false ↦ one ]

  tape-kept : (n : ℕ) (i : Number) (j : Joint) → Fits (mul_protocol r) n j → Fits (mul_protocol r) n (with_words j (mul_tape r n i j))
  tape-kept n i j fits =
      record {
        u = fits.u;
        v = fits.v;
        words = λ m. tape-has (λ l. length l ≡ 3 * n) n i j m (fits.words m) (length-mapped n j (previous_of i) m);
        are_words = λ m. tape-has AreWords n i j m (fits.are_words m) (AreWords-mapped n j (previous_of i) m (fits.are_words m));
      }

  tape-tape : (n : ℕ) (i : Number) (j : Joint) → Fits (mul_protocol r) n j → (m : Number) → mul_tape r n i (with_words j (mul_tape r n i j)) m ≡ j.words m
  tape-tape n One j fits One = refl
  tape-tape n One j fits Two = factors-twice n (j.u Three) (j.v Three) (j.words Three) (j.words Two) (fits.words Two) (fits.are_words Two)
  tape-tape n One j fits Three = refl
  tape-tape n Two j fits One = refl
  tape-tape n Two j fits Two = refl
  tape-tape n Two j fits Three = factors-twice n (j.u One) (j.v One) (j.words One) (j.words Three) (fits.words Three) (fits.are_words Three)
  tape-tape n Three j fits One = factors-twice n (j.u Two) (j.v Two) (j.words Two) (j.words One) (fits.words One) (fits.are_words One)
  tape-tape n Three j fits Two = refl
  tape-tape n Three j fits Three = refl

  -- the slots of the next miner's a and b are the previous miner's factors
  slots :
      (n : ℕ) (j : Joint) (p q : Number) →
      part n 0 (mapped n j p q) ++ part n 1 (mapped n j p q)
      ≡ reshared r n (j.u p) (part n 0 (j.words p)) (part n 0 (j.words q)) ++ reshared r n (j.v p) (part n 1 (j.words p)) (part n 1 (j.words q))
  unfolding mapped
  slots n j p q = simp (three_first, three_second, length-reshared)

  seen-on : (n : ℕ) (j : Joint) (l : Link) → mul_messages r n j l ≡ mul_received n (receiver_of l) (mul_tape r n (receiver_of l) j) l
  unfolding mapped
  seen-on n j Link12 = ap (λ x. j.words One ∷ x ∷ []) (sym (slots n j One Three))
  seen-on n j Link13 = refl
  seen-on n j Link21 = refl
  seen-on n j Link23 = ap (λ x. j.words Two ∷ x ∷ []) (sym (slots n j Two One))
  seen-on n j Link31 = ap (λ x. j.words Three ∷ x ∷ []) (sym (slots n j Three Two))
  seen-on n j Link32 = refl

  pub mul_lawful : Lawful (mul_protocol r) (Multiplies r)
  mul_lawful =
      record {
        sound = record {
          matched = mul_matched;
          own_links = mul_own_links;
          moves = moves r;
          sizes = sizes r;
          finishes = finishes;
          messages = messages;
          blocks = blocks;
          opened = λ n j fits i. ap (λ v. opened_in v.acts) (whole n j fits i);
          opens = λ n j fits. refl;
        };
        private = record {
          own = λ n i j fits. tape-own n i j;
          kept = tape-kept;
          back_kept = tape-kept;
          back_tape = tape-tape;
          tape_back = tape-tape;
          seen = λ n i j fits l h. subst (λ k. mul_messages r n j l ≡ mul_received n k (mul_tape r n k j) l) h (seen-on n j l);
        };
        clear = λ n j fits. multiplies n j;
      }
