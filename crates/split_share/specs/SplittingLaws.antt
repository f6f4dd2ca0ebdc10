-- The protocol splits, and each view can be made without the others' shares.
use Rattle.std.proofs.Common.{◌≡◌, ℕ, ◌<◌, ◌^◌, ◌%◌, Bool, true, false, List, [], ◌∷◌, map, length, refl, sym, ◌∙◌, ap, subst, arith, bit_xor}
use Rattle.std.specs.Int.Bits.{xor_zero_l, xor_zero_r}
use Rattle.proto_core.specs.Rings.{add_ring, xor_ring}
use Rattle.proto_core.specs.RingsKeepLaws.{add_ring_laws, xor_ring_laws}
use Rattle.proto_core.proofs.Sums.{sub-sub}
use Rattle.proto_core.specs.declared.link.Link.{Link}
use Rattle.proto_core.specs.declared.link.Link.TheVariants.{Link12, Link13, Link21, Link23, Link31, Link32}
use Rattle.proto_core.specs.declared.party.Number.{Number}
use Rattle.proto_core.specs.declared.party.Number.TheVariants.{One, Two, Three}
use Rattle.proto_core.specs.Parties.{sender_of, receiver_of}
use Rattle.proto_core.specs.Lists.{at, AreWords}
use Rattle.proto_core.specs.Elementwise.{plus, minus, zeros}
use Rattle.proto_core.specs.Strand.{accepts, Act, Sent, Ends, Ran, run, on_link, opened_in, Begins, one_field}
use Rattle.proto_core.specs.Net.{into, run_of, nothing, Finishes}
use Rattle.proto_core.specs.Script.{EndsWith, Moves, Matched, UsesOwnLinks, sends_on}
use Rattle.proto_core.specs.Protocol.{Joint, Fits, Lawful, with_words, strands_of, AreMessages, AreBlocks, IsBlock}
use Rattle.proto_core.specs.Resharing.{sum_of_three}
use Rattle.proto_core.proofs.Each.{length-each, at-each, each-ext, each-is, AreWords-each}
use Rattle.proto_core.proofs.ElementwiseLaws.{length-minus, length-zeros, AreWords-minus, AreWords-zeros}
use Rattle.proto_core.proofs.MessageFields.{accepts-one_words}
use Rattle.proto_core.proofs.Beginnings.{begins-self}
use Rattle.proto_core.proofs.Nodes.{into-is, mail-none, run-previous, run-next}
use Rattle.split_share.specs.SplitStrand.{held_of, signed, signed_sum, two_ends, three_ends, split_strand}
use Rattle.split_share.specs.Splitting.{split_draws, split_script, rest_of_one, split_messages, first_word, second_word, split_tape, split_received}
use Rattle.split_share.specs.Splitting.{split_protocol, Splits}

split_matched : (n : ℕ) → Matched (split_script n)
split_matched n = elim [ Link12 ↦ refl | Link13 ↦ refl | Link21 ↦ refl | Link23 ↦ refl | Link31 ↦ refl | Link32 ↦ refl ]

split_own_links : (n : ℕ) (i : Number) → UsesOwnLinks i (split_script n i)
split_own_links n One = (refl, (refl, tt))
split_own_links n Two = (refl, tt)
split_own_links n Three = (refl, tt)

-- ---- one element

second_only : (x : ℕ) → x < 2 ^ 64 → xor_ring.add (xor_ring.add 0 x) 0 ≡ x
second_only x h = ap (λ t. bit_xor (t % 2 ^ 64) 0 % 2 ^ 64) (xor_zero_l x) ∙ ap (λ t. t % 2 ^ 64) (xor_zero_r (x % 2 ^ 64)) ∙ omega arith

third_only : (x : ℕ) → x < 2 ^ 64 → xor_ring.add (xor_ring.add 0 0) x ≡ x
third_only x h = ap (λ t. t % 2 ^ 64) (xor_zero_l x) ∙ omega arith

added : (u1 u2 u3 k : ℕ) → add_ring.add (add_ring.add u2 k) (add_ring.add u3 (add_ring.sub u1 k)) ≡ add_ring.add (add_ring.add u1 u2) u3
added u1 u2 u3 k = omega arith

subtracted : (u1 u2 u3 k : ℕ) → add_ring.sub (add_ring.add u2 k) (add_ring.neg (add_ring.add u3 (add_ring.sub u1 k))) ≡ add_ring.add (add_ring.add u1 u2) u3
subtracted u1 u2 u3 k = omega arith

element :
    (u1 u2 u3 k : ℕ) →
    add_ring.add (xor_ring.add (xor_ring.add 0 (add_ring.add u2 k)) 0) (xor_ring.add (xor_ring.add 0 0) (add_ring.add u3 (add_ring.sub u1 k)))
    ≡ add_ring.add (add_ring.add u1 u2) u3
element u1 u2 u3 k =
    let e3 : ℕ = add_ring.add u3 (add_ring.sub u1 k) in
    ap (λ t. add_ring.add t (xor_ring.add (xor_ring.add 0 0) e3)) (second_only (add_ring.add u2 k) (add_ring_laws.add_word u2 k))
    ∙ ap (add_ring.add (add_ring.add u2 k)) (third_only e3 (add_ring_laws.add_word u3 (add_ring.sub u1 k))) ∙ added u1 u2 u3 k

negated_element :
    (u1 u2 u3 k : ℕ) →
    add_ring.sub (xor_ring.add (xor_ring.add 0 (add_ring.add u2 k)) 0)
    (xor_ring.add (xor_ring.add 0 0) (add_ring.neg (add_ring.add u3 (add_ring.sub u1 k))))
    ≡ add_ring.add (add_ring.add u1 u2) u3
negated_element u1 u2 u3 k =
    let e3 : ℕ = add_ring.neg (add_ring.add u3 (add_ring.sub u1 k)) in
    ap (λ t. add_ring.sub t (xor_ring.add (xor_ring.add 0 0) e3)) (second_only (add_ring.add u2 k) (add_ring_laws.add_word u2 k))
    ∙ ap (add_ring.sub (add_ring.add u2 k)) (third_only e3 (add_ring_laws.neg_word (add_ring.add u3 (add_ring.sub u1 k)))) ∙ subtracted u1 u2 u3 k

pub splits : (b : Bool) (n : ℕ) (j : Joint) → Splits b n j
unfolding sum_of_three zeros signed_sum plus minus
splits false n j = each-ext n _ _ (λ k h. simp (at-each, h) (element (at (j.u One) k) (at (j.u Two) k) (at (j.u Three) k) (at (j.words One) k)))
splits true n j = each-ext n _ _ (λ k h. simp (at-each, h) (negated_element (at (j.u One) k) (at (j.u Two) k) (at (j.u Three) k) (at (j.words One) k)))

minus-twice : (n : ℕ) (u k : List ℕ) → length k ≡ n → AreWords k → minus add_ring n u (minus add_ring n u k) ≡ k
unfolding minus
minus-twice n u k len words = each-is n _ k len (λ i h. simp (at-each, h) (sub-sub add_ring_laws (at u i) (at k i) (words i)))

-- ---- blocks

signed_word : (b : Bool) (x : ℕ) → x < 2 ^ 64 → signed b x < 2 ^ 64
signed_word false x h = h
signed_word true x h = add_ring_laws.neg_word x

zero_block : (n : ℕ) → IsBlock n (zeros xor_ring n)
zero_block n = record { len = length-zeros xor_ring n; words = AreWords-zeros xor_ring_laws n }

sum_block : (b : Bool) (n : ℕ) (u got : List ℕ) → IsBlock n (signed_sum b n u got)
unfolding signed_sum
sum_block b n u got =
    record {
      len = length-each n _;
      words = AreWords-each n _ (λ k. signed_word b _ (add_ring_laws.add_word (at u k) (at got k)));
    }

two_long : (n : ℕ) (xs ys : List ℕ) → length xs ≡ n → length ys ≡ n → map length (xs ∷ ys ∷ []) ≡ n ∷ n ∷ []
two_long n xs ys x y = ap (λ k. k ∷ length ys ∷ []) x ∙ ap (λ k. n ∷ k ∷ []) y

module _ (b : Bool) where
  moves :
      (n : ℕ) (i : Number) (u v words : List ℕ) → length u ≡ n → length v ≡ 0 → length words ≡ split_draws n i →
      Moves (split_strand b n i u words) (split_script n i)
  moves n One u v words hu hv hw = (refl, accepts-one_words n words hw, (refl, accepts-one_words n _ (length-minus add_ring n u words), tt))
  moves n Two u v words hu hv hw = (refl, refl, λ got e. tt)
  moves n Three u v words hu hv hw = (refl, refl, λ got e. tt)

  sizes :
      (n : ℕ) (i : Number) (u words : List ℕ) → EndsWith (λ blocks. map length blocks ≡ n ∷ n ∷ []) (split_strand b n i u words)
  sizes n One u words = two_long n _ _ (length-zeros xor_ring n) (length-zeros xor_ring n)
  sizes n Two u words = λ got e. two_long n _ _ (sum_block false n u got).len (length-zeros xor_ring n)
  sizes n Three u words = λ got e. two_long n _ _ (length-zeros xor_ring n) (sum_block b n u got).len

  -- ---- three miners together

  module _ (n : ℕ) (j : Joint) (fits : Fits (split_protocol b) n j) where
    abbrev sends_of : Number → List Act
    sends_of One = Sent Link12 (j.words One) ∷ Sent Link13 (rest_of_one n j) ∷ []
    sends_of Two = []
    sends_of Three = []

    abbrev outputs_of : Number → List (List ℕ)
    outputs_of i = first_word n j i ∷ second_word b n j i ∷ []

    abbrev done_of : Number → Ran (List (List ℕ))
    done_of i = record { acts = sends_of i; left = Ends (outputs_of i); unread = nothing }

    rest-fits : accepts (one_field n) (rest_of_one n j) ≡ true
    rest-fits = accepts-one_words n _ (length-minus add_ring n (j.u One) (j.words One))

    whole : (i : Number) → run_of (strands_of (split_protocol b) n j) (split_messages n j) i ≡ done_of i
    whole One =
        ap (run (split_strand b n One (j.u One) (j.words One))) (into-is One (split_messages n j))
        ∙ ap (λ m. record { acts = sends_of One; left = Ends (outputs_of One); unread = m }) (mail-none One)
    whole Two =
        ap (run (split_strand b n Two (j.u Two) (j.words Two))) (into-is Two (split_messages n j))
        ∙ run-previous Two (one_field n) (two_ends n (held_of (j.u Two) b)) (j.words One) [] [] (accepts-one_words n _ (fits.words One))
        ∙ ap (λ m. record { acts = []; left = Ends (outputs_of Two); unread = m }) (mail-none Two)
    whole Three =
        ap (run (split_strand b n Three (j.u Three) (j.words Three))) (into-is Three (split_messages n j))
        ∙ run-next Three (one_field n) (three_ends n (held_of (j.u Three) b)) (rest_of_one n j) [] [] rest-fits
        ∙ ap (λ m. record { acts = []; left = Ends (outputs_of Three); unread = m }) (mail-none Three)

    -- nothing that is sent waits for a message
    half : (i : Number) → (run_of (strands_of (split_protocol b) n j) nothing i).acts ≡ sends_of i
    half One = refl
    half Two = refl
    half Three = refl

    sent_all : (l : Link) → on_link l (sends_of (sender_of l)) ≡ split_messages n j l
    sent_all Link12 = refl
    sent_all Link13 = refl
    sent_all Link21 = refl
    sent_all Link23 = refl
    sent_all Link31 = refl
    sent_all Link32 = refl

    finishes : Finishes (strands_of (split_protocol b) n j) (split_messages n j) outputs_of
    finishes =
        record {
          sent = λ l. ap (λ v. on_link l v.acts) (whole (sender_of l)) ∙ sent_all l;
          ended = λ i. ap (λ v. v.left) (whole i);
          read = λ i. ap (λ v. v.unread) (whole i);
          count = 1;
          all = λ l. subst (λ v. Begins (split_messages n j l) v) (sym (ap (on_link l) (half (sender_of l)) ∙ sent_all l)) (begins-self (split_messages n j l));
        }

    opened : (i : Number) → opened_in (run_of (strands_of (split_protocol b) n j) (split_messages n j) i).acts ≡ []
    opened One = ap (λ v. opened_in v.acts) (whole One)
    opened Two = ap (λ v. opened_in v.acts) (whole Two)
    opened Three = ap (λ v. opened_in v.acts) (whole Three)

    messages : (l : Link) → AreMessages (sends_on l (split_script n (sender_of l))) (split_messages n j l)
    messages Link12 = (record { shape = accepts-one_words n _ (fits.words One); words = fits.are_words One }, tt)
    messages Link13 = (record { shape = rest-fits; words = AreWords-minus add_ring_laws n (j.u One) (j.words One) }, tt)
    messages Link21 = tt
    messages Link23 = tt
    messages Link31 = tt
    messages Link32 = tt

    blocks : (i : Number) → AreBlocks (n ∷ n ∷ []) (outputs_of i)
    blocks One = (zero_block n, (zero_block n, tt))
    blocks Two = (sum_block false n _ _, (zero_block n, tt))
    blocks Three = (zero_block n, (sum_block b n _ _, tt))

    -- ---- views

    fits_with :
        (w : Number → List ℕ) → length (w One) ≡ n → AreWords (w One) → w Two ≡ j.words Two → w Three ≡ j.words Three →
        Fits (split_protocol b) n (with_words j w)
    fits_with w len words two three =
        record {
          u = fits.u;
          v = fits.v;
          words = elim [ One ↦ len | Two ↦ ap length two ∙ fits.words Two | Three ↦ ap length three ∙ fits.words Three ];
          are_words = elim [ One ↦ words | Two ↦ rw two (fits.are_words Two) | Three ↦ rw three (fits.are_words Three) ];
        }

    tape-kept : (i : Number) → Fits (split_protocol b) n (with_words j (split_tape n i j))
    tape-kept One = fits_with (split_tape n One j) (fits.words One) (fits.are_words One) refl refl
    tape-kept Two = fits_with (split_tape n Two j) (fits.words One) (fits.are_words One) refl refl
    tape-kept Three = fits_with (split_tape n Three j) (length-minus add_ring n _ _) (AreWords-minus add_ring_laws n _ _) refl refl

    tape-tape : (i : Number) (m : Number) → split_tape n i (with_words j (split_tape n i j)) m ≡ j.words m
    tape-tape One m = refl
    tape-tape Two m = refl
    tape-tape Three One = minus-twice n (j.u One) (j.words One) (fits.words One) (fits.are_words One)
    tape-tape Three Two = refl
    tape-tape Three Three = refl

tape-own : (n : ℕ) (i : Number) (j : Joint) → split_tape n i j i ≡ j.words i
tape-own n One j = refl
tape-own n Two j = refl
tape-own n Three j = refl

seen-on : (n : ℕ) (j : Joint) (l : Link) → split_messages n j l ≡ split_received (split_tape n (receiver_of l) j) l
seen-on n j Link12 = refl
seen-on n j Link13 = refl
seen-on n j Link21 = refl
seen-on n j Link23 = refl
seen-on n j Link31 = refl
seen-on n j Link32 = refl

pub split_lawful : (b : Bool) → Lawful (split_protocol b) (Splits b)
split_lawful b =
    record {
      sound = record {
        matched = split_matched;
        own_links = split_own_links;
        moves = moves b;
        sizes = λ n i u v words hu hv hw. sizes b n i u words;
        finishes = finishes b;
        messages = messages b;
        blocks = blocks b;
        opened = opened b;
        opens = λ n j fits. refl;
      };
      private = record {
        own = λ n i j fits. tape-own n i j;
        kept = λ n i j fits. tape-kept b n j fits i;
        back_kept = λ n i j fits. tape-kept b n j fits i;
        back_tape = λ n i j fits. tape-tape b n j fits i;
        tape_back = λ n i j fits. tape-tape b n j fits i;
        seen = λ n i j fits l h. subst (λ k. split_messages n j l ≡ split_received (split_tape n k j) l) h (seen-on n j l);
      };
      clear = λ n j fits. splits b n j;
    }
