-- Words that are drawn from tapes in memory or of a seed.
use Rattle.std.proofs.Common.{◌≡◌, ◌≢◌, ℕ, zero, suc, ◌+◌, ◌-◌, ◌*◌, ◌^◌, ◌<◌, ◌≤◌, List, [], ◌∷◌, ◌++◌, true, false, Bool, length, take, drop, map, set, refl, sym, ap, subst, ◌∙◌}
use Rattle.std.proofs.Common.{arith}
use Rattle.std.specs.Prelude.{slice_index, slice_index_or, nat_eq, nat_le}
use Rattle.std.specs.List.{range_with_len}
use Rattle.std.proofs.lemmas.Bool.Decides.{nat_tests}
use Rattle.std.proofs.lemmas.Bool.{eqb-true, eqb-false}
use Rattle.std.proofs.lemmas.Grind.{common_steps, get_or-set_at}
use Rattle.std.proofs.lemmas.List.{length-append, length-drop, length-set, map-append, get_or-set_same, get_or-set_other}
use Rattle.std.proofs.lemmas.List.FromFn.{length-map-range_with_len, map-range_with_len_more}
use Rattle.rand_chacha.specs.ChaCha.{ChaCha, key_of, word_at}
use Rattle.outside.specs.Tapes.{Drew, left_of, no_files}
use Rattle.tape_file.specs.Seeds.{seed_tapes, seed_word, stream_word}
use Rattle.tape_file.specs.Tapes.{FourTapes}
use Rattle.tape_file.proofs.WordLists.{drop-part}
use Rattle.tape_sources.specs.Held.{words_after}
use Rattle.tape_sources.specs.Parties.{four_of, tape_of, told_state}
use Rattle.tape_sources.specs.SeedWords.{AreStreamsOf, IsStreamOf, seed_words, words_left}
use Rattle.tape_sources.proofs.Filling.{reads_none}

told_drew : (old new : ℕ → List ℕ) (party : ℕ) (drawn : List ℕ) → old party ≡ drawn ++ new party → ((p : ℕ) → p ≢ party → new p ≡ old p)
    → Drew (told_state old) (told_state new) party drawn
told_drew old new party drawn parts others = record {
  told = refl;
  stands = record { held = refl; read = reads_none no_files };
  fewer = ap length parts ∙ length-append drawn (new party);
  words = λ _. parts;
  others = λ p ne. record { left = ap length (others p ne); words = λ _. others p ne };
}

-- ---- in memory

pub four_held : (tapes : FourTapes) → four_of (told_state (words_after tapes (0 ∷ 0 ∷ 0 ∷ 0 ∷ []))) ≡ tapes
unfolding tape_of
four_held tapes = refl

pub held_left : (tapes : FourTapes) (taken : List ℕ) (party : ℕ)
    → left_of (told_state (words_after tapes taken)) party ≡ length (tape_of tapes party) - slice_index taken party
held_left tapes taken party = length-drop (slice_index taken party) (tape_of tapes party)

-- what is asked of a tape is there
pub held_enough : (tapes : FourTapes) (taken : List ℕ) (party n : ℕ) → n ≤ left_of (told_state (words_after tapes taken)) party
    → slice_index taken party ≤ length (tape_of tapes party) → slice_index taken party + n ≤ length (tape_of tapes party)
held_enough tapes taken party n enough within = omega (arith, held_left tapes taken party, enough, within)

pub held_drew : (tapes : FourTapes) (taken : List ℕ) (party count : ℕ) (drawn : List ℕ) → party < length taken → count ≡ length drawn
    → drawn ≡ take count (drop (slice_index taken party) (tape_of tapes party))
    → Drew (told_state (words_after tapes taken)) (told_state (words_after tapes (set taken party (slice_index taken party + count)))) party drawn
held_drew tapes taken party count drawn there long are =
    let from = slice_index taken party in
    let further = get_or-set_same taken party (from + count) 0 there in
    told_drew (words_after tapes taken) (words_after tapes (set taken party (from + count))) party drawn
    (sym (drop-part from count (tape_of tapes party))
    ∙ ap (λ (ws : List ℕ). ws ++ drop (from + count) (tape_of tapes party)) (sym are)
    ∙ ap (λ (n : ℕ). drawn ++ drop n (tape_of tapes party)) (sym further))
    (λ p ne. ap (λ (n : ℕ). drop n (tape_of tapes p)) (get_or-set_other taken party p (from + count) 0 ne))

-- ---- of a seed

range-append : (from m n : ℕ) → range_with_len from (m + n) ≡ range_with_len from m ++ range_with_len (from + m) n
range-append from zero n =
    let none : 0 + n ≡ n = omega arith in
    let here : from + 0 ≡ from = omega arith in
    rw (none, here) refl
range-append from (suc m) n =
    let more : suc m + n ≡ suc (m + n) = omega arith in
    let there : from + 1 + m ≡ from + suc m = omega arith in
    rw more (ap (λ (ns : List ℕ). from ∷ ns) (range-append (from + 1) m n
    ∙ ap (λ (a : ℕ). range_with_len (from + 1) m ++ range_with_len a n) there))

seed_words-append : (seed : List ℕ) (party from m n : ℕ) → seed_words seed party from (m + n) ≡ seed_words seed party from m ++ seed_words seed party (from + m) n
seed_words-append seed party from m n =
    ap (map (seed_word seed party)) (range-append from m n) ∙ map-append (seed_word seed party) (range_with_len from m) (range_with_len (from + m) n)

left_in : (seed : List ℕ) (words : ℕ) (taken : List ℕ) (party : ℕ) → party ≤ 3
    → words_left seed words taken party ≡ seed_words seed party (slice_index taken party) (words - slice_index taken party)
unfolding words_left
left_in seed words taken party few =
    let e : nat_le party 3 ≡ true = grind (arith, nat_tests) in
    rw e refl

pub four_seeded : (seed : List ℕ) (words : ℕ) → four_of (told_state (words_left seed words (0 ∷ 0 ∷ 0 ∷ 0 ∷ []))) ≡ seed_tapes seed words
unfolding words_left
four_seeded seed words =
    let all : words - 0 ≡ words = omega arith in
    ap (seed_tapes seed) all

pub seed_left : (seed : List ℕ) (words : ℕ) (taken : List ℕ) (party : ℕ) → party ≤ 3
    → left_of (told_state (words_left seed words taken)) party ≡ words - slice_index taken party
seed_left seed words taken party few =
    ap length (left_in seed words taken party few)
    ∙ length-map-range_with_len (seed_word seed party) (slice_index taken party) (words - slice_index taken party)

same_left : (seed : List ℕ) (words : ℕ) (taken taken' : List ℕ) (party : ℕ) → slice_index taken' party ≡ slice_index taken party
    → words_left seed words taken' party ≡ words_left seed words taken party
unfolding words_left
same_left seed words taken taken' party same = rw same refl

-- no party takes more than there are
pub still_enough : (words party count : ℕ) (taken : List ℕ) → ((p : ℕ) → slice_index taken p ≤ words) → slice_index taken party + count ≤ words → party < length taken
    → (p : ℕ) → slice_index (set taken party (slice_index taken party + count)) p ≤ words
still_enough words party count taken within enough there p = let before = within p in grind (arith, common_steps)

pub seed_enough : (seed : List ℕ) (words : ℕ) (taken : List ℕ) (party count : ℕ) → party ≤ 3 → slice_index taken party ≤ words
    → count ≤ left_of (told_state (words_left seed words taken)) party → slice_index taken party + count ≤ words
seed_enough seed words taken party count few within enough = omega (arith, seed_left seed words taken party few, within, enough)

pub seed_drew : (seed : List ℕ) (words : ℕ) (taken : List ℕ) (party : ℕ) (drawn : List ℕ) → party ≤ 3 → party < length taken
    → slice_index taken party + length drawn ≤ words → drawn ≡ seed_words seed party (slice_index taken party) (length drawn)
    → Drew (told_state (words_left seed words taken)) (told_state (words_left seed words (set taken party (slice_index taken party + length drawn)))) party drawn
seed_drew seed words taken party drawn few there enough are =
    let from = slice_index taken party in
    let n = length drawn in
    let taken' = set taken party (from + n) in
    let further : slice_index taken' party ≡ from + n = get_or-set_same taken party (from + n) 0 there in
    let whole : words - from ≡ n + (words - (from + n)) = omega (arith, enough) in
    let rest : words_left seed words taken' party ≡ seed_words seed party (from + n) (words - (from + n)) =
    left_in seed words taken' party few ∙ ap (λ (a : ℕ). seed_words seed party a (words - a)) further in
    told_drew (words_left seed words taken) (words_left seed words taken') party drawn
    (left_in seed words taken party few
    ∙ ap (seed_words seed party from) whole
    ∙ seed_words-append seed party from n (words - (from + n))
    ∙ ap (λ (ws : List ℕ). ws ++ seed_words seed party (from + n) (words - (from + n))) (sym are)
    ∙ ap (λ (ws : List ℕ). drawn ++ ws) (sym rest))
    (λ p ne. same_left seed words taken taken' p (get_or-set_other taken party p (from + n) 0 ne))

-- the two words that the generator gives next are the halves of a word of the tape
seed_word-next : (seed key : List ℕ) (party stream k place : ℕ) → key ≡ key_of seed → stream ≡ party → place ≡ 2 * k
    → word_at 10 key stream place + 2 ^ 32 * word_at 10 key stream (place + 1) ≡ seed_word seed party k
unfolding seed_word stream_word
seed_word-next seed key party stream k place ek es ep = rw (ek, es, ep) refl

pub seed_words-more : (seed key words : List ℕ) (party from k stream place word : ℕ) → words ≡ seed_words seed party from k → key ≡ key_of seed → stream ≡ party
    → place ≡ 2 * (from + k) → word ≡ word_at 10 key stream place + 2 ^ 32 * word_at 10 key stream (place + 1)
    → words ++ word ∷ [] ≡ seed_words seed party from (k + 1)
seed_words-more seed key words party from k stream place word before ek es ep ew =
    let next = ew ∙ seed_word-next seed key party stream (from + k) place ek es ep in
    rw (before, next) (sym (map-range_with_len_more (seed_word seed party) from k (from + k) refl))

-- the generators after one party's words were made
pub streams_after : (seed taken : List ℕ) (streams : List ChaCha) (party count : ℕ) (rng : ChaCha) → AreStreamsOf seed taken streams → party < length taken
    → party < length streams → IsStreamOf seed party (slice_index taken party + count) rng
    → AreStreamsOf seed (set taken party (slice_index taken party + count)) (set streams party rng)
streams_after seed taken streams party count rng are in_taken in_streams is = λ p d lt. at p d lt (nat_eq p party) refl
  where
    at : (p : ℕ) (d : ChaCha) → p < length (set streams party rng) → (b : Bool) → nat_eq p party ≡ b
        → IsStreamOf seed p (slice_index (set taken party (slice_index taken party + count)) p) (slice_index_or (set streams party rng) p d)
    at p d lt true e =
        let same = eqb-true p party e in
        rw (get_or-set_at taken party p (slice_index taken party + count) 0 same in_taken, get_or-set_at streams party p rng d same in_streams)
        (subst (λ (q : ℕ). IsStreamOf seed q (slice_index taken party + count) rng) (sym same) is)
    at p d lt false e =
        let other = eqb-false p party e in
        rw (get_or-set_other taken party p (slice_index taken party + count) 0 other, get_or-set_other streams party p rng d other)
        (are p d (subst (λ (n : ℕ). p < n) (length-set streams party rng) lt))
