-- An order that a net makes itself is the one that the scripts make.
use Rattle.std.proofs.Common.{◌≡◌, ℕ, zero, suc, pred, ◌+◌, ◌-◌, ◌<◌, ◌≤◌, ◌%◌, ◌^◌, Bool, true, false, if◌then◌else◌, List, [], ◌∷◌, ◌++◌, length}
use Rattle.std.specs.Option.{option_map_or}
use Rattle.std.proofs.Common.{refl, sym, ◌∙◌, ap, subst, arith}
use Rattle.std.proofs.lemmas.List.{append_assoc}
use Rattle.std.specs.Prelude.{Some, None, Result, Vec, filter}
use Rattle.std.specs.declared.alloc.Global.{Global}
use Rattle.proto_core.specs.declared.party.Number.{Number}
use Rattle.proto_core.specs.declared.link.Link.{Link}
use Rattle.proto_core.specs.Parties.{is_same, receiver_of, sender_of}
use Rattle.proto_core.specs.Script as script
use Rattle.proto_core.specs.Script.{Sends, Takes, sends_on}
use Rattle.proto_core.specs.Strand.{same_link}
use Rattle.proto_core.proofs.Beginnings.{append-none}
use Rattle.proto_core.proofs.Strands.{same-link_is}
use Rattle.protocol_model.specs.Network.{Counts, Default, Shuffled, all_links, chosen, into_counts, is_full, made_order}
use Rattle.protocol_model.specs.Network.{none_delivered, one_less, one_more, posted_count, sends_in_all, sent_by}
use Rattle.protocol_model.proofs.NetCounts.{lt_from}
use Rattle.protocol_model.proofs.Choosing.{in_those, one_longer}
use Rattle.rand_chacha.specs.ChaCha.{ChaCha, key_of, word_at, next_word}
use Rattle.tape_file.specs.Seeds.{stream_word}
use Rattle.counted_net.specs.declared.moves.Scripts.{Scripts}
use Rattle.counted_net.specs.declared.delivery.DeliveryErr.{DeliveryErr}
use Rattle.counted_net.specs.Scripts.{plain_of}
use Rattle.counted_net.specs.Answers.{IsNetAnswer}
use Rattle.counted_net.specs.Nets.{after, full_links, got_of, is_under_way, state_of, HasEnded, NetState}
use Rattle.counted_net.proofs.Counts.{got_more, got_total, no_fewer, total_few, total_less}
use Rattle.counted_net.proofs.Walks.{all_walked, full_so, walked_more, walked_none, Walked}

-- ---- what a script sends

-- no more than it sends in all
pub sent_few : (moves : List script.Move) (got : Counts) (l : Link) → sent_by moves got l ≤ length (sends_on l moves)
sent_few [] got l = omega arith
sent_few (Sends k shape ∷ moves) got l = by_test (same_link l k) (sent_few moves got l)
  where
    by_test :
        (b : Bool) → sent_by moves got l ≤ length (sends_on l moves)
        → (if b then 1 else 0) + sent_by moves got l ≤ length (if b then shape ∷ sends_on l moves else sends_on l moves)
    by_test true h = omega arith
    by_test false h = omega arith
sent_few (Takes k shape ∷ moves) got l = by_count (got k) (sent_few moves (one_less k got) l)
  where
    by_count :
        (n : ℕ) → sent_by moves (one_less k got) l ≤ length (sends_on l moves)
        → elim n as (λ _. ℕ) [ zero ↦ 0 | suc _ ↦ sent_by moves (one_less k got) l ] ≤ length (sends_on l moves)
    by_count zero h = omega arith
    by_count (suc n) h = h

-- no less where more has come
less_both : (l : Link) (x y : Counts) → ((k : Link) → x k ≤ y k) → (k : Link) → one_less l x k ≤ one_less l y k
less_both l x y h k =
    elim (same_link l k) as (λ b. (if b then pred (x k) else x k) ≤ (if b then pred (y k) else y k)) [ true ↦ by_count (x k) (y k) (h k) | false ↦ h k ]
  where
    by_count : (n m : ℕ) → n ≤ m → pred n ≤ pred m
    by_count zero m e = omega arith
    by_count (suc n) zero e = absurd (omega (arith, e))
    by_count (suc n) (suc m) e = omega arith

sent_no_less : (moves : List script.Move) (x y : Counts) → ((k : Link) → x k ≤ y k) → (l : Link) → sent_by moves x l ≤ sent_by moves y l
sent_no_less [] x y h l = omega arith
sent_no_less (Sends k shape ∷ moves) x y h l = let rest = sent_no_less moves x y h l in omega arith
sent_no_less (Takes k shape ∷ moves) x y h l =
    by_count (x k) (y k) (h k) (sent_no_less moves (one_less k x) (one_less k y) (less_both k x y h) l)
  where
    by_count :
        (n m : ℕ) → n ≤ m → sent_by moves (one_less k x) l ≤ sent_by moves (one_less k y) l
        → elim n as (λ _. ℕ) [ zero ↦ 0 | suc _ ↦ sent_by moves (one_less k x) l ]
        ≤ elim m as (λ _. ℕ) [ zero ↦ 0 | suc _ ↦ sent_by moves (one_less k y) l ]
    by_count zero m e rest = omega arith
    by_count (suc n) zero e rest = absurd (omega (arith, e))
    by_count (suc n) (suc m) e rest = rest

-- ---- choosing

-- a link that was chosen has a message under way
chosen_full : (net : NetState) (word : ℕ) (l : Link) → chosen word (full_links net) ≡ Some l → is_under_way net l ≡ true
chosen_full net word l e = in_those (is_under_way net) all_links (word % length (full_links net)) l e

-- ---- an order so far

module _ (moves : Number → List script.Move) (words : ℕ → ℕ) where
  -- made of so many words, from this number on
  abbrev pub made_from : (fuel entry : ℕ) → Counts → List Link
  made_from fuel entry got = made_order moves words fuel entry got

  no_more_made : (fuel entry : ℕ) (got : Counts) → chosen (words entry) (filter (is_full moves got) all_links) ≡ None → made_from fuel entry got ≡ []
  no_more_made zero entry got e = refl
  no_more_made (suc fuel) entry got e = ap (λ o. option_map_or (λ l. l ∷ made_from fuel (entry + 1) (one_more l got)) o []) e

  one_more_made : (fuel less entry : ℕ) (got : Counts) (l : Link) → less + 1 ≡ fuel → chosen (words entry) (filter (is_full moves got) all_links) ≡ Some l
      → made_from fuel entry got ≡ l ∷ made_from less (entry + 1) (one_more l got)
  one_more_made fuel less entry got l n e =
      let is : fuel ≡ suc less = omega arith in
      ap (λ k. made_from k entry got) is ∙ ap (λ o. option_map_or (λ k. k ∷ made_from less (entry + 1) (one_more k got)) o []) e

-- it was made so far, on links that all had a message
pub record Making (s : Scripts) (words : ℕ → ℕ) (now : NetState) : Type 0 where
  pub walked : Walked s now
  -- no more was delivered than was sent
  pub few : (l : Link) → got_of now.delivered l ≤ posted_count (plain_of s) (got_of now.delivered) l
  pub made :
      made_order (plain_of s) words (sends_in_all (plain_of s)) 0 none_delivered
      ≡ now.delivered
      ++ made_order (plain_of s) words (sends_in_all (plain_of s) - length now.delivered) (length now.delivered) (got_of now.delivered)

none_less : (n : ℕ) → n ≡ n - 0
none_less n = omega arith

pub making_none : (s : Scripts) (words : ℕ → ℕ) (now : NetState) → now ≡ state_of s [] → Making s words now
making_none s words now is =
    subst (Making s words) (sym is)
    (record {
      walked = walked_none s (state_of s []) refl;
      few = λ l. omega arith;
      made = ap (λ n. made_order (plain_of s) words n 0 none_delivered) (none_less (sends_in_all (plain_of s)));
    })

module _ (s : Scripts) (words : ℕ → ℕ) (now : NetState) (m : Making s words now) where
  abbrev moves : Number → List script.Move
  moves = plain_of s

  abbrev links : List Link
  links = now.delivered

  same_links : filter (is_full moves (got_of links)) all_links ≡ full_links now
  same_links = ap (λ (p : Link → Bool). filter p all_links) (λ d. λ l. full_so s now m.walked l d)

  module _ (l : Link) (full : is_under_way now l ≡ true) where
    under : got_of links l < posted_count moves (got_of links) l
    under = lt_from _ _ (full_so s now m.walked l ∙ full)

    fewer : length links < sends_in_all moves
    fewer =
        let less = total_less (got_of links) (λ k. posted_count moves (got_of links) k) m.few l under in
        let all =
        total_few (λ k. posted_count moves (got_of links) k) (λ k. length (sends_on k (moves (sender_of k))))
        (λ k. sent_few (moves (sender_of k)) (into_counts (sender_of k) (got_of links)) k) in
        let so_many = got_total links in
        omega arith

    more_sent : (k : Link) → posted_count moves (got_of links) k ≤ posted_count moves (one_more l (got_of links)) k
    more_sent k =
        sent_no_less (moves (sender_of k)) (into_counts (sender_of k) (got_of links)) (into_counts (sender_of k) (one_more l (got_of links)))
        (λ j. into_no_fewer (sender_of k) j) k
      where
        into_no_fewer : (i : Number) (j : Link) → into_counts i (got_of links) j ≤ into_counts i (one_more l (got_of links)) j
        into_no_fewer i j =
            elim (is_same (receiver_of j) i) as (λ b. (if b then got_of links j else 0) ≤ (if b then one_more l (got_of links) j else 0))
            [ true ↦ no_fewer l (got_of links) j | false ↦ omega arith ]

    still_few : (k : Link) → one_more l (got_of links) k ≤ posted_count moves (one_more l (got_of links)) k
    still_few k = by_test (same_link l k) refl
      where
        by_test : (b : Bool) → same_link l k ≡ b → one_more l (got_of links) k ≤ posted_count moves (one_more l (got_of links)) k
        by_test true e =
            let here = subst (λ j. got_of links j < posted_count moves (got_of links) j) (same-link_is l k e) under in
            let is : one_more l (got_of links) k ≡ got_of links k + 1 = ap (λ b. if b then got_of links k + 1 else got_of links k) e in
            let more = more_sent k in
            omega arith
        by_test false e =
            let here = m.few k in
            let is : one_more l (got_of links) k ≡ got_of links k = ap (λ b. if b then got_of links k + 1 else got_of links k) e in
            let more = more_sent k in
            omega arith

  pub making_more : (l : Link) (later : NetState) → chosen (words (length links)) (full_links now) ≡ Some l → later ≡ after now l → Making s words later
  making_more l later e is =
      let full = chosen_full now (words (length links)) l e in
      let fuel = sends_in_all moves in
      let n = length links in
      subst (Making s words) (sym is)
      (record {
        walked = walked_more s now m.walked l (after now l) full refl;
        few = subst (λ (c : Counts). (k : Link) → c k ≤ posted_count moves c k) (sym (got_more links l)) (still_few l full);
        made =
            m.made
            ∙ ap (λ ls. links ++ ls)
            (one_more_made moves words (fuel - n) (fuel - (n + 1)) n (got_of links) l (let lt = fewer l full in omega arith)
            (ap (chosen (words n)) same_links ∙ e))
            ∙ sym (append_assoc links (l ∷ []) (made_order moves words (fuel - (n + 1)) (n + 1) (one_more l (got_of links))))
            ∙ ap (λ k. (links ++ l ∷ []) ++ made_order moves words (fuel - k) k (one_more l (got_of links))) (sym (one_longer links l))
            ∙ ap (λ c. (links ++ l ∷ []) ++ made_order moves words (fuel - length (links ++ l ∷ [])) (length (links ++ l ∷ [])) c) (sym (got_more links l));
      })

  pub all_made : chosen (words (length links)) (full_links now) ≡ None → links ≡ made_order moves words (sends_in_all moves) 0 none_delivered
  all_made e =
      sym (m.made
      ∙ ap (λ ls. links ++ ls)
      (no_more_made moves words (sends_in_all moves - length links) (length links) (got_of links) (ap (chosen (words (length links))) same_links ∙ e))
      ∙ append-none links)

-- ---- always the first link

pub in_turn_all : (s : Scripts) (now : NetState) (r : Result (Vec Link Global) DeliveryErr) → Making s (λ k. 0) now → chosen 0 (full_links now) ≡ None
    → HasEnded now r → IsNetAnswer (plain_of s) Default r
in_turn_all s now r m e h = all_walked s now m.walked Default r (all_made s (λ k. 0) now m e) h

-- ---- words of a generator

-- the generator gives the word of the next delivery
pub record Shuffling (s : Scripts) (seed : List ℕ) (rng : ChaCha) (now : NetState) : Type 0 where
  pub making : Making s (stream_word seed 4) now
  pub key : rng.key ≡ key_of seed
  pub stream : rng.stream ≡ 4
  pub place : rng.word_pos ≡ length now.delivered
  pub few : length now.delivered < 2 ^ 63

pub shuffling_none : (s : Scripts) (seed : List ℕ) (rng : ChaCha) (now : NetState) → now ≡ state_of s [] → rng.key ≡ key_of seed → rng.stream ≡ 4
    → rng.word_pos ≡ 0 → Shuffling s seed rng now
shuffling_none s seed rng now is key stream place =
    let n : length now.delivered ≡ 0 = ap (λ (n : NetState). length n.delivered) is in
    record { making = making_none s (stream_word seed 4) now is; key = key; stream = stream; place = place ∙ sym n; few = omega arith }

module _ (s : Scripts) (seed : List ℕ) (rng : ChaCha) (now : NetState) (m : Shuffling s seed rng now) where
  word_is : (word : ℕ) → word ≡ word_at 10 rng.key rng.stream rng.word_pos → word ≡ stream_word seed 4 (length now.delivered)
  unfolding stream_word
  word_is word e =
      e ∙ ap (λ k. word_at 10 k rng.stream rng.word_pos) m.key
      ∙ ap (λ n. word_at 10 (key_of seed) n rng.word_pos) m.stream
      ∙ ap (λ n. word_at 10 (key_of seed) 4 n) m.place

  chosen_is : (word : ℕ) (next : ChaCha) → (word, next) ≡ next_word 10 rng →
      chosen word (full_links now) ≡ chosen (stream_word seed 4 (length now.delivered)) (full_links now)
  chosen_is word next e = ap (λ w. chosen w (full_links now)) (word_is word (ap (λ (p : ℕ × ChaCha). p.0) e))

  pub shuffling_more : (word : ℕ) (next : ChaCha) (l : Link) (later : NetState) → (word, next) ≡ next_word 10 rng
      → chosen word (full_links now) ≡ Some l → later ≡ after now l → length later.delivered < 2 ^ 63 → Shuffling s seed next later
  shuffling_more word next l later e c is few =
      let on : next ≡ record rng { word_pos = (rng.word_pos + 1) % 2 ^ 68 } = ap (λ (p : ℕ × ChaCha). p.1) e in
      record {
        making = making_more s (stream_word seed 4) now m.making l later (sym (chosen_is word next e) ∙ c) is;
        key = ap (λ (g : ChaCha). g.key) on ∙ m.key;
        stream = ap (λ (g : ChaCha). g.stream) on ∙ m.stream;
        place =
            let a = ap (λ (g : ChaCha). g.word_pos) on in
            let b = one_longer now.delivered l in
            let c = ap (λ (n : NetState). length n.delivered) is in
            let h = m.place in
            let f = m.few in
            omega arith;
        few = few;
      }

  pub shuffled_all : (word : ℕ) (next : ChaCha) (r : Result (Vec Link Global) DeliveryErr) → (word, next) ≡ next_word 10 rng
      → chosen word (full_links now) ≡ None → HasEnded now r → IsNetAnswer (plain_of s) (Shuffled (stream_word seed 4)) r
  shuffled_all word next r e c h =
      all_walked s now m.making.walked (Shuffled (stream_word seed 4)) r
      (all_made s (stream_word seed 4) now m.making (sym (chosen_is word next e) ∙ c)) h
