-- A net that makes an order of deliveries.
use Rattle.std.proofs.Common.{◌≡◌, ℕ, ◌+◌, ◌<◌, ◌≤◌, ◌%◌, ◌^◌, true, false, List, [], ◌∷◌, ◌++◌, length}
use Rattle.std.proofs.Common.{length-append, refl, sym, ◌∙◌, ap, subst, arith}
use Rattle.std.specs.Prelude.{Some, None}
use Rattle.proto_core.specs.declared.link.Link.{Link}
use Rattle.proto_core.specs.Net.{delivered}
use Rattle.protocol_model.specs.Network.{all_links, chosen}
use Rattle.rand_chacha.specs.ChaCha.{ChaCha, key_of, word_at, next_word}
use Rattle.tape_file.specs.Seeds.{stream_word}
use Rattle.link_schedule.specs.Net.{NetState, nodes_in, net_mail, is_under_way, after}
use Rattle.link_schedule.specs.Orders.{full_links, Makes}
use Rattle.link_schedule.proofs.Joining.{after_mail}
use Rattle.link_schedule.proofs.Entries.{after_none, after_twice}
use Rattle.protocol_model.proofs.Choosing.{in_those, one_longer}
use Rattle.protocol_model.proofs.MadeOrders.{none_chosen}
use Rattle.link_schedule.proofs.Walks.{MadeSoFar, made_none, made_more, made_all}

-- ---- choosing

pub none_there : (word : ℕ) (ls : List Link) → length ls ≡ 0 → chosen word ls ≡ None
none_there word [] h = refl
none_there word (l ∷ ls) h = absurd (omega (arith, h))

abbrev pub net_full : NetState → List Link
net_full net = full_links (nodes_in net) (net_mail net)

-- a link that was chosen has a message under way
pub chosen_full : (net : NetState) (word : ℕ) (l : Link) → chosen word (net_full net) ≡ Some l → is_under_way net l ≡ true
chosen_full net word l e = in_those (is_under_way net) all_links (word % length (net_full net)) l e

-- ---- an order so far

pub record Making (words : ℕ → ℕ) (old now : NetState) : Type 0 where
  pub going : now.lost ≡ false
  pub order : List Link
  pub here : now ≡ after old order
  pub made : MadeSoFar (nodes_in old) words (net_mail old) (net_mail now) order

-- how many deliveries there were
abbrev pub so_far : {words : ℕ → ℕ} {old now : NetState} → Making words old now → ℕ
so_far m = length m.order

pub making_none : (words : ℕ → ℕ) (old : NetState) → old.lost ≡ false → Making words old old
making_none words old h = record { going = h; order = []; here = sym (after_none old); made = made_none (nodes_in old) words (net_mail old) }

module _ (words : ℕ → ℕ) (old now : NetState) (m : Making words old now) where
  full_is : full_links (nodes_in old) (net_mail now) ≡ net_full now
  full_is = ap (λ (n : NetState). full_links (nodes_in n) (net_mail now)) (sym m.here)

  next_mail : (l : Link) → delivered (nodes_in old) (net_mail now) l ≡ net_mail (after now (l ∷ []))
  next_mail l = ap (λ (n : NetState). delivered (nodes_in n) (net_mail now) l) (sym m.here) ∙ sym (after_mail now (l ∷ []))

  pub making_more : (l : Link) (then : NetState) → chosen (words (length m.order)) (net_full now) ≡ Some l → then ≡ after now (l ∷ []) → Making words old then
  making_more l then e is =
      record {
        going = ap (λ (n : NetState). n.lost) is ∙ m.going;
        order = m.order ++ l ∷ [];
        here = is ∙ ap (λ n. after n (l ∷ [])) m.here ∙ after_twice old m.order (l ∷ []);
        made =
            subst (λ x. MadeSoFar (nodes_in old) words (net_mail old) x (m.order ++ l ∷ [])) (next_mail l ∙ ap net_mail (sym is))
            (made_more (nodes_in old) words (net_mail old) (net_mail now) m.order l m.made (ap (chosen (words (length m.order))) full_is ∙ e));
      }

  pub making_all : chosen (words (length m.order)) (net_full now) ≡ None → Makes words old now
  making_all e =
      record {
        order = m.order;
        made = made_all (nodes_in old) words (net_mail old) (net_mail now) m.order m.made (full_is ∙ none_chosen (words (length m.order)) (net_full now) e);
        comes = m.here;
      }

-- ---- words of a generator

-- the generator gives the word of the next delivery
pub record Shuffling (seed : List ℕ) (rng : ChaCha) (old now : NetState) : Type 0 where
  pub making : Making (stream_word seed 4) old now
  pub key : rng.key ≡ key_of seed
  pub stream : rng.stream ≡ 4
  pub place : rng.word_pos ≡ length making.order
  pub few : length now.delivered ≤ 2 ^ 63

pub shuffling_none : (seed : List ℕ) (rng : ChaCha) (old : NetState) → old.lost ≡ false → rng.key ≡ key_of seed → rng.stream ≡ 4 → rng.word_pos ≡ 0 →
    length old.delivered ≤ 2 ^ 63 → Shuffling seed rng old old
unfolding making_none
shuffling_none seed rng old going key stream place few =
    record { making = making_none (stream_word seed 4) old going; key = key; stream = stream; place = place; few = few }

module _ (seed : List ℕ) (rng : ChaCha) (old now : NetState) (s : Shuffling seed rng old now) where
  word_is : (word : ℕ) → word ≡ word_at 10 rng.key rng.stream rng.word_pos → word ≡ stream_word seed 4 (length s.making.order)
  unfolding stream_word
  word_is word e =
      e ∙ ap (λ k. word_at 10 k rng.stream rng.word_pos) s.key
      ∙ ap (λ n. word_at 10 (key_of seed) n rng.word_pos) s.stream
      ∙ ap (λ n. word_at 10 (key_of seed) 4 n) s.place

  chosen_is : (word : ℕ) (next : ChaCha) → (word, next) ≡ next_word 10 rng →
      chosen word (net_full now) ≡ chosen (stream_word seed 4 (length s.making.order)) (net_full now)
  chosen_is word next e = ap (λ w. chosen w (net_full now)) (word_is word (ap (λ (p : ℕ × ChaCha). p.0) e))

  pub shuffling_more : (word : ℕ) (next : ChaCha) (l : Link) (then : NetState) → (word, next) ≡ next_word 10 rng → length now.delivered < 2 ^ 63 →
      chosen word (net_full now) ≡ Some l → then ≡ after now (l ∷ []) → Shuffling seed next old then
  unfolding making_more
  shuffling_more word next l then e below c is =
      let on : next ≡ record rng { word_pos = (rng.word_pos + 1) % 2 ^ 68 } = ap (λ (p : ℕ × ChaCha). p.1) e in
      record {
        making = making_more (stream_word seed 4) old now s.making l then (sym (chosen_is word next e) ∙ c) is;
        key = ap (λ (g : ChaCha). g.key) on ∙ s.key;
        stream = ap (λ (g : ChaCha). g.stream) on ∙ s.stream;
        place =
            let a = ap (λ (g : ChaCha). g.word_pos) on in
            let b = one_longer s.making.order l in
            let c = ap (λ (n : NetState). length n.delivered) s.making.here in
            let d = length-append old.delivered s.making.order in
            let h = s.place in
            omega arith;
        few =
            let a = ap (λ (n : NetState). length n.delivered) is in
            let b = one_longer now.delivered l in
            omega arith;
      }

  pub shuffling_all : (word : ℕ) (next : ChaCha) → (word, next) ≡ next_word 10 rng → chosen word (net_full now) ≡ None → Makes (stream_word seed 4) old now
  shuffling_all word next e c = making_all (stream_word seed 4) old now s.making (sym (chosen_is word next e) ∙ c)
