-- Three miners, of whom one receives a message.
use Rattle.std.proofs.Common.{◌≡◌, ◌≤◌, ℕ, Bool, true, false, if◌then◌else◌, List, [], ◌∷◌, ◌++◌, length, refl, sym, ◌∙◌, ap, subst, arith}
use Rattle.proto_core.specs.declared.party.Number.{Number}
use Rattle.proto_core.specs.declared.party.Number.TheVariants.{One, Two, Three}
use Rattle.proto_core.specs.declared.link.Link.{Link}
use Rattle.proto_core.specs.Parties.{receiver_of, sender_of, is_same, of_three}
use Rattle.proto_core.proofs.Numbers.{same_is}
use Rattle.protocol_model.specs.Network.{Counts, into_counts, none_delivered, one_more, posted_count, stands_at}
use Rattle.counted_net.specs.declared.moves.Move.{Move}
use Rattle.counted_net.specs.declared.moves.Scripts.{Scripts}
use Rattle.counted_net.specs.declared.cursor.Cursor.{Cursor}
use Rattle.counted_net.specs.declared.tally.Tally.{Tally}
use Rattle.counted_net.specs.declared.miners.Miners.{Miners}
use Rattle.counted_net.specs.Scripts.{moves_of}
use Rattle.counted_net.specs.Cursors.{IsSettled, tally_on, unread_in}
use Rattle.counted_net.specs.Nets.{cursor_in, got_of, scripts_in, sent_on, state_of, AreSettled, IsNet, NetState}
use Rattle.counted_net.proofs.Counts.{comes_here, got_few, got_more, into_few, passes_by}

module _ (s : Scripts) (before later : Miners) (l : Link) where
  -- the receiver takes it as it says, and the others are as before
  pub one_receives :
      (j : Number) → receiver_of l ≡ j
      → ((got : Counts) → IsSettled (moves_of s j) got (cursor_in before j) → IsSettled (moves_of s j) (one_more l got) (cursor_in later j))
      → ((i : Number) → is_same j i ≡ false → cursor_in later i ≡ cursor_in before i)
      → (got : Counts) → AreSettled s got before → AreSettled s (one_more l got) later
  one_receives j to receives others got h i = by_miner (is_same (receiver_of l) i) refl
    where
      by_miner : (b : Bool) → is_same (receiver_of l) i ≡ b → IsSettled (moves_of s i) (into_counts i (one_more l got)) (cursor_in later i)
      by_miner true e =
          let here : j ≡ i = sym to ∙ same_is (receiver_of l) i e in
          subst (λ c. IsSettled (moves_of s i) c (cursor_in later i)) (sym (comes_here i l got e))
          (subst (λ k. IsSettled (moves_of s k) (one_more l (into_counts k got)) (cursor_in later k)) here (receives (into_counts j got) (h j)))
      by_miner false e =
          subst (λ c. IsSettled (moves_of s i) c (cursor_in later i)) (sym (passes_by i l got e))
          (subst (λ c. IsSettled (moves_of s i) (into_counts i got) c) (sym (others i (ap (λ k. is_same k i) (sym to) ∙ e))) (h i))

-- ---- one alone has moved

only_first : (m : Miners) (c : Cursor) (i : Number) → is_same One i ≡ false → of_three c m.two m.three i ≡ cursor_in m i
only_first m c One e = absurd cc
only_first m c Two e = refl
only_first m c Three e = refl

only_second : (m : Miners) (c : Cursor) (i : Number) → is_same Two i ≡ false → of_three m.one c m.three i ≡ cursor_in m i
only_second m c One e = refl
only_second m c Two e = absurd cc
only_second m c Three e = refl

only_third : (m : Miners) (c : Cursor) (i : Number) → is_same Three i ≡ false → of_three m.one m.two c i ≡ cursor_in m i
only_third m c One e = refl
only_third m c Two e = refl
only_third m c Three e = absurd cc

-- what a cursor does where a message comes
abbrev pub Receives : List Move → Link → (before later : Cursor) → Type 0
Receives script l before later = (got : Counts) → IsSettled script got before → IsSettled script (one_more l got) later

abbrev pub AllReceive : Scripts → Link → (before later : Miners) → Type 0
AllReceive s l before later = (got : Counts) → AreSettled s got before → AreSettled s (one_more l got) later

module _ (s : Scripts) (m : Miners) (c : Cursor) (l : Link) (script : List Move) where
  pub first_receives : receiver_of l ≡ One → script ≡ s.one.items → Receives script l m.one c
      → AllReceive s l m (record { one = c; two = m.two; three = m.three })
  first_receives to is h =
      one_receives s m (record { one = c; two = m.two; three = m.three }) l One to (subst (λ ms. Receives ms l m.one c) is h) (only_first m c)

  pub second_receives : receiver_of l ≡ Two → script ≡ s.two.items → Receives script l m.two c
      → AllReceive s l m (record { one = m.one; two = c; three = m.three })
  second_receives to is h =
      one_receives s m (record { one = m.one; two = c; three = m.three }) l Two to (subst (λ ms. Receives ms l m.two c) is h) (only_second m c)

  pub third_receives : receiver_of l ≡ Three → script ≡ s.three.items → Receives script l m.three c
      → AllReceive s l m (record { one = m.one; two = m.two; three = c })
  third_receives to is h =
      one_receives s m (record { one = m.one; two = m.two; three = c }) l Three to (subst (λ ms. Receives ms l m.three c) is h) (only_third m c)

-- nothing has come
pub none_came : (s : Scripts) (m : Miners) (first second third : List Move) → first ≡ s.one.items → second ≡ s.two.items → third ≡ s.three.items
    → IsSettled first none_delivered m.one → IsSettled second none_delivered m.two → IsSettled third none_delivered m.three
    → AreSettled s none_delivered m
none_came s m first second third a b c f g h i = subst (λ (n : Counts). IsSettled (moves_of s i) n (cursor_in m i)) (sym none_into) (by_miner i)
  where
    none_into : into_counts i none_delivered ≡ none_delivered
    none_into = λ d. λ l. elim (is_same (receiver_of l) i) as (λ t. ◌≡◌ {A = ℕ} (if t then 0 else 0) 0) [ true ↦ refl | false ↦ refl ] d

    by_miner : (i : Number) → IsSettled (moves_of s i) none_delivered (cursor_in m i)
    by_miner One = subst (λ ms. IsSettled ms none_delivered m.one) a f
    by_miner Two = subst (λ ms. IsSettled ms none_delivered m.two) b g
    by_miner Three = subst (λ ms. IsSettled ms none_delivered m.three) c h

-- ---- the miners of a net

module _ (s : Scripts) (links : List Link) (m : Miners) (given : Tally) (net : NetState) (view : state_of s links ≡ net) (is : IsNet s links m given) where
  pub sent_so : (l : Link) → sent_on m l ≡ posted_count (scripts_in net) (got_of net.delivered) l
  sent_so l = (is.settled (sender_of l)).sent l ∙ ap (λ (n : NetState). posted_count (scripts_in n) (got_of n.delivered) l) view

  pub waits_so : (i : Number) → (cursor_in m i).waits ≡ stands_at (scripts_in net i) (into_counts i (got_of net.delivered))
  waits_so i = (is.settled i).waits ∙ ap (λ (n : NetState). stands_at (scripts_in n i) (into_counts i (got_of n.delivered))) view

  -- no more has come to a miner than deliveries were made
  pub unread_few : (i : Number) (l : Link) → unread_in (cursor_in m i) l ≤ length links
  unread_few i l =
      let a = (is.settled i).behind.few l in
      let b = into_few i l (got_of links) l in
      let c = got_few links l in
      omega arith

  pub given_few : (l : Link) → tally_on given l ≤ length links
  given_few l = let a = is.counted l in let b = got_few links l in omega arith

  pub given_so : (l : Link) → tally_on given l ≡ got_of net.delivered l
  given_so l = is.counted l ∙ ap (λ (n : NetState). got_of n.delivered l) view

-- one delivery more
pub net_more :
    (s : Scripts) (links more : List Link) (l : Link) (before later : Miners) (given counts : Tally) → more ≡ links ++ l ∷ []
    → ((k : Link) → tally_on counts k ≡ one_more l (tally_on given) k)
    → ((got : Counts) → AreSettled s got before → AreSettled s (one_more l got) later)
    → IsNet s links before given → IsNet s more later counts
net_more s links more l before later given counts as_more one_given receives is =
    let got : got_of more ≡ one_more l (got_of links) = ap got_of as_more ∙ got_more links l in
    record {
      settled = subst (λ c. AreSettled s c later) (sym got) (receives (got_of links) is.settled);
      counted = λ k.
          one_given k
          ∙ ap (λ (c : Counts). one_more l c k) (λ d. λ j. is.counted j d)
          ∙ ap (λ (c : Counts). c k) (sym got);
    }
