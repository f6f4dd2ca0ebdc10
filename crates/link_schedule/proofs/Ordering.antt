-- A net whose miners draw, under orders that it makes itself and under schedules.
use Rattle.std.proofs.Common.{◌≡◌, ℕ, ◌+◌, ◌<◌, ◌≤◌, ◌^◌, true, false, List, [], ◌∷◌, length, get_or, refl, sym, ◌∙◌, ap, subst}
use Rattle.std.specs.Prelude.{Option, Some, None, Result, Ok, Err, OnOk}
use Rattle.outside.specs.Tapes.{TapesState}
use Rattle.proto_core.specs.declared.link.Link.{Link}
use Rattle.protocol_model.specs.Network.{chosen}
use Rattle.rand_chacha.specs.ChaCha.{ChaCha, key_of, next_word}
use Rattle.tape_file.specs.Seeds.{stream_word}
use Rattle.miner_core.specs.declared.answer.Lost.{Lost}
use Rattle.miner_core.specs.Streams.{has_lost}
use Rattle.link_schedule.specs.declared.errors.DeliverErr.{DeliverErr}
use Rattle.link_schedule.specs.declared.errors.DeliverErr.TheVariants as delivering
use Rattle.link_schedule.specs.declared.errors.RunErr.{RunErr}
use Rattle.link_schedule.specs.declared.errors.RunErr.TheVariants as running
use Rattle.link_schedule.specs.Answers.{DeliverAnswers, RunAnswers, EndAnswers}
use Rattle.link_schedule.specs.Net.{NetState, net_posted, is_under_way, after}
use Rattle.link_schedule.specs.Orders.{Makes}
use Rattle.link_schedule.specs.Streams.{StreamNet, with_tapes, ForEachTapes, HasLeft, Along, delivery_lost, run_lost}
use Rattle.link_schedule.proofs.Along.{along_here, along_start, along_at, along_less, along_more, never}
use Rattle.link_schedule.proofs.Entries.{AtEntry, at_first, at_next, at_empty, at_end}
use Rattle.link_schedule.proofs.Making.{Making, Shuffling, net_full, making_none, making_more, making_all, shuffling_none, shuffling_more, shuffling_all}

-- a delivery on a full link
abbrev pub Delivered : Link → Result (Unit {0}) Lost → NetState → NetState → Type 0
Delivered l r x y = OnOk r (y ≡ after x (l ∷ []))

-- on one that is known to be full
pub delivered_full :
    (s t : StreamNet) (a b : TapesState) (l : Link) → s.lost ≡ None → HasLeft s a → ForEachTapes s (λ net. is_under_way net l ≡ true) →
    Along s t a b None (Delivered l (Ok tt)) → Along s t a b None (λ x y. DeliverAnswers x y l (Ok tt))
delivered_full s t a b l going left full d =
    along_more s s a a (λ x y. (y ≡ x) × (is_under_way x l ≡ true)) t b None (Delivered l (Ok tt)) (λ x y. DeliverAnswers x y l (Ok tt))
    (along_here s a (λ x y. (y ≡ x) × (is_under_way x l ≡ true)) going left (λ tapes may. (refl, full going tapes may))) d
    (λ x y z q r. (q.1, r ∙ ap (λ n. after n (l ∷ [])) q.0))

-- ---- an order so far

module _ (words : ℕ → ℕ) where
  pub making_start : (s : StreamNet) (a : TapesState) → s.lost ≡ None → HasLeft s a → Along s s a a None (Making words)
  making_start s a going left = along_start s a (Making words) going left (λ tapes. making_none words (with_tapes s tapes) (ap has_lost going))

module _ (word : ℕ) (s t : StreamNet) (a b : TapesState) (chose : Option Link)
    (choice : ForEachTapes t (λ net. chose ≡ chosen word (net_full net))) where
  abbrev Chose : Option Link → NetState → Type 0
  Chose o net = chosen word (net_full net) ≡ o

  -- in turn
  module _ (h : Along s t a b None (Making (λ k. word))) where
    known : (o : Option Link) → chose ≡ o → Along s t a b None (λ x y. Making (λ k. word) x y × Chose o y)
    known o is =
        along_at s t a b (Making (λ k. word)) (λ x y. Chose o y) (λ x y. Making (λ k. word) x y × Chose o y) h
        (λ tapes may. sym (choice h.state.going tapes may) ∙ is) (λ x y m c. (m, c))

    pub making_on : (l : Link) (u : StreamNet) (c : TapesState) → chose ≡ Some l → Along t u b c None (Delivered l (Ok tt)) →
        Along s u a c None (Making (λ k. word))
    making_on l u c is d =
        along_more s t a b (λ x y. Making (λ k. word) x y × Chose (Some l) y) u c None (Delivered l (Ok tt)) (Making (λ k. word)) (known (Some l) is) d
        (λ x y z m e. making_more (λ k. word) x y m.0 l z m.1 e)

    pub making_end : chose ≡ None → Along s t a b None (Makes (λ k. word))
    making_end is =
        along_less s t a b (λ x y. Making (λ k. word) x y × Chose None y) None (Makes (λ k. word)) (known None is)
        (λ x y m. making_all (λ k. word) x y m.0 m.1)

-- it is lost on the way
pub lost_on :
    (s t u : StreamNet) (a b c : TapesState) (Q R S : (before after : NetState) → Type 0) (why : Lost) → Along s t a b None Q → Along t u b c (Some why) R →
    ((x y : NetState) → S x y) → Along s u a c (Some why) S
lost_on s t u a b c Q R S why h k each = along_more s t a b Q u c (Some why) R S h k (λ x y z q r. each x z)

-- by words of a generator
pub shuffling_start :
    (seed : List ℕ) (rng : ChaCha) (s : StreamNet) (a : TapesState) → s.lost ≡ None → HasLeft s a → rng.key ≡ key_of seed → rng.stream ≡ 4 →
    rng.word_pos ≡ 0 → length s.delivered ≤ 2 ^ 63 → Along s s a a None (Shuffling seed rng)
shuffling_start seed rng s a going left key stream place few =
    along_start s a (Shuffling seed rng) going left
    (λ tapes. shuffling_none seed rng (with_tapes s tapes) (ap has_lost going) key stream place few)

module _ (seed : List ℕ) (rng next : ChaCha) (word : ℕ) (s t : StreamNet) (a b : TapesState) (chose : Option Link)
    (choice : ForEachTapes t (λ net. chose ≡ chosen word (net_full net))) (drawn : (word, next) ≡ next_word 10 rng)
    (h : Along s t a b None (Shuffling seed rng)) where
  abbrev Knows : Option Link → NetState → NetState → Type 0
  Knows o x y = Shuffling seed rng x y × (chosen word (net_full y) ≡ o)

  shuffling_known : (o : Option Link) → chose ≡ o → Along s t a b None (Knows o)
  shuffling_known o is =
      along_at s t a b (Shuffling seed rng) (λ x y. chosen word (net_full y) ≡ o) (Knows o) h
      (λ tapes may. sym (choice h.state.going tapes may) ∙ is) (λ x y m c. (m, c))

  pub shuffling_on : (l : Link) (u : StreamNet) (c : TapesState) → chose ≡ Some l → length t.delivered < 2 ^ 63 → Along t u b c None (Delivered l (Ok tt)) →
      Along s u a c None (Shuffling seed next)
  shuffling_on l u c is below d =
      along_more s t a b (λ x y. Knows (Some l) x y × (length y.delivered < 2 ^ 63)) u c None (Delivered l (Ok tt)) (Shuffling seed next)
      (along_at s t a b (Knows (Some l)) (λ x y. length y.delivered < 2 ^ 63) (λ x y. Knows (Some l) x y × (length y.delivered < 2 ^ 63))
      (shuffling_known (Some l) is) (λ tapes may. below) (λ x y m c. (m, c)))
      d (λ x y z m e. shuffling_more seed rng x y m.0.0 word next l z drawn m.1 m.0.1 e)

  pub shuffling_end : chose ≡ None → Along s t a b None (Makes (stream_word seed 4))
  shuffling_end is =
      along_less s t a b (Knows None) None (Makes (stream_word seed 4)) (shuffling_known None is)
      (λ x y m. shuffling_all seed rng x y m.0 word next drawn m.1)

-- ---- a schedule

abbrev pub At : List Link → ℕ → NetState → NetState → Type 0
At schedule k x y = AtEntry x y schedule k

pub entry_start : (s : StreamNet) (a : TapesState) (schedule : List Link) → s.lost ≡ None → HasLeft s a → Along s s a a None (At schedule 0)
entry_start s a schedule going left = along_start s a (At schedule 0) going left (λ tapes. at_first (with_tapes s tapes) schedule (ap has_lost going))

module _ (s t u : StreamNet) (a b c : TapesState) (schedule : List Link) (k : ℕ) (below : k < length schedule) (d l : Link) (is : l ≡ get_or schedule k d)
    (h : Along s t a b None (At schedule k)) where
  pub entry_on : Along t u b c None (λ x y. DeliverAnswers x y l (Ok tt)) → Along s u a c None (At schedule (k + 1))
  entry_on e =
      along_more s t a b (At schedule k) u c None (λ x y. DeliverAnswers x y l (Ok tt)) (At schedule (k + 1)) h e
      (λ x y z m g.
      at_next x y schedule k m d z below (subst (λ j. is_under_way y j ≡ true) is g.0) (subst (λ j. z ≡ after y (j ∷ [])) is g.1))

  entry_empty_so : (entry : ℕ) (link : Link) (sent : ℕ) →
      Along t u b c None (λ x y. DeliverAnswers x y l (Err (delivering.EmptyLink entry link sent))) →
      Along s u a c None (λ x y. RunAnswers x y schedule (Err (running.EmptyLink entry link sent)))
  entry_empty_so entry link sent e =
      along_more s t a b (At schedule k) u c None (λ x y. DeliverAnswers x y l (Err (delivering.EmptyLink entry link sent)))
      (λ x y. RunAnswers x y schedule (Err (running.EmptyLink entry link sent))) h e
      (λ x y z m g.
      at_empty x y schedule k m d z entry link sent below (subst (λ j. is_under_way y j ≡ false) is g.0) g.1 (g.2 ∙ is)
      (g.3 ∙ ap (λ j. length (net_posted y j)) is) g.4)

  -- as the delivery has answered
  abbrev pub Answered : DeliverErr → Type 0
  Answered e = Along t u b c (delivery_lost (Err e)) (λ x y. DeliverAnswers x y l (Err e))

  pub entry_empty : (entry : ℕ) (link : Link) (sent : ℕ) (e : DeliverErr) → e ≡ delivering.EmptyLink entry link sent → Answered e →
      Along s u a c None (λ x y. RunAnswers x y schedule (Err (running.EmptyLink entry link sent)))
  entry_empty entry link sent e same k = entry_empty_so entry link sent (subst Answered same k)

  entry_lost_so : (why : Lost) → Along t u b c (Some why) (λ x y. DeliverAnswers x y l (Err (delivering.Lost why))) →
      Along s u a c (Some why) (λ x y. RunAnswers x y schedule (Err (running.Lost why)))
  entry_lost_so why e =
      lost_on s t u a b c (At schedule k) (λ x y. DeliverAnswers x y l (Err (delivering.Lost why)))
      (λ x y. RunAnswers x y schedule (Err (running.Lost why))) why h e (λ x y. tt)

module _ (s t u : StreamNet) (a b c : TapesState) (schedule : List Link) (k : ℕ) (below : k < length schedule) (d l : Link) (is : l ≡ get_or schedule k d)
    (h : Along s t a b None (At schedule k)) where
  pub entry_lost : (why : Lost) (e : DeliverErr) → e ≡ delivering.Lost why → Answered s t u a b c schedule k below d l is h e →
      Along s u a c (Some why) (λ x y. RunAnswers x y schedule (Err (running.Lost why)))
  entry_lost why e same e_is =
      entry_lost_so s t u a b c schedule k below d l is h why (subst (Answered s t u a b c schedule k below d l is h) same e_is)

no_lost : (t : StreamNet) → t.lost ≡ None → (r : Result (Unit {0}) RunErr) → ForEachTapes t (λ net. EndAnswers net r) → run_lost r ≡ None
no_lost t going (Ok done) ends = refl
no_lost t going (Err (running.EmptyLink entry link sent)) ends = refl
no_lost t going (Err (running.Stalled miner link)) ends = refl
no_lost t going (Err (running.Lost why)) ends = never t (λ net. EndAnswers net (Err (running.Lost why))) going ends (λ net h. h)

pub entry_end : (s t : StreamNet) (a b : TapesState) (schedule : List Link) (k : ℕ) → k ≡ length schedule → Along s t a b None (At schedule k) →
    (r : Result (Unit {0}) RunErr) → ForEachTapes t (λ net. EndAnswers net r) → Along s t a b (run_lost r) (λ x y. RunAnswers x y schedule r)
entry_end s t a b schedule k all h r ends =
    subst (λ o. Along s t a b o (λ x y. RunAnswers x y schedule r)) (sym (no_lost t h.state.going r ends))
    (along_at s t a b (At schedule k) (λ x y. EndAnswers y r) (λ x y. RunAnswers x y schedule r) h (λ tapes may. ends h.state.going tapes may)
    (λ x y m e. at_end x y schedule k m r all e))
