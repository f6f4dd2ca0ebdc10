-- Three miners that do the same as three others, but for what they tell: under every schedule.
use Rattle.std.proofs.Common.{◌≡◌, ℕ, zero, suc, ◌+◌, ◌≤◌, if◌then◌else◌, List, [], ◌∷◌, ◌++◌, length, refl, sym, ◌∙◌, ap, subst}
use Rattle.std.specs.Prelude.{nat_lt}
use Rattle.proto_core.specs.declared.party.Number.{Number}
use Rattle.proto_core.specs.declared.link.Link.{Link}
use Rattle.proto_core.specs.Parties.{sender_of}
use Rattle.proto_core.specs.Strand.{same_link, Mail, Strand, Begins, next_after}
use Rattle.proto_core.specs.Script.{Move}
use Rattle.proto_core.specs.Net.{into, run_of, nothing, posted, delivered, all_delivered, opened_by, rounds, MailBegins, Finishes}
use Rattle.proto_core.proofs.Beginnings.{begins-trans, begins-self}
use Rattle.proto_core.proofs.Nets.{into-more, posted-more, delivered-begins, covers, schedule-begins, complete-is}
use Rattle.protocol_model.specs.Along.{MovesAlong}
use Rattle.protocol_model.specs.Complete.{IsComplete}
use Rattle.protocol_model.specs.Schedules.{AnyOrder}
use Rattle.protocol_model.specs.Network.{Answer, Accepted, EmptyLink, at_the_end, walked, counted, counts, made_order, total}
use Rattle.protocol_model.proofs.NetCounts.{walked-counted}
use Rattle.protocol_model.proofs.MadeOrders.{made-accepted}
use Rattle.protocol_model.proofs.Completing.{accepted-complete}
use Rattle.driven_nodes.specs.Alike.{SameRun, AreAlike}

module _ {A B : Type 0} (made : B → A) (nodes : Number → Strand A) (known : Number → Strand B) (full : Mail) (alike : AreAlike made full nodes known) where
  same_at : (x : Mail) → MailBegins x full → (i : Number) → SameRun made (run_of nodes x i) (run_of known x i)
  same_at x h i = alike i (into i x) (into-more known i x full h)

  pub posted_same : (x : Mail) → MailBegins x full → (l : Link) → posted nodes x l ≡ posted known x l
  posted_same x h l = (same_at x h (sender_of l)).sent l

  pub opened_same : (x : Mail) → MailBegins x full → (i : Number) → opened_by nodes x i ≡ opened_by known x i
  opened_same x h i = (same_at x h i).opened

  module _ (outputs : Number → B) (finishes : Finishes known full outputs) where
    -- what is sent with a part of the messages is a part of them
    within : (x : Mail) → MailBegins x full → MailBegins (posted known x) full
    within x h l = begins-trans _ _ _ (posted-more known x full h l) (covers known full outputs finishes l)

    -- every schedule, from any state, comes to the same answer
    pub walked_same : (order : List Link) (entry : ℕ) (x : Mail) → MailBegins x full → walked nodes entry x order ≡ walked known entry x order
    walked_same [] entry x h = ap at_the_end (λ d. λ i. (same_at x h i).waits d)
    walked_same (l ∷ ls) entry x h =
        let same : length (posted nodes x l) ≡ length (posted known x l) = ap length (posted_same x h l) in
        let both : delivered nodes x l ≡ delivered known x l = λ d. λ j. at_link j d in
        ap (λ n. if nat_lt (length (x l)) n then walked nodes (entry + 1) (delivered nodes x l) ls else EmptyLink entry l n) same
        ∙ ap (λ m. go_on (walked nodes (entry + 1) m ls)) both
        ∙ ap go_on (walked_same ls (entry + 1) (delivered known x l) (delivered-begins known x full l h (within x h)))
      where
        go_on : Answer → Answer
        go_on answer = if nat_lt (length (x l)) (length (posted known x l)) then answer else EmptyLink entry l (length (posted known x l))

        at_link : (j : Link) → delivered nodes x l j ≡ delivered known x l j
        at_link j = ap (λ v. if same_link l j then x j ++ next_after (x j) v else x j) (posted_same x h j)

    rounds_same : (n : ℕ) → (rounds nodes n nothing ≡ rounds known n nothing) × MailBegins (rounds known n nothing) full
    rounds_same zero = (refl, λ l. tt)
    rounds_same (suc n) =
        let h = rounds_same n in (
          ap (posted nodes) h.0 ∙ (λ d. λ l. posted_same (rounds known n nothing) h.1 l d),
          within (rounds known n nothing) h.1,
        )

    -- they finish with the same messages
    pub finish_too : Finishes nodes full (λ i. made (outputs i))
    finish_too =
        record {
          sent = λ l. posted_same full all l ∙ finishes.sent l;
          ended = λ i. (same_at full all i).ends (outputs i) (finishes.ended i);
          read = λ i. (same_at full all i).unread ∙ finishes.read i;
          count = finishes.count;
          all = λ l. subst (λ m. Begins (full l) (m l)) (sym (rounds_same finishes.count).0) (finishes.all l);
        }
      where
        all : MailBegins full full
        all l = begins-self (full l)

    -- ---- with scripts of the others

    module _ (scripts : Number → List Move) (moves : (i : Number) → MovesAlong (known i) (scripts i) (into i full)) where
      pub alike_schedules_are_counted :
          (order : List Link) (entry : ℕ) (mail : Mail) → MailBegins mail full →
          walked nodes entry mail order ≡ counted scripts entry (counts mail) order
      alike_schedules_are_counted order entry mail begins =
          walked_same order entry mail begins ∙ walked-counted known scripts full outputs finishes moves order entry mail begins

      pub alike_made_orders_are_accepted :
          (words : ℕ → ℕ) (fuel entry : ℕ) (mail : Mail) → MailBegins mail full → total (counts full) ≤ total (counts mail) + fuel →
          walked nodes entry mail (made_order scripts words fuel entry (counts mail)) ≡ Accepted
      alike_made_orders_are_accepted words fuel entry mail begins enough =
          alike_schedules_are_counted (made_order scripts words fuel entry (counts mail)) entry mail begins
          ∙ made-accepted known scripts full outputs finishes moves words fuel entry mail begins enough

    -- ---- so every order is the run

    pub alike_orders_are_the_run : (order : List Link) → AnyOrder nodes full order
    alike_orders_are_the_run order =
        record {
          begins = schedule-begins nodes full _ finish_too order;
          complete = complete-is nodes full _ finish_too order;
        }

    pub alike_accepted_orders_are_complete :
        (order : List Link) (entry : ℕ) (mail : Mail) → MailBegins mail full → walked nodes entry mail order ≡ Accepted →
        IsComplete nodes full (λ i. made (outputs i)) (all_delivered nodes mail order)
    alike_accepted_orders_are_complete = accepted-complete nodes full (λ i. made (outputs i)) finish_too
