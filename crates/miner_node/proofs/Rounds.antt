-- What a turn answers, and turns one after another.
use Rattle.std.proofs.Common.{◌≡◌, ℕ, List, ◌++◌, Option, Some, None, Result, Ok, Err, refl, sym, ap, ◌∙◌, subst, true, ◌⊎◌, inl, inr}
use Rattle.std.proofs.lemmas.List.{append_assoc}
use Rattle.outside.specs.Links.{LinksState, Ordered}
use Rattle.proto_core.specs.declared.party.Number.{Number}
use Rattle.proto_core.specs.declared.link.Link.{Link}
use Rattle.proto_core.specs.declared.refused.BadMessage as refusal
use Rattle.proto_core.specs.Parties.{count_of, next_of, previous_of, sender_of, receiver_of}
use Rattle.proto_core.specs.Strand.{Strand, Ends, Acts, Waits}
use Rattle.proto_core.specs.Standing.{AtItsEnd, Awaits, Refuses, standing_with}
use Rattle.proto_core.proofs.Beginnings.{begins-under}
use Rattle.sc_text.specs.declared.end.Ending.{Ending}
use Rattle.miner_core.specs.OwnCode.{Ended}
use Rattle.miner_core.specs.declared.answer.End.{End}
use Rattle.miner_core.specs.declared.answer.End.TheVariants as end
use Rattle.miner_core.specs.declared.answer.Step.{Step}
use Rattle.miner_core.specs.declared.answer.Step.TheVariants as step
use Rattle.miner_core.specs.Story.{Story, received, mail_in, strand_in, node, sent_to_next, sent_to_previous, stands_at, HasEnded, IsAnswer}
use Rattle.wire.specs.declared.fields.Hello.{Hello}
use Rattle.wire.specs.Hellos.{hello_bytes}
use Rattle.miner_node.specs.declared.node_err.NodeErr.{NodeErr}
use Rattle.miner_node.specs.declared.node_err.NodeErr.TheVariants as stop
use Rattle.miner_node.specs.declared.sending.SentCounts.{SentCounts}
use Rattle.miner_node.specs.Faults.{IsLater}
use Rattle.miner_node.specs.Peers.{Sends, SendsFronts}
use Rattle.miner_node.specs.Serving.{Serving, hello_to, after_greeting, serving, serving_messages, frames, frames_to_next, frames_to_previous}
use Rattle.miner_node.specs.Serving.{bytes_to_next, bytes_to_previous}
use Rattle.miner_node.specs.Answers.{HasGreeted, Greets, IsUnread, ReadsMessage}
use Rattle.miner_node.specs.Order.{IsMessageDue}
use Rattle.miner_node.specs.Turns.{SameTask, InOrderSoFar, TakesOfFrame, SendsNew, IsAtEase, Delivers, IsUndelivered, TakesMessage, IsServing, HasFinished, Finishes, StopsServing, TurnGoes}
use Rattle.miner_node.specs.Turns.{TurnAnswers, EndsTurns}
use Rattle.miner_node.specs.Serves.{IsRefusedSo, DeliversOne, HasServed, HasStopped, Exchanges}
use Rattle.miner_node.proofs.Faulting.{later_self, later_on, fault_on}
use Rattle.miner_node.proofs.Ordering.{order_known, order_sent, order_taken, order_read, order_greeting, order_all}
use Rattle.miner_node.proofs.Turning.{mail_more, task_received, task_on, fronts_before, unsent_turn, sent_now, read_now, later_now, fronts_now, finishes, serves_on, undelivered}

-- ---- A DELIVERY

no_refusal : {X : Type 0} (l k : Link) (cause : refusal.BadMessage) → Awaits l ≡ Refuses k cause → X
no_refusal l k cause e = cc

end_refuses : {X : Type 0} (k : Link) (cause : refusal.BadMessage) → AtItsEnd ≡ Refuses k cause → X
end_refuses k cause e = cc

end_stands : (s : Strand Ended) (unread : Link → List (List ℕ)) (e : End) → HasEnded s e → standing_with s unread ≡ AtItsEnd
end_stands (Ends x) unread e h = refl
end_stands (Acts a s) unread e h = absurd h
end_stands (Waits l shape k) unread e h = absurd h

pub at_ease_after : (i : Number) (s : Story) (x : Step) → IsAnswer i s (Ok x) → IsAtEase i s
at_ease_after i s (step.Waits l) h = λ k cause e. no_refusal l k cause (sym h ∙ e)
at_ease_after i s (step.Ended x) h =
    λ k cause e. end_refuses k cause (sym (end_stands (node i s).left (node i s).unread x h) ∙ e)

pub not_own : (i : Number) (link : Link) (s : Story) (a : LinksState) {T : Type 0} → TakesMessage i link s s a a {T = T} (Err stop.Memory)
not_own i link s a = record { ok = tt; did = inl refl; err = tt; sent = refl; later = later_self a }

module _ (i : Number) (link : Link) (own : receiver_of link ≡ i) (s : Story) (c d : LinksState) where
  -- no message was read
  pub unread_is : (e : NodeErr) → IsUnread c d (count_of (sender_of link)) e → IsUndelivered i link s s c d e
  unread_is stop.LinkFault h = record { own = own; fault = h }
  unread_is (stop.PeerMismatch field mine theirs) h = absurd h
  unread_is (stop.BadFrame place) h = record { own = own; malformed = h }
  unread_is (stop.BadMessage at cause) h = absurd h
  unread_is stop.Memory h = tt

  pub untaken : {T : Type 0} (e : NodeErr) → ReadsMessage c d (count_of (sender_of link)) (Err e) → TakesMessage i link s s c d {T = T} (Err e)
  untaken e h = record { ok = tt; did = inr (record { own = own; did = h.did }); err = unread_is e h.err; sent = h.sent; later = h.later }

  module _ (m : List ℕ) (h : ReadsMessage c d (count_of (sender_of link)) (Ok m)) (s2 : Story) where
    delivers : s2 ≡ received i s link m → Delivers i link s s2 c d
    delivers is = record { own = own; message = m; story = is; frame = h.ok }

    refused_so : (e : NodeErr) → IsRefusedSo i s s2 link m e → IsUndelivered i link s s2 c d e
    refused_so stop.LinkFault g = absurd g
    refused_so (stop.PeerMismatch field mine theirs) g = absurd g
    refused_so (stop.BadFrame place) g = absurd g
    refused_so (stop.BadMessage at cause) g = record { delivered = delivers g.0; refuses = g.1 }
    refused_so stop.Memory g = tt

    pub takes : {T : Type 0} (result : Result T NodeErr) → DeliversOne i s s2 link m result → TakesMessage i link s s2 c d result
    takes (Ok x) g = record { ok = (delivers g.ok.0, g.ok.1); did = inr (record { own = own; did = h.did }); err = tt; sent = h.sent; later = h.later }
    takes (Err e) g = record { ok = tt; did = inr (record { own = own; did = h.did }); err = refused_so e g.err; sent = h.sent; later = h.later }

-- ---- A TURN

module _ (i : Number) (a : LinksState) (first : Story) (b c : LinksState) (s : Story) (counts after : SentCounts) (at : IsServing i a b first s counts) where
  pub turn_unsent : {T : Type 0} (e : NodeErr) → SendsNew {T = T} i s counts after b c (Err e) → TurnAnswers i a c first s after (Err e)
  turn_unsent e h =
      record {
        ok = tt;
        err = unsent_turn i a first b c s counts after at e h;
        did = order_known i a first c s (order_sent i a first b c s at.later.told at.order h.did);
        later = later_on at.later h.later;
      }

  module _ {T : Type 0} (x : T) (h : SendsNew {T = T} i s counts after b c (Ok x)) where
    abbrev sent : a.told ≡ true → Sends i a.sent c.sent (frames (sent_to_next i s)) (frames (sent_to_previous i s))
    sent = sent_now i a first b c s counts after at x h

    abbrev later : IsLater a c
    later = later_now i a first b c s counts after at x h

    abbrev order : a.told ≡ true → InOrderSoFar i a c first s
    order = order_sent i a first b c s at.later.told at.order h.did

    pub turn_ended : (ending : Ending) → HasEnded (node i s).left (end.Over ending) → TurnAnswers i a c first s after (Ok (Some ending))
    turn_ended ending is =
        record {
          ok = finishes i a first c c s at.going at.task later (later_self c) (read_now i a first b c s counts after at x h) sent refl ending is;
          err = tt;
          did = order_known i a first c s order;
          later = later;
        }

    pub turn_without_memory : TurnAnswers i a c first s after (Err stop.Memory)
    turn_without_memory =
        record {
          ok = tt;
          err = fronts_now i a first c c s at.going at.task later (later_self c) (read_now i a first b c s counts after at x h) sent refl;
          did = order_known i a first c s order;
          later = later;
        }

    module _ (link : Link) (awaits : stands_at i s ≡ Awaits link) (s2 : Story) (d : LinksState) where
      -- what was taken; of a link that doesn't end here that is nothing
      took_part : (d ≡ c) ⊎ TakesOfFrame i link s s2 c d → Ordered (IsMessageDue i (strand_in i first)) a d
      took_part (inl same) = subst (λ v. Ordered (IsMessageDue i (strand_in i first)) a v) (sym same) (order_known i a first c s order)
      took_part (inr took) = order_taken i a first c s at.task order sent link took.own awaits d (λ t. took.did (later.told ∙ t))

      pub turn_untaken : {U : Type 0} (e : NodeErr) → TakesMessage i link s s2 c d {T = U} (Err e) → TurnAnswers i a d first s2 after (Err e)
      turn_untaken e g =
          record {
            ok = tt;
            err = undelivered i a first c d s at.going at.task later g.later (read_now i a first b c s counts after at x h) sent g.sent link awaits s2 e g.err;
            did = took_part g.did;
            later = later_on later g.later;
          }

      pub turn_taken : {U : Type 0} (y : U) → TakesMessage i link s s2 c d {T = U} (Ok y) → TurnAnswers i a d first s2 after (Ok None)
      turn_taken y g =
          let came = g.ok.0 in
          let mail = ap (mail_in i) came.story ∙ mail_more i s link came.message came.own in
          let task = task_on first s s2 at.task (subst (λ v. SameTask s v) (sym came.story) (task_received i s link came.message)) in
          let read = order_read i a first c s at.task order sent link came.own awaits d s2 came.message mail task g.ok.1 (λ t. came.frame (later.told ∙ t)) in
          record {
            ok = serves_on i a first c d s at.going at.task later g.later (read_now i a first b c s counts after at x h) sent g.sent link awaits s2
                g.ok.0 g.ok.1 read after h.next h.previous;
            err = tt;
            did = order_known i a first d s2 read;
            later = later_on later g.later;
          }

-- ---- TURNS

module _ (i : Number) (a b : LinksState) (first s : Story) (counts : SentCounts) where
  pub turns_end : (o : Option Ending) (ending : Ending) → o ≡ Some ending → TurnAnswers i a b first s counts (Ok o) → EndsTurns i a b first s (Ok ending)
  turns_end o ending is h =
      record { ok = subst (λ (v : Option Ending). TurnGoes i a b first s counts v) is h.ok; err = tt; did = h.did; later = h.later }

  pub turns_stop : (e : NodeErr) → TurnAnswers i a b first s counts (Err e) → EndsTurns i a b first s (Err e)
  turns_stop e h = record { ok = tt; err = h.err; did = h.did; later = h.later }

  pub turns_go : (o : Option Ending) → o ≡ None → TurnAnswers i a b first s counts (Ok o) → IsServing i a b first s counts
  turns_go o is h = subst (λ (v : Option Ending). TurnGoes i a b first s counts v) is h.ok

  pub turns_unended : IsServing i a b first s counts → EndsTurns i a b first s (Err stop.Memory)
  turns_unended h =
      record { ok = tt; err = fronts_before i a first b s counts h; did = order_known i a first b s h.order; later = h.later }

-- ---- HELLOS AND TURNS

module _ (i : Number) (hello : Hello) (a b c : LinksState) (first s : Story) (greets : a.told ≡ true → HasGreeted i hello a b) (later : IsLater a b) where
  abbrev whole : Serving
  whole = serving i hello (strand_in i first) a.coming

  abbrev part : Serving
  part = serving_messages i (strand_in i first) b.coming

  same : a.told ≡ true → whole ≡ part
  same t = ap (after_greeting i (strand_in i first)) (greets t).agreed

  abbrev x : List ℕ
  x = hello_bytes (hello_to hello (next_of i))

  abbrev y : List ℕ
  y = hello_bytes (hello_to hello (previous_of i))

  sends_behind : (t : a.told ≡ true) → Sends i b.sent c.sent (frames_to_next i part.acts) (frames_to_previous i part.acts)
      → Sends i a.sent c.sent (bytes_to_next i hello whole.acts) (bytes_to_previous i hello whole.acts)
  sends_behind t h =
      let said = (greets t).sent in
      subst (λ r. Sends i a.sent c.sent (bytes_to_next i hello r.acts) (bytes_to_previous i hello r.acts)) (sym (same t))
      record {
        to_next = h.to_next ∙ ap (λ (w : List ℕ). w ++ frames_to_next i part.acts) said.to_next
            ∙ append_assoc (a.sent (count_of (next_of i))) x (frames_to_next i part.acts);
        to_previous = h.to_previous ∙ ap (λ (w : List ℕ). w ++ frames_to_previous i part.acts) said.to_previous
            ∙ append_assoc (a.sent (count_of (previous_of i))) y (frames_to_previous i part.acts);
        others = λ p apart apart2. h.others p apart apart2 ∙ said.others p apart apart2;
      }

  fronts_behind : (t : a.told ≡ true) → SendsFronts i b.sent c.sent (frames_to_next i part.acts) (frames_to_previous i part.acts)
      → SendsFronts i a.sent c.sent (bytes_to_next i hello whole.acts) (bytes_to_previous i hello whole.acts)
  fronts_behind t h =
      let said = (greets t).sent in
      let front = h.to_next.0 in
      let front2 = h.to_previous.0 in
      subst (λ r. SendsFronts i a.sent c.sent (bytes_to_next i hello r.acts) (bytes_to_previous i hello r.acts)) (sym (same t))
      record {
        to_next = (
          x ++ front,
          begins-under x front (frames_to_next i part.acts) h.to_next.1,
          h.to_next.2 ∙ ap (λ (w : List ℕ). w ++ front) said.to_next ∙ append_assoc (a.sent (count_of (next_of i))) x front,
        );
        to_previous = (
          y ++ front2,
          begins-under y front2 (frames_to_previous i part.acts) h.to_previous.1,
          h.to_previous.2 ∙ ap (λ (w : List ℕ). w ++ front2) said.to_previous ∙ append_assoc (a.sent (count_of (previous_of i))) y front2,
        );
        others = λ p apart apart2. h.others p apart apart2 ∙ said.others p apart apart2;
      }

  stops_behind : (e : NodeErr) → StopsServing i b c first e → HasStopped i hello a c first e
  stops_behind stop.LinkFault h = (
    fault_on later h.0 (λ dry t. ap (λ r. r.outcome) (same t) ∙ dry (later.told ∙ t)),
    λ t. fronts_behind t (h.1 (later.told ∙ t)),
  )
  stops_behind (stop.PeerMismatch field mine theirs) h =
      λ t. let g = h (later.told ∙ t) in (ap (λ r. r.outcome) (same t) ∙ g.0, sends_behind t g.1)
  stops_behind (stop.BadFrame place) h =
      λ t. let g = h (later.told ∙ t) in (ap (λ r. r.outcome) (same t) ∙ g.0, sends_behind t g.1)
  stops_behind (stop.BadMessage at cause) h =
      λ t. let g = h (later.told ∙ t) in (ap (λ r. r.outcome) (same t) ∙ g.0, sends_behind t g.1)
  stops_behind stop.Memory h = λ t. fronts_behind t (h (later.told ∙ t))

  finished_behind : (ending : Ending) → Finishes i b c first s ending → HasServed i hello a c first s ending
  finished_behind ending h =
      record {
        going = h.going;
        task = h.task;
        ended = h.ended;
        served = λ t. subst (λ r. HasFinished i s r) (sym (same t)) (h.served (later.told ∙ t));
        sent = λ t. sends_behind t (h.sent (later.told ∙ t));
      }

  pub exchanges : (result : Result Ending NodeErr) → EndsTurns i b c first s result → Exchanges i hello a c first s result
  exchanges (Ok ending) h =
      record {
        ok = finished_behind ending h.ok;
        err = tt;
        order = order_all i hello (strand_in i first) a b c later.told greets h.did;
        later = later_on later h.later;
      }
  exchanges (Err e) h =
      record {
        ok = tt;
        err = stops_behind e h.err;
        order = order_all i hello (strand_in i first) a b c later.told greets h.did;
        later = later_on later h.later;
      }

-- ---- BOTH

module _ (i : Number) (hello : Hello) (a b : LinksState) (first s : Story) where
  pub ungreeted : {T : Type 0} (e : NodeErr) → Greets i hello a b {T = T} (Err e) → Exchanges i hello a b first s (Err e)
  ungreeted e h =
      record { ok = tt; err = h.err (strand_in i first); order = order_greeting i hello (strand_in i first) a b h.did; later = h.later }

  pub exchanged : {T : Type 0} (u : T) → Greets i hello a b {T = T} (Ok u) → (c : LinksState) (result : Result Ending NodeErr)
      → EndsTurns i b c first s result → Exchanges i hello a c first s result
  exchanged u h c result ends = exchanges i hello a b c first s h.ok h.later result ends
