-- A node's calls of its links are in order.
use Rattle.std.proofs.Common.{◌≡◌, ◌≢◌, ℕ, List, [], ◌++◌, Some, refl, sym, ap, ◌∙◌, subst, true}
use Rattle.std.proofs.lemmas.List.{append-nil, append_cancel_left}
use Rattle.outside.specs.Links.{LinksState, no_bytes, bytes_of, and_then, Did, Ordered}
use Rattle.outside.proofs.Moves.{then_none, then_assoc, bytes_here, bytes_elsewhere, did_none, did_as, did_on, did_then_give, did_then_take}
use Rattle.proto_core.specs.declared.party.Number.{Number}
use Rattle.proto_core.specs.declared.link.Link.{Link}
use Rattle.proto_core.specs.declared.refused.BadMessage.{BadMessage}
use Rattle.proto_core.specs.Parties.{count_of, next_of, previous_of, sender_of, receiver_of}
use Rattle.proto_core.specs.Strand.{Mail, Strand, run}
use Rattle.proto_core.specs.Net.{added, nothing}
use Rattle.proto_core.specs.Standing.{Standing, AtItsEnd, Awaits, Refuses, standing_of}
use Rattle.served_bytes.specs.Front.{Whole, Truncated}
use Rattle.served_bytes.specs.Served.{Coming, OutOfBytes, with_rest}
use Rattle.served_bytes.specs.Reading.{only, HasRead, StopsWith, OnMessage, OnFrame}
use Rattle.served_bytes.proofs.Frames.{reads_frame_by_frame}
use Rattle.miner_core.specs.OwnCode.{Ended}
use Rattle.miner_core.specs.Story.{Story, mail_in, strand_in, node, sent_to_next, sent_to_previous, stands_at}
use Rattle.wire.specs.declared.fields.Hello.{Hello}
use Rattle.wire.specs.Frames.{framed}
use Rattle.wire.specs.Hellos.{hello_bytes}
use Rattle.miner_node.specs.declared.sending.SentCounts.{SentCounts}
use Rattle.miner_node.specs.Order.{GivesOnly, IsMessageDue, IsUnfinished, IsDue, IsHelloDue, InOrder, awaited_at, awaited_message, hello_first}
use Rattle.miner_node.specs.Peers.{lower_peer, higher_peer, coming_to, Sends}
use Rattle.miner_node.specs.Serving.{Agreed, hello_to, heard, then_hear, after_greeting, serving_messages, frames, frames_to_next, frames_to_previous}
use Rattle.miner_node.specs.Answers.{ReadsOne, HasGreeted}
use Rattle.miner_node.specs.Turns.{IsAtEase, SameTask, ReadsOn, InOrderSoFar}
use Rattle.miner_node.proofs.Turning.{node_is, coming_at, rest_is}

-- ---- WHAT IS READ

module _ (i : Number) (strand : Strand Ended) (mail : Mail) (taken : ℕ → List ℕ) (reads : ReadsOn i strand mail taken) (link : Link)
    (own : receiver_of link ≡ i) (standing : standing_of (run strand mail) ≡ Awaits link) where
  abbrev peer : ℕ
  peer = count_of (sender_of link)

  -- when part of a frame has come
  stops_there : (came : ℕ → List ℕ) (xs : List ℕ) → framed xs ≡ Truncated → came ≡ bytes_of peer xs
      → StopsWith framed strand (coming_to i (and_then taken came)) mail (OutOfBytes link)
  stops_there came xs cut is =
      let there : coming_to i came link ≡ xs = coming_at i link came own ∙ ap (λ f. f peer) is ∙ bytes_here peer xs in
      subst (λ v. OnFrame framed strand (coming_to i (and_then taken came)) mail (coming_to i came) link v) (ap framed there ∙ cut)
      ((reads_frame_by_frame framed strand (coming_to i (and_then taken came))).frame mail (coming_to i came) link (reads came) standing)

  pub due_now : (given came : ℕ → List ℕ) (p : ℕ) (g : ℕ → List ℕ)
      → g (count_of (next_of i)) ≡ frames_to_next i (run strand mail).acts
      → g (count_of (previous_of i)) ≡ frames_to_previous i (run strand mail).acts
      → IsUnfinished framed peer given came p → IsMessageDue i strand (and_then g given) (and_then taken came) p
  due_now given came p g next previous h =
      let stops = stops_there came h.part.0 h.part.1 h.part.2 in
      let same : and_then g given ≡ g = ap (and_then g) h.none ∙ then_none g in
      record {
        is_awaited = ap awaited_at stops.stop ∙ ap Some (sym h.same);
        to_next = ap (λ f. f (count_of (next_of i))) same ∙ next ∙ ap (frames_to_next i) (sym stops.acts);
        to_previous = ap (λ f. f (count_of (previous_of i))) same ∙ previous ∙ ap (frames_to_previous i) (sym stops.acts);
      }

  -- when all of it has come
  module _ (xs m : List ℕ) (whole : (rest : List ℕ) → framed (xs ++ rest) ≡ Whole m rest)
      (ease : (at : Link) (cause : BadMessage) → standing_of (run strand (added mail (only link m))) ≢ Refuses at cause) where
    at_ease : (bytes rest : Coming) (at : Standing) → standing_of (run strand (added mail (only link m))) ≡ at
        → OnMessage framed strand bytes mail (added mail (only link m)) rest at → HasRead framed strand bytes (added mail (only link m)) rest
    at_ease bytes rest AtItsEnd is on = on
    at_ease bytes rest (Awaits l) is on = on
    at_ease bytes rest (Refuses l cause) is on = absurd (ease l cause is)

    pub reads_more : ReadsOn i strand (added mail (only link m)) (and_then taken (bytes_of peer xs))
    reads_more rest =
        let came : ℕ → List ℕ = and_then (bytes_of peer xs) rest in
        let bytes : Coming = coming_to i (and_then taken came) in
        let there : coming_to i came link ≡ xs ++ rest peer = coming_at i link came own ∙ ap (λ v. v ++ rest peer) (bytes_here peer xs) in
        let led : OnFrame framed strand bytes mail (coming_to i came) link (Whole m (rest peer)) =
        subst (λ v. OnFrame framed strand bytes mail (coming_to i came) link v) (ap framed there ∙ whole (rest peer))
        ((reads_frame_by_frame framed strand bytes).frame mail (coming_to i came) link (reads came) standing) in
        let left : with_rest link (rest peer) (coming_to i came) ≡ coming_to i rest =
        rest_is i link came rest own (λ p apart. sym (ap (λ v. v ++ rest p) (bytes_elsewhere peer p xs apart))) in
        let now : OnMessage framed strand bytes mail (added mail (only link m)) (coming_to i rest) (standing_of (run strand (added mail (only link m)))) =
        subst (λ v. OnMessage framed strand bytes mail (added mail (only link m)) v (standing_of (run strand (added mail (only link m))))) left led in
        subst (λ v. HasRead framed strand (coming_to i v) (added mail (only link m)) (coming_to i rest)) (sym (then_assoc taken (bytes_of peer xs) rest))
        (at_ease bytes (coming_to i rest) (standing_of (run strand (added mail (only link m)))) refl now)

-- ---- A TURN

module _ (i : Number) (a : LinksState) (first : Story) where
  -- at first
  pub order_first : mail_in i first ≡ nothing → InOrderSoFar i a a first first
  order_first none =
      record {
        given = no_bytes;
        taken = no_bytes;
        did = did_none (IsMessageDue i (strand_in i first)) a;
        reads = λ rest.
            subst (λ m. HasRead framed (strand_in i first) (coming_to i rest) m (coming_to i rest)) (sym none)
            (reads_frame_by_frame framed (strand_in i first) (coming_to i rest)).begins;
      }

  pub order_known : (b : LinksState) (s : Story) → (a.told ≡ true → InOrderSoFar i a b first s) → Ordered (IsMessageDue i (strand_in i first)) a b
  order_known b s h t = let o = h t in (o.given, o.taken, o.did)

  module _ (b c : LinksState) (s : Story) (told : b.told ≡ a.told) (before : a.told ≡ true → InOrderSoFar i a b first s) (gives : GivesOnly b c) where
    -- what is new was sent
    pub order_sent : a.told ≡ true → InOrderSoFar i a c first s
    order_sent t =
        let o = before t in
        let k = gives (told ∙ t) in
        record {
          given = and_then o.given k.0;
          taken = o.taken;
          did = did_then_give (IsMessageDue i (strand_in i first)) _ a b c o.given k.0 o.taken o.did k.1 (λ g' c' p h. absurd h);
          reads = o.reads;
        }

  module _ (c : LinksState) (s : Story) (task : SameTask first s) (order : a.told ≡ true → InOrderSoFar i a c first s)
      (sent : a.told ≡ true → Sends i a.sent c.sent (frames (sent_to_next i s)) (frames (sent_to_previous i s))) (link : Link)
      (own : receiver_of link ≡ i) (awaits : stands_at i s ≡ Awaits link) where
    abbrev strand : Strand Ended
    strand = strand_in i first

    standing : standing_of (run strand (mail_in i s)) ≡ Awaits link
    standing = ap standing_of (sym (node_is i a first s task)) ∙ awaits

    due : (t : a.told ≡ true) (given came : ℕ → List ℕ) (p : ℕ) → IsUnfinished framed (count_of (sender_of link)) given came p
        → IsMessageDue i strand (and_then (order t).given given) (and_then (order t).taken came) p
    due t given came p h =
        let o = order t in
        let all = sent t in
        let acts = node_is i a first s task in
        let next : o.given (count_of (next_of i)) ≡ frames_to_next i (run strand (mail_in i s)).acts =
        append_cancel_left (a.sent (count_of (next_of i))) _ _ (sym (ap (λ f. f (count_of (next_of i))) o.did.sent) ∙ all.to_next)
        ∙ ap (λ r. frames_to_next i r.acts) acts in
        let previous : o.given (count_of (previous_of i)) ≡ frames_to_previous i (run strand (mail_in i s)).acts =
        append_cancel_left (a.sent (count_of (previous_of i))) _ _ (sym (ap (λ f. f (count_of (previous_of i))) o.did.sent) ∙ all.to_previous)
        ∙ ap (λ r. frames_to_previous i r.acts) acts in
        due_now i strand (mail_in i s) o.taken o.reads link own standing given came p o.given next previous h

    -- bytes of a frame were taken
    pub order_taken : (d : LinksState)
        → (a.told ≡ true → (taken : List ℕ) × Did (IsUnfinished framed (count_of (sender_of link))) c d no_bytes (bytes_of (count_of (sender_of link)) taken))
        → Ordered (IsMessageDue i strand) a d
    order_taken d took t =
        let o = order t in
        let k = took t in (
          o.given,
          and_then o.taken (bytes_of (count_of (sender_of link)) k.0),
          did_then_take (IsMessageDue i strand) _ a c d o.given o.taken (bytes_of (count_of (sender_of link)) k.0) o.did k.1 (due t),
        )

    -- and all of it
    pub order_read : (d : LinksState) (s2 : Story) (m : List ℕ) → mail_in i s2 ≡ added (mail_in i s) (only link m) → SameTask first s2
        → IsAtEase i s2 → (a.told ≡ true → ReadsOne c d (count_of (sender_of link)) m) → a.told ≡ true → InOrderSoFar i a d first s2
    order_read d s2 m mail task2 ease one t =
        let o = order t in
        let k = one t in
        let stands : standing_of (run strand (added (mail_in i s) (only link m))) ≡ stands_at i s2 =
        ap (λ v. standing_of (run strand v)) (sym mail) ∙ ap standing_of (sym (node_is i a first s2 task2)) in
        record {
          given = o.given;
          taken = and_then o.taken (bytes_of (count_of (sender_of link)) k.taken);
          did = did_then_take (IsMessageDue i strand) _ a c d o.given o.taken (bytes_of (count_of (sender_of link)) k.taken) o.did k.did (due t);
          reads = subst (λ v. ReadsOn i strand v (and_then o.taken (bytes_of (count_of (sender_of link)) k.taken))) (sym mail)
              (reads_more i strand (mail_in i s) o.taken o.reads link own standing k.taken m k.whole (λ at cause e. ease at cause (sym stands ∙ e)));
        }

-- ---- HELLOS, AND THEN TURNS

module _ (i : Number) (hello : Hello) (s : Strand Ended) (a b : LinksState) where
  pub order_greeting : Ordered (IsHelloDue i hello) a b → InOrder i hello s a b
  order_greeting h t = let o = h t in (o.0, o.1, did_as _ _ a b o.0 o.1 (λ g c p due. due s) o.2)

  module _ (c : LinksState) (told : b.told ≡ a.told) (greets : a.told ≡ true → HasGreeted i hello a b) (turns : Ordered (IsMessageDue i s) b c) where
    pub order_all : InOrder i hello s a c
    order_all t =
        let one = (greets t).by in
        let two = turns (told ∙ t) in
        let by = one.2 in
        let due : (g' c' : ℕ → List ℕ) (p : ℕ) → IsMessageDue i s g' c' p → IsDue i hello s (and_then one.0 g') (and_then one.1 c') p =
        λ g' c' p h.
        let low = by.heard_both c' in
        let x = hello_bytes (hello_to hello (next_of i)) in
        let y = hello_bytes (hello_to hello (previous_of i)) in
        let served = ap (after_greeting i s) (ap (then_hear hello (higher_peer i)) low.1 ∙ low.2) in
        record {
          is_awaited = ap (λ r. hello_first (lower_peer i) r (λ rest. hello_first (higher_peer i) (heard hello (higher_peer i) rest) (awaited_message i s))) low.1
              ∙ ap (λ r. hello_first (higher_peer i) r (awaited_message i s)) low.2 ∙ h.is_awaited;
          to_next = ap (λ v. v ++ g' (count_of (next_of i))) by.to_next ∙ ap (λ v. x ++ v) h.to_next
              ∙ ap (λ r. x ++ frames_to_next i r.acts) (sym served);
          to_previous = ap (λ v. v ++ g' (count_of (previous_of i))) by.to_previous ∙ ap (λ v. y ++ v) h.to_previous
              ∙ ap (λ r. y ++ frames_to_previous i r.acts) (sym served);
        } in (
          and_then one.0 two.0,
          and_then one.1 two.1,
          did_on (IsDue i hello s) (IsMessageDue i s) a b c one.0 two.0 one.1 two.1 (did_as _ _ a b one.0 one.1 (λ g' c' p h. h s) by.did) two.2 due,
        )
