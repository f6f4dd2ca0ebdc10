-- A turn of a node takes it to what the bytes of its peers lead to.
use Rattle.std.proofs.Common.{◌≡◌, ◌≢◌, ℕ, true, false, if◌then◌else◌, List, [], ◌∷◌, ◌++◌, take, drop, length, Ok, Err, refl, sym, ap, ◌∙◌, subst, arith}
use Rattle.std.proofs.Math.Seq.{take-append_seam}
use Rattle.std.proofs.lemmas.List.{append-nil}
use Rattle.outside.specs.Links.{LinksState}
use Rattle.proto_core.specs.declared.party.Number.{Number}
use Rattle.proto_core.specs.declared.party.Number.TheVariants.{One, Two, Three}
use Rattle.proto_core.specs.declared.link.Link.{Link}
use Rattle.proto_core.specs.declared.link.Link.TheVariants.{Link12, Link13, Link21, Link23, Link31, Link32}
use Rattle.proto_core.specs.declared.refused.BadMessage as refusal
use Rattle.proto_core.specs.Parties.{count_of, next_of, previous_of, to_next, to_previous, sender_of, receiver_of, is_same, from_previous}
use Rattle.proto_core.specs.Strand.{same_link, Strand, Ends, Acts, Waits, Begins, run}
use Rattle.proto_core.specs.Net.{mail_of, added, nothing}
use Rattle.proto_core.specs.Standing.{Standing, AtItsEnd, Awaits, Refuses, standing_of}
use Rattle.proto_core.proofs.Beginnings.{begins-append, begins-rest, begins-trans, append-none}
use Rattle.proto_core.proofs.Strands.{run-more, begins-on_link}
use Rattle.proto_core.proofs.Nodes.{mail-none}
use Rattle.served_bytes.specs.Front.{Framed, Whole, Malformed, Truncated}
use Rattle.served_bytes.specs.Served.{Coming, Stop, AtEnd, AtRefusal, AtMalformed, OutOfBytes, with_rest}
use Rattle.served_bytes.specs.Reading.{only, HasRead, StopsWith, OnMessage, OnFrame}
use Rattle.served_bytes.proofs.Frames.{reads_frame_by_frame}
use Rattle.sc_text.specs.declared.end.Ending.{Ending}
use Rattle.miner_core.specs.OwnCode.{Ended}
use Rattle.miner_core.specs.declared.answer.End.{End}
use Rattle.miner_core.specs.declared.answer.End.TheVariants as end
use Rattle.miner_core.specs.Story.{Story, received, mail_in, strand_in, node, sent_to_next, sent_to_previous, stands_at, HasEnded}
use Rattle.wire.specs.Frames.{framed}
use Rattle.miner_node.specs.declared.node_err.NodeErr.{NodeErr}
use Rattle.miner_node.specs.declared.node_err.NodeErr.TheVariants as stop
use Rattle.miner_node.specs.declared.sending.SentCounts.{SentCounts}
use Rattle.miner_node.specs.Faults.{IsLater}
use Rattle.miner_node.specs.Peers.{coming_to, Sends, SendsFronts}
use Rattle.miner_node.specs.Serving.{Refused, Serving, outcome_at, serving_messages, frames, frames_to_next, frames_to_previous}
use Rattle.miner_node.specs.Turns.{SendsNew, IsAtEase, Delivers, IsUndelivered, SameTask, InOrderSoFar, IsServing, Finishes, StopsServing}
use Rattle.miner_node.proofs.Faulting.{later_on, fault_on}
use Rattle.miner_node.proofs.Greetings.{unsent_stops}
use Rattle.miner_node.proofs.SentFrames.{begins_frames, front_frames}

-- ---- LINKS AND PEERS

pub same_number : (i k : Number) → count_of i ≡ count_of k → i ≡ k
same_number One One e = refl
same_number Two Two e = refl
same_number Three Three e = refl
same_number One Two e = absurd (omega arith)
same_number One Three e = absurd (omega arith)
same_number Two One e = absurd (omega arith)
same_number Two Three e = absurd (omega arith)
same_number Three One e = absurd (omega arith)
same_number Three Two e = absurd (omega arith)

same_self : (i : Number) → is_same i i ≡ true
same_self One = refl
same_self Two = refl
same_self Three = refl

-- what is still to come on the other links of the receiver is as it was
rest_at : (l k : Link) (c d : ℕ → List ℕ) → ((p : ℕ) → p ≢ count_of (sender_of l) → d p ≡ c p)
    → with_rest l (d (count_of (sender_of l))) (coming_to (receiver_of l) c) k ≡ coming_to (receiver_of l) d k
rest_at Link12 Link12 c d h = refl
rest_at Link13 Link13 c d h = refl
rest_at Link21 Link21 c d h = refl
rest_at Link23 Link23 c d h = refl
rest_at Link31 Link31 c d h = refl
rest_at Link32 Link32 c d h = refl
rest_at Link12 Link32 c d h = sym (h 3 (λ e. omega arith))
rest_at Link32 Link12 c d h = sym (h 1 (λ e. omega arith))
rest_at Link13 Link23 c d h = sym (h 2 (λ e. omega arith))
rest_at Link23 Link13 c d h = sym (h 1 (λ e. omega arith))
rest_at Link21 Link31 c d h = sym (h 3 (λ e. omega arith))
rest_at Link31 Link21 c d h = sym (h 2 (λ e. omega arith))
rest_at _ _ c d h = refl

pub rest_is : (i : Number) (l : Link) (c d : ℕ → List ℕ) → receiver_of l ≡ i → ((p : ℕ) → p ≢ count_of (sender_of l) → d p ≡ c p)
    → with_rest l (d (count_of (sender_of l))) (coming_to i c) ≡ coming_to i d
rest_is i l c d e h =
    subst (λ j. with_rest l (d (count_of (sender_of l))) (coming_to j c) ≡ coming_to j d) e (λ x. λ k. rest_at l k c d h x)

pub coming_at : (i : Number) (l : Link) (c : ℕ → List ℕ) → receiver_of l ≡ i → coming_to i c l ≡ c (count_of (sender_of l))
coming_at i l c e =
    subst (λ j. coming_to j c l ≡ c (count_of (sender_of l))) e
    (ap (λ b. if b then c (count_of (sender_of l)) else []) (same_self (receiver_of l)))

-- ---- A MESSAGE MORE

mail_at : (s : Story) (l : Link) (m : List ℕ) (k : Link)
    → mail_in (receiver_of l) (received (receiver_of l) s l m) k ≡ added (mail_in (receiver_of l) s) (only l m) k
mail_at s Link12 m Link12 = refl
mail_at s Link13 m Link13 = refl
mail_at s Link21 m Link21 = refl
mail_at s Link23 m Link23 = refl
mail_at s Link31 m Link31 = refl
mail_at s Link32 m Link32 = refl
mail_at s _ m _ = sym (append-none _)

pub mail_more : (i : Number) (s : Story) (l : Link) (m : List ℕ) → receiver_of l ≡ i → mail_in i (received i s l m) ≡ added (mail_in i s) (only l m)
mail_more i s l m e = subst (λ j. mail_in j (received j s l m) ≡ added (mail_in j s) (only l m)) e (λ x. λ k. mail_at s l m k x)

pub task_received : (i : Number) (s : Story) (l : Link) (m : List ℕ) → SameTask s (received i s l m)
task_received i s l m =
    elim (same_link (from_previous i) l) as
    (λ b. SameTask s (if b then record s { from_previous = s.from_previous ++ m ∷ [] } else record s { from_next = s.from_next ++ m ∷ [] }))
    [ true ↦ refl | false ↦ refl ]

pub task_on : (x y z : Story) → SameTask x y → SameTask y z → SameTask x z
task_on x y z p q = q ∙ ap (λ (v : Story). record v { from_previous = z.from_previous; from_next = z.from_next }) p

-- ---- ENDS

ended_is : (t : Strand Ended) (e : End) → HasEnded t e → (x : Ended) × (t ≡ Ends x)
ended_is (Ends x) e h = (x, refl)
ended_is (Acts a t) e h = absurd h
ended_is (Waits l shape k) e h = absurd h

-- ---- FRONTS

begun : (xs ys : List (List ℕ)) → Begins xs ys → take (length xs) ys ≡ xs
begun xs ys h =
    ap (λ (v : List (List ℕ)). take (length xs) v) (sym (begins-rest xs ys h)) ∙ take-append_seam xs (drop (length xs) ys)

fronts_up : (i : Number) (before now : ℕ → List ℕ) (x y x2 y2 : List ℕ) → Begins x x2 → Begins y y2 → SendsFronts i before now x y
    → SendsFronts i before now x2 y2
fronts_up i before now x y x2 y2 one two h =
    record {
      to_next = (h.to_next.0, begins-trans _ _ _ h.to_next.1 one, h.to_next.2);
      to_previous = (h.to_previous.0, begins-trans _ _ _ h.to_previous.1 two, h.to_previous.2);
      others = h.others;
    }

all_fronts : (i : Number) (before now : ℕ → List ℕ) (x y x2 y2 : List ℕ) → Begins x x2 → Begins y y2 → Sends i before now x y
    → SendsFronts i before now x2 y2
all_fronts i before now x y x2 y2 one two h =
    record { to_next = (x, one, h.to_next); to_previous = (y, two, h.to_previous); others = h.others }

-- ---- WHERE A NODE STANDS

module _ (i : Number) (a : LinksState) (first : Story) where
  abbrev strand : Strand Ended
  strand = strand_in i first

  abbrev bytes : Coming
  bytes = coming_to i a.coming

  abbrev r : Serving
  r = serving_messages i strand a.coming

  pub node_is : (s : Story) → SameTask first s → node i s ≡ run strand (mail_in i s)
  node_is s task = ap (λ (v : Story). run (strand_in i v) (mail_in i s)) task

  module _ (s : Story) (task : SameTask first s) (rest : Coming) (h : HasRead framed strand bytes (mail_in i s) rest) where
    acts_begin : Begins (node i s).acts r.acts
    acts_begin =
        subst (λ v. Begins v r.acts) (ap (λ x. x.acts) (sym (node_is s task)))
        (subst (λ v. Begins (run strand (mail_in i s)).acts v) (sym h.acts) (begins-append (run strand (mail_in i s)).acts _))

    to_next_begins : Begins (frames (sent_to_next i s)) (frames_to_next i r.acts)
    to_next_begins = begins_frames _ _ (begins-on_link (to_next i) _ _ acts_begin)

    to_previous_begins : Begins (frames (sent_to_previous i s)) (frames_to_previous i r.acts)
    to_previous_begins = begins_frames _ _ (begins-on_link (to_previous i) _ _ acts_begin)

    -- what has been sent is a front of what is to be sent
    pub fronts_so_far : (now : ℕ → List ℕ) → SendsFronts i a.sent now (frames (sent_to_next i s)) (frames (sent_to_previous i s))
        → SendsFronts i a.sent now (frames_to_next i r.acts) (frames_to_previous i r.acts)
    fronts_so_far now f = fronts_up i a.sent now _ _ _ _ to_next_begins to_previous_begins f

    pub all_so_far : (now : ℕ → List ℕ) → Sends i a.sent now (frames (sent_to_next i s)) (frames (sent_to_previous i s))
        → SendsFronts i a.sent now (frames_to_next i r.acts) (frames_to_previous i r.acts)
    all_so_far now f = all_fronts i a.sent now _ _ _ _ to_next_begins to_previous_begins f

  -- where it stops with these messages, all was sent
  module _ (s : Story) (task : SameTask first s) (at : Stop Ended) (h : StopsWith framed strand bytes (mail_in i s) at) where
    pub acts_are : r.acts ≡ (node i s).acts
    acts_are = h.acts ∙ ap (λ x. x.acts) (sym (node_is s task))

    pub outcome_is : r.outcome ≡ outcome_at at
    outcome_is = ap outcome_at h.stop

    pub all_sent : (now : ℕ → List ℕ) → Sends i a.sent now (frames (sent_to_next i s)) (frames (sent_to_previous i s))
        → Sends i a.sent now (frames_to_next i r.acts) (frames_to_previous i r.acts)
    all_sent now f = subst (λ acts. Sends i a.sent now (frames_to_next i acts) (frames_to_previous i acts)) (sym acts_are) f

  -- ---- AT FIRST

  pub serves_first : first.lost ≡ false → first.from_previous ≡ [] → first.from_next ≡ [] → (counts : SentCounts) → counts.to_next ≡ 0
      → counts.to_previous ≡ 0 → (later : IsLater a a) → (mail_in i first ≡ nothing → InOrderSoFar i a a first first)
      → IsServing i a a first first counts
  serves_first going previous next counts none none2 later order =
      let mail : mail_in i first ≡ nothing =
      ap (λ (v : List (List ℕ)). mail_of i v first.from_next) previous ∙ ap (λ (v : List (List ℕ)). mail_of i [] v) next ∙ mail-none i in
      record {
        going = going;
        task = refl;
        read = λ t. subst (λ m. HasRead framed strand bytes m bytes) (sym mail) (reads_frame_by_frame framed strand bytes).begins;
        sent = λ t.
            record {
              to_next = sym (append-nil (a.sent (count_of (next_of i))))
                  ∙ ap (λ (n : ℕ). a.sent (count_of (next_of i)) ++ frames (take n (sent_to_next i first))) (sym none);
              to_previous = sym (append-nil (a.sent (count_of (previous_of i))))
                  ∙ ap (λ (n : ℕ). a.sent (count_of (previous_of i)) ++ frames (take n (sent_to_previous i first))) (sym none2);
              others = λ p apart apart2. refl;
            };
        order = λ t. order mail;
        later = later;
      }

  -- what was sent before a turn
  pub fronts_before : (b : LinksState) (s : Story) (counts : SentCounts) → IsServing i a b first s counts → a.told ≡ true
      → SendsFronts i a.sent b.sent (frames_to_next i r.acts) (frames_to_previous i r.acts)
  fronts_before b s counts h t =
      let rest = coming_to i b.coming in
      all_fronts i a.sent b.sent _ _ _ _
      (begins-trans _ _ _ (front_frames (sent_to_next i s) counts.to_next) (to_next_begins s h.task rest (h.read t)))
      (begins-trans _ _ _ (front_frames (sent_to_previous i s) counts.to_previous) (to_previous_begins s h.task rest (h.read t))) (h.sent t)

  -- ---- WHAT IS NEW IS SENT

  module _ (b c : LinksState) (s : Story) (counts after : SentCounts) (at : IsServing i a b first s counts) where
    pub unsent_turn : {T : Type 0} (e : NodeErr) → SendsNew {T = T} i s counts after b c (Err e) → StopsServing i a c first e
    unsent_turn e h =
        unsent_stops i a b c r.outcome (frames_to_next i r.acts) (frames_to_previous i r.acts) at.later
        (λ t. fronts_so_far s at.task (coming_to i b.coming) (at.read t) c.sent (h.front (at.later.told ∙ t) a.sent (at.sent t))) e h.err

    module _ {T : Type 0} (x : T) (h : SendsNew {T = T} i s counts after b c (Ok x)) where
      pub sent_now : a.told ≡ true → Sends i a.sent c.sent (frames (sent_to_next i s)) (frames (sent_to_previous i s))
      sent_now t = h.all (at.later.told ∙ t) a.sent (at.sent t)

      pub read_now : a.told ≡ true → HasRead framed strand bytes (mail_in i s) (coming_to i c.coming)
      read_now t = subst (λ v. HasRead framed strand bytes (mail_in i s) (coming_to i v)) (sym h.coming) (at.read t)

      pub later_now : IsLater a c
      later_now = later_on at.later h.later

  -- ---- A MESSAGE IS TAKEN

  module _ (c d : LinksState) (s : Story) (going : s.lost ≡ false) (task : SameTask first s) (later : IsLater a c) (later2 : IsLater c d)
      (read : a.told ≡ true → HasRead framed strand bytes (mail_in i s) (coming_to i c.coming))
      (sent : a.told ≡ true → Sends i a.sent c.sent (frames (sent_to_next i s)) (frames (sent_to_previous i s)))
      (kept : d.sent ≡ c.sent) where
    still_sent : a.told ≡ true → Sends i a.sent d.sent (frames (sent_to_next i s)) (frames (sent_to_previous i s))
    still_sent t = subst (λ v. Sends i a.sent v (frames (sent_to_next i s)) (frames (sent_to_previous i s))) (sym kept) (sent t)

    -- nothing more can be said
    pub fronts_now : a.told ≡ true → SendsFronts i a.sent d.sent (frames_to_next i r.acts) (frames_to_previous i r.acts)
    fronts_now t = all_so_far s task (coming_to i c.coming) (read t) d.sent (still_sent t)

    -- it has ended
    pub finishes : (ending : Ending) → HasEnded (node i s).left (end.Over ending) → Finishes i a d first s ending
    finishes ending is =
        let e = ended_is (node i s).left (end.Over ending) is in
        let stops : a.told ≡ true → StopsWith framed strand bytes (mail_in i s) (AtEnd e.0) =
        λ t. (reads_frame_by_frame framed strand bytes).ended (mail_in i s) (coming_to i c.coming) e.0 (read t)
        (ap (λ x. x.left) (sym (node_is s task)) ∙ e.1) in
        record {
          going = going;
          task = task;
          ended = is;
          served = λ t.
              record {
                outcome = (e.0, e.1, outcome_is s task (AtEnd e.0) (stops t));
                acts = acts_are s task (AtEnd e.0) (stops t);
              };
          sent = λ t. all_sent s task (AtEnd e.0) (stops t) d.sent (still_sent t);
          later = later_on later later2;
        }

    module _ (link : Link) (awaits : stands_at i s ≡ Awaits link) where
      on : (f : Framed) → framed (coming_to i c.coming link) ≡ f → a.told ≡ true
          → OnFrame framed strand bytes (mail_in i s) (coming_to i c.coming) link f
      on f e t =
          subst (λ v. OnFrame framed strand bytes (mail_in i s) (coming_to i c.coming) link v) e
          ((reads_frame_by_frame framed strand bytes).frame (mail_in i s) (coming_to i c.coming) link (read t)
          (ap standing_of (sym (node_is s task)) ∙ awaits))

      stopped : (at : Stop Ended) → a.told ≡ true → StopsWith framed strand bytes (mail_in i s) at
          → (r.outcome ≡ outcome_at at) × Sends i a.sent d.sent (frames_to_next i r.acts) (frames_to_previous i r.acts)
      stopped at t h = (outcome_is s task at h, all_sent s task at h d.sent (still_sent t))

      comes : receiver_of link ≡ i → (f : Framed) → framed (c.coming (count_of (sender_of link))) ≡ f → framed (coming_to i c.coming link) ≡ f
      comes own f e = ap framed (coming_at i link c.coming own) ∙ e

      module _ (s2 : Story) (h : Delivers i link s s2 c d) where
        mail_now : mail_in i s2 ≡ added (mail_in i s) (only link h.message)
        mail_now = ap (mail_in i) h.story ∙ mail_more i s link h.message h.own

        task_now : SameTask first s2
        task_now = task_on first s s2 task (subst (λ v. SameTask s v) (sym h.story) (task_received i s link h.message))

        frame_now : a.told ≡ true
            → OnMessage framed strand bytes (mail_in i s) (added (mail_in i s) (only link h.message)) (coming_to i d.coming) (stands_at i s2)
        frame_now t =
            let one = h.frame (later.told ∙ t) in
            let led = on (Whole h.message (d.coming (count_of (sender_of link))))
            (comes h.own (Whole h.message (d.coming (count_of (sender_of link)))) one.first) t in
            let standing : standing_of (run strand (added (mail_in i s) (only link h.message))) ≡ stands_at i s2 =
            ap (λ m. standing_of (run strand m)) (sym mail_now) ∙ ap standing_of (sym (node_is s2 task_now)) in
            subst (λ v. OnMessage framed strand bytes (mail_in i s) (added (mail_in i s) (only link h.message)) (coming_to i d.coming) v) standing
            (subst (λ v. OnMessage framed strand bytes (mail_in i s) (added (mail_in i s) (only link h.message)) v
            (standing_of (run strand (added (mail_in i s) (only link h.message))))) (rest_is i link c.coming d.coming h.own one.others) led)

        -- the message is refused
        pub refused : (at : Link) (cause : refusal.BadMessage) → stands_at i s2 ≡ Refuses at cause → a.told ≡ true
            → (r.outcome ≡ Refused at cause) × Sends i a.sent d.sent (frames_to_next i r.acts) (frames_to_previous i r.acts)
        refused at cause is t =
            stopped (AtRefusal at cause) t
            (subst (λ v. OnMessage framed strand bytes (mail_in i s) (added (mail_in i s) (only link h.message)) (coming_to i d.coming) v) is
            (frame_now t))

        at_ease : (at : Standing) → stands_at i s2 ≡ at → IsAtEase i s2
            → OnMessage framed strand bytes (mail_in i s) (added (mail_in i s) (only link h.message)) (coming_to i d.coming) at
            → HasRead framed strand bytes (added (mail_in i s) (only link h.message)) (coming_to i d.coming)
        at_ease AtItsEnd is ease on = on
        at_ease (Awaits l) is ease on = on
        at_ease (Refuses l cause) is ease on = absurd (ease l cause is)

        sends_more : Begins (node i s).acts (node i s2).acts
        sends_more =
            subst (λ v. Begins v (node i s2).acts) (ap (λ x. x.acts) (sym (node_is s task)))
            (subst (λ v. Begins (run strand (mail_in i s)).acts v)
            (ap (λ m. (run strand m).acts) (sym mail_now) ∙ ap (λ x. x.acts) (sym (node_is s2 task_now)))
            (run-more strand (mail_in i s) (added (mail_in i s) (only link h.message)) (λ l. begins-append (mail_in i s l) (only link h.message l))))

        -- it is taken
        pub serves_on : IsAtEase i s2 → (a.told ≡ true → InOrderSoFar i a d first s2) → (counts : SentCounts) → counts.to_next ≡ length (sent_to_next i s)
            → counts.to_previous ≡ length (sent_to_previous i s) → IsServing i a d first s2 counts
        serves_on ease order counts one two =
            let next : take counts.to_next (sent_to_next i s2) ≡ sent_to_next i s =
            ap (λ (n : ℕ). take n (sent_to_next i s2)) one ∙ begun _ _ (begins-on_link (to_next i) _ _ sends_more) in
            let previous : take counts.to_previous (sent_to_previous i s2) ≡ sent_to_previous i s =
            ap (λ (n : ℕ). take n (sent_to_previous i s2)) two ∙ begun _ _ (begins-on_link (to_previous i) _ _ sends_more) in
            record {
              going = ap (λ (v : Story). v.lost) task_now ∙ sym (ap (λ (v : Story). v.lost) task) ∙ going;
              task = task_now;
              read = λ t. subst (λ m. HasRead framed strand bytes m (coming_to i d.coming)) (sym mail_now)
                  (at_ease (stands_at i s2) refl ease (frame_now t));
              sent = λ t.
                  let all = still_sent t in
                  record {
                    to_next = all.to_next ∙ ap (λ v. a.sent (count_of (next_of i)) ++ frames v) (sym next);
                    to_previous = all.to_previous ∙ ap (λ v. a.sent (count_of (previous_of i)) ++ frames v) (sym previous);
                    others = all.others;
                  };
              order = order;
              later = later_on later later2;
            }

      -- no message is taken
      pub undelivered : (s2 : Story) (e : NodeErr) → IsUndelivered i link s s2 c d e → StopsServing i a d first e
      undelivered s2 stop.LinkFault h = (
        fault_on later h.fault (λ dry t.
            (stopped (OutOfBytes link) t (on Truncated (comes h.own Truncated (dry (later.told ∙ t))) t)).0),
        fronts_now,
      )
      undelivered s2 (stop.PeerMismatch field mine theirs) h = absurd h
      undelivered s2 (stop.BadFrame place) h =
          λ t. stopped (AtMalformed link place) t (on (Malformed place) (comes h.own (Malformed place) (h.malformed (later.told ∙ t))) t)
      undelivered s2 (stop.BadMessage at cause) h = refused s2 h.delivered at cause h.refuses
      undelivered s2 stop.Memory h = fronts_now
