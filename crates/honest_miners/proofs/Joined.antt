-- Three nodes whose peers send hellos and frames, whatever they run.
use Rattle.std.proofs.Common.{◌≡◌, ◌≢◌, ℕ, Bool, true, false, if◌then◌else◌, List, [], ◌++◌, refl, sym, ◌∙◌, ap, subst}
use Rattle.proto_core.specs.declared.party.Number.{Number}
use Rattle.proto_core.specs.declared.party.Number.TheVariants.{One, Two, Three}
use Rattle.proto_core.specs.declared.link.Link.{Link}
use Rattle.proto_core.specs.declared.link.Link.TheVariants.{Link12, Link13, Link21, Link23, Link31, Link32}
use Rattle.proto_core.specs.declared.refused.BadMessage.{BadMessage}
use Rattle.proto_core.specs.Parties.{count_of, is_same, receiver_of, sender_of}
use Rattle.proto_core.specs.Net.{MailBegins, into, posted, run_of}
use Rattle.proto_core.specs.Standing.{Refuses, standing_of}
use Rattle.proto_core.specs.Strand.{Begins, Ends, Mail, Ran, Strand, on_link, run}
use Rattle.proto_core.proofs.Beginnings.{begins-trans}
use Rattle.proto_core.proofs.Nets.{nodes-sent}
use Rattle.proto_core.proofs.Numbers.{same_is}
use Rattle.proto_core.proofs.Strands.{begins-on_link}
use Rattle.served_bytes.specs.Served.{AtEnd, AtMalformed, AtRefusal, Coming, OutOfBytes, Served, Stop, served}
use Rattle.served_bytes.specs.Laws.{IsNodeOf, StopIs}
use Rattle.served_bytes.proofs.Messages.{serves_its_messages}
use Rattle.wire.specs.declared.fields.Hello.{Hello}
use Rattle.wire.specs.Frames.{IsFrameable, framed}
use Rattle.wire.specs.Hellos.{HasDigests, hello_bytes}
use Rattle.honest_miners.specs.JoinedFrames.{AllCame, CanAllBeFramed, IsFramedRun, ReadsWhatWasSent, in_frames}
use Rattle.honest_miners.proofs.Fronts.{hellos_come_whole}
use Rattle.honest_miners.proofs.Joining.{ends_where_all_came, frames_join}
use Rattle.honest_miners.proofs.Reading.{begins_all, frames_begin, reads_frames}
use Rattle.joined_nodes.specs.OwnCode.{Ended}
use Rattle.miner_node.specs.Peers.{coming_to}
use Rattle.miner_node.specs.Serving.{Agreed, CutOff, Finished, Serving, after_greeting, hello_from, hello_to, outcome_at, serving}
use Rattle.honest_miners.proofs.Greetings.{Came, Greets, after_both, all_left, greets, greets_whole, higher_link, lower_link}
use Rattle.honest_miners.proofs.Messages.{Goes, Reads, goes_on, reads, waits}

module _ (nodes : Number → Strand Ended) (full : Mail) (outputs : Number → Ended) (hello : Number → Hello) (coming : Number → ℕ → List ℕ) where
  -- what each comes to, and has done
  abbrev pub does : Number → Serving
  does i = serving i (hello i) (nodes i) (coming i)

  -- what was sent on a link after the hello
  abbrev pub after_hello : Link → List ℕ
  after_hello l = in_frames (on_link l (does (sender_of l)).acts)

  abbrev pub bytes_sent : Link → List ℕ
  bytes_sent l = hello_bytes (hello_to (hello (sender_of l)) (receiver_of l)) ++ after_hello l

  abbrev pub bytes_come : Link → List ℕ
  bytes_come l = coming (receiver_of l) (count_of (sender_of l))

  -- each has the hello that its peers expect, and to each has come a front of what its peers have sent
  pub record AreJoined : Type 0 where
    pub run_is : IsFramedRun nodes full outputs
    pub digests : (i p : Number) → HasDigests (hello_from (hello i) p)
    pub expected : (from to : Number) → hello_to (hello from) to ≡ hello_from (hello to) from
    pub came : (l : Link) → Begins (bytes_come l) (bytes_sent l)

  -- where it stands with these messages: it waits for bytes, or has come to its end
  pub data Comes (mail : Mail) (i : Number) : Type 0 where
    waits_for : (does i).outcome ≡ CutOff → Comes mail i
    ends_with :
        (last : Ended) → (does i).outcome ≡ Finished last → (run_of nodes mail i).left ≡ Ends last → (does i).acts ≡ (run_of nodes mail i).acts
        → Comes mail i

  module _ (h : AreJoined) where
    sent_as_expected : (l : Link) → bytes_sent l ≡ hello_bytes (hello_from (hello (receiver_of l)) (sender_of l)) ++ after_hello l
    sent_as_expected l = ap (λ (greeting : Hello). hello_bytes greeting ++ after_hello l) (h.expected (sender_of l) (receiver_of l))

    came : (l : Link) → Came (receiver_of l) (hello (receiver_of l)) after_hello (coming (receiver_of l)) (sender_of l) l
    came l =
        hellos_come_whole (bytes_come l) (after_hello l) (hello_from (hello (receiver_of l)) (sender_of l)) (h.digests (receiver_of l) (sender_of l))
        (subst (λ (sent : List ℕ). Begins (bytes_come l) sent) (sent_as_expected l) (h.came l))

    greeted : (i : Number) → Greets i (hello i) after_hello (coming i)
    greeted One = greets One (hello One) after_hello (coming One) (came Link21) (came Link31)
    greeted Two = greets Two (hello Two) after_hello (coming Two) (came Link12) (came Link32)
    greeted Three = greets Three (hello Three) after_hello (coming Three) (came Link13) (came Link23)

    pub read : (i : Number) → Reads i (nodes i) after_hello (does i)
    read i = reads i (hello i) (nodes i) after_hello (coming i) (greeted i)

    -- ---- the messages that were read on each link

    abbrev pub mail : Mail
    mail l = (read (receiver_of l)).mail l

    into_is : (i : Number) → into i mail ≡ (read i).mail
    into_is i = λ d. λ l. at_link l (is_same (receiver_of l) i) refl d
      where
        at_link : (l : Link) (b : Bool) → is_same (receiver_of l) i ≡ b → (if b then (read (receiver_of l)).mail l else []) ≡ (read i).mail l
        at_link l true e = ap (λ (k : Number). (read k).mail l) (same_is (receiver_of l) i e)
        at_link l false e =
            ap (λ (b : Bool). if b then (read i).mail l else []) (sym e) ∙ ap (λ (m : Mail). m l) (read i).only

    runs : (i : Number) → run_of nodes mail i ≡ run (nodes i) (read i).mail
    runs i = ap (run (nodes i)) (into_is i)

    pub acts_begin : (i : Number) → Begins (does i).acts (run_of nodes mail i).acts
    acts_begin i = subst (λ (r : Ran Ended). Begins (does i).acts r.acts) (sym (runs i)) (read i).acts

    pub sent_begin : (l : Link) → Begins (on_link l (does (sender_of l)).acts) (posted nodes mail l)
    sent_begin l = begins-on_link l _ _ (acts_begin (sender_of l))

    fronts : (i : Number) (l : Link) → Begins ((read i).came l) (in_frames (posted nodes mail l))
    fronts i l =
        begins-trans ((read i).came l) (after_hello l) (in_frames (posted nodes mail l)) ((read i).fronts l)
        (frames_begin (on_link l (does (sender_of l)).acts) (posted nodes mail l) (sent_begin l))

    abbrev read_on : Link → List ℕ
    read_on l = (read (receiver_of l)).came l

    what_was_sent : ReadsWhatWasSent nodes full outputs read_on mail
    what_was_sent = record { came = λ l. fronts (receiver_of l) l; read = λ l. (read (receiver_of l)).spells l }

    pub received : MailBegins mail (posted nodes mail)
    received = frames_join nodes full outputs read_on mail h.run_is what_was_sent

    pub posted_begin : MailBegins (posted nodes mail) full
    posted_begin = nodes-sent nodes full mail outputs h.run_is.finishes received

    posted_framed : CanAllBeFramed (posted nodes mail)
    posted_framed l = begins_all IsFrameable (posted nodes mail l) (full l) (posted_begin l) (h.run_is.framed l)

    -- ---- where each stands, who refuses none of these messages

    module _ (accepts : (i : Number) (l : Link) (cause : BadMessage) → standing_of (run_of nodes mail i) ≢ Refuses l cause) where
      module _ (i : Number) (outcome : (does i).outcome ≡ outcome_at (served framed (nodes i) (read i).came).stop)
          (acts : (does i).acts ≡ (served framed (nodes i) (read i).came).acts)
          (messages_are : (read i).mail ≡ (served framed (nodes i) (read i).came).received) where
        abbrev done : Served Ended
        done = served framed (nodes i) (read i).came

        -- it has run with these messages
        ran_so : run (nodes i) done.received ≡ run_of nodes mail i
        ran_so = ap (run (nodes i)) (sym messages_are) ∙ sym (runs i)

        node_is : IsNodeOf (nodes i) done
        node_is = (serves_its_messages framed (nodes i) (read i).came).node

        by_stop : (stop : Stop Ended) → done.stop ≡ stop → StopIs (nodes i) done stop → Comes mail i
        by_stop (AtEnd last) is stands =
            ends_with last (outcome ∙ ap outcome_at is) (sym (ap (λ (r : Ran Ended). r.left) ran_so) ∙ stands)
            (acts ∙ sym node_is.acts ∙ ap (λ (r : Ran Ended). r.acts) ran_so)
        by_stop (AtRefusal l cause) is stands = absurd (accepts i l cause (sym (ap standing_of ran_so) ∙ stands))
        by_stop (AtMalformed l place) is stands =
            absurd ((reads_frames (nodes i) (read i).came (posted nodes mail) posted_framed (fronts i)).frames l place is)
        by_stop (OutOfBytes l) is stands = waits_for (outcome ∙ ap outcome_at is)

        comes_so : Comes mail i
        comes_so = by_stop done.stop refl node_is.stop

      goes_so : (i : Number) → Goes (nodes i) (read i).came (read i).mail (does i) → Comes mail i
      goes_so i (waits e) = waits_for e
      goes_so i (goes_on outcome acts messages_are) = comes_so i outcome acts messages_are

      pub comes : (i : Number) → Comes mail i
      comes i = goes_so i (read i).goes

    -- ---- where all came

    module _ (all : (l : Link) → bytes_come l ≡ bytes_sent l) where
      whole : (l : Link) → bytes_come l ≡ hello_bytes (hello_from (hello (receiver_of l)) (sender_of l)) ++ after_hello l
      whole l = all l ∙ sent_as_expected l

      abbrev rest : Number → ℕ → List ℕ
      rest i = after_both i (after_hello (lower_link i)) (after_hello (higher_link i)) (coming i)

      goes_whole : (i : Number) → does i ≡ after_greeting i (nodes i) (Agreed (rest i))
      goes_whole One = ap (after_greeting One (nodes One)) (greets_whole One (hello One) after_hello (coming One) (h.digests One) (whole Link21) (whole Link31))
      goes_whole Two = ap (after_greeting Two (nodes Two)) (greets_whole Two (hello Two) after_hello (coming Two) (h.digests Two) (whole Link12) (whole Link32))
      goes_whole Three =
          ap (after_greeting Three (nodes Three)) (greets_whole Three (hello Three) after_hello (coming Three) (h.digests Three) (whole Link13) (whole Link23))

      abbrev came_whole : Number → Coming
      came_whole i = coming_to i (rest i)

      same_self : (i : Number) → is_same i i ≡ true
      same_self One = refl
      same_self Two = refl
      same_self Three = refl

      all_came : AllCame nodes full outputs came_whole
      all_came l =
          all_left (receiver_of l) (coming (receiver_of l)) after_hello l (same_self (receiver_of l))
          ∙ ap (λ (r : Serving). in_frames (on_link l r.acts)) (goes_whole (sender_of l))

      pub ends_whole : (i : Number) → (does i).outcome ≡ Finished (outputs i)
      ends_whole i =
          ap (λ (r : Serving). r.outcome) (goes_whole i) ∙ ap outcome_at (ends_where_all_came nodes full outputs came_whole h.run_is all_came i)
