-- Three served miners agree with the program's evaluation.
use Rattle.std.proofs.Common.{◌≡◌, ◌≢◌, ℕ, ◌-◌, false, List, [], ◌++◌, Some, length, refl, sym, ◌∙◌, ap, subst}
use Rattle.std.specs.Prelude.{Option}
use Rattle.sha2.specs.Sha256.{sha256}
use Rattle.sc_text.specs.declared.end.End.{End}
use Rattle.sc_text.specs.declared.end.Ending.{Ending}
use Rattle.proto_core.specs.declared.party.Number.{Number}
use Rattle.proto_core.specs.declared.party.Number.TheVariants.{One}
use Rattle.proto_core.specs.declared.link.Link.{Link}
use Rattle.proto_core.specs.declared.link.Link.TheVariants.{Link12, Link13, Link21, Link23, Link31, Link32}
use Rattle.proto_core.specs.declared.refused.BadMessage.{BadMessage}
use Rattle.proto_core.specs.Parties.{from_next, from_previous, receiver_of, sender_of}
use Rattle.proto_core.specs.Net.{MailBegins, posted, run_of}
use Rattle.proto_core.specs.Standing.{Refuses, standing_of, standing_with}
use Rattle.proto_core.specs.Strand.{Begins, Ends, Mail, Notice, Ran, Strand, on_link, opened_in, told_in}
use Rattle.proto_core.proofs.Beginnings.{begins-trans, begins-under}
use Rattle.proto_core.proofs.Strands.{begins-on_link, begins-opened}
use Rattle.protocol_model.specs.Gates.{sizes_of}
use Rattle.shared_gates.proofs.Models.{gates-sound}
use Rattle.wire.specs.declared.fields.Hello.{Hello}
use Rattle.wire.specs.Hellos.{hello_bytes}
use Rattle.framed_runs.proofs.FramedMessages.{run-framed}
use Rattle.framed_runs.proofs.FramedScripts.{run_gates-fit}
use Rattle.honest_miners.specs.JoinedFrames.{CanAllBeFramed, in_frames}
use Rattle.honest_miners.proofs.Reading.{frames_begin}
use Rattle.bytecode.specs.Raw.{RawCode}
use Rattle.program_trees.specs.TypedPrograms.{TypedProgramTree}
use Rattle.value_file.specs.declared.inputs.Entry.{Entry}
use Rattle.tape_file.specs.Tapes.{FourTapes}
use Rattle.view_model.specs.TapeMaps.{miners_of}
use Rattle.verified_code.specs.Settled.{settled}
use Rattle.verified_code.specs.Steps.{Function}
use Rattle.gates.specs.Clear.{Values}
use Rattle.language_model.specs.Learned.{learned_of}
use Rattle.language_model.specs.Reports.{Offered, Report}
use Rattle.code_places.specs.Dealt.{Dealt}
use Rattle.driven_nodes.specs.Steps.{Running, Short, Stopped}
use Rattle.program_run.specs.Inputs.{dealt_of}
use Rattle.program_run.specs.Offers.{offered}
use Rattle.program_run.specs.Reports.{eval_with, lengths_of}
use Rattle.miner_core.specs.declared.answer.End.TheVariants as stops
use Rattle.miner_core.specs.Story.{HasEnded, IsEnd, Story, node}
use Rattle.joined_nodes.specs.OwnCode.{Ended, Reached, Unfit}
use Rattle.joined_nodes.specs.OwnRuns.{OwnRunAsReported, own_end, own_nodes, public_world}
use Rattle.joined_nodes.specs.Places.{Place}
use Rattle.joined_nodes.specs.Runs.{gates_to_run, messages}
use Rattle.joined_nodes.specs.Stories.{IsStoryOf}
use Rattle.joined_nodes.proofs.Stories.{does_its_part}
use Rattle.miner_text.specs.Lines.{text_of}
use Rattle.miner_text.specs.Texts.{IsEnd as IsTextEnd}
use Rattle.trio.specs.Answers.{join_of}
use Rattle.node_run.specs.Told.{lines_told}
use Rattle.miner_node.specs.Serving.{CutOff, Finished, Serving, hello_to, serving}
use Rattle.miner_node.proofs.Honest.{does_as_its_miner}
use Rattle.joined_nodes.specs.Joined.{AgreeWith, AreJoined, EndsAs, sent_by}
use Rattle.joined_nodes.proofs.Ends.{begins-told}
use Rattle.joined_nodes.proofs.Nodes.{joined_nodes_agree_on_programs}
use Rattle.honest_miners.proofs.JoinedTexts.{texts_of_a_run_are_its_text}
use Rattle.honest_miners.proofs.Paid.{events_paid}
use Rattle.honest_miners.specs.Texts.{ArePaid}
use Rattle.view_laws.specs.Ends.{CanBeWritten}
use Rattle.view_laws.specs.Named.{AreNamed}
use Rattle.view_laws.specs.Views.{AreCounted, CanBeRun}
use Rattle.view_laws.proofs.Named.{events_named}
use Rattle.view_laws.proofs.Views.{cost, ends}
use Rattle.honest_miners.specs.Honest.{HasItsPart}
use Rattle.node_run.specs.Nodes.{end_in, ended_at, own_hello}
use Rattle.honest_miners.proofs.Digests.{sha256_length}
use Rattle.honest_miners.proofs.Hellos.{digests, expected}
use Rattle.honest_miners.proofs.Honest.{ends_with_the_run, ran, same_strand}
use Rattle.honest_miners.specs.Laws.{ThreeServedMiners}
use Rattle.honest_miners.proofs.Joined as joined
use Rattle.honest_miners.specs.Served.{AgreeWithTheRun, AreServed, HasEndedSo, ServedAgree, WaitsOrHasEnded, came_on, has_ended, part_of, run_bytes, sent_on}
use Rattle.honest_miners.specs.Served.{served, waits}

-- ---- how a miner has ended

-- the end and the cost of the place at which it stands
end_of : (budget : ℕ) (ending : Ending) (cost : ℕ) (last : Ended) → IsEnd last (stops.Over ending)
    → ((q : Place) (values : Values) → last ≡ Reached (Stopped q) values → budget - q.stage.left ≡ cost)
    → end_in budget last ≡ Some (record { how = ending; cost = cost })
end_of budget ending cost (Reached (Stopped q) values) is costs =
    ap (λ (how : Option Ending). ended_at how (budget - q.stage.left)) is
    ∙ ap (λ (spent : ℕ). Some (record { how = ending; cost = spent })) (costs q values refl)
end_of budget ending cost (Reached (Running q) values) is costs = absurd is
end_of budget ending cost (Reached (Short q) values) is costs = absurd is
end_of budget ending cost Unfit is costs = absurd is

no_wait : {X : Type 0} (last : Ended) → CutOff ≡ Finished last → X
no_wait last e = cc

-- ---- the three

module _ (p : TypedProgramTree) (entries : List Entry) (t : FourTapes) (budget : ℕ) (digest : List ℕ) (code : RawCode) (coming : Number → ℕ → List ℕ)
    (h : AreServed p entries t budget digest code coming) where
  abbrev offer : Offered
  offer = offered entries (lengths_of t)

  abbrev shares : Dealt
  shares = dealt_of entries t.dealer

  abbrev steps : List Function
  steps = settled code

  abbrev report : Report
  report = eval_with p entries t budget

  abbrev nodes : Number → Strand Ended
  nodes = own_nodes offer shares steps budget (miners_of t)

  abbrev full : Mail
  full = messages shares report (miners_of t)

  abbrev does : Number → Serving
  does = served p entries t budget digest code coming

  abbrev hello : Number → Hello
  hello i = own_hello i (part_of p entries t budget digest code i)

  has : (i : Number) → HasItsPart p entries t i (part_of p entries t budget digest code i)
  has i = record { accepted = h.accepted; code = h.written; can = h.can; digest = h.size; share = refl; tape = refl }

  run_is : OwnRunAsReported offer shares steps budget (miners_of t) report
  run_is = ran p entries t One (part_of p entries t budget digest code One) (coming One) (has One)

  abbrev outputs : Number → Ended
  outputs = own_end shares (miners_of t) report run_is.turns.last

  full_framed : CanAllBeFramed full
  full_framed =
      run-framed (gates_to_run shares report) (λ i. []) (miners_of t) (gates-sound shares.shares (sizes_of shares.inputs) [] report.gates)
      (run_gates-fit shares.shares (sizes_of shares.inputs) [] report.gates) run_is.turns.ready

  -- ---- what each does is what its strand of the joint run does with the bytes

  abbrev strands_do : Number → Serving
  strands_do = joined.does nodes full outputs hello coming

  does_so : (i : Number) → does i ≡ strands_do i
  does_so i =
      ap (λ (s : Strand Ended). serving i (hello i) s (coming i))
      (same_strand p entries t i (part_of p entries t budget digest code i) (coming i) (has i))

  abbrev sent_here : Link → List ℕ
  sent_here = sent_on p entries t budget digest code coming

  served_sent : (l : Link) → sent_here l ≡ hello_bytes (hello_to (hello (sender_of l)) (receiver_of l)) ++ in_frames (on_link l (does (sender_of l)).acts)
  served_sent Link12 = refl
  served_sent Link13 = refl
  served_sent Link21 = refl
  served_sent Link23 = refl
  served_sent Link31 = refl
  served_sent Link32 = refl

  sent_is : (l : Link) → sent_here l ≡ joined.bytes_sent nodes full outputs hello coming l
  sent_is l =
      served_sent l
      ∙ ap (λ (r : Serving). hello_bytes (hello_to (hello (sender_of l)) (receiver_of l)) ++ in_frames (on_link l r.acts)) (does_so (sender_of l))

  joins : joined.AreJoined nodes full outputs hello coming
  joins = record {
    run_is = record { finishes = run_is.finishes; framed = full_framed };
    digests = λ i q. digests digest entries t budget i q h.size;
    expected = expected digest entries t budget;
    came = λ l. subst (λ (sent : List ℕ). Begins (joined.bytes_come nodes full outputs hello coming l) sent) (sent_is l) (h.came l);
  }

  -- the messages that were read
  mail : Mail
  mail = joined.mail nodes full outputs hello coming joins

  received : MailBegins mail (posted nodes mail)
  unfolding mail
  received = joined.received nodes full outputs hello coming joins

  acts_begin : (i : Number) → Begins (does i).acts (run_of nodes mail i).acts
  unfolding mail
  acts_begin i =
      subst (λ (r : Serving). Begins r.acts (run_of nodes (joined.mail nodes full outputs hello coming joins) i).acts) (sym (does_so i))
      (joined.acts_begin nodes full outputs hello coming joins i)

  comes : ((i : Number) (l : Link) (cause : BadMessage) → standing_of (run_of nodes mail i) ≢ Refuses l cause) → (i : Number)
      → joined.Comes nodes full outputs hello coming mail i
  unfolding mail
  comes accepts i = joined.comes nodes full outputs hello coming joins accepts i

  -- ---- the same in messages

  abbrev stories : Number → Story
  stories i =
      record {
        world = public_world offer;
        code = steps;
        dealt = shares.shares i;
        tape = miners_of t i;
        budget = budget;
        from_previous = mail (from_previous i);
        from_next = mail (from_next i);
        lost = false;
      }

  made : (i : Number) → IsStoryOf offer shares steps budget (miners_of t) i mail (stories i)
  made i = record { world = refl; code = refl; dealt = refl; tape = refl; steps = refl; previous = refl; next = refl }

  node_is : (i : Number) → node i (stories i) ≡ run_of nodes mail i
  node_is i = does_its_part offer shares steps budget (miners_of t) i mail (stories i) (made i)

  posts : (l : Link) → sent_by stories l ≡ posted nodes mail l
  posts l = ap (λ (r : Ran Ended). on_link l r.acts) (node_is (sender_of l))

  are_joined : AreJoined offer shares steps budget (miners_of t) stories mail
  are_joined = record { made = made; received = λ l. subst (λ (sent : List (List ℕ)). Begins (mail l) sent) (sym (posts l)) (received l) }

  agree : AgreeWith offer shares steps budget (miners_of t) report stories
  agree = joined_nodes_agree_on_programs p code entries t budget stories mail h.accepted h.written h.can are_joined

  posted_begin : MailBegins (posted nodes mail) full
  posted_begin l = subst (λ (sent : List (List ℕ)). Begins sent (full l)) (posts l) (agree.sent l)

  accepts : (i : Number) (l : Link) (cause : BadMessage) → standing_of (run_of nodes mail i) ≢ Refuses l cause
  accepts i l cause e = agree.accepts i l cause (ap standing_of (node_is i) ∙ e)

  abbrev end : End
  end = record { how = agree.ending; cost = report.cost }

  -- ---- where each stands

  abbrev Ended_so : Number → Type 0
  Ended_so i = HasEndedSo budget end (learned_of report.events) (agree.all i) (does i)

  module _ (i : Number) (last : Ended) (outcome : (strands_do i).outcome ≡ Finished last) (left : (run_of nodes mail i).left ≡ Ends last)
      (acts : (strands_do i).acts ≡ (run_of nodes mail i).acts) where
    node_left : (node i (stories i)).left ≡ Ends last
    node_left = ap (λ (r : Ran Ended). r.left) (node_is i) ∙ left

    node_acts : (does i).acts ≡ (node i (stories i)).acts
    node_acts = ap (λ (r : Serving). r.acts) (does_so i) ∙ acts ∙ sym (ap (λ (r : Ran Ended). r.acts) (node_is i))

    as_node : EndsAs offer shares steps budget (miners_of t) report agree.ending (agree.all i) i (stories i)
    as_node = agree.ended i (ap (λ (s : Strand Ended). standing_with s (node i (stories i)).unread) node_left)

    ended_so : Ended_so i
    ended_so =
        record {
          last = last;
          comes = ap (λ (r : Serving). r.outcome) (does_so i) ∙ outcome;
          ends =
              end_of budget agree.ending report.cost last
              (subst (λ (s : Strand Ended). HasEnded s (stops.Over agree.ending)) node_left as_node.ended)
              (λ q values is. as_node.cost q values (node_left ∙ ap Ends is));
          opened_all = ap opened_in node_acts ∙ as_node.opened;
          told_all = ap told_in node_acts ∙ as_node.told;
        }

  stands_so : (i : Number) → joined.Comes nodes full outputs hello coming mail i → WaitsOrHasEnded budget end (learned_of report.events) (agree.all i) (does i)
  stands_so i (joined.waits_for e) = waits (ap (λ (r : Serving). r.outcome) (does_so i) ∙ e)
  stands_so i (joined.ends_with last outcome left acts) = has_ended (ended_so i last outcome left acts)

  each : (i : Number) → WaitsOrHasEnded budget end (learned_of report.events) (agree.all i) (does i)
  each i = stands_so i (comes accepts i)

  -- where all came
  finished : ((l : Link) → came_on p entries t budget digest code coming l ≡ sent_here l) → (i : Number)
      → WaitsOrHasEnded budget end (learned_of report.events) (agree.all i) (does i) → Ended_so i
  finished all i (waits e) =
      no_wait (outputs i)
      (sym e ∙ ap (λ (r : Serving). r.outcome) (does_so i)
      ∙ joined.ends_whole nodes full outputs hello coming joins (λ l. all l ∙ sent_is l) i)
  finished all i (has_ended ended) = ended

  -- ---- what they tell can be written

  named : AreNamed report.events
  named = events_named p offer budget h.accepted

  paid : ArePaid report.cost report.events
  paid = events_paid p offer budget h.accepted

  fits : AreCounted entries t budget → IsTextEnd end
  fits counted =
      let can : CanBeRun p entries t budget =
      record {
        program = h.accepted;
        inputs = h.can.sound;
        tapes = record { dealer = h.can.suffice.words; miners = h.can.words };
        counted = counted;
      } in
      (subst CanBeWritten agree.stop (ends p entries t budget can), cost p entries t budget can)

  pub agrees : AgreeWithTheRun p entries t budget digest code coming report
  agrees =
      record {
        sent = λ l.
            subst (λ (sent : List ℕ). Begins sent (run_bytes p entries t budget digest code l)) (sym (served_sent l))
            (begins-under (hello_bytes (hello_to (hello (sender_of l)) (receiver_of l))) (in_frames (on_link l (does (sender_of l)).acts)) (in_frames (full l))
            (frames_begin (on_link l (does (sender_of l)).acts) (full l)
            (begins-trans _ _ _ (begins-on_link l _ _ (acts_begin (sender_of l))) (posted_begin l))));
        opened = λ i.
            begins-trans _ _ _ (begins-opened _ _ (acts_begin i))
            (subst (λ (r : Ran Ended). Begins (opened_in r.acts) (learned_of report.events)) (node_is i) (agree.opened i));
        all = agree.all;
        tells = agree.tells;
        told = λ i.
            begins-trans _ _ _ (begins-told _ _ (acts_begin i))
            (subst (λ (r : Ran Ended). Begins (told_in r.acts) (agree.all i)) (node_is i) (agree.told i));
        end = end;
        how = agree.stop;
        cost = refl;
        each = each;
        finished = λ all i. finished all i (each i);
        end_fits = fits;
        texts = λ writable ended.
            ap (λ (told : Number → List Notice). join_of (λ i. Some (text_of (lines_told (told i) end)))) (λ d. λ i. (ended i).told_all d)
            ∙ texts_of_a_run_are_its_text report.events agree.all end agree.tells named paid writable;
      }

pub served_agree : (p : TypedProgramTree) (entries : List Entry) (t : FourTapes) (budget : ℕ) (digest : List ℕ) (code : RawCode)
    (coming : Number → ℕ → List ℕ) → ServedAgree p entries t budget digest code coming
served_agree p entries t budget digest code coming h = agrees p entries t budget digest code coming h

-- the digest of a file
pub digest_size : (bytes : List ℕ) → length (sha256 bytes) ≡ 32
digest_size bytes = sha256_length bytes

pub three_served_miners : ThreeServedMiners
three_served_miners =
    record {
      serve_as_evaluated = served_agree;
      end_with_honest_peers = ends_with_the_run;
      does_as_its_miner = does_as_its_miner;
      agree_with_evaluation = joined_nodes_agree_on_programs;
      texts_make_the_run_text = texts_of_a_run_are_its_text;
    }
