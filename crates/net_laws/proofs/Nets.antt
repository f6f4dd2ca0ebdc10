-- Honest miners go on: by what began the run's messages, and so along any deliveries.
use Rattle.std.proofs.Common.{◌≡◌, ◌<◌, ℕ, List, [], ◌∷◌, length, All, sym, ◌∙◌, ap, subst}
use Rattle.std.proofs.lemmas.List.Elements.{All-nil, All-cons, All-head, All-tail}
use Rattle.proto_core.specs.declared.party.Number.{Number}
use Rattle.proto_core.specs.declared.party.Number.TheVariants.{One, Two, Three}
use Rattle.proto_core.specs.declared.link.Link.{Link}
use Rattle.proto_core.specs.Parties.{sender_of, receiver_of}
use Rattle.proto_core.specs.Strand.{Mail, Strand, Begins, IsEnded, on_link}
use Rattle.proto_core.specs.Net.{nothing, into, run_of, posted, all_delivered, MailBegins}
use Rattle.proto_core.specs.Standing.{Awaits, standing_of}
use Rattle.proto_core.proofs.Beginnings.{begins-trans, begins-self}
use Rattle.proto_core.proofs.Nets.{into-more, posted-more, nodes-sent}
use Rattle.protocol_model.specs.Gates.{sizes_of}
use Rattle.protocol_model.specs.Runs.{Tapes}
use Rattle.bytecode.specs.Raw.{RawCode}
use Rattle.tape_file.specs.Tapes.{FourTapes}
use Rattle.value_file.specs.declared.inputs.Entry.{Entry}
use Rattle.program_trees.specs.TypedPrograms.{TypedProgramTree}
use Rattle.language_model.specs.Effects.{World}
use Rattle.language_model.specs.Reports.{Report, Offered}
use Rattle.verified_code.specs.Settled.{settled}
use Rattle.verified_code.specs.Steps.{Function}
use Rattle.code_places.specs.Dealt.{Dealt}
use Rattle.code_places.specs.Places.{first_place}
use Rattle.view_model.specs.TapeMaps.{miners_of}
use Rattle.program_run.specs.Accepted.{IsAccepted}
use Rattle.program_run.specs.Codes.{IsCodeOf}
use Rattle.program_run.specs.Dealt.{CanBeDealt}
use Rattle.program_run.specs.Inputs.{dealt_of}
use Rattle.program_run.specs.Offers.{offered}
use Rattle.program_run.specs.Reports.{eval_with, lengths_of}
use Rattle.program_run.proofs.Shared.{can_run_so, report_so}
use Rattle.miner_core.specs.Meaning.{fuel, mean}
use Rattle.miner_core.specs.OwnCode.{Ended, own_code}
use Rattle.miner_core.specs.Story.{Story, node}
use Rattle.miner_runs.specs.Runs.{messages, gates_to_run}
use Rattle.miner_runs.specs.OwnRuns.{public_world, own_nodes, own_end, OwnRunAsReported}
use Rattle.miner_runs.proofs.OwnRuns.{own_miners_run_the_code}
use Rattle.miner_runs.proofs.Stories.{does_its_part}
use Rattle.link_schedule.specs.Net.{Own, NetState, own_in, nodes_in, net_mail, net_node, net_posted}
use Rattle.shared_gates.proofs.Models.{gates-sound}
use Rattle.wire.specs.Frames.{IsFrameable}
use Rattle.framed_runs.specs.Framing.{CanBeFramed}
use Rattle.framed_runs.proofs.FramedScripts.{run_gates-fit}
use Rattle.framed_runs.proofs.FramedMessages.{run-framed}
use Rattle.joined_nodes.specs.Joined.{sent_by, AreJoined}
use Rattle.joined_nodes.proofs.Ends.{beginning_is_accepted}
use Rattle.net_laws.specs.Honest.{GoesOn, NodesGoOn, IsNetOf, NetGoesOn}
use Rattle.net_laws.specs.HonestLaws.{JoinedNodesGoOn, NetsGoOn, JoinedNodesGoOnWithPrograms, NetsGoOnWithPrograms}
use Rattle.net_laws.proofs.Waiting.{more_to_come, further_into}

front_framed : (xs ys : List (List ℕ)) → Begins xs ys → All IsFrameable ys → All IsFrameable xs
front_framed [] ys b all = All-nil IsFrameable
front_framed (x ∷ xs) [] b all = absurd b
front_framed (x ∷ xs) (y ∷ ys) b all =
    All-cons IsFrameable x xs (subst IsFrameable (sym b.0) (All-head IsFrameable y ys all)) (front_framed xs ys b.1 (All-tail IsFrameable y ys all))

-- ---- BY THE MESSAGES OF THE RUN

module _ (o : Offered) (d : Dealt) (c : List Function) (budget : ℕ) (tapes : Tapes) (r : Report) (ran : OwnRunAsReported o d c budget tapes r) where
  abbrev own : Number → Strand Ended
  own = own_nodes o d c budget tapes

  abbrev full : Mail
  full = messages d r tapes

  at_end : (i : Number) → IsEnded (run_of own full i).left
  at_end i = subst (λ s. IsEnded s) (sym (ran.finishes.ended i)) tt

  run_framed : CanBeFramed full
  run_framed =
      run-framed (gates_to_run d r) (λ i. []) tapes (gates-sound d.shares (sizes_of d.inputs) [] r.gates)
      (run_gates-fit d.shares (sizes_of d.inputs) [] r.gates) ran.turns.ready

  goes_on : (mail : Mail) → MailBegins mail full → (i : Number) → GoesOn full mail i (standing_of (run_of own mail i))
  goes_on mail begins i =
      record {
        accepts = λ l cause. beginning_is_accepted (own i) (into i mail) (into i full) (into-more own i mail full begins) (at_end i) l cause;
        own_link = λ l e. (there l e).0;
        further = λ l e. (there l e).1;
      }
    where
      there : (l : Link) → standing_of (run_of own mail i) ≡ Awaits l → (receiver_of l ≡ i) × (length (mail l) < length (full l))
      there l e = further_into i mail full l (more_to_come (own i) (into i mail) (into i full) l (into-more own i mail full begins) (at_end i) e)

  sent_framed : (sent : Mail) → MailBegins sent full → CanBeFramed sent
  sent_framed sent begins l = front_framed (sent l) (full l) (begins l) (run_framed l)

  -- ---- THREE NODES

  module _ (nodes : Number → Story) (mail : Mail) (joined : AreJoined o d c budget tapes nodes mail) where
    does : (i : Number) → node i (nodes i) ≡ run_of own mail i
    does i = does_its_part o d c budget tapes i mail (nodes i) (joined.made i)

    posts : (l : Link) → sent_by nodes l ≡ posted own mail l
    posts l = ap (λ x. on_link l x.acts) (does (sender_of l))

    received : MailBegins mail (posted own mail)
    received l = subst (λ v. Begins (mail l) v) (posts l) (joined.received l)

    sends : MailBegins (posted own mail) full
    sends = nodes-sent own full mail (own_end d tapes r ran.turns.last) ran.finishes received

    nodes_go_on : NodesGoOn d tapes r nodes mail
    nodes_go_on =
        record {
          each = λ i.
              subst (λ x. GoesOn full mail i (standing_of x)) (sym (does i)) (goes_on mail (λ l. begins-trans _ _ _ (received l) (sends l)) i);
          frames = sent_framed (sent_by nodes) (λ l. subst (λ v. Begins v (full l)) (sym (posts l)) (sends l));
        }

  -- ---- A NET

  module _ (net : NetState) (is : IsNetOf o d c budget tapes net) where
    abbrev made_with : World → List Function → (steps : ℕ) → Number → Own → Strand Ended
    made_with w code steps i x = own_code w code i x.dealt (fuel code steps) (first_place code steps) [] x.tape

    node_is : (i : Number) → nodes_in net i ≡ own i
    node_is i =
        ap (λ w. made_with w net.code net.budget i (own_in net i)) is.world
        ∙ ap (λ code. made_with (public_world o) code net.budget i (own_in net i)) is.code
        ∙ ap (λ steps. made_with (public_world o) c steps i (own_in net i)) is.steps
        ∙ ap (made_with (public_world o) c budget i) (is.own i)

    nodes_are : nodes_in net ≡ own
    nodes_are = λ e. λ i. node_is i e

    abbrev came : Mail
    came = all_delivered own nothing net.delivered

    mail_is : net_mail net ≡ came
    unfolding net_mail
    mail_is = ap (λ (nodes : Number → Strand Ended). all_delivered nodes nothing net.delivered) nodes_are

    at_node : (i : Number) → net_node net i ≡ run_of own came i
    at_node i = ap (λ (nodes : Number → Strand Ended). run_of nodes (net_mail net) i) nodes_are ∙ ap (λ (mail : Mail). run_of own mail i) mail_is

    posted_is : (l : Link) → net_posted net l ≡ posted own came l
    posted_is l = ap (λ x. on_link l x.acts) (at_node (sender_of l))

    begins : MailBegins came full
    begins = (ran.any_order net.delivered).begins

    net_goes_on : NetGoesOn d tapes r net
    net_goes_on =
        record {
          each = λ i.
              subst (λ mail. GoesOn full mail i (standing_of (net_node net i))) (sym mail_is)
              (subst (λ x. GoesOn full came i (standing_of x)) (sym (at_node i)) (goes_on came begins i));
          frames = sent_framed (net_posted net)
              (λ l. subst (λ v. Begins v (full l)) (sym (posted_is l)) (begins-trans _ _ _ (posted-more own came full begins l) (all_sent l)));
        }
      where
        all_sent : (l : Link) → Begins (posted own full l) (full l)
        all_sent l = subst (λ v. Begins (posted own full l) v) (ran.finishes.sent l) (begins-self (posted own full l))

-- ---- OF CODE, AND OF PROGRAMS

pub joined_nodes_go_on : (o : Offered) (d : Dealt) (c : List Function) (budget : ℕ) (tapes : Tapes) (nodes : Number → Story) (mail : Mail)
    → JoinedNodesGoOn o d c budget tapes nodes mail
joined_nodes_go_on o d c budget tapes nodes mail may joined =
    nodes_go_on o d c budget tapes (mean c o budget) (own_miners_run_the_code o d c budget tapes may) nodes mail joined

pub nets_go_on : (o : Offered) (d : Dealt) (c : List Function) (budget : ℕ) (tapes : Tapes) (net : NetState) → NetsGoOn o d c budget tapes net
nets_go_on o d c budget tapes net may is = net_goes_on o d c budget tapes (mean c o budget) (own_miners_run_the_code o d c budget tapes may) net is

module _ (p : TypedProgramTree) (given : RawCode) (entries : List Entry) (t : FourTapes) (budget : ℕ) where
  abbrev o : Offered
  o = offered entries (lengths_of t)

  abbrev d : Dealt
  d = dealt_of entries t.dealer

  evaluated_so : IsAccepted p → IsCodeOf p given → CanBeDealt entries t →
      OwnRunAsReported o d (settled given) budget (miners_of t) (eval_with p entries t budget)
  evaluated_so accepted code can =
      subst (λ (r : Report). OwnRunAsReported o d (settled given) budget (miners_of t) r)
      (report_so p accepted given code entries t can.sound can.suffice (can.words One) (can.words Two) (can.words Three) budget)
      (own_miners_run_the_code o d (settled given) budget (miners_of t)
      (can_run_so p accepted given code entries t can.sound can.suffice (can.words One) (can.words Two) (can.words Three)))

  pub joined_nodes_go_on_with_programs : (nodes : Number → Story) (mail : Mail) → JoinedNodesGoOnWithPrograms p given entries t budget nodes mail
  joined_nodes_go_on_with_programs nodes mail accepted code can joined =
      nodes_go_on o d (settled given) budget (miners_of t) (eval_with p entries t budget) (evaluated_so accepted code can) nodes mail joined

  pub nets_go_on_with_programs : (net : NetState) → NetsGoOnWithPrograms p given entries t budget net
  nets_go_on_with_programs net accepted code can is =
      net_goes_on o d (settled given) budget (miners_of t) (eval_with p entries t budget) (evaluated_so accepted code can) net is
