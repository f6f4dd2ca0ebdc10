-- What a miner saw of a run of dealt inputs is the view that it has of such a run.
use Rattle.std.proofs.Common.{◌≡◌, ℕ, ◌-◌, Bool, List, length, map, take, Some, sym, ◌∙◌, ap}
use Rattle.std.specs.Prelude.{if◌then◌else◌}
use Rattle.std.proofs.lemmas.Bool.{le-leb}
use Rattle.std.proofs.lemmas.Option.{same_Some}
use Rattle.sc_text.specs.declared.end.Ending.{Ending}
use Rattle.sc_text.specs.declared.elements.Element.{Element}
use Rattle.proto_core.specs.declared.party.Number.{Number}
use Rattle.proto_core.specs.declared.link.Link.{Link}
use Rattle.proto_core.specs.Parties.{sender_of}
use Rattle.proto_core.specs.Strand.{Mail, Ran, on_link, told_in}
use Rattle.protocol_model.specs.Arrivals.{arrivals}
use Rattle.protocol_model.specs.Gates as model
use Rattle.protocol_model.specs.Gates.{gates_script}
use Rattle.protocol_model.specs.Network.{Delivery, order_of}
use Rattle.protocol_model.specs.Runs.{run_messages}
use Rattle.shared_gates.specs.Model.{miner_of}
use Rattle.tape_file.specs.Tapes.{FourTapes}
use Rattle.program_trees.specs.TypedPrograms.{TypedProgramTree}
use Rattle.value_file.specs.declared.inputs.Entry.{Entry}
use Rattle.input_share.specs.Dealing.{need_of}
use Rattle.input_share.specs.ShareFile.{MinerFile}
use Rattle.input_share.specs.declared.dealing.Dealt as sharing
use Rattle.language_model.specs.Effects.{Words}
use Rattle.language_model.specs.Reports.{Report}
use Rattle.clear_eval.specs.Offers.{offered}
use Rattle.gate_laws.specs.Dealt.{Dealt, drawn_by}
use Rattle.view_text.specs.View.{InputShare, Received, View}
use Rattle.view_model.specs.TapeMaps.{AreTapes, gates_dealt, miners_of, no_values}
use Rattle.view_model.specs.Seen.{Seen, seen_by}
use Rattle.program_views.specs.Inputs.{dealt_of}
use Rattle.delivered_run.specs.Runs.{messages, shares}
use Rattle.program_views.specs.Views.{input_shares, lengths_of, nothing_seen, openings, received, run_on, seen_of, view_at, view_of}
use Rattle.program_views.specs.Laws.{IsGivenTo}
use Rattle.program_views.proofs.Simulated.{drew_counted}
use Rattle.viewed_run.specs.CodeViews.{shown_in}
use Rattle.viewed_run.proofs.CodeViews.{shown_same}
use Rattle.delivered_run.specs.Accepted.{IsAccepted}
use Rattle.miner_core.specs.OwnCode.{Ended as Stopping}
use Rattle.delivered_run.specs.OwnRuns.{OwnRunAsReported}
use Rattle.link_schedule.specs.Net.{NetState, net_node, net_posted}
use Rattle.link_schedule.specs.Streams.{with_tapes}
use Rattle.delivered_run.specs.States.{RunState}
use Rattle.delivered_run.specs.Courses.{IsAtItsEnd, IsDealtRun, file_of}
use Rattle.viewed_run.specs.Seats.{SeesIn, StopsAt}
use Rattle.viewed_run.proofs.Agreeing.{gates_same}

-- ---- a view of these parts

abbrev made : Number → List InputShare → (drew : List ℕ) → List Received → List (List Element) → Ending → (cost : ℕ) → View
made i inputs drew got opened how cost =
    record { miner = i; inputs = inputs; drew = drew; got = got; opened = opened; end = record { how = how; cost = cost } }

made_same :
    (v : View) (i : Number) (inputs : List InputShare) (drew : List ℕ) (got : List Received) (opened : List (List Element)) (how : Ending) (cost : ℕ)
    → v.miner ≡ i → v.inputs ≡ inputs → v.drew ≡ drew → v.got ≡ got → v.opened ≡ opened → v.end.how ≡ how → v.end.cost ≡ cost
    → v ≡ made i inputs drew got opened how cost
made_same v i inputs drew got opened how cost a b c d e f g =
    ap (λ x. made x v.inputs v.drew v.got v.opened v.end.how v.end.cost) a
    ∙ ap (λ x. made i x v.drew v.got v.opened v.end.how v.end.cost) b
    ∙ ap (λ x. made i inputs x v.got v.opened v.end.how v.end.cost) c
    ∙ ap (λ x. made i inputs drew x v.opened v.end.how v.end.cost) d
    ∙ ap (λ x. made i inputs drew got x v.end.how v.end.cost) e
    ∙ ap (λ x. made i inputs drew got opened x v.end.cost) f
    ∙ ap (λ x. made i inputs drew got opened how x) g

-- ---- a net at its end

module _ (p : TypedProgramTree) (entries : List Entry) (t : FourTapes) (budget : ℕ) (given : Delivery) (a : IsAccepted p) (files : sharing.Dealt)
    (ended : RunState) (h : IsDealtRun p entries t budget given files ended) where
  abbrev r : Report
  r = run_on p entries (lengths_of t) budget

  abbrev d : Dealt
  d = dealt_of entries t.dealer

  abbrev net : NetState
  net = with_tapes ended.net (miners_of t)

  abbrev end : IsAtItsEnd (offered entries (lengths_of t)) d h.code budget (miners_of t) r given net
  end = h.ran.net

  abbrev run : OwnRunAsReported (offered entries (lengths_of t)) d h.code budget (miners_of t) r
  run = (end).own

  left_so : (i : Number) → StopsAt (net_node net i).left (run).turns.last
  left_so i =
      record {
        values = shares d r (miners_of t) i;
        at_end = ap (λ (q : Ran Stopping). q.left) ((end).node i) ∙ (run).finishes.ended i;
        ending = (run).turns.stops.ending;
        ended = (run).turns.stops.ended;
      }

  -- the messages that were sent are those of the gates on what is dealt

  abbrev gates : List model.Gate
  gates = gates_dealt entries t.dealer (r).gates

  sent_so : (l : Link) → net_posted net l ≡ messages d r (miners_of t) l
  sent_so l = ap (λ (q : Ran Stopping). on_link l q.acts) ((end).node (sender_of l)) ∙ (run).finishes.sent l

  all_sent : net_posted net ≡ messages d r (miners_of t)
  all_sent e l = sent_so l e

  posted_so : net_posted net ≡ run_messages gates no_values (miners_of t)
  posted_so = all_sent ∙ ap (λ (gs : List model.Gate). run_messages gs no_values (miners_of t)) (gates_same entries t r)

  order_so : (net).delivered ≡ order_of (λ k. gates_script k gates) given
  order_so = (end).delivered ∙ ap (λ (gs : List model.Gate). order_of (λ k. gates_script k gs) given) (gates_same entries t r)

  -- ---- what is seen

  module _ (i : Number) (v : View) (sees : SeesIn net i (file_of files i) (miners_of t i) v) where
    abbrev seen : Seen
    seen = seen_by i entries (r).gates t given

    is_seen_so : seen_of i entries t given r ≡ seen
    is_seen_so = ap (λ (b : Bool). if b then seen else nothing_seen) (le-leb (need_of entries) (length t.dealer) h.can.suffice.enough)

    inputs_so : v.inputs ≡ input_shares (seen).inputs
    inputs_so = sees.inputs ∙ ap (λ (f : MinerFile). input_shares f.entries) (h.file i)

    got_so : v.got ≡ map received (seen).got
    got_so =
        sees.got
        ∙ ap (λ (mail : Mail). map received (arrivals i mail (net).delivered)) posted_so
        ∙ ap (λ (links : List Link). map received (arrivals i (run_messages gates no_values (miners_of t)) links)) order_so

    opened_so : v.opened ≡ openings (r).events
    opened_so = sees.opened ∙ ap (λ (q : Ran Stopping). shown_in (told_in q.acts)) ((end).node i) ∙ sym (shown_same i (run).told)

    given_to : IsGivenTo a.source p a.within.list entries
    given_to =
        record {
          program = record { typed = a.typed; written = a.written; resolved = a.of; reached = a.within.reached; within = a.within };
          inputs = h.can.sound;
        }

    are : AreTapes t
    are = record { dealer = h.can.suffice.words; miners = h.can.words }

    drew_so : v.drew ≡ (seen).drew
    drew_so =
        sees.drew (run).turns.last (left_so i)
        ∙ ap (λ (words : Words). take (drawn_by words (miner_of i)) (miners_of t i)) (run).turns.stops.drawn
        ∙ sym (drew_counted a.source p a.within.list entries given_to t are budget i given)
        ∙ ap (λ (s : Seen). s.drew) is_seen_so

    how_so : v.end.how ≡ (run).turns.stops.ending
    how_so = same_Some v.end.how (run).turns.stops.ending (sym (sees.how (run).turns.last (left_so i)) ∙ (run).turns.stops.ended)

    cost_so : v.end.cost ≡ (r).cost
    cost_so =
        sees.cost (run).turns.last (left_so i)
        ∙ ap (λ (n : ℕ). n - (run).turns.last.stage.left) (end).steps
        ∙ (run).turns.stops.cost

    pub is_its_view : view_of i p entries t budget given ≡ Some v
    is_its_view =
        ap (λ (s : Seen). view_at i s r (r).stop) is_seen_so
        ∙ ap (view_at i seen r) (run).turns.stops.stop
        ∙ ap Some (sym (made_same v i _ _ _ _ _ _ sees.miner inputs_so drew_so got_so opened_so how_so cost_so))
