-- A miner that runs a program's code sees what its view says.
use Rattle.std.proofs.Common.{◌≡◌, ℕ, List, [], ◌∷◌, length, map, take, Some, refl, sym, ◌∙◌, ap, subst}
use Rattle.std.specs.Prelude.{if◌then◌else◌}
use Rattle.std.proofs.lemmas.Bool.{le-leb}
use Rattle.sc_text.specs.declared.event.Event.{Event}
use Rattle.proto_core.specs.declared.party.Number.{Number}
use Rattle.proto_core.specs.declared.party.Number.TheVariants.{One}
use Rattle.proto_core.specs.declared.link.Link.{Link}
use Rattle.proto_core.specs.Strand.{Notice, Mail, Strand, told_in}
use Rattle.proto_core.specs.Net.{nothing, run_of, all_delivered}
use Rattle.protocol_model.specs.Arrivals.{arrivals, arrived}
use Rattle.protocol_model.specs.Complete.{IsComplete}
use Rattle.protocol_model.specs.Gates as model
use Rattle.protocol_model.specs.Gates.{sizes_of, gates_script}
use Rattle.protocol_model.specs.Network.{Accepted, Delivery, net, order_of, walked}
use Rattle.protocol_model.specs.Runs.{run_messages}
use Rattle.shared_gates.specs.Model.{run_gates, miner_of}
use Rattle.tape_file.specs.Tapes.{FourTapes}
use Rattle.value_file.specs.declared.inputs.Entry.{Entry}
use Rattle.input_share.specs.Dealing.{need_of}
use Rattle.input_share.specs.declared.entry.Part.{Part}
use Rattle.input_share.specs.declared.entry.Part.TheVariants as part
use Rattle.input_share.specs.declared.entry.ShareEntry.{ShareEntry}
use Rattle.program_trees.specs.TypedPrograms.{TypedProgramTree}
use Rattle.reached_instances.specs.Instances.{Instance}
use Rattle.language_model.specs.Effects.{Words}
use Rattle.language_model.specs.Reports.{Report}
use Rattle.clear_eval.specs.Offers.{offered}
use Rattle.verified_code.specs.Settled.{settled}
use Rattle.delivered_run.specs.RawCodes.{raw_code_of_program}
use Rattle.gate_laws.specs.Dealt.{Dealt, drawn_by}
use Rattle.gate_laws.specs.Laws.{IsDealing}
use Rattle.delivered_run.specs.Telling.{elements_told, Tells}
use Rattle.delivered_run.specs.Telling as tells
use Rattle.delivered_run.specs.Runs.{gates_to_run, messages, shares}
use Rattle.view_text.specs.View.{View}
use Rattle.view_model.specs.Dealing.{private_then, private_shares, dealt_to, private_sizes}
use Rattle.view_model.specs.Held.{private_values}
use Rattle.view_model.specs.TapeMaps.{miners_of, no_values, gates_dealt, AreTapes}
use Rattle.view_model.specs.Seen.{Seen, seen_by}
use Rattle.view_model.proofs.DealtSizes.{sizes_dealt}
use Rattle.program_views.specs.Inputs.{dealt_of}
use Rattle.program_views.proofs.Offering.{are_dealt}
use Rattle.program_views.specs.Views.{lengths_of, run_on, share_then, input_shares, received, openings, nothing_seen, view_at, seen_of, view_of}
use Rattle.program_views.specs.Views.{net_of}
use Rattle.program_views.specs.Laws.{IsGivenTo}
use Rattle.program_views.proofs.Simulated.{drew_counted}
use Rattle.delivered_run.specs.Accepted.{IsAccepted}
use Rattle.delivered_run.specs.Dealt.{CanBeDealt}
use Rattle.delivered_run.specs.OwnCode.{Ended}
use Rattle.delivered_run.specs.OwnRuns.{own_end, OwnRunAsReported}
use Rattle.delivered_run.specs.Programs.{OwnRunsOnShares}
use Rattle.delivered_run.proofs.Programs.{own_runs_where_accepted}
use Rattle.viewed_run.specs.CodeViews.{shown_in, code_nodes, order, ran, SeesItsView, CodeViewsAreViews}

-- ---- WHAT IS TOLD AND HELD

pub shown_same : {events : List Event} {notices : Number → List Notice} (i : Number) → Tells events notices → openings events ≡ shown_in (notices i)
shown_same i tells.nothing = refl
shown_same i (tells.opened form words of more) = ap (λ v. elements_told form words ∷ v) (shown_same i more)
shown_same i (tells.published text form words of more) = shown_same i more
shown_same i (tells.handed text form words shares of are more) = shown_same i more

words_held : (entries : List ShareEntry) → map (λ share. share.words) (input_shares entries) ≡ private_shares entries
words_held [] = refl
words_held (entry ∷ entries) = by_part entry.part (words_held entries)
  where
    by_part :
        (x : Part) → map (λ share. share.words) (input_shares entries) ≡ private_shares entries
        → map (λ share. share.words) (share_then entry.name x (input_shares entries)) ≡ private_then x (private_shares entries)
    by_part (part.Public value) rest = rest
    by_part (part.Private shared) rest = ap (λ v. shared.words ∷ v) rest

-- ---- ONE DELIVERY

module _ (i : Number) (p : TypedProgramTree) (entries : List Entry) (t : FourTapes) (budget : ℕ) (delivery : Delivery) (a : IsAccepted p)
    (can : CanBeDealt entries t) (net_accepts : net_of p entries t budget delivery ≡ Accepted) where
  abbrev r : Report
  r = run_on p entries (lengths_of t) budget

  abbrev d : Dealt
  d = dealt_of entries t.dealer

  runs : OwnRunsOnShares p entries t budget
  runs = own_runs_where_accepted p entries t budget a can

  abbrev is : List Instance
  is = (runs).reached

  abbrev run : OwnRunAsReported (offered entries (lengths_of t)) d (settled (raw_code_of_program p is)) budget (miners_of t) r
  run = (runs).run

  abbrev nodes : Number → Strand Ended
  nodes = code_nodes i p entries t budget delivery is

  -- the code's gates on what is dealt are those of the views
  abbrev gates : List model.Gate
  gates = gates_dealt entries t.dealer (r).gates

  sizes : sizes_of (private_values entries) ≡ private_sizes entries
  sizes =
      let dealing : IsDealing d = are_dealt entries t.dealer can.sound can.suffice in
      sym (dealing.sized One) ∙ sizes_dealt One entries t.dealer can.suffice.enough

  same_gates : gates_to_run d r ≡ gates
  same_gates = ap (λ ns. run_gates (dealt_to entries t.dealer) ns [] (r).gates) sizes

  abbrev at : List Link
  at = order i p entries t budget delivery

  accepts : walked nodes 0 nothing at ≡ Accepted
  accepts =
      subst (λ gs. walked nodes 0 nothing (order_of (λ k. gates_script k gs) delivery) ≡ net (λ k. gates_script k gs) delivery) same_gates
      ((run).counted_from (order_of (λ k. gates_script k (gates_to_run d r)) delivery) 0 nothing (λ l. tt))
      ∙ net_accepts

  come : arrived nodes i nothing at ≡ arrivals i (run_messages gates no_values (miners_of t)) at
  come =
      subst (λ gs. arrived nodes i nothing at ≡ arrivals i (run_messages gs no_values (miners_of t)) at) same_gates ((run).arrive i at accepts)

  abbrev full : Mail
  full = messages d r (miners_of t)

  through : IsComplete nodes full (own_end d (miners_of t) r (run).turns.last)
      (all_delivered nodes nothing at)
  through = (run).complete at accepts

  tells_the_openings : openings (r).events ≡ shown_in (told_in (ran i p entries t budget delivery is).acts)
  tells_the_openings =
      shown_same i (run).told
      ∙ ap (λ (mail : Mail). shown_in (told_in (run_of nodes mail i).acts)) (λ e. λ l. sym ((through).came l) e)

  -- ---- THE VIEW

  abbrev seen : Seen
  seen = seen_by i entries (r).gates t delivery

  is_seen_so : seen_of i entries t delivery r ≡ seen
  is_seen_so = ap (λ b. if b then seen else nothing_seen) (le-leb (need_of entries) (length t.dealer) can.suffice.enough)

  abbrev view : View
  view =
      record {
        miner = i;
        inputs = input_shares (seen).inputs;
        drew = (seen).drew;
        got = map received (seen).got;
        opened = openings (r).events;
        end = record { how = (run).turns.stops.ending; cost = (r).cost };
      }

  is_view : view_of i p entries t budget delivery ≡ Some view
  is_view = ap (λ s. view_at i s r (r).stop) is_seen_so ∙ ap (view_at i seen r) (run).turns.stops.stop

  given : IsGivenTo a.source p a.within.list entries
  given =
      record {
        program = record { typed = a.typed; written = a.written; resolved = a.of; reached = a.within.reached; within = a.within };
        inputs = can.sound;
      }

  are : AreTapes t
  are = record { dealer = can.suffice.words; miners = can.words }

  draws : (seen).drew ≡ take (drawn_by (run).turns.last.stage.drawn (miner_of i)) (miners_of t i)
  draws =
      ap (λ s. s.drew) (sym is_seen_so)
      ∙ drew_counted a.source p a.within.list entries given t are budget i delivery
      ∙ ap (λ (words : Words). take (drawn_by words (miner_of i)) (miners_of t i)) (sym (run).turns.stops.drawn)

  pub sees_its_view : SeesItsView i p entries t budget delivery
  sees_its_view =
      record {
        reached = is;
        are = (runs).are;
        view = view;
        seen = is_view;
        inputs = words_held (seen).inputs;
        got = ap (map received) (sym come);
        opened = tells_the_openings;
        end = record {
          last = (run).turns.last;
          values = shares d r (miners_of t) i;
          at_end = (through).ended i;
          how = (run).turns.stops.ended;
          cost = (run).turns.stops.cost;
          drew = draws;
        };
      }

pub code_views_are_views :
    (i : Number) (p : TypedProgramTree) (entries : List Entry) (t : FourTapes) (budget : ℕ) (delivery : Delivery)
    → CodeViewsAreViews i p entries t budget delivery
code_views_are_views i p entries t budget delivery a can net_accepts = sees_its_view i p entries t budget delivery a can net_accepts
