-- The nets of a run, of its views and of the simulator.
use Rattle.std.proofs.Common.{◌≡◌, ℕ, List, [], ◌∷◌, map, Some, None, refl, sym, ◌∙◌, ap, subst}
use Rattle.proto_core.specs.declared.party.Number.{Number}
use Rattle.proto_core.specs.declared.link.Link.{Link}
use Rattle.proto_core.specs.Net.{nothing}
use Rattle.protocol_model.specs.Arrivals.{Arrival}
use Rattle.protocol_model.specs.Network.{Accepted, Delivery, order_of}
use Rattle.protocol_model.specs.Runs.{nodes_of}
use Rattle.value_file.specs.declared.inputs.Entry.{Entry}
use Rattle.tape_file.specs.Tapes.{FourTapes}
use Rattle.program_trees.specs.TypedPrograms.{TypedProgramTree}
use Rattle.language_model.specs.Effects.{RunStop, Ended, Short}
use Rattle.language_model.specs.Reports.{Report}
use Rattle.view_text.specs.View.{View}
use Rattle.view_model.specs.TapeMaps.{miners_of, no_values, gates_dealt, AreTapes}
use Rattle.program_run.specs.Accepted.{IsAccepted}
use Rattle.program_views.specs.Laws.{IsGivenTo, NetIsCounted}
use Rattle.program_views.specs.Views.{lengths_of, run_on, received, view_at, view_of, seen_of, scripts_of}
use Rattle.program_views.proofs.Nets.{nets_counted}
use Rattle.view_simulator.proofs.Runs.{nets_simulated}
use Rattle.viewed_run.specs.Premises.{HaveWords}
use Rattle.viewed_run.specs.Deliveries.{net_of, delivered_of}
use Rattle.viewed_run.proofs.Agreeing.{nets_agree}
use Rattle.net_laws.specs.OneNet.{links_to, IsOneNet, HaveOneNet}
use Rattle.net_laws.proofs.Orders.{come_in_order}

links_received : (arrivals : List Arrival) → map (λ r. r.link) (map received arrivals) ≡ map (λ a. a.link) arrivals
links_received [] = refl
links_received (a ∷ arrivals) = ap (λ x. a.link ∷ x) (links_received arrivals)

some_is : (v view : View) → Some v ≡ Some view → v ≡ view
some_is v view e = cc

none_is : {X : Type 0} (view : View) → None ≡ Some view → X
none_is view e = cc

module _
    (i : Number) (p : TypedProgramTree) (entries : List Entry) (t : FourTapes) (budget : ℕ) (delivery : Delivery) (a : IsAccepted p)
    (have : HaveWords entries t)
  where
    abbrev r : Report
    r = run_on p entries (lengths_of t) budget

    abbrev order : List Link
    order = order_of (scripts_of entries t r) delivery

    given : IsGivenTo a.source p a.within.list entries
    given =
        record {
          program = record { typed = a.typed; written = a.written; resolved = a.of; reached = a.within.reached; within = a.within };
          inputs = have.sound;
        }

    tapes : AreTapes t
    tapes = record { dealer = have.dealer; miners = have.words }

    counted : NetIsCounted p entries t budget
    counted = nets_counted a.source p entries t budget a.within.list given tapes

    got_links : net_of p entries t budget delivery ≡ Accepted
        → map (λ arrival. arrival.link) (seen_of i entries t delivery r).got ≡ links_to i (delivered_of p entries t budget delivery)
    got_links accepted =
        let agree = nets_agree p entries t budget delivery in
        let taken = agree.answers ∙ accepted in
        ap (λ arrivals. map (λ arrival. arrival.link) arrivals) (sym (counted.comes i delivery taken))
        ∙ come_in_order (nodes_of (gates_dealt entries t.dealer r.gates) no_values (miners_of t)) i 0 nothing order (counted.counted delivery ∙ taken)
        ∙ ap (links_to i) agree.orders

    in_order : net_of p entries t budget delivery ≡ Accepted → (view : View) → view_of i p entries t budget delivery ≡ Some view
        → map (λ received. received.link) view.got ≡ links_to i (delivered_of p entries t budget delivery)
    in_order accepted view = by_stop r.stop
      where
        by_stop : (stop : RunStop) → view_at i (seen_of i entries t delivery r) r stop ≡ Some view
            → map (λ received. received.link) view.got ≡ links_to i (delivered_of p entries t budget delivery)
        by_stop (Ended ending) e =
            subst (λ (v : View). map (λ received. received.link) v.got ≡ links_to i (delivered_of p entries t budget delivery)) (some_is _ view e)
            (links_received (seen_of i entries t delivery r).got ∙ got_links accepted)
        by_stop Short e = none_is view e

    one_net : IsOneNet i p entries t budget delivery
    one_net =
        record {
          simulator = λ more.
              nets_simulated i a.source p entries t budget delivery a.within.list given tapes more ∙ (nets_agree p entries t budget delivery).answers;
          order = in_order;
        }

pub have_one_net : (i : Number) (p : TypedProgramTree) (entries : List Entry) (t : FourTapes) (budget : ℕ) (delivery : Delivery)
    → HaveOneNet i p entries t budget delivery
have_one_net i p entries t budget delivery a have = one_net i p entries t budget delivery a have
