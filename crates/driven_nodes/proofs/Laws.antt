-- Three driven miners are led to one place at each turn, and the gates of the whole run are sound and can be run: then all
-- that holds of miners that know these gates from the start holds of them, under every schedule.
use Rattle.std.proofs.Common.{◌≡◌, ℕ, ◌≤◌, ◌+◌, List, ◌∙◌, subst}
use Rattle.std.specs.Prelude.{Option}
use Rattle.proto_core.specs.declared.party.Number.{Number}
use Rattle.proto_core.specs.declared.link.Link.{Link}
use Rattle.proto_core.specs.Script.{Move}
use Rattle.proto_core.specs.Strand.{Mail, Strand, Begins, told_in}
use Rattle.proto_core.specs.Net.{nothing, run_of, into, all_delivered, opened_by, MailBegins, Finishes}
use Rattle.proto_core.proofs.Beginnings.{begins-self}
use Rattle.proto_core.proofs.Nets.{into-more, schedule-begins}
use Rattle.proto_core.proofs.Strands.{run-more, begins-opened}
use Rattle.protocol_model.specs.Arrivals.{arrivals, arrived, to_come}
use Rattle.protocol_model.specs.Complete.{IsComplete}
use Rattle.protocol_model.specs.Gates.{Gate, AreSound, AreSilent, gates_script}
use Rattle.protocol_model.specs.Network.{Accepted, Default, Delivery, Shuffled, net, order_of, walked, counted, counts, made_order, total}
use Rattle.protocol_model.specs.Runs.{Shares, Tapes, Ready, run_messages, run_values, run_opened, nodes_of}
use Rattle.protocol_model.specs.Schedules.{AnyOrder}
use Rattle.protocol_model.proofs.Coming.{come-in_order}
use Rattle.protocol_model.proofs.GateRuns.{run-finishes, run-opens}
use Rattle.protocol_model.proofs.GateSchedules.{moves-along_run, made-order_accepted}
use Rattle.driven_nodes.specs.Alike.{AreAlike}
use Rattle.driven_nodes.specs.Driven.{Turn, path, stop, notices, Led, driven_nodes}
use Rattle.driven_nodes.proofs.Nets.{finish_too, opened_same, alike_schedules_are_counted, alike_made_orders_are_accepted}
use Rattle.driven_nodes.proofs.Nets.{alike_orders_are_the_run, alike_accepted_orders_are_complete}
use Rattle.driven_nodes.proofs.DrivenRuns.{with_values, driven_alike, led_goes}
use Rattle.driven_nodes.proofs.Telling.{driven_tells_in_order, driven_tells}

module _ {S : Type 0} (next : S → Option (Turn S)) (fuel : ℕ) (s : S) (values : Shares) (tapes : Tapes) where
  abbrev pub gates : List Gate
  gates = path next fuel s values tapes

  abbrev pub full : Mail
  full = run_messages gates values tapes

  abbrev pub nodes : Number → Strand (S × List (List ℕ))
  nodes = driven_nodes next fuel s values tapes

  abbrev pub outputs : Number → S × List (List ℕ)
  outputs i = (stop next fuel s values tapes, run_values gates values tapes i)

  abbrev scripts : Number → List Move
  scripts i = gates_script i gates

  module _ (sound : AreSound gates) (ready : Ready gates values tapes) (led : Led next fuel s values tapes) where
    -- with all messages that begin the run's they do the same
    pub driven_are_alike : AreAlike (with_values (stop next fuel s values tapes)) full nodes (nodes_of gates values tapes)
    driven_are_alike i = driven_alike next fuel i s values tapes (led_goes next fuel s values tapes sound ready led)

    known : Finishes (nodes_of gates values tapes) full (run_values gates values tapes)
    known = run-finishes gates values tapes sound ready

    -- they send the run's messages, and end at one place with the run's shares
    pub driven_finish : Finishes nodes full outputs
    driven_finish = finish_too _ nodes (nodes_of gates values tapes) full driven_are_alike (run_values gates values tapes) known

    -- they open the run's words
    pub driven_open : (i : Number) → opened_by nodes full i ≡ run_opened gates values tapes
    driven_open i =
        opened_same _ nodes (nodes_of gates values tapes) full driven_are_alike full (λ l. begins-self (full l)) i
        ∙ run-opens gates values tapes sound ready i

    -- ---- every order of delivery

    pub driven_orders_are_the_run : (order : List Link) → AnyOrder nodes full order
    driven_orders_are_the_run =
        alike_orders_are_the_run _ nodes (nodes_of gates values tapes) full driven_are_alike (run_values gates values tapes) known

    pub driven_orders_open_the_run :
        (order : List Link) (i : Number) →
        Begins (opened_by nodes (all_delivered nodes nothing order) i) (run_opened gates values tapes)
    driven_orders_open_the_run order i =
        let mail = all_delivered nodes nothing order in
        subst (λ v. Begins (opened_by nodes mail i) v) (driven_open i)
        (begins-opened _ _
        (run-more (nodes i) (into i mail) (into i full)
        (into-more nodes i mail full (schedule-begins nodes full outputs driven_finish order))))

    -- an accepted one from any state is complete, and brings the run's messages in each link's order
    pub driven_accepted_orders_are_complete :
        (order : List Link) (entry : ℕ) (mail : Mail) → MailBegins mail full → walked nodes entry mail order ≡ Accepted →
        IsComplete nodes full outputs (all_delivered nodes mail order)
    driven_accepted_orders_are_complete =
        alike_accepted_orders_are_complete _ nodes (nodes_of gates values tapes) full driven_are_alike (run_values gates values tapes) known

    pub driven_messages_come_in_order :
        (order : List Link) (entry : ℕ) (mail : Mail) (i : Number) → MailBegins mail full → walked nodes entry mail order ≡ Accepted →
        arrived nodes i mail order ≡ arrivals i (to_come full mail) order
    driven_messages_come_in_order order entry mail i = come-in_order nodes full outputs driven_finish i order entry mail

    -- ---- schedules, by the scripts of the run's gates

    pub driven_schedules_are_counted :
        (order : List Link) (entry : ℕ) (mail : Mail) → MailBegins mail full → walked nodes entry mail order ≡ counted scripts entry (counts mail) order
    driven_schedules_are_counted =
        alike_schedules_are_counted _ nodes (nodes_of gates values tapes) full driven_are_alike (run_values gates values tapes) known scripts
        (moves-along_run gates values tapes sound ready)

    pub driven_deliveries_are_counted : (delivery : Delivery) → walked nodes 0 nothing (order_of scripts delivery) ≡ net scripts delivery
    driven_deliveries_are_counted delivery = driven_schedules_are_counted (order_of scripts delivery) 0 nothing (λ l. tt)

    pub driven_made_orders_are_accepted :
        (words : ℕ → ℕ) (fuel entry : ℕ) (mail : Mail) → MailBegins mail full → total (counts full) ≤ total (counts mail) + fuel →
        walked nodes entry mail (made_order scripts words fuel entry (counts mail)) ≡ Accepted
    driven_made_orders_are_accepted =
        alike_made_orders_are_accepted _ nodes (nodes_of gates values tapes) full driven_are_alike (run_values gates values tapes) known scripts
        (moves-along_run gates values tapes sound ready)

    pub driven_default_is_accepted : walked nodes 0 nothing (order_of scripts Default) ≡ Accepted
    driven_default_is_accepted = driven_deliveries_are_counted Default ∙ made-order_accepted gates values tapes sound ready (λ k. 0)

    pub driven_shuffles_are_accepted : (words : ℕ → ℕ) → walked nodes 0 nothing (order_of scripts (Shuffled words)) ≡ Accepted
    driven_shuffles_are_accepted words =
        driven_deliveries_are_counted (Shuffled words) ∙ made-order_accepted gates values tapes sound ready words

    -- ---- what they tell, where their protocols tell nothing

    module _ (silent : AreSilent gates) where
      pub driven_notices : (i : Number) → told_in (run_of nodes full i).acts ≡ notices next fuel i s values tapes
      driven_notices i = driven_tells next fuel i s values tapes (led_goes next fuel s values tapes sound ready led) silent

      pub driven_notices_begin :
          (i : Number) (mail : Mail) → MailBegins mail full → Begins (told_in (run_of nodes mail i).acts) (notices next fuel i s values tapes)
      driven_notices_begin i mail = driven_tells_in_order next fuel i s values tapes mail (led_goes next fuel s values tapes sound ready led) silent
