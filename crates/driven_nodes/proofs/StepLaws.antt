-- Three miners that take the steps of a run, told by their own shares what was opened: the run's gates are their joint run's, under
-- every schedule.
use Rattle.std.proofs.Common.{◌≡◌, ℕ, List, sym, subst}
use Rattle.std.specs.Prelude.{Option}
use Rattle.proto_core.specs.declared.party.Number.{Number}
use Rattle.proto_core.specs.Strand.{Strand}
use Rattle.proto_core.specs.Net.{nothing, opened_by, Finishes}
use Rattle.protocol_model.specs.Gates.{Gate, AreSound, gates_script}
use Rattle.protocol_model.specs.Network.{Accepted, Default, Delivery, Shuffled, net, order_of, walked}
use Rattle.protocol_model.specs.Runs.{Shares, Tapes, Ready, run_messages, run_values, run_opened}
use Rattle.driven_nodes.specs.Driven.{Turn, path, stop, driven_nodes}
use Rattle.driven_nodes.specs.Steps.{Steps, Stand, Running, ToRun, next_turn}
use Rattle.driven_nodes.specs.Twins.{Course, gates_of, stand_after, Reads, Twins, StandAlike}
use Rattle.driven_nodes.proofs.Laws.{driven_finish, driven_open, driven_deliveries_are_counted}
use Rattle.driven_nodes.proofs.Laws.{driven_default_is_accepted, driven_shuffles_are_accepted}
use Rattle.driven_nodes.proofs.NodeRuns.{RunsJoin, SameRunAs, nodes_run_the_gates}

module _ {C P G : Type 0} (course : Course C G) (steps : Steps P G) (to_run : ToRun G) (Alike Ended : C → P → Type 0)
    (join : RunsJoin to_run) (twins : Twins course steps Alike Ended) (fuel : ℕ) (c : C) (p : P) (values : Shares) (tapes : Tapes) where
  abbrev next : Stand P → Option (Turn (Stand P))
  next = next_turn steps to_run

  abbrev nodes : Number → Strand (Stand P × List (List ℕ))
  nodes = driven_nodes next fuel (Running p) values tapes

  -- the gates of the run
  abbrev gates : List Gate
  gates = to_run (course.gates c) (gates_of course fuel c)

  abbrev last : Stand P
  last = stop next fuel (Running p) values tapes

  module _ (alike : Alike c p) (reads : Reads course to_run fuel c values tapes) (sound : AreSound gates) (ready : Ready gates values tapes) where
    same : SameRunAs course steps to_run Alike Ended fuel c p values tapes
    same = nodes_run_the_gates course steps to_run Alike Ended join twins fuel c p values tapes alike reads

    sound_path : AreSound (path next fuel (Running p) values tapes)
    sound_path = subst AreSound (sym same.gates) sound

    ready_path : Ready (path next fuel (Running p) values tapes) values tapes
    ready_path = subst (λ g. Ready g values tapes) (sym same.gates) ready

    -- they send the messages of the run's gates, and end with their shares, standing as the run does
    pub nodes_finish : Finishes nodes (run_messages gates values tapes) (λ i. (last, run_values gates values tapes i))
    nodes_finish =
        subst (λ g. Finishes nodes (run_messages g values tapes) (λ i. (last, run_values g values tapes i))) same.gates
        (driven_finish next fuel (Running p) values tapes sound_path ready_path same.led)

    pub nodes_stand : StandAlike course steps Alike Ended (stand_after course fuel c) last
    nodes_stand = same.stands

    pub nodes_open : (i : Number) → opened_by nodes (run_messages gates values tapes) i ≡ run_opened gates values tapes
    nodes_open i =
        subst (λ g. opened_by nodes (run_messages g values tapes) i ≡ run_opened g values tapes) same.gates
        (driven_open next fuel (Running p) values tapes sound_path ready_path same.led i)

    -- what a delivery comes to is counted by the scripts of the run's gates
    pub nodes_deliveries_are_counted :
        (delivery : Delivery) →
        walked nodes 0 nothing (order_of (λ i. gates_script i gates) delivery) ≡ net (λ i. gates_script i gates) delivery
    nodes_deliveries_are_counted delivery =
        subst
        (λ g. walked nodes 0 nothing (order_of (λ i. gates_script i g) delivery) ≡ net (λ i. gates_script i g) delivery)
        same.gates
        (driven_deliveries_are_counted next fuel (Running p) values tapes sound_path ready_path same.led delivery)

    pub nodes_default_is_accepted : walked nodes 0 nothing (order_of (λ i. gates_script i gates) Default) ≡ Accepted
    nodes_default_is_accepted =
        subst (λ g. walked nodes 0 nothing (order_of (λ i. gates_script i g) Default) ≡ Accepted) same.gates
        (driven_default_is_accepted next fuel (Running p) values tapes sound_path ready_path same.led)

    pub nodes_shuffles_are_accepted :
        (words : ℕ → ℕ) → walked nodes 0 nothing (order_of (λ i. gates_script i gates) (Shuffled words)) ≡ Accepted
    nodes_shuffles_are_accepted words =
        subst (λ g. walked nodes 0 nothing (order_of (λ i. gates_script i g) (Shuffled words)) ≡ Accepted) same.gates
        (driven_shuffles_are_accepted next fuel (Running p) values tapes sound_path ready_path same.led words)
