-- The messages of a view are those that come to the miner in the net.
use Rattle.std.proofs.Common.{◌≡◌, ◌≤◌, List, length, ◌∙◌}
use Rattle.proto_core.specs.declared.party.Number.{Number}
use Rattle.proto_core.specs.declared.link.Link.{Link}
use Rattle.proto_core.specs.Net.{nothing}
use Rattle.protocol_model.specs.Gates as model
use Rattle.protocol_model.specs.Gates.{gates_script}
use Rattle.protocol_model.specs.Runs.{Ready, nodes_of, run_messages, run_values}
use Rattle.protocol_model.specs.Network.{Accepted, Delivery, order_of, net}
use Rattle.protocol_model.specs.Arrivals.{arrived}
use Rattle.protocol_model.proofs.Coming.{come-in_order}
use Rattle.protocol_model.proofs.GateRuns.{run-finishes}
use Rattle.protocol_model.proofs.GateSchedules.{schedule-counted}
use Rattle.gates.specs.declared.gate.Gate.{Gate}
use Rattle.value_file.specs.declared.inputs.Entry.{Entry}
use Rattle.input_share.specs.Dealing.{need_of}
use Rattle.tape_file.specs.Tapes.{FourTapes}
use Rattle.view_model.specs.TapeMaps.{miners_of, no_values, gates_dealt, AreTapes, Reaches}
use Rattle.view_model.specs.Seen.{seen_by}
use Rattle.view_model.proofs.Corresponding.{sound, ready_with}

module _
    (i : Number) (es : List Entry) (gates : List Gate) (t : FourTapes) (are : AreTapes t) (enough : need_of es ≤ length t.dealer)
    (reaches : Reaches es gates t)
  where
    abbrev real : List model.Gate
    real = gates_dealt es t.dealer gates

    ready : Ready real no_values (miners_of t)
    ready = ready_with es gates t.dealer t are.miners enough reaches

    abbrev order : Delivery → List Link
    order delivery = order_of (λ k. gates_script k real) delivery

    pub come_is_seen :
        (delivery : Delivery) → net (λ k. gates_script k real) delivery ≡ Accepted →
        arrived (nodes_of real no_values (miners_of t)) i nothing (order delivery) ≡ (seen_by i es gates t delivery).got
    come_is_seen delivery accepted =
        come-in_order (nodes_of real no_values (miners_of t)) (run_messages real no_values (miners_of t))
        (run_values real no_values (miners_of t))
        (run-finishes real no_values (miners_of t) (sound es t.dealer gates) ready) i (order delivery) 0 nothing (λ l. tt)
        (schedule-counted real no_values (miners_of t) (sound es t.dealer gates) ready delivery ∙ accepted)
