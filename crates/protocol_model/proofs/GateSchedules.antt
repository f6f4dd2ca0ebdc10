-- Schedules of lists of gates.
use Rattle.std.proofs.Common.{◌≡◌, ℕ, List, sym, ap, subst, arith}
use Rattle.proto_core.specs.declared.party.Number.{Number}
use Rattle.proto_core.specs.Script.{Moves}
use Rattle.proto_core.specs.Strand.{IsEnded}
use Rattle.proto_core.specs.Net.{nothing, into}
use Rattle.protocol_model.specs.Along.{MovesAlong}
use Rattle.protocol_model.specs.Gates.{Gate, AreSound, gates_script}
use Rattle.protocol_model.specs.Runs.{Shares, Tapes, Ready, nodes_of, run_messages, run_values}
use Rattle.protocol_model.specs.Network.{Accepted, Delivery, walked, counted, net, order_of, made_order, none_delivered, sends_in_all, counts, total}
use Rattle.protocol_model.proofs.Counting.{moves-along}
use Rattle.protocol_model.proofs.NetCounts.{walked-counted}
use Rattle.protocol_model.proofs.MadeOrders.{made-accepted}
use Rattle.protocol_model.proofs.GateRuns.{run-finishes, gates-move, run-counted}

module _ (gates : List Gate) (values : Shares) (tapes : Tapes) (sound : AreSound gates) (ready : Ready gates values tapes) where
  moves : (i : Number) → Moves (nodes_of gates values tapes i) (gates_script i gates)
  moves i = gates-move i gates ready.sizes (values i) (tapes i) sound ready.sized (ready.shares i) (ready.tapes_reach i)

  pub moves-along_run : (i : Number) → MovesAlong (nodes_of gates values tapes i) (gates_script i gates) (into i (run_messages gates values tapes))
  moves-along_run i =
      moves-along (nodes_of gates values tapes i) (gates_script i gates) (into i (run_messages gates values tapes)) (moves i)
      (subst (λ s. IsEnded s) (sym ((run-finishes gates values tapes sound ready).ended i)) tt)

  pub schedule-counted :
      (delivery : Delivery) →
      walked (nodes_of gates values tapes) 0 nothing (order_of (λ i. gates_script i gates) delivery) ≡ net (λ i. gates_script i gates) delivery
  schedule-counted delivery =
      walked-counted (nodes_of gates values tapes) (λ i. gates_script i gates) (run_messages gates values tapes)
      (run_values gates values tapes) (run-finishes gates values tapes sound ready) moves-along_run
      (order_of (λ i. gates_script i gates) delivery) 0 nothing (λ l. tt)

  in-all : total (counts (run_messages gates values tapes)) ≡ sends_in_all (λ i. gates_script i gates)
  in-all = ap total (λ d. λ l. run-counted gates values tapes sound ready l d)

  pub made-order_accepted :
      (words : ℕ → ℕ) →
      counted (λ i. gates_script i gates) 0 none_delivered
      (made_order (λ i. gates_script i gates) words (sends_in_all (λ i. gates_script i gates)) 0 none_delivered)
      ≡ Accepted
  made-order_accepted words =
      made-accepted (nodes_of gates values tapes) (λ i. gates_script i gates) (run_messages gates values tapes)
      (run_values gates values tapes) (run-finishes gates values tapes sound ready) moves-along_run words
      (sends_in_all (λ i. gates_script i gates)) 0 nothing (λ l. tt)
      (let e = in-all in omega arith)
