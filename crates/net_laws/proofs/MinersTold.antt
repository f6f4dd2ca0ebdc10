-- Three miners who run the program's code tell the events of evaluation, and stop as it ends.
use Rattle.std.proofs.Common.{◌≡◌, ℕ, List, refl, ◌∙◌, ap, subst}
use Rattle.proto_core.specs.declared.party.Number.{Number}
use Rattle.proto_core.specs.declared.link.Link.{Link}
use Rattle.proto_core.specs.Net.{all_delivered, nothing, run_of}
use Rattle.proto_core.specs.Strand.{Mail, Strand, told_in}
use Rattle.protocol_model.specs.Complete.{IsComplete}
use Rattle.protocol_model.specs.Network.{Accepted, Delivery, order_of, walked}
use Rattle.value_file.specs.declared.inputs.Entry.{Entry}
use Rattle.tape_file.specs.Tapes.{FourTapes}
use Rattle.program_trees.specs.TypedPrograms.{TypedProgramTree}
use Rattle.language_model.specs.Reports.{Report}
use Rattle.verified_code.specs.Settled.{settled}
use Rattle.view_model.specs.TapeMaps.{miners_of}
use Rattle.code_places.specs.Dealt.{Dealt}
use Rattle.code_runs.specs.ClientTold.{told_together}
use Rattle.code_runs.specs.Runs.{messages, scripts, shares}
use Rattle.code_runs.proofs.Together.{told_together_are_the_events}
use Rattle.miner_core.specs.OwnCode.{Ended}
use Rattle.miner_runs.specs.OwnRuns.{OwnRunAsReported, own_end}
use Rattle.program_run.specs.Accepted.{IsAccepted}
use Rattle.program_run.specs.Dealt.{CanBeDealt}
use Rattle.program_run.specs.Inputs.{dealt_of}
use Rattle.program_run.specs.Offers.{offered}
use Rattle.program_run.specs.RawCodes.{raw_code_of_program}
use Rattle.program_run.specs.Reports.{eval_with, lengths_of}
use Rattle.viewed_run.specs.Deliveries.{net_of}
use Rattle.viewed_run.specs.Programs.{OwnRunsOnShares}
use Rattle.viewed_run.proofs.Programs.{own_runs_where_accepted}
use Rattle.net_laws.specs.MinersTold.{IsToldByMiners, RunIsToldByMiners, miners}

module _ (p : TypedProgramTree) (entries : List Entry) (t : FourTapes) (budget : ℕ) (delivery : Delivery) (a : IsAccepted p)
    (can : CanBeDealt entries t) (taken : net_of p entries t budget delivery ≡ Accepted) where
  abbrev r : Report
  r = eval_with p entries t budget

  abbrev d : Dealt
  d = dealt_of entries t.dealer

  abbrev order : List Link
  order = order_of (scripts d r) delivery

  module _ (runs : OwnRunsOnShares p entries t budget) where
    abbrev run : OwnRunAsReported (offered entries (lengths_of t)) d (settled (raw_code_of_program p runs.reached)) budget (miners_of t) r
    run = runs.run

    abbrev nodes : Number → Strand Ended
    nodes = miners p entries t budget delivery runs.reached

    accepts : walked nodes 0 nothing order ≡ Accepted
    accepts = run.counted_from order 0 nothing (λ k. tt) ∙ taken

    complete : IsComplete nodes (messages d r (miners_of t)) (own_end d (miners_of t) r run.turns.last) (all_delivered nodes nothing order)
    complete = run.complete order accepts

    all_come : all_delivered nodes nothing order ≡ messages d r (miners_of t)
    all_come = λ e. λ l. complete.came l e

    told_so : told_together (λ i. told_in (run_of nodes (all_delivered nodes nothing order) i).acts) ≡ r.events
    told_so =
        ap (λ (mail : Mail). told_together (λ i. told_in (run_of nodes mail i).acts)) all_come
        ∙ told_together_are_the_events r.events (λ i. told_in (run_of nodes (messages d r (miners_of t)) i).acts) run.told

    told : IsToldByMiners p entries t budget delivery r
    told =
        record {
          end = record { how = run.turns.stops.ending; cost = r.cost };
          how = run.turns.stops.stop;
          cost = refl;
          are = record {
            reached = runs.reached;
            are = runs.are;
            told = told_so;
            stopped = λ i. record {
              last = run.turns.last;
              values = shares d r (miners_of t) i;
              at_end = complete.ended i;
              how = run.turns.stops.ended;
              cost = run.turns.stops.cost;
            };
          };
        }

pub run_is_told : (p : TypedProgramTree) (entries : List Entry) (t : FourTapes) (budget : ℕ) (delivery : Delivery)
    → RunIsToldByMiners p entries t budget delivery
run_is_told p entries t budget delivery a can taken =
    told p entries t budget delivery a can taken (own_runs_where_accepted p entries t budget a can)
