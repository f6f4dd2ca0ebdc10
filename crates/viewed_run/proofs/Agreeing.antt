-- The net in which views are seen is the net of the run: both run the report's gates on what is dealt.
use Rattle.std.proofs.Common.{◌≡◌, ℕ, List, [], sym, ap}
use Rattle.protocol_model.specs.Gates as model
use Rattle.protocol_model.specs.Gates.{gates_script}
use Rattle.protocol_model.specs.Network.{Delivery, net, order_of}
use Rattle.shared_gates.specs.Model.{run_gates}
use Rattle.tape_file.specs.Tapes.{FourTapes}
use Rattle.program_trees.specs.TypedPrograms.{TypedProgramTree}
use Rattle.value_file.specs.declared.inputs.Entry.{Entry}
use Rattle.language_model.specs.Reports.{Report}
use Rattle.view_model.specs.Dealing.{dealt_to}
use Rattle.view_model.specs.TapeMaps.{gates_dealt}
use Rattle.view_model.proofs.Holding.{sizes_values}
use Rattle.program_views.specs.Inputs.{dealt_of}
use Rattle.delivered_run.specs.Runs.{gates_to_run}
use Rattle.program_views.specs.Views.{lengths_of, run_on}
use Rattle.viewed_run.specs.Laws.{NetsAgree}

pub gates_same : (entries : List Entry) (t : FourTapes) (r : Report) → gates_to_run (dealt_of entries t.dealer) r ≡ gates_dealt entries t.dealer r.gates
gates_same entries t r = ap (λ ns. run_gates (dealt_to entries t.dealer) ns [] r.gates) (sizes_values entries)

pub nets_agree : (p : TypedProgramTree) (entries : List Entry) (t : FourTapes) (budget : ℕ) (delivery : Delivery) → NetsAgree p entries t budget delivery
nets_agree p entries t budget delivery =
    let same = sym (gates_same entries t (run_on p entries (lengths_of t) budget)) in
    record {
      answers = ap (λ (gates : List model.Gate). net (λ k. gates_script k gates) delivery) same;
      orders = ap (λ (gates : List model.Gate). order_of (λ k. gates_script k gates) delivery) same;
    }
