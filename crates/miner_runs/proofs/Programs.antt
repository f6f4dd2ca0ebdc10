-- Three miners, each by its own shares and tape alone, run the code of an accepted program as its evaluation in the clear reports.
use Rattle.std.proofs.Common.{ℕ, List, subst}
use Rattle.language_model.specs.Reports.{Report, Offered}
use Rattle.program_run.specs.Offers.{offered}
use Rattle.verified_code.specs.Steps.{Function}
use Rattle.verified_code.specs.Settled.{settled}
use Rattle.program_run.specs.RawCodes.{raw_code_of_program}
use Rattle.tape_file.specs.Tapes.{FourTapes}
use Rattle.value_file.specs.declared.inputs.Entry.{Entry}
use Rattle.program_trees.specs.TypedPrograms.{TypedProgramTree}
use Rattle.view_model.specs.TapeMaps.{miners_of}
use Rattle.program_run.specs.Inputs.{dealt_of}
use Rattle.program_run.specs.Laws.{IsAccepted}
use Rattle.program_run.specs.Reports.{lengths_of}
use Rattle.program_run.proofs.Shared.{may_run_shared, means_so}
use Rattle.miner_runs.specs.OwnRuns.{OwnRunAsReported}
use Rattle.miner_runs.specs.Laws.{OwnRunsWhereAccepted}
use Rattle.miner_runs.proofs.OwnRuns.{own_miners_run_the_code}

pub own_runs_where_accepted : (p : TypedProgramTree) (entries : List Entry) (t : FourTapes) (budget : ℕ) → OwnRunsWhereAccepted p entries t budget
own_runs_where_accepted p entries t budget a can =
    let is = a.within.list in
    let accepted : IsAccepted a.source p is =
    record { typed = a.typed; written = a.written; resolved = a.of; reached = a.within.reached; within = a.within } in
    let o : Offered = offered entries (lengths_of t) in
    let c : List Function = settled (raw_code_of_program p is) in
    record {
      reached = is;
      are = a.within.reached;
      run = subst (λ (r : Report). OwnRunAsReported o (dealt_of entries t.dealer) c budget (miners_of t) r)
          (means_so a.source p is accepted entries t can.sound can.suffice can.words budget)
          (own_miners_run_the_code o (dealt_of entries t.dealer) c budget (miners_of t)
          (may_run_shared a.source p is accepted entries t can.sound can.suffice can.words));
    }
