-- What a run on shares tells its user.
use Rattle.std.specs.Prelude.{◌≡◌, ℕ, List}
use Rattle.language_model.specs.Effects.{Ended}
use Rattle.language_model.specs.Reports.{Report, eval}
use Rattle.program_trees.specs.TypedPrograms.{TypedProgramTree}
use Rattle.value_file.specs.declared.inputs.Entry.{Entry}
use Rattle.tape_file.specs.Tapes.{FourTapes}
pub use Rattle.tape_file.specs.Tapes.{lengths_of}
use Rattle.clear_eval.specs.Offers.{offered}
use Rattle.program_run.specs.declared.running.RunReport.{RunReport}

-- evaluation in the clear, with four tapes, of which it takes the lengths
abbrev pub eval_with : TypedProgramTree → List Entry → FourTapes → (budget : ℕ) → Report
eval_with p entries tapes budget = eval p (offered entries (lengths_of tapes)) budget

-- a report's events, its end and its cost
pub record TellsAs (r : Report) (told : RunReport) : Type 0 where
  pub events : told.events.items ≡ r.events
  pub stop : r.stop ≡ Ended told.end.how
  pub cost : told.end.cost ≡ r.cost
