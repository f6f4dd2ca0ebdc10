-- What a report stands for.
use Rattle.std.specs.Prelude.{◌≡◌, ℕ, Result, Ok, Err}
use Rattle.language_model.specs.Effects.{Words, RunStop, Ended, Short}
use Rattle.language_model.specs.Reports.{Report}
use Rattle.value_steps.specs.Views as seen
use Rattle.clear_eval.specs.declared.report.Needs as words
use Rattle.clear_eval.specs.declared.report.Report as told
use Rattle.clear_eval.specs.declared.ran.StopReason as halted
use Rattle.clear_eval.specs.declared.ran.StopReason.TheVariants as stop
use Rattle.clear_eval.specs.declared.ran.Ran as finished
use Rattle.clear_eval.specs.declared.blind_run.BlindErr.{BlindErr}
use Rattle.clear_eval.specs.declared.blind_run.BlindErr.TheVariants.{OpenedShort, Memory}

abbrev pub drawn_seen : words.Needs → Words
drawn_seen n = record { first = n.first; second = n.second; third = n.third }

abbrev pub report_seen : told.Report → Report
report_seen r =
    record {
      stop = Ended r.end.how;
      cost = r.end.cost;
      dealt = r.needs.dealer;
      drawn = drawn_seen r.needs;
      events = r.events.items;
      opened = r.opened.items;
      gates = r.gates.items;
    }

abbrev pub stop_seen : halted.StopReason → RunStop
stop_seen (stop.Ended e) = Ended e
stop_seen stop.Short = Short

-- what a run gave, as it stopped
abbrev pub ran_seen : finished.Ran → Report
ran_seen r =
    record {
      stop = stop_seen r.stop;
      cost = r.cost;
      dealt = r.dealt;
      drawn = seen.drawn_seen r.stage.drawn;
      events = r.stage.events.items;
      opened = r.stage.opened.items;
      gates = r.stage.gates.items;
    }

-- a blind run answers with its report, or that all answers, so many, were too few; unless memory ran short
abbrev pub IsBlindAnswer : Result told.Report BlindErr → Report → (count : ℕ) → Type 0
IsBlindAnswer (Ok report) r count = report_seen report ≡ r
IsBlindAnswer (Err (OpenedShort have)) r count = (r.stop ≡ Short) × (have ≡ count)
IsBlindAnswer (Err Memory) r count = Unit {0}
