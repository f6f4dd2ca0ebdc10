-- What the run of one gives who is told what is opened, as far as the opened words last.
use Rattle.std.specs.Prelude.{◌≡◌}
use Rattle.language_model.specs.Effects.{Short}
use Rattle.language_model.specs.Reports.{Report}
use Rattle.clear_eval.specs.Reports.{report_seen}
use Rattle.clear_eval.specs.declared.blind_course.BlindRun.{BlindRun}
use Rattle.clear_eval.specs.declared.blind_course.BlindRun.TheVariants.{Ended as WithReport, Short as WithEvents}

-- a blind run's report; of one for which all answers were too few, what it told
abbrev pub IsBlindRun : BlindRun → Report → Type 0
IsBlindRun (WithReport report) r = report_seen report ≡ r
IsBlindRun (WithEvents events) r = (r.stop ≡ Short) × (events.items ≡ r.events)
