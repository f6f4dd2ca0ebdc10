-- The commands `eval` and `need`: evaluation in the clear, with tapes that are as long as a tape can be.
use Rattle.std.specs.Prelude.{ℕ, List, [], ◌∷◌, ◌++◌, codes, replicate, Ok, Result}
use Rattle.outside.specs.Files.{Contents}
use Rattle.sc_text.specs.declared.end.End.{End}
use Rattle.sc_text.specs.declared.end.Ending.{Ending}
use Rattle.sc_text.specs.declared.end.Ending.TheVariants.{Done}
use Rattle.sc_text.specs.declared.elements.Element.{Element}
use Rattle.sc_text.specs.declared.elements.Element.TheVariants.{Word}
use Rattle.sc_text.specs.Elements.{elements_text}
use Rattle.sc_text.specs.Event.{run_text}
use Rattle.program_trees.specs.TypedPrograms.{TypedProgramTree}
use Rattle.value_file.specs.declared.inputs.Entry.{Entry}
use Rattle.language_model.specs.Effects.{RunStop, Ended, Short}
use Rattle.language_model.specs.Reports.{Report, eval}
use Rattle.clear_eval.specs.Offers.{offered}
use Rattle.command_frame.specs.Answer.{Answer, Cause, Effect, ◌>>=◌}
use Rattle.command_frame.specs.declared.status.Status.{Status}
use Rattle.command_words.specs.Ask.{EvalAsk}
use Rattle.program_commands.specs.Judging.{Finding}
use Rattle.program_commands.specs.Ends.{ending_status}
use Rattle.program_commands.specs.Programs.{program_at}
use Rattle.program_commands.specs.Reading.{inputs_at}

-- the lengths of the four tapes: each has as many words as 64 bits can count
abbrev pub longest : List ℕ
longest = replicate 4 18446744073709551615

-- the evaluation of a program on the inputs of a file, where no tapes are at hand: none can end it
unfoldable pub report_for : TypedProgramTree → List Entry → (budget : ℕ) → Report
report_for program entries budget = eval program (offered entries longest) budget

-- evaluation in the clear never stops for want of an answer
abbrev pub ending_of : RunStop → Ending
ending_of (Ended how) = how
ending_of Short = Done

abbrev pub end_of : Report → End
end_of report = record { how = ending_of report.stop; cost = report.cost }

abbrev pub end_status : Report → Status
end_status report = ending_status (end_of report).how

-- what it opened and published, and how it ended
abbrev pub eval_text : Report → List ℕ
eval_text report = run_text report.events (end_of report)

-- the words that it used of the dealer's tape, and of those of miners 1, 2 and 3
abbrev pub used : Report → List Element
used report = Word report.dealt ∷ Word report.drawn.first ∷ Word report.drawn.second ∷ Word report.drawn.third ∷ []

unfoldable pub need_text : Report → List ℕ
need_text report = codes "need" ++ elements_text (used report) ++ codes "\n"

-- a command that evaluates prints a text of the report, and ends as the evaluation does
abbrev pub report_effect : (Report → List ℕ) → Report → Effect
report_effect text report = record { writes = []; text = text report; status = end_status report }

-- Each file is read and then checked: the program and its size, then the input; then the program is evaluated, and this text of the report printed.
unfoldable pub evaluation_of : (Report → List ℕ) → Finding → EvalAsk → Contents → Answer
evaluation_of text found ask files = do
  program ← program_at found files ask.program
  entries ← inputs_at files ask.input
  Ok (report_effect text (report_for program entries ask.budget))

-- the report alone, read in the same way
unfoldable pub report_at : Finding → EvalAsk → Contents → Result Report Cause
report_at found ask files = do
  program ← program_at found files ask.program
  entries ← inputs_at files ask.input
  Ok (report_for program entries ask.budget)

-- the paths that `eval` and `need` read
unfoldable pub eval_paths : EvalAsk → List (List ℕ)
eval_paths ask = ask.program ∷ ask.input ∷ []
