-- The report of `eval` and `need`, for files that are as they must be, and for files that are refused.
use Rattle.std.proofs.Common.{◌≡◌, ℕ, List, Result, Ok, Err, refl, ap, ◌∙◌}
use Rattle.outside.specs.Files.{Contents}
use Rattle.command_frame.specs.declared.status.Status.{Status}
use Rattle.command_frame.specs.Answer.{Answer, Cause, ◌>>=◌}
use Rattle.command_words.specs.Ask.{EvalAsk}
use Rattle.program_trees.specs.TypedPrograms.{TypedProgramTree}
use Rattle.value_file.specs.declared.inputs.Entry.{Entry}
use Rattle.language_model.specs.Reports.{Report}
use Rattle.program_commands.specs.Eval.{evaluation_of, report_at, report_effect, report_for}
use Rattle.program_commands.specs.Held.{HoldsEvaluation, EvalRefused, of_program, bad_entries}
use Rattle.program_commands.specs.Judging.{Finding, FoundAt, its_program}
use Rattle.program_commands.specs.Programs.{program_at}
use Rattle.program_commands.specs.Reading.{bad_input, inputs_at}
use Rattle.program_commands.proofs.Held.{found_of, found_there, no_program, program_there, read_there}

-- ---- what a command that evaluates comes to, by the report alone

module _ (text : Report → List ℕ) (found : Finding) (ask : EvalAsk) (files : Contents) where
  abbrev told_of : Result Report Cause → Answer
  told_of part = part >>= λ report. Ok (report_effect text report)

  pub evaluation_by_report : evaluation_of text found ask files ≡ (report_at found ask files >>= λ report. Ok (report_effect text report))
  unfolding evaluation_of report_at
  evaluation_by_report = by_program (program_at found files ask.program)
    where
      by_inputs : (p : TypedProgramTree) (inputs : Result (List Entry) Cause)
          → (inputs >>= λ entries. Ok (report_effect text (report_for p entries ask.budget)))
          ≡ told_of (inputs >>= λ entries. Ok (report_for p entries ask.budget))
      by_inputs p (Ok entries) = refl
      by_inputs p (Err cause) = refl

      by_program : (program : Result TypedProgramTree Cause)
          → (program >>= λ p. inputs_at files ask.input >>= λ entries. Ok (report_effect text (report_for p entries ask.budget)))
          ≡ told_of (program >>= λ p. inputs_at files ask.input >>= λ entries. Ok (report_for p entries ask.budget))
      by_program (Ok p) = by_inputs p (inputs_at files ask.input)
      by_program (Err cause) = refl

  pub evaluation_reported : (part : Result Report Cause) → report_at found ask files ≡ part → evaluation_of text found ask files ≡ told_of part
  evaluation_reported part is = evaluation_by_report ∙ ap told_of is

-- ---- files that are as they must be, and files that are refused

pub report_there : (ask : EvalAsk) (files : Contents) (p : TypedProgramTree) (entries : List Entry) (h : HoldsEvaluation ask files p entries)
    → report_at (found_of ask.program files p h.program) ask files ≡ Ok (report_for p entries ask.budget)
unfolding report_at
report_there ask files p entries h = rw (program_there ask.program files p h.program h.program.within.list, h.inputs) refl

-- no report, for a cause of this status
abbrev pub HasNoReport : EvalAsk → Contents → Status → Type 0
HasNoReport ask files s = (found : Finding) × (c : Cause) × FoundAt (its_program ask.program) files found × (report_at found ask files ≡ Err c) × (s ≡ c.status)

pub no_report : (ask : EvalAsk) (files : Contents) (s : Status) → EvalRefused ask files s → HasNoReport ask files s
unfolding report_at inputs_at bad_input
no_report ask files s (of_program refused) =
    let no = no_program ask.program files s refused in
    (no.found, no.cause, no.at, rw no.none refl, no.status)
no_report ask files s (bad_entries is p h bytes err there bad) = (
  found_of ask.program files p h,
  bad_input err,
  found_there ask.program files p h,
  rw (program_there ask.program files p h h.within.list, read_there files ask.input bytes there, bad) refl,
  is,
)
