-- `eval` and `need` are refused only for a file that is there and not as it must be.
use Rattle.std.proofs.Common.{◌≡◌, ℕ, List, Ok, Err, Result, ap, sym, ◌∙◌, inl, inr}
use Rattle.outside.specs.Files.{Contents}
use Rattle.command_frame.specs.Answer.{Answer, Cause, ◌>>=◌}
use Rattle.command_words.specs.Ask.{EvalAsk}
use Rattle.program_trees.specs.TypedPrograms.{TypedProgramTree}
use Rattle.value_file.specs.declared.inputs.Entry.{Entry}
use Rattle.value_file.specs.Input.{read_of as inputs_read_of}
use Rattle.language_model.specs.Reports.{Report}
use Rattle.program_commands.specs.Eval.{end_of, evaluation_of, report_at, report_effect, report_for}
use Rattle.program_commands.specs.Judging.{Finding, FoundAt, its_program}
use Rattle.program_commands.specs.Programs.{program_at}
use Rattle.program_commands.specs.Reading.{bad_input, inputs_at}
use Rattle.program_commands.specs.Held.{HoldsTyped, EvalRefused, of_program, bad_entries}
use Rattle.program_commands.proofs.Evals.{evaluation_by_report}
use Rattle.program_commands.proofs.Accepting.{program_cases, refused_by_program}
use Rattle.program_commands.proofs.Refusals.{Refuses, ReadRefused, steps, input_status, inputs_refused, no_ending, not_missing, refusing, status_in_answer}
use Rattle.program_commands.proofs.Refusals.{status_of_cause}

module _ (found : Finding) (ask : EvalAsk) (files : Contents) (h : FoundAt (its_program ask.program) files found) (r : Answer)
    (why : Refuses (status_in_answer r)) where
  by_input : (p : TypedProgramTree) → HoldsTyped ask.program files p → (c : Cause) → r ≡ Err c
      → ReadRefused files ask.input bad_input inputs_read_of c → EvalRefused ask files (status_in_answer r)
  by_input p held c is (inl missed) = not_missing r c ask.input why.refusal is missed
  by_input p held c is (inr (bytes, err, there, bad, e)) = bad_entries (refusing r c is ∙ ap status_of_cause e ∙ input_status err) p held bytes err there bad

  abbrev evaluated : TypedProgramTree → List Entry → Result Report Cause
  evaluated p entries = Ok (report_for p entries ask.budget)

  at_inputs : (c : Cause) → r ≡ Err c → (p : TypedProgramTree) → HoldsTyped ask.program files p → (inputs_at files ask.input >>= evaluated p) ≡ Err c
      → EvalRefused ask files (status_in_answer r)
  at_inputs c is p held e =
      elim (steps (inputs_at files ask.input) (evaluated p) (Err c) e) [
        | inl (d, bad, same) ↦ let why_d : c ≡ d = cc in by_input p held c is (inputs_refused files ask.input c (rw why_d bad))
        | inr (entries, there, done) ↦ absurd cc
      ]

  abbrev after_program : TypedProgramTree → Result Report Cause
  after_program p = inputs_at files ask.input >>= evaluated p

  -- the report is refused
  at_report : (c : Cause) → r ≡ Err c → report_at found ask files ≡ Err c → EvalRefused ask files (status_in_answer r)
  unfolding report_at
  at_report c is e =
      elim (steps (program_at found files ask.program) after_program (Err c) e) [
        | inl (d, bad, same) ↦ let why_d : c ≡ d = cc in
            of_program (refused_by_program ask.program files r why.refusal c is (program_cases found files ask.program h (Err c) (rw why_d bad)))
        | inr (p, there, rest) ↦ at_inputs c is p (program_cases found files ask.program h (Ok p) there) rest
      ]

  pub report_refused_only : (text : Report → List ℕ) → evaluation_of text found ask files ≡ r
      → EvalRefused ask files (status_in_answer r)
  report_refused_only text is =
      elim (steps (report_at found ask files) (λ report. Ok (report_effect text report)) r (sym (evaluation_by_report text found ask files) ∙ is)) [
        | inl (c, e, is_r) ↦ at_report c is_r e
        | inr (report, e, done) ↦ no_ending (status_in_answer r) (end_of report).how why (ap status_in_answer (sym done))
      ]
