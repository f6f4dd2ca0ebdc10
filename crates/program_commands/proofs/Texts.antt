-- A command that reads a program alone is refused only for that.
use Rattle.std.proofs.Common.{◌≡◌, ℕ, List, true, Ok, Err, ap, sym, ◌∙◌, inl, inr}
use Rattle.outside.specs.Files.{Contents}
use Rattle.command_frame.specs.declared.status.Status.TheVariants as statuses
use Rattle.command_frame.specs.Answer.{Answer, Effect, ◌>>=◌}
use Rattle.command_frame.specs.Status.{can_refuse}
use Rattle.program_trees.specs.TypedPrograms.{TypedProgramTree}
use Rattle.program_commands.specs.Held.{ProgramRefused}
use Rattle.program_commands.specs.Judging.{Finding, FoundAt, its_program}
use Rattle.program_commands.specs.Programs.{program_at}
use Rattle.program_commands.proofs.Accepting.{program_cases, refused_by_program}
use Rattle.program_commands.proofs.Refusals.{not_done, status_in_answer, steps}

-- it has then an effect that ends as a program does
module _ (found : Finding) (path : List ℕ) (files : Contents) (h : FoundAt (its_program path) files found) (effect : TypedProgramTree → Effect)
    (ends : (p : TypedProgramTree) → (effect p).status ≡ statuses.Done) where
  abbrev effected : TypedProgramTree → Answer
  effected p = Ok (effect p)

  pub text_refused_only : (r : Answer) → can_refuse (status_in_answer r) ≡ true → (program_at found files path >>= effected) ≡ r
      → ProgramRefused path files (status_in_answer r)
  text_refused_only r refusal is =
      elim (steps (program_at found files path) effected r is) [
        | inl (c, e, is_r) ↦ refused_by_program path files r refusal c is_r (program_cases found files path h (Err c) e)
        | inr (p, e, done) ↦ not_done r refusal (ap status_in_answer (sym done) ∙ ends p)
      ]
