-- A program was read, or why it wasn't: every command that reads one is refused by it alike.
use Rattle.std.proofs.Common.{◌≡◌, ◌⊎◌, ℕ, List, true, Ok, Err, Result, refl, subst, sym, ◌∙◌, inl, inr}
use Rattle.outside.specs.Files.{Contents}
use Rattle.command_frame.specs.declared.status.Status.TheVariants as statuses
use Rattle.command_frame.specs.Answer.{Answer, Cause, missing}
use Rattle.command_frame.specs.Status.{can_refuse}
use Rattle.program_trees.specs.Programs.{ProgramTree}
use Rattle.program_trees.specs.TypedPrograms.{TypedProgramTree}
use Rattle.reached_instances.specs.declared.limit_err.LimitErr.{LimitErr}
use Rattle.program_commands.specs.Judging.{Sized, IsSized, Finding, FoundAt, its_program}
use Rattle.program_commands.specs.Programs.{program_at, small_enough, too_large, tree_at}
use Rattle.program_commands.specs.Held.{HoldsProgram, HoldsBadProgram, HoldsTyped, HoldsLarge, ProgramRefused, bad_text, too_large as size_refused}
use Rattle.program_commands.proofs.Refusals.{TreeRead, steps, not_missing, refusing, status_in_answer, status_of_cause, tree_cases}
use Rattle.program_commands.proofs.Sizes.{size_found}

large_status : (error : LimitErr) → status_of_cause (too_large error) ≡ statuses.Program
unfolding too_large
large_status error = refl

-- an accepted program is there that is too large
abbrev pub HoldsSomeLarge : List ℕ → Contents → Type 0
HoldsSomeLarge path files = (error : LimitErr) × HoldsLarge path files error

-- a program that is small enough was read, or why it wasn't
abbrev pub ProgramRead : Contents → List ℕ → Result TypedProgramTree Cause → Type 0
ProgramRead files path (Ok p) = HoldsTyped path files p
ProgramRead files path (Err c) = (c ≡ missing path) ⊎ ((status_of_cause c ≡ statuses.Program) × (HoldsBadProgram path files ⊎ HoldsSomeLarge path files))

program_read : (files : Contents) (path : List ℕ) (tree : ProgramTree) → HoldsProgram path files tree → (sized : Sized) → IsSized tree sized
    → (r : Result TypedProgramTree Cause) → small_enough sized ≡ r → ProgramRead files path r
program_read files path tree held (Ok p) (typed, within) r is =
    subst (ProgramRead files path) is (record { tree = tree; held = held; typed = typed; within = within })
program_read files path tree held (Err error) (p, typed, verdict) r is =
    subst (ProgramRead files path) is
    (inr (large_status error, inr (error, record { tree = tree; held = held; program = p; typed = typed; verdict = verdict })))

pub program_cases : (found : Finding) (files : Contents) (path : List ℕ) → FoundAt (its_program path) files found
    → (r : Result TypedProgramTree Cause) → program_at found files path ≡ r → ProgramRead files path r
unfolding program_at
program_cases found files path h r is =
    elim (steps (tree_at found.judged files path) (λ tree. small_enough found.sized) r is) [
      | inl (c, e, is_r) ↦ subst (ProgramRead files path) (sym is_r) (unread c (tree_cases found.judged files path h.judged (Err c) e))
      | inr (tree, e, rest) ↦ program_read files path tree (tree_cases found.judged files path h.judged (Ok tree) e) found.sized
          (size_found files path found tree h e) r rest
    ]
  where
    unread : (c : Cause) → TreeRead files path (Err c) → ProgramRead files path (Err c)
    unread c (inl missed) = inl missed
    unread c (inr (status, bad)) = inr (status, inl bad)

-- a command is refused by the program
pub refused_by_program : (path : List ℕ) (files : Contents) (r : Answer) → can_refuse (status_in_answer r) ≡ true → (c : Cause) → r ≡ Err c
    → ProgramRead files path (Err c) → ProgramRefused path files (status_in_answer r)
refused_by_program path files r refusal c is (inl missed) = not_missing r c path refusal is missed
refused_by_program path files r refusal c is (inr (status, inl bad)) = bad_text (refusing r c is ∙ status) bad
refused_by_program path files r refusal c is (inr (status, inr (error, large))) = size_refused (refusing r c is ∙ status) error large
