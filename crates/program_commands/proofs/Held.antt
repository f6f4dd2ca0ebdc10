-- What is read of a file that is there, and what is found of a program: accepted and small enough, or refused.
use Rattle.std.proofs.Common.{◌≡◌, ℕ, List, [], Some, Ok, Err, refl, subst, sym, ◌∙◌}
use Rattle.outside.specs.Files.{Contents, file_at}
use Rattle.command_frame.specs.declared.status.Status.{Status}
use Rattle.command_frame.specs.Answer.{Cause, bytes_at}
use Rattle.program_trees.specs.Programs.{ProgramTree}
use Rattle.front_end.specs.Judgement.{Judged, IsJudged}
use Rattle.program_trees.specs.TypedPrograms.{TypedProgramTree}
use Rattle.reached_instances.specs.Instances.{Instance}
use Rattle.reached_instances.specs.Reached.{IsReachedList}
use Rattle.program_commands.specs.Judging.{JudgedAt, Finding, FoundAt, its_program}
use Rattle.program_commands.specs.Programs.{bad_program, program_at, too_large, tree_at}
use Rattle.program_commands.specs.Held.{HoldsProgram, HoldsBadProgram, HoldsTyped, ProgramRefused, bad_text, too_large as size_refused}
use Rattle.program_commands.proofs.Sizes.{refused_text, is_refused}

-- ---- the file of the program

pub read_there : (files : Contents) (path bytes : List ℕ) → file_at files path ≡ Some bytes → bytes_at files path ≡ Ok bytes
unfolding bytes_at
read_there files path bytes e = rw e refl

-- what the text of a file is judged to be
judged_there : (files : Contents) (path bytes : List ℕ) (judged : Judged) → file_at files path ≡ Some bytes → IsJudged bytes judged
    → JudgedAt path files judged
judged_there files path bytes judged there is = λ other at. subst (λ (b : List ℕ). IsJudged b judged) (same other at) is
  where
    same : (other : List ℕ) → file_at files path ≡ Some other → bytes ≡ other
    same other at = let both : Some bytes ≡ Some other = sym there ∙ at in cc

pub held_judged : (path : List ℕ) (files : Contents) (tree : ProgramTree) → HoldsProgram path files tree → JudgedAt path files (Ok tree)
held_judged path files tree h = judged_there files path h.bytes (Ok tree) h.there h.accepted

pub bad_judged : (path : List ℕ) (files : Contents) (h : HoldsBadProgram path files) → JudgedAt path files (Err h.fault)
bad_judged path files h = judged_there files path h.bytes (Err h.fault) h.there h.refused

pub held_tree : (path : List ℕ) (files : Contents) (tree : ProgramTree) → HoldsProgram path files tree → tree_at (Ok tree) files path ≡ Ok tree
unfolding tree_at
held_tree path files tree h = rw (read_there files path h.bytes h.there) refl

pub bad_tree : (path : List ℕ) (files : Contents) (h : HoldsBadProgram path files) → tree_at (Err h.fault) files path ≡ Err (bad_program h.fault)
unfolding tree_at
bad_tree path files h = rw (read_there files path h.bytes h.there) refl

-- ---- a program that is small enough, and reaches these instances

abbrev pub finding : (path : List ℕ) (files : Contents) (p : TypedProgramTree) → HoldsTyped path files p → List Instance → Finding
finding path files p h reached = record { judged = Ok h.tree; sized = Ok p; reached = reached }

pub found_reaching : (path : List ℕ) (files : Contents) (p : TypedProgramTree) (h : HoldsTyped path files p) (reached : List Instance)
    → IsReachedList p reached → FoundAt (its_program path) files (finding path files p h reached)
found_reaching path files p h reached are = record {
  judged = held_judged path files h.tree h.held;
  sized = (h.typed, h.within);
  reached = are;
}

pub program_there : (path : List ℕ) (files : Contents) (p : TypedProgramTree) (h : HoldsTyped path files p) (reached : List Instance)
    → program_at (finding path files p h reached) files path ≡ Ok p
unfolding program_at
program_there path files p h reached = rw (held_tree path files h.tree h.held) refl

-- those that its limits speak of
abbrev pub found_of : (path : List ℕ) (files : Contents) (p : TypedProgramTree) → HoldsTyped path files p → Finding
found_of path files p h = finding path files p h h.within.list

pub found_there : (path : List ℕ) (files : Contents) (p : TypedProgramTree) (h : HoldsTyped path files p)
    → FoundAt (its_program path) files (found_of path files p h)
found_there path files p h = found_reaching path files p h h.within.list h.within.reached

-- ---- a program that is refused

-- it is not there, for a cause of this status
pub record HasNoProgram (path : List ℕ) (files : Contents) (s : Status) : Type 0 where
  pub found : Finding
  pub cause : Cause
  pub at : FoundAt (its_program path) files found
  pub none : program_at found files path ≡ Err cause
  pub status : s ≡ cause.status

pub no_program : (path : List ℕ) (files : Contents) (s : Status) → ProgramRefused path files s → HasNoProgram path files s
unfolding program_at bad_program too_large
no_program path files s (bad_text is bad) = record {
  found = refused_text (Err bad.fault);
  cause = bad_program bad.fault;
  at = is_refused files path bad.fault (bad_judged path files bad);
  none = rw (bad_tree path files bad) refl;
  status = is;
}
no_program path files s (size_refused is error large) = record {
  found = record { judged = Ok large.tree; sized = Err error; reached = [] };
  cause = too_large error;
  at = record { judged = held_judged path files large.tree large.held; sized = (large.program, large.typed, large.verdict); reached = tt };
  none = rw (held_tree path files large.tree large.held) refl;
  status = is;
}
