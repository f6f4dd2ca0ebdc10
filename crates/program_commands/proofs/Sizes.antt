-- What was found of a program: its judgement, and whether it is small enough.
use Rattle.std.proofs.Common.{◌≡◌, ℕ, List, [], Option, Some, None, Ok, Err, Result, subst, sym, ◌∙◌}
use Rattle.outside.specs.Files.{Contents}
use Rattle.program_trees.specs.Programs.{ProgramTree}
use Rattle.program_trees.specs.TypedPrograms.{TypedProgramTree}
use Rattle.name_resolution.specs.Functions.{typed_of}
use Rattle.reached_instances.specs.declared.limit_err.LimitErr.{LimitErr}
use Rattle.reached_instances.specs.LimitAnswer.{IsJust}
use Rattle.reached_instances.specs.Limits.{IsVerdict}
use Rattle.front_end.specs.Judgement.{Judged}
use Rattle.command_frame.specs.Answer.{Cause, ◌>>=◌, bytes_at}
use Rattle.reached_instances.specs.Instances.{Instance}
use Rattle.front_end.specs.declared.program_fault.ProgramFault.{ProgramFault}
use Rattle.program_commands.specs.Judging.{JudgedAt, Sized, IsSized, IsSizedAs, IsReachedAs, Finding, FoundAt, its_program}
use Rattle.program_commands.specs.Programs.{accepted, tree_at}
use Rattle.program_commands.proofs.Judged.{any_size}

-- ---- a program has one size

-- what there is too much of in it
abbrev pub OnlyVerdict : TypedProgramTree → Option LimitErr → Type 0
OnlyVerdict p known = (refused : Option LimitErr) → IsVerdict p refused → refused ≡ known

same_there : {A : Type 0} (o : Option A) (a b : A) → o ≡ Some a → o ≡ Some b → b ≡ a
same_there o a b is other = let both : Some b ≡ Some a = sym other ∙ is in cc

of_this : (tree : ProgramTree) (p q : TypedProgramTree) (refused : Option LimitErr) → typed_of tree ≡ Some p → typed_of tree ≡ Some q
    → IsVerdict q refused → IsVerdict p refused
of_this tree p q refused typed other v = subst (λ (x : TypedProgramTree). IsVerdict x refused) (same_there (typed_of tree) p q typed other) v

pub small_known : (tree : ProgramTree) (p : TypedProgramTree) → typed_of tree ≡ Some p → OnlyVerdict p None → (sized : Sized) → IsSized tree sized
    → sized ≡ Ok p
small_known tree p typed only (Ok q) (other, within) = let same : q ≡ p = same_there (typed_of tree) p q typed other in cc
small_known tree p typed only (Err error) (q, other, verdict) =
    let wrong : Some error ≡ None = only (Some error) (of_this tree p q (Some error) typed other verdict) in
    absurd cc

pub large_known : (tree : ProgramTree) (p : TypedProgramTree) (error : LimitErr) → typed_of tree ≡ Some p → OnlyVerdict p (Some error)
    → (sized : Sized) → IsSized tree sized → sized ≡ Err error
large_known tree p error typed only (Ok q) (other, within) =
    let wrong : None ≡ Some error = only None (of_this tree p q None typed other within) in
    absurd cc
large_known tree p error typed only (Err e) (q, other, verdict) =
    let same : Some e ≡ Some error = only (Some e) (of_this tree p q (Some e) typed other verdict) in
    cc

-- ---- the program at a path

pub accepted_judged : (judged : Judged) (tree : ProgramTree) → accepted judged ≡ Ok tree → judged ≡ Ok tree
accepted_judged (Ok t) tree is = let same : t ≡ tree = cc in cc
accepted_judged (Err fault) tree is = absurd cc

-- a tree that is read is the judgement's
pub tree_judged : (files : Contents) (path : List ℕ) (judged : Judged) (tree : ProgramTree) → tree_at judged files path ≡ Ok tree → judged ≡ Ok tree
unfolding tree_at
tree_judged files path judged tree is = go (bytes_at files path) is
  where
    go : (b : Result (List ℕ) Cause) → (b >>= λ bytes. accepted judged) ≡ Ok tree → judged ≡ Ok tree
    go (Ok bytes) is = accepted_judged judged tree is
    go (Err c) is = absurd cc

pub size_found : (files : Contents) (path : List ℕ) (found : Finding) (tree : ProgramTree) → FoundAt (its_program path) files found
    → tree_at found.judged files path ≡ Ok tree → IsSized tree found.sized
size_found files path found tree h is = subst (λ (j : Judged). IsSizedAs j found.sized) (tree_judged files path found.judged tree is) h.sized

-- ---- what is found

-- what a program reaches that is small enough
pub reaching : (tree : ProgramTree) (sized : Sized) → IsSized tree sized → (reached : List Instance) × IsReachedAs (Ok tree) sized reached
reaching tree (Ok p) (typed, within) = (within.list, within.reached)
reaching tree (Err error) is = ([], tt)

-- of a text that is refused, or isn't there
abbrev pub refused_text : (judged : Judged) → Finding
refused_text judged = record { judged = judged; sized = any_size; reached = [] }

pub is_refused : (files : Contents) (path : List ℕ) (fault : ProgramFault) → JudgedAt path files (Err fault)
    → FoundAt (its_program path) files (refused_text (Err fault))
is_refused files path fault at = record { judged = at; sized = tt; reached = tt }

-- and nothing else than this
abbrev pub JustVerdict : TypedProgramTree → LimitErr → Type 0
JustVerdict p error = (refused : Option LimitErr) → IsVerdict p refused → IsJust (Err error) refused
