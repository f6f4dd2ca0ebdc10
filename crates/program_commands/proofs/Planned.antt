-- What `compile` plans is what is decided of the files.
use Rattle.std.proofs.Common.{◌≡◌, ℕ, List, length, true, Ok, Err, sym, ◌∙◌, ap, subst, inl, inr}
use Rattle.std.proofs.lemmas.List.{length-map}
use Rattle.outside.specs.Files.{Contents, FilesState}
use Rattle.command_frame.specs.Answer.{Answer, Effect}
use Rattle.command_words.specs.Ask.{CompileAsk}
use Rattle.program_trees.specs.TypedPrograms.{TypedProgramTree}
use Rattle.bytecode.specs.Raw.{RawCode}
use Rattle.program_run.specs.RawCodes.{raw_code_of_program}
use Rattle.reached_instances.specs.Instances.{Instance}
use Rattle.reached_instances.specs.Reached.{IsReachedList}
use Rattle.reached_instances.proofs.ReachedLists.{is_the_only_list}
use Rattle.program_run.specs.Codes.{IsCodeOf}
use Rattle.program_commands.specs.Compile.{code_bytes, compile_of, written_effect}
use Rattle.program_commands.specs.Judging.{Finding, FoundAt, IsReachedAs, Sized, its_program}
use Rattle.program_commands.specs.Programs.{program_at, small_enough, tree_at}
use Rattle.program_commands.proofs.Refusals.{steps}
use Rattle.program_commands.proofs.Sizes.{tree_judged}

abbrev pub done_with : Effect → Answer
done_with effect = Ok effect

-- where a path is the same, so is the program that is found there
pub at_path :
    (path other : List ℕ) → path ≡ other → (f : FilesState) (p : TypedProgramTree)
    → ((found : Finding) → FoundAt (its_program path) f.contents found → f.told ≡ true → program_at found f.contents path ≡ Ok p)
    → (found : Finding) → FoundAt (its_program other) f.contents found → f.told ≡ true → program_at found f.contents other ≡ Ok p
at_path path other same f p given =
    subst
    (λ (x : List ℕ). (found : Finding) → FoundAt (its_program x) f.contents found → f.told ≡ true → program_at found f.contents x ≡ Ok p) same given

-- ---- the code of a program that was read

small : (sized : Sized) (p : TypedProgramTree) → small_enough sized ≡ Ok p → sized ≡ Ok p
small (Ok q) p is = let same : q ≡ p = cc in cc
small (Err error) p is = absurd cc

-- what is found is what the program reaches
reached_found : (found : Finding) (path : List ℕ) (files : Contents) (p : TypedProgramTree) → FoundAt (its_program path) files found
    → program_at found files path ≡ Ok p → IsReachedList p found.reached
unfolding program_at
reached_found found path files p h is =
    elim (steps (tree_at found.judged files path) (λ tree. small_enough found.sized) (Ok p) is) [
      | inl (c, e, wrong) ↦ absurd cc
      | inr (tree, e, rest) ↦
          let by_tree : IsReachedAs (Ok tree) found.sized found.reached =
          subst (λ judged. IsReachedAs judged found.sized found.reached) (tree_judged files path found.judged tree e) h.reached in
          subst (λ (sized : Sized). IsReachedAs (Ok tree) sized found.reached) (small found.sized p rest) by_tree
    ]

code_found : (found : Finding) (path : List ℕ) (files : Contents) (p : TypedProgramTree) (raw : RawCode) → FoundAt (its_program path) files found
    → program_at found files path ≡ Ok p → IsCodeOf p raw → raw_code_of_program p found.reached ≡ raw
code_found found path files p raw h is of =
    ap (raw_code_of_program p) (is_the_only_list p found.reached of.reached (reached_found found path files p h is) of.are) ∙ sym of.code

counted : (p : TypedProgramTree) (reached : List Instance) → length reached ≡ length (raw_code_of_program p reached).functions
counted p reached = sym (length-map _ _ ∙ length-map reached _)

pub compiled :
    (found : Finding) (ask : CompileAsk) (files : Contents) (p : TypedProgramTree) (raw : RawCode) → FoundAt (its_program ask.program) files found
    → program_at found files ask.program ≡ Ok p → IsCodeOf p raw → compile_of found ask files ≡ Ok (written_effect ask.code raw)
unfolding compile_of code_bytes
compiled found ask files p raw h is of =
    rw is
    (rw (counted p found.reached) (ap (λ c. Ok (written_effect ask.code c)) (code_found found ask.program files p raw h is of)))
