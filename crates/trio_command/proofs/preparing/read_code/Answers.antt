use Rattle.std.proofs.Common.{◌≡◌, ◌∷◌, ◌∙◌, [], ℕ, List, Contains, Global, Vec, ap, codes, rules, string_bytes, subst}
use Rattle.command_frame.specs.declared.plan.PlannedWrite.{PlannedWrite}
use Rattle.command_frame.specs.Answer.{paths_in, writes_of}
use Rattle.program_commands.specs.Compile.{compile_paths, compiled_paths}
use Rattle.program_commands.specs.Paths.{path_to}
use Rattle.program_commands.proofs.Exits.{first_in}
use Rattle.trio_command.proofs.Prepares.{named_at}
use Rattle.trio_command.proofs.preparing.read_code.Goals as goal

pub returns-in_err-plan-clause-names : goal.returns-in_err-plan-clause-names
unfolding compile_paths
returns-in_err-plan-clause-names g c =
    let same : string_bytes c.in_ok-clone.field-0 ≡ string_bytes c.args.words.now.program = search rules in
    named_at _ _ _ _ c.from_residual-in_err-plan.result c.from_residual-in_err-plan.ensures.1 c.in_err-plan.ensures.names same
    (first_in (string_bytes c.args.words.now.program) [])

pub returns-clause-paths : goal.returns-clause-paths
unfolding compiled_paths
returns-clause-paths g c = λ path contains.
    subst (λ (p : List ℕ). Contains (p ∷ []) path)
    (c.in_ok-code_path.ensures ∙ ap (λ (prefix : List ℕ). path_to prefix (codes ".code")) c.deref.ensures)
    (c.in_ok-plan.ensures.names.written path
    (subst (λ (writes : Vec PlannedWrite Global). Contains (paths_in (writes_of writes.items)) path) c.replace.ensures.value contains))
