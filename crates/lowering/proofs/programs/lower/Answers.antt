use Rattle.std.proofs.Common.{◌≡◌, List, ap, ◌∙◌, subst}
use Rattle.std.specs.Prelude.{map}
use Rattle.std.proofs.lemmas.Result.{err_from_is_err_and}
use Rattle.program_trees.specs.TypedPrograms.{typed_program_tree}
use Rattle.verified_code.specs.Steps.{Function}
use Rattle.code_model.specs.Programs.{code_of}
use Rattle.code_model.specs.Instructions.{names_of, raw_code_of, raw_function}
use Rattle.lowering.specs.inner.Naming.{texts}
use Rattle.lowering.specs.Narrow.{IsJustOfSome, IsJustRefusal}
use Rattle.lowering.specs.inner.Views.{function_seen}
use Rattle.lowering.proofs.Short.{just_of_code, handed}
use Rattle.lowering.proofs.programs.lower.Goals as goal

pub returns-in_err-functions-clause-refused : goal.returns-in_err-functions-clause-refused
returns-in_err-functions-clause-refused c =
    let code = code_of (typed_program_tree c.args.program.now) c.args.instances.now in
    let from = c.from_residual-in_err-functions.ensures in
    let e = c.in_err-functions.field-0.0 in
    let first : map function_seen c.deref.result.now ≡ code = ap (map function_seen) c.deref.ensures.value ∙ c.in_ok-all.ensures in
    let second : map function_seen c.deref-2.result.now ≡ code = ap (map function_seen) c.deref-2.ensures.value ∙ c.in_ok-all.ensures in
    let names : texts c.in_ok-names.names ≡ names_of code = c.in_ok-names.ensures.0 ∙ ap names_of first in
    handed (λ e. IsJustRefusal e (raw_code_of code)) e c.from_residual-in_err-functions.result
    (err_from_is_err_and c.from_residual-in_err-functions.result from.1)
    (just_of_code e (raw_code_of code)
    (subst (λ ts. IsJustOfSome e (map (raw_function ts) code)) names
    (subst (λ (fs : List Function). IsJustOfSome e (map (raw_function (texts c.in_ok-names.names)) fs)) second c.in_err-functions.ensures.refused)))
