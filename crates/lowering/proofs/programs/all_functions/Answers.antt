use Rattle.std.proofs.Common.{ap, ◌∙◌}
use Rattle.std.specs.Prelude.{map}
use Rattle.std.proofs.lemmas.Result.{err_from_is_err_and}
use Rattle.bytecode.specs.InMemory.{raw_function as in_memory}
use Rattle.code_model.specs.Instructions.{raw_function}
use Rattle.lowering.specs.inner.Naming.{texts}
use Rattle.lowering.specs.Narrow.{IsJustOfSome}
use Rattle.lowering.specs.inner.Views.{function_seen}
use Rattle.lowering.proofs.Short.{some_seen, handed}
use Rattle.lowering.proofs.Pushed.{pushed}
use Rattle.lowering.proofs.programs.all_functions.Goals as goal

pub returns-in_err-next-clause-refused : goal.returns-in_err-next-clause-refused
returns-in_err-next-clause-refused c =
    let xs = c.args.all.now in
    let own = raw_function (texts c.args.names.now) in
    let from = c.from_residual-in_err-next.ensures in
    handed (λ e. IsJustOfSome e (map own (map function_seen xs))) c.in_err-next.field-0.0 c.from_residual-in_err-next.result
    (err_from_is_err_and c.from_residual-in_err-next.result from.1)
    (some_seen c.in_err-next.field-0.0 own function_seen xs c.loop-steps.steps-index c.steps-item.result c.loop-steps-test.true c.steps-item.is
    c.in_err-next.ensures.refused)

pub loop-steps-preserved : goal.loop-steps-preserved
loop-steps-preserved c =
    let loop = c.loop-steps in
    let own = raw_function (texts c.args.names.now) in
    ap (map in_memory) c.in_ok-push.ensures
    ∙ pushed in_memory own function_seen loop.functions.items c.args.all.now loop.steps-index c.steps-item.result _ c.loop-steps-test.true c.steps-item.is
    loop.invariant c.in_ok-next.ensures.code
