use Rattle.std.proofs.Common.{rules}
use Rattle.proto_core.specs.Parties.{of_three}
use Rattle.trio.specs.Words.{miner_words}
use Rattle.trio.specs.declared.launching.Children.{Children}
use Rattle.trio.proofs.Stores.{started_kept}
use Rattle.trio.proofs.Launched.{halted, launched}
use Rattle.trio.proofs.launching.launch.Goals as goal

pub returns-in_err-three-clause-launched : goal.returns-in_err-three-clause-launched
returns-in_err-three-clause-launched g c =
    halted (miner_words c.args.job.now.prefix.now c.args.job.now.port c.args.job.now.budget)
    (λ (three : Children). of_three three.first three.second three.third) c.in_err-three.field-0.0 c.from_residual.result c.in_err-three.ensures.begun
    (search rules)

pub returns-clause-launched : goal.returns-clause-launched
returns-clause-launched g c =
    let answers = c.wait_all-answers.result in
    launched (miner_words c.args.job.now.prefix.now c.args.job.now.port c.args.job.now.budget)
    (λ (three : Children). of_three three.first three.second three.third) c.in_ok-three.three
    (of_three answers.first answers.second answers.third) c.judged.result c.in_ok-three.ensures.begun c.wait_all-answers.ensures.waited c.judged.ensures

pub returns-clause-held : goal.returns-clause-held
returns-clause-held g c =
    started_kept (g.F.Files.state c.args.files.now) _ _ _ c.in_ok-three.ensures.held c.wait_all-answers.ensures.waited.moved.told
    c.wait_all-answers.ensures.held
