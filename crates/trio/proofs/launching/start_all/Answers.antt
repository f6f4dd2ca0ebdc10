use Rattle.std.proofs.Common.{rules}
use Rattle.proto_core.specs.Parties.{of_three}
use Rattle.trio.specs.Words.{miner_words}
use Rattle.trio.specs.declared.launching.Children.{Children}
use Rattle.trio.proofs.Stores.{started_more}
use Rattle.trio.proofs.Launched.{halted_second, halted_third, all_begun, begun_is}
use Rattle.trio.proofs.launching.start_all.Goals as goal

pub returns-in_err-second-clause-begun : goal.returns-in_err-second-clause-begun
returns-in_err-second-clause-begun g c =
    let words = miner_words c.args.job.now.prefix.now c.args.job.now.port c.args.job.now.budget in
    let child = λ (three : Children). of_three three.first three.second three.third in
    let err = c.in_err-second.field-0.0 in
    begun_is words child c.from_residual-in_err-second.result err (search rules)
    (halted_second words child c.in_ok-first.first err c.in_ok-first.ensures.tried c.in_err-second.ensures.tried)

pub returns-in_err-third-clause-begun : goal.returns-in_err-third-clause-begun
returns-in_err-third-clause-begun g c =
    let words = miner_words c.args.job.now.prefix.now c.args.job.now.port c.args.job.now.budget in
    let child = λ (three : Children). of_three three.first three.second three.third in
    let err = c.in_err-third.field-0.0 in
    begun_is words child c.from_residual-in_err-third.result err (search rules)
    (halted_third words child c.in_ok-first.first c.in_ok-second.second err c.in_ok-first.ensures.tried c.in_ok-second.ensures.tried c.in_err-third.ensures.tried)

pub returns-clause-begun : goal.returns-clause-begun
returns-clause-begun g c =
    let words = miner_words c.args.job.now.prefix.now c.args.job.now.port c.args.job.now.budget in
    let child = λ (three : Children). of_three three.first three.second three.third in
    all_begun words child (record { first = c.in_ok-first.first; second = c.in_ok-second.second; third = c.in_ok-third.third })
    c.in_ok-first.ensures.tried c.in_ok-second.ensures.tried c.in_ok-third.ensures.tried

pub returns-in_err-second-clause-held : goal.returns-in_err-second-clause-held
returns-in_err-second-clause-held g c =
    started_more (g.F.Files.state c.args.files.now) _ _ _ c.in_ok-first.ensures.held c.in_err-second.ensures.held

pub returns-in_err-third-clause-held : goal.returns-in_err-third-clause-held
returns-in_err-third-clause-held g c =
    let f = g.F.Files.state c.args.files.now in
    started_more f _ _ _ (started_more f _ _ _ c.in_ok-first.ensures.held c.in_ok-second.ensures.held) c.in_err-third.ensures.held

pub returns-clause-held : goal.returns-clause-held
returns-clause-held g c =
    let f = g.F.Files.state c.args.files.now in
    started_more f _ _ _ (started_more f _ _ _ c.in_ok-first.ensures.held c.in_ok-second.ensures.held) c.in_ok-third.ensures.held
