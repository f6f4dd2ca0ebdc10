use Rattle.std.proofs.Common.{Err, ap, ◌∙◌}
use Rattle.std.proofs.lemmas.Result.{MatchResult-weaker, err_from_is_err_and}
use Rattle.view_model.specs.Dealing.{private_shares}
use Rattle.miner_core.proofs.Sources.{draws_none}
use Rattle.delivered_run.proofs.Netting.{new_is}
use Rattle.delivered_run.proofs.net.miner.Goals as goal

pub returns-in_err-dealt-clause-draws : goal.returns-in_err-dealt-clause-draws
returns-in_err-dealt-clause-draws g c =
    let p = err_from_is_err_and c.from_residual.result c.from_residual.ensures.1 in
    draws_none g.P.Party.me (g.T.TapeSource.state c.args.tapes.now) c.from_residual.result (p.1 ∙ ap Err p.2)

pub returns-in_err-task-clause-draws : goal.returns-in_err-task-clause-draws
returns-in_err-task-clause-draws g c =
    let p = err_from_is_err_and c.from_residual-in_err-task.result c.from_residual-in_err-task.ensures.1 in
    draws_none g.P.Party.me (g.T.TapeSource.state c.args.tapes.now) c.from_residual-in_err-task.result (p.1 ∙ ap Err p.2)

pub returns-clause-made : goal.returns-clause-made
returns-clause-made g c =
    let state = g.T.TapeSource.state in
    MatchResult-weaker c.keeping.result c.keeping.ensures.made
    (λ m h.
    record {
      stream = h.stream;
      made =
          new_is g.P.Party.me c.args.setting.now c.in_ok-task.task c.in_ok-dealt.dealt (private_shares c.args.file.now.entries) (state c.args.tapes.now)
          (state c.keeping.new.tapes) h.stream h.made (c.in_ok-dealt.ensures ∙ ap private_shares c.entries.ensures) c.in_ok-task.ensures.code
          c.in_ok-task.ensures.world;
      is = h.is;
      past_is = h.past_is;
    })
    (λ l k. k)
