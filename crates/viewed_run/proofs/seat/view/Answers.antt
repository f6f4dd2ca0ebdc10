use Rattle.std.proofs.Common.{◌∙◌, ap}
use Rattle.viewed_run.specs.CodeViews.{shown_in}
use Rattle.program_views.specs.Views.{input_shares}
use Rattle.viewed_run.proofs.Sitting.{sees_from}
use Rattle.viewed_run.proofs.seat.view.Goals as goal

pub returns : goal.returns
returns g c =
    let seat = c.args.seat.now in
    sees_from g.P.Party.me seat c.number-miner.result _ _ _ _ c.in_ok-end.end _ c.new.ensures c.number-miner.ensures
    (c.in_ok-inputs.ensures ∙ ap input_shares c.entries.ensures) c.in_ok-drew.ensures c.in_ok-got.ensures
    (λ going tape of. c.in_ok-opened.ensures ∙ ap shown_in (c.notices.ensures.kept c.requires going tape of)) c.in_ok-end.ensures
