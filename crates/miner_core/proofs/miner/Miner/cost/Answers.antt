use Rattle.std.proofs.Common.{◌≡◌, ◌-◌, sym, ◌∙◌, ap, subst}
use Rattle.miner_core.specs.Engines.{ending_at, if_ended}
use Rattle.miner_core.specs.Miners.{ForEachStory}
use Rattle.miner_core.specs.Story.{cost_in}
use Rattle.miner_core.proofs.Miners.{each_story, seen_in}
use Rattle.miner_core.proofs.Streaming.{stops_at}
use Rattle.miner_core.proofs.miner.Miner.cost.Goals as goal

pub returns : goal.returns
returns g c =
    let i = g.P.Party.me in
    let m = seen_in c.self.inside in
    let n = c.if_ended.result in
    subst (λ v. ForEachStory i v (λ s. n ≡ cost_in i s)) c.self.view_is
    (each_story i m c.self.invariant (λ s. n ≡ cost_in i s)
    (λ w is going.
    let h = is.works going in
    stops_at i h.past m.engine m.rest w.stream (λ same. h.rests) (λ s. n ≡ cost_in i s)
    (λ s ending cost drawn.
    c.if_ended.ensures ∙ ap (if_ended c.ending.result) c.saturating_sub.ensures
    ∙ ap (λ o. if_ended o (m.budget - m.engine.stage.left)) c.ending.ensures
    ∙ ap (λ b. if_ended (ending_at m.rest m.engine.at) (b - m.engine.stage.left)) is.budget
    ∙ sym cost) going))
