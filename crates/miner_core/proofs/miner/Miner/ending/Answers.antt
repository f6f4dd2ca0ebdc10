use Rattle.std.proofs.Common.{◌≡◌, sym, ◌∙◌, subst}
use Rattle.miner_core.specs.Miners.{ForEachStory}
use Rattle.miner_core.specs.Story.{ending_in}
use Rattle.miner_core.proofs.Miners.{each_story, seen_in}
use Rattle.miner_core.proofs.Streaming.{stops_at}
use Rattle.miner_core.proofs.miner.Miner.ending.Goals as goal

pub returns : goal.returns
returns g c =
    let i = g.P.Party.me in
    let m = seen_in c.self.inside in
    subst (λ v. ForEachStory i v (λ s. c.ending.result ≡ ending_in i s)) c.self.view_is
    (each_story i m c.self.invariant (λ s. c.ending.result ≡ ending_in i s)
    (λ w is going.
    let h = is.works going in
    stops_at i h.past m.engine m.rest w.stream (λ same. h.rests) (λ s. c.ending.result ≡ ending_in i s)
    (λ s ending cost drawn. c.ending.ensures ∙ sym ending) going))
