use Rattle.std.proofs.Common.{◌≡◌, map, ◌∙◌, ap, subst}
use Rattle.miner_core.specs.Miners.{ForEachStory}
use Rattle.miner_core.specs.Story.{has_told}
use Rattle.miner_core.specs.Views.{notice_seen}
use Rattle.miner_core.proofs.Miners.{each_story, seen_in}
use Rattle.miner_core.proofs.Streaming.{told_at}
use Rattle.miner_core.proofs.miner.Miner.notices.Goals as goal

pub returns : goal.returns
returns g c =
    let i = g.P.Party.me in
    let m = seen_in c.self.inside in
    let told = ap (map notice_seen) c.deref.ensures.value in
    subst (λ v. ForEachStory i v (λ s. map notice_seen c.deref.result.now ≡ has_told i s)) c.self.view_is
    (each_story i m c.self.invariant (λ s. map notice_seen c.deref.result.now ≡ has_told i s)
    (λ w is going tape of.
    let h = is.works going in
    told ∙ told_at i h.past m.engine m.rest w.stream (λ same. h.rests) going tape of))
