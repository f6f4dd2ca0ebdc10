use Rattle.std.proofs.Common.{◌≡◌, ◌∙◌, ap, subst}
use Rattle.block_steps.specs.declared.links.Links.{Links}
use Rattle.miner_core.specs.declared.kept.Kept.TheVariants.{All}
use Rattle.miner_core.specs.Miners.{MinerSeen, held}
use Rattle.miner_core.specs.Story.{sent_to_next}
use Rattle.miner_core.specs.Streams.{ForEachTape}
use Rattle.miner_core.proofs.Miners.{all_to_next, seen_in}
use Rattle.miner_core.proofs.miner.Miner.sent_to_next.Goals as goal

pub returns : goal.returns
returns g c =
    let i = g.P.Party.me in
    let m = seen_in c.self.inside in
    let sent = c.to_next.ensures ∙ ap (λ (l : Links). l.to_next) c.links.ensures in
    subst (λ (v : MinerSeen _). v.past ≡ All → ForEachTape (held v) (λ s. c.to_next.result.now ≡ sent_to_next i s)) c.self.view_is
    (λ keeps going tape of. sent ∙ all_to_next i m c.self.invariant keeps going tape of) c.requires
