use Rattle.std.proofs.Common.{◌≡◌, ◌∙◌, ap, subst}
use Rattle.block_steps.specs.declared.links.Links.{Links}
use Rattle.miner_core.specs.declared.kept.Kept.TheVariants.{All}
use Rattle.miner_core.specs.Miners.{MinerSeen, held}
use Rattle.miner_core.specs.Story.{sent_to_previous}
use Rattle.miner_core.specs.Streams.{ForEachTape}
use Rattle.miner_core.proofs.Miners.{all_to_previous, seen_in}
use Rattle.miner_core.proofs.miner.Miner.sent_to_previous.Goals as goal

pub returns : goal.returns
returns g c =
    let i = g.P.Party.me in
    let m = seen_in c.self.inside in
    let sent = c.to_previous.ensures ∙ ap (λ (l : Links). l.to_previous) c.links.ensures in
    subst (λ (v : MinerSeen _). v.past ≡ All → ForEachTape (held v) (λ s. c.to_previous.result.now ≡ sent_to_previous i s)) c.self.view_is
    (λ keeps going tape of. sent ∙ all_to_previous i m c.self.invariant keeps going tape of) c.requires
