use Rattle.std.proofs.Common.{◌≡◌, sym, ◌∙◌, ap, subst}
use Rattle.std.specs.Prelude.{option_map, slice_get}
use Rattle.block_steps.specs.declared.links.Links.{Links}
use Rattle.miner_core.specs.Miners.{MinerSeen, MinerState, IsOf}
use Rattle.miner_core.specs.Story.{sent_to_previous}
use Rattle.miner_core.specs.Streams.{ForEachTape}
use Rattle.miner_core.proofs.Miners.{at_fetched, previous_so, seen_in}
use Rattle.miner_core.proofs.miner.Miner.oldest_to_previous.Goals as goal

pub returns-clause-oldest : goal.returns-clause-oldest
returns-clause-oldest g c =
    let i = g.P.Party.me in
    let m = seen_in c.self.inside in
    subst
    (λ (v : MinerSeen _). (w : MinerState) → IsOf i v w →
    ForEachTape w.stream (λ s. option_map (λ words. words.now) c.lent.result ≡ slice_get (sent_to_previous i s) w.to_previous)) c.self.view_is
    (λ w is going tape of.
    let h = is.works going in
    c.lent.ensures.found
    ∙ ap (λ ms. slice_get ms m.passed_to_previous) (c.to_previous.ensures ∙ ap (λ (l : Links). l.to_previous) c.links.ensures)
    ∙ sym (at_fetched m.past h.past.to_previous m.engine.node.links.to_previous m.passed_to_previous w.to_previous h.to_previous)
    ∙ ap (λ ms. slice_get ms w.to_previous) (previous_so i m w is going tape of))
