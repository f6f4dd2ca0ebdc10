use Rattle.std.proofs.Common.{◌≡◌, sym, ◌∙◌, ap, subst}
use Rattle.own_code.specs.Dealt.{drawn_by}
use Rattle.shared_gates.specs.Model.{miner_of}
use Rattle.value_steps.specs.Views.{drawn_seen}
use Rattle.miner_core.specs.declared.kept.Kept.TheVariants.{All}
use Rattle.miner_core.specs.Engines.{if_ended}
use Rattle.miner_core.specs.Miners.{MinerSeen, held, ForEachStory}
use Rattle.miner_core.specs.Story.{drawn_in}
use Rattle.miner_core.specs.Streams.{ForWordsDrawn}
use Rattle.miner_core.proofs.Miners.{each_drawn, each_story, seen_in}
use Rattle.miner_core.proofs.Streaming.{stops_at, stops_drawn}
use Rattle.miner_core.proofs.miner.Miner.drawn.Goals as goal

pub returns-clause-tapes : goal.returns-clause-tapes
returns-clause-tapes g c =
    let i = g.P.Party.me in
    let m = seen_in c.self.inside in
    let n = c.if_ended.result in
    subst (λ v. ForEachStory i v (λ s. n ≡ drawn_in i s)) c.self.view_is
    (each_story i m c.self.invariant (λ s. n ≡ drawn_in i s)
    (λ w is going.
    let h = is.works going in
    stops_at i h.past m.engine m.rest w.stream (λ same. h.rests) (λ s. n ≡ drawn_in i s)
    (λ s ending cost drawn.
    c.if_ended.ensures
    ∙ ap (if_ended c.ending.result) (c.drawn_of.ensures ∙ ap (λ k. drawn_by (drawn_seen m.engine.stage.drawn) (miner_of k)) c.number.ensures)
    ∙ ap (λ o. if_ended o (drawn_by (drawn_seen m.engine.stage.drawn) (miner_of i))) c.ending.ensures
    ∙ sym drawn) going))

pub returns-clause-alone : goal.returns-clause-alone
returns-clause-alone g c =
    let i = g.P.Party.me in
    let m = seen_in c.self.inside in
    let n = c.if_ended.result in
    subst (λ (v : MinerSeen _). v.past ≡ All → ForWordsDrawn (held v) (λ s. n ≡ drawn_in i s)) c.self.view_is
    (each_drawn i m c.self.invariant (λ s. n ≡ drawn_in i s)
    (λ w is going.
    let h = is.works going in
    stops_drawn i h.past m.engine m.rest w.stream (λ same. h.rests) (λ s. n ≡ drawn_in i s)
    (λ s ending cost drawn.
    c.if_ended.ensures
    ∙ ap (if_ended c.ending.result) (c.drawn_of.ensures ∙ ap (λ k. drawn_by (drawn_seen m.engine.stage.drawn) (miner_of k)) c.number.ensures)
    ∙ ap (λ o. if_ended o (drawn_by (drawn_seen m.engine.stage.drawn) (miner_of i))) c.ending.ensures
    ∙ sym drawn) going))
