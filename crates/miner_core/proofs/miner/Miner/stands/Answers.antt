use Rattle.std.proofs.Common.{subst}
use Rattle.miner_core.specs.Miners.{ForEachStory}
use Rattle.miner_core.specs.Story.{IsAnswer}
use Rattle.miner_core.proofs.Miners.{each_story, seen_in}
use Rattle.miner_core.proofs.Streaming.{answer_at}
use Rattle.miner_core.proofs.miner.Miner.stands.Goals as goal

pub returns-clause-stands : goal.returns-clause-stands
returns-clause-stands g c =
    let i = g.P.Party.me in
    let m = seen_in c.self.inside in
    subst (λ v. ForEachStory i v (λ s. IsAnswer i s c.answer.result)) c.self.view_is
    (each_story i m c.self.invariant (λ s. IsAnswer i s c.answer.result)
    (λ w is going.
    let h = is.works going in
    answer_at i h.past m.engine m.rest w.stream (λ same. h.rests) c.answer.result c.answer.ensures.stands going))
