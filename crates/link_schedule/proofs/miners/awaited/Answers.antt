use Rattle.std.proofs.Common.{◌∙◌, ap, subst}
use Rattle.std.specs.Prelude.{Result, Ok, Err}
use Rattle.miner_core.specs.declared.answer.MinerErr.{MinerErr}
use Rattle.miner_core.specs.declared.answer.MinerErr.TheVariants.{BadMessage}
use Rattle.miner_core.specs.declared.answer.Step.{Step}
use Rattle.miner_core.specs.declared.answer.Step.TheVariants.{Waits}
use Rattle.miner_core.specs.Miners.{ForEachStory}
use Rattle.miner_core.specs.Story.{IsAnswer}
use Rattle.miner_core.specs.Streams.{with_tape}
use Rattle.link_schedule.proofs.Waiting.{awaited_is}
use Rattle.link_schedule.proofs.miners.awaited.Goals as goal

pub returns-in-Ok-Waits : goal.returns-in-Ok-Waits
returns-in-Ok-Waits g c = λ w is going tape of.
    let i = g.P.Party.me in
    let r = Ok (Waits c.in-Ok-Waits.link) in
    let h = subst (λ r. ForEachStory i c.args.miner.now (λ s. IsAnswer i s r)) (c.in-Ok-Waits.is ∙ ap Ok c.in-Ok-Waits.field-0-is)
    c.stands.ensures.stands in
    awaited_is i (with_tape w.stream tape) r (h.states w is going tape of)

pub returns-in-Err-BadMessage : goal.returns-in-Err-BadMessage
returns-in-Err-BadMessage g c = λ w is going tape of.
    let i = g.P.Party.me in
    let e = BadMessage c.in-Err-BadMessage.link c.in-Err-BadMessage.field-0-1 in
    let h = subst (λ (r : Result Step MinerErr). ForEachStory i c.args.miner.now (λ s. IsAnswer i s r))
    (c.in-Err-BadMessage.is ∙ ap Err c.in-Err-BadMessage.field-0-is) c.stands.ensures.stands in
    awaited_is i (with_tape w.stream tape) (Err e) (h.states w is going tape of)
