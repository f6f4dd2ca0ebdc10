use Rattle.std.proofs.lemmas.Result.{IfOk-weaker}
use Rattle.link_schedule.specs.Streams.{ForEachTapes}
use Rattle.delivered_run.specs.Nets.{HasTold}
use Rattle.delivered_run.proofs.Netting.{client_told}
use Rattle.delivered_run.proofs.running.reported.Goals as goal

pub returns : goal.returns
returns c = λ s is going.
    let one = c.miner1-first.ensures.miner s is going in
    let two = c.miner2.ensures.miner s is going in
    let three = c.miner3.ensures.miner s is going in
    IfOk-weaker c.report.result _ (λ told. ForEachTapes s (λ n. HasTold n told))
    (client_told s one.state.stream two.state.stream three.state.stream one.is two.is three.is _ _ _ _ _ (c.notices.ensures.states one.state one.of)
    (c.notices-second.ensures.states two.state two.of) (c.notices-third.ensures.states three.state three.of) (c.cost-cost.ensures.states one.state one.of)
    (c.ending.ensures.states one.state one.of)) c.report.ensures
