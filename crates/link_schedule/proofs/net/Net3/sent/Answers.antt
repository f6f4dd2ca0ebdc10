use Rattle.std.proofs.Common.{◌∙◌}
use Rattle.link_schedule.specs.Streams.{with_tapes}
use Rattle.link_schedule.proofs.Nets.{all_sent, work_at}
use Rattle.link_schedule.proofs.net.Net3.sent.Goals as goal

pub returns : goal.returns
returns c = λ s is going tapes may none.
    let h = is.works going in
    all_sent (with_tapes s tapes) c.args.link c.on.result
    (c.on.ensures ∙ h.counted c.args.link ∙ (work_at s c.args.self.now h tapes may).net.counted c.args.link) none
