use Rattle.std.proofs.Common.{◌∙◌}
use Rattle.link_schedule.proofs.Nets.{found_under_way, work_may}
use Rattle.link_schedule.proofs.net.Net3.is_under_way.Goals as goal

pub returns : goal.returns
returns c = λ s is going tapes may.
    let h = is.works going in
    c.is_some.ensures
    ∙ found_under_way s c.args.self.now h c.oldest.result (λ words. words.now) c.args.link tapes may
    (c.oldest.ensures h.states h.are h.joined.going tapes (work_may s c.args.self.now h tapes may))
