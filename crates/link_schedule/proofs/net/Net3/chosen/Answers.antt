use Rattle.std.proofs.Common.{◌∙◌}
use Rattle.counted_net.proofs.Marks.{chosen_of_marked}
use Rattle.link_schedule.specs.Net.{is_under_way}
use Rattle.link_schedule.specs.Streams.{with_tapes}
use Rattle.link_schedule.proofs.net.Net3.chosen.Goals as goal

pub returns : goal.returns
returns c = λ s is going tapes may.
    c.chosen_link.ensures
    ∙ chosen_of_marked (is_under_way (with_tapes s tapes)) _ _ _ _ _ _ (c.is_under_way.ensures s is going tapes may)
    (c.is_under_way-2.ensures s is going tapes may) (c.is_under_way-3.ensures s is going tapes may) (c.is_under_way-4.ensures s is going tapes may)
    (c.is_under_way-5.ensures s is going tapes may) (c.is_under_way-6.ensures s is going tapes may) c.args.word
