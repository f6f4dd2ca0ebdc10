use Rattle.std.proofs.Common.{sym, ◌∙◌, ap}
use Rattle.proto_core.specs.declared.party.Number.TheVariants.{One, Two, Three}
use Rattle.std.specs.Prelude.{slice_get}
use Rattle.link_schedule.specs.Miners.{fetched, streams}
use Rattle.link_schedule.specs.Parts.{sent_in}
use Rattle.link_schedule.specs.Streams.{stories_with}
use Rattle.link_schedule.proofs.miners.Miners.oldest.Goals as goal

pub returns-in-Link12 : goal.returns-in-Link12
returns-in-Link12 c = λ w are usable tapes may.
    c.oldest_to_next.ensures.oldest w.one are.one (usable One) (tapes One) (may One)
    ∙ ap (λ l. slice_get (sent_in (stories_with (streams w) tapes) l) (fetched w l)) (sym c.in-Link12.is)

pub returns-in-Link13 : goal.returns-in-Link13
returns-in-Link13 c = λ w are usable tapes may.
    c.oldest_to_previous.ensures.oldest w.one are.one (usable One) (tapes One) (may One)
    ∙ ap (λ l. slice_get (sent_in (stories_with (streams w) tapes) l) (fetched w l)) (sym c.in-Link13.is)

pub returns-in-Link21 : goal.returns-in-Link21
returns-in-Link21 c = λ w are usable tapes may.
    c.oldest_to_previous-in-Link21.ensures.oldest w.two are.two (usable Two) (tapes Two) (may Two)
    ∙ ap (λ l. slice_get (sent_in (stories_with (streams w) tapes) l) (fetched w l)) (sym c.in-Link21.is)

pub returns-in-Link23 : goal.returns-in-Link23
returns-in-Link23 c = λ w are usable tapes may.
    c.oldest_to_next-in-Link23.ensures.oldest w.two are.two (usable Two) (tapes Two) (may Two)
    ∙ ap (λ l. slice_get (sent_in (stories_with (streams w) tapes) l) (fetched w l)) (sym c.in-Link23.is)

pub returns-in-Link31 : goal.returns-in-Link31
returns-in-Link31 c = λ w are usable tapes may.
    c.oldest_to_next-in-Link31.ensures.oldest w.three are.three (usable Three) (tapes Three) (may Three)
    ∙ ap (λ l. slice_get (sent_in (stories_with (streams w) tapes) l) (fetched w l)) (sym c.in-Link31.is)

pub returns-in-Link32 : goal.returns-in-Link32
returns-in-Link32 c = λ w are usable tapes may.
    c.oldest_to_previous-in-Link32.ensures.oldest w.three are.three (usable Three) (tapes Three) (may Three)
    ∙ ap (λ l. slice_get (sent_in (stories_with (streams w) tapes) l) (fetched w l)) (sym c.in-Link32.is)
