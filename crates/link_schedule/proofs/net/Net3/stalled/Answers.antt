use Rattle.std.proofs.Common.{◌∙◌}
use Rattle.proto_core.specs.declared.party.Number.TheVariants.{One, Two, Three}
use Rattle.protocol_model.specs.Network.{waits_for}
use Rattle.protocol_model.proofs.Waiting.{first_waits, second_waits, third_waits, none_waits}
use Rattle.link_schedule.specs.Miners.{fetched, streams}
use Rattle.link_schedule.specs.Net.{net_node}
use Rattle.link_schedule.specs.Streams.{stories_with, with_tapes}
use Rattle.link_schedule.proofs.Joining.{waits_is}
use Rattle.link_schedule.proofs.Nets.{work_at}
use Rattle.link_schedule.proofs.net.Net3.stalled.Goals as goal

pub returns-in-Some : goal.returns-in-Some
returns-in-Some c = λ s is going tapes may.
    let n = with_tapes s tapes in
    let h = is.works going in
    let m = stories_with (streams h.states) tapes in
    let here = work_at s c.args.self.now h tapes may in
    first_waits (λ i. waits_for (net_node n i).left) c.in-Some.link
    (waits_is n m (fetched h.states) here.net One c.awaited.result (c.awaited.ensures h.states.one h.are.one (here.usable One) (tapes One) (here.may One)) ∙ c.in-Some.is)

pub returns-in-Some-awaited : goal.returns-in-Some-awaited
returns-in-Some-awaited c = λ s is going tapes may.
    let n = with_tapes s tapes in
    let h = is.works going in
    let m = stories_with (streams h.states) tapes in
    let here = work_at s c.args.self.now h tapes may in
    second_waits (λ i. waits_for (net_node n i).left) c.in-Some-awaited.link
    (waits_is n m (fetched h.states) here.net One c.awaited.result (c.awaited.ensures h.states.one h.are.one (here.usable One) (tapes One) (here.may One)) ∙ c.in_default.is)
    (waits_is n m (fetched h.states) here.net Two c.awaited-2.result (c.awaited-2.ensures h.states.two h.are.two (here.usable Two) (tapes Two) (here.may Two)) ∙ c.in-Some-awaited.is)

pub returns-in-Some-awaited-2 : goal.returns-in-Some-awaited-2
returns-in-Some-awaited-2 c = λ s is going tapes may.
    let n = with_tapes s tapes in
    let h = is.works going in
    let m = stories_with (streams h.states) tapes in
    let here = work_at s c.args.self.now h tapes may in
    third_waits (λ i. waits_for (net_node n i).left) c.in-Some-awaited-2.link
    (waits_is n m (fetched h.states) here.net One c.awaited.result (c.awaited.ensures h.states.one h.are.one (here.usable One) (tapes One) (here.may One)) ∙ c.in_default.is)
    (waits_is n m (fetched h.states) here.net Two c.awaited-2.result (c.awaited-2.ensures h.states.two h.are.two (here.usable Two) (tapes Two) (here.may Two)) ∙ c.in_default-awaited.is)
    (waits_is n m (fetched h.states) here.net Three c.awaited-3.result (c.awaited-3.ensures h.states.three h.are.three (here.usable Three) (tapes Three) (here.may Three)) ∙ c.in-Some-awaited-2.is)

pub returns : goal.returns
returns c = λ s is going tapes may.
    let n = with_tapes s tapes in
    let h = is.works going in
    let m = stories_with (streams h.states) tapes in
    let here = work_at s c.args.self.now h tapes may in
    none_waits (λ i. waits_for (net_node n i).left)
    (waits_is n m (fetched h.states) here.net One c.awaited.result (c.awaited.ensures h.states.one h.are.one (here.usable One) (tapes One) (here.may One)) ∙ c.in_default.is)
    (waits_is n m (fetched h.states) here.net Two c.awaited-2.result (c.awaited-2.ensures h.states.two h.are.two (here.usable Two) (tapes Two) (here.may Two)) ∙ c.in_default-awaited.is)
    (waits_is n m (fetched h.states) here.net Three c.awaited-3.result (c.awaited-3.ensures h.states.three h.are.three (here.usable Three) (tapes Three) (here.may Three)) ∙ c.in_default-awaited-2.is)
