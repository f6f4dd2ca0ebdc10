use Rattle.std.proofs.Common.{sym, ◌∙◌}
use Rattle.proto_core.specs.declared.party.Number.TheVariants.{One, Two, Three}
use Rattle.protocol_model.specs.Network.{into_counts, stands_at}
use Rattle.counted_net.specs.Nets.{got_of, scripts_in}
use Rattle.protocol_model.proofs.Waiting.{first_waits, none_waits, second_waits, third_waits}
use Rattle.counted_net.proofs.Together.{waits_so}
use Rattle.counted_net.proofs.net.Net.stalled.Goals as goal

pub returns-in-Some : goal.returns-in-Some
returns-in-Some c =
    let n = c.self.inside in
    let net = c.args.self.now in
    let so = waits_so n.scripts.now n.delivered.items n.miners n.given net c.self.view_is c.self.invariant in
    first_waits (λ i. stands_at (scripts_in net i) (into_counts i (got_of net.delivered))) c.in-Some.link (sym (so One) ∙ c.in-Some.is)

pub returns-in-Some-waits : goal.returns-in-Some-waits
returns-in-Some-waits c =
    let n = c.self.inside in
    let net = c.args.self.now in
    let so = waits_so n.scripts.now n.delivered.items n.miners n.given net c.self.view_is c.self.invariant in
    second_waits (λ i. stands_at (scripts_in net i) (into_counts i (got_of net.delivered))) c.in-Some-waits.link (sym (so One) ∙ c.in_default.is)
    (sym (so Two) ∙ c.in-Some-waits.is)

pub returns-in-Some-waits-2 : goal.returns-in-Some-waits-2
returns-in-Some-waits-2 c =
    let n = c.self.inside in
    let net = c.args.self.now in
    let so = waits_so n.scripts.now n.delivered.items n.miners n.given net c.self.view_is c.self.invariant in
    third_waits (λ i. stands_at (scripts_in net i) (into_counts i (got_of net.delivered))) c.in-Some-waits-2.link (sym (so One) ∙ c.in_default.is)
    (sym (so Two) ∙ c.in_default-waits.is) (sym (so Three) ∙ c.in-Some-waits-2.is)

pub returns : goal.returns
returns c =
    let n = c.self.inside in
    let net = c.args.self.now in
    let so = waits_so n.scripts.now n.delivered.items n.miners n.given net c.self.view_is c.self.invariant in
    none_waits (λ i. stands_at (scripts_in net i) (into_counts i (got_of net.delivered))) (sym (so One) ∙ c.in_default.is)
    (sym (so Two) ∙ c.in_default-waits.is) (sym (so Three) ∙ c.in_default-waits-2.is)
