use Rattle.std.proofs.Common.{◌≡◌, subst}
use Rattle.miner_core.specs.Miners.{held}
use Rattle.miner_core.specs.Streams.{no_words}
use Rattle.miner_node.specs.declared.node_err.NodeErr.TheVariants.{Memory}
use Rattle.miner_node.specs.declared.node_err.ServeErr.TheVariants.{TapeFault}
use Rattle.miner_node.specs.Tapes.{StopsSo}
use Rattle.miner_node.proofs.Along.{ready, whole_order, whole_serves, whole_stops}
use Rattle.miner_node.proofs.serving.serve.Goals as goal

pub serve_from-requires-clause-ready : goal.serve_from-requires-clause-ready
serve_from-requires-clause-ready g c = ready g.P.Party.me (held c.args.miner) c.requires.kept c.requires.whole c.requires.fresh

pub returns-in-Ok-clause-served : goal.returns-in-Ok-clause-served
returns-in-Ok-clause-served g c =
    let h = c.in-Ok.ensures.serves.serves in
    whole_serves g.P.Party.me c.args.hello.now (g.L.Links.state c.args.links.now) (g.L.Links.state c.serve_from.new.links) (held c.args.miner) h.taken
    h.drew (held c.in-Ok.served.miner) c.in-Ok.served.ending h.ok

pub returns-in-Err-Node-clause-stopped : goal.returns-in-Err-Node-clause-stopped
returns-in-Err-Node-clause-stopped g c =
    let i = g.P.Party.me in
    let hello = c.args.hello.now in
    let a = g.L.Links.state c.args.links.now in
    let b = g.L.Links.state c.serve_from.new.links in
    let m = held c.args.miner in
    let h = c.in-Err-Node.ensures.serves.serves in
    whole_stops i hello a b m h.taken h.drew c.in-Err-Node.e
    (subst (λ x. StopsSo i hello a b no_words no_words m h.taken x) c.in-Err-Node.field-0-is h.err)

pub returns-in-Err-TapeFault-clause-stopped : goal.returns-in-Err-TapeFault-clause-stopped
returns-in-Err-TapeFault-clause-stopped g c =
    let i = g.P.Party.me in
    let hello = c.args.hello.now in
    let a = g.L.Links.state c.args.links.now in
    let b = g.L.Links.state c.serve_from.new.links in
    let m = held c.args.miner in
    let h = c.in-Err-TapeFault.ensures.serves.serves in
    let is : c.in-Err-TapeFault.field-0 ≡ TapeFault = cc in
    let stops = subst (λ x. StopsSo i hello a b no_words no_words m h.taken x) is h.err in
    whole_stops i hello a b m h.taken h.drew Memory stops.0

pub returns-in-Ok-clause-order : goal.returns-in-Ok-clause-order
returns-in-Ok-clause-order g c =
    let h = c.in-Ok.ensures.serves in
    whole_order g.P.Party.me c.args.hello.now (g.L.Links.state c.args.links.now) (g.L.Links.state c.serve_from.new.links) (held c.args.miner) h.serves.taken
    h.serves.drew h.order

pub returns-in-Err-Node-clause-order : goal.returns-in-Err-Node-clause-order
returns-in-Err-Node-clause-order g c =
    let h = c.in-Err-Node.ensures.serves in
    whole_order g.P.Party.me c.args.hello.now (g.L.Links.state c.args.links.now) (g.L.Links.state c.serve_from.new.links) (held c.args.miner) h.serves.taken
    h.serves.drew h.order

pub returns-in-Err-TapeFault-clause-order : goal.returns-in-Err-TapeFault-clause-order
returns-in-Err-TapeFault-clause-order g c =
    let h = c.in-Err-TapeFault.ensures.serves in
    whole_order g.P.Party.me c.args.hello.now (g.L.Links.state c.args.links.now) (g.L.Links.state c.serve_from.new.links) (held c.args.miner) h.serves.taken
    h.serves.drew h.order
