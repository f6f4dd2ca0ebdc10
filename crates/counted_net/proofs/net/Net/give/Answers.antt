use Rattle.std.proofs.Common.{◌∙◌, ap, arith}
use Rattle.proto_core.specs.Parties.{receiver_of}
use Rattle.counted_net.specs.Nets.{after, state_of, NetState}
use Rattle.counted_net.proofs.Together.{given_few, net_more, unread_few}
use Rattle.counted_net.proofs.net.Net.give.Goals as goal

pub add-requires : goal.add-requires
add-requires c =
    let n = c.self.inside in
    let few = given_few n.scripts.now n.delivered.items n.miners n.given c.args.self.now c.self.view_is c.self.invariant c.args.link in
    let small = n.delivered.small in
    let ok = n.delivered.ok in
    omega arith

pub receive-requires-clause-placed : goal.receive-requires-clause-placed
receive-requires-clause-placed c = λ i. (c.self.invariant.settled i).behind.placed

pub receive-requires-clause-room : goal.receive-requires-clause-room
receive-requires-clause-room c =
    let n = c.self.inside in
    let few =
    unread_few n.scripts.now n.delivered.items n.miners n.given c.args.self.now c.self.view_is c.self.invariant (receiver_of c.args.link) c.args.link in
    let small = n.delivered.small in
    let ok = n.delivered.ok in
    omega arith

pub invariant_of-self-2 : goal.invariant_of-self-2
invariant_of-self-2 c =
    let n = c.self.inside in
    net_more n.scripts.now n.delivered.items c.push.new.self.items c.args.link n.miners c.receive.new.self n.given c.add.new.self c.in_ok-push.ensures.items
    c.add.ensures c.receive.ensures c.self.invariant

pub returns-clause-after : goal.returns-clause-after
returns-clause-after c =
    ap (state_of c.self.inside.scripts.now) c.in_ok-push.ensures.items ∙ ap (λ (n : NetState). after n c.args.link) c.self.view_is

pub returns-clause-bound : goal.returns-clause-bound
returns-clause-bound c =
    let small = c.push.new.self.small in
    let ok = c.push.new.self.ok in
    omega arith
