use Rattle.std.proofs.Common.{◌∙◌, ap}
use Rattle.gates.specs.Clear.{value}
use Rattle.view_simulator.proofs.Receiving.{exchange-received}
use Rattle.view_simulator.proofs.simulator.Simulator.receive_exchange.Goals as goal

pub returns : goal.returns
returns g c =
    let i = g.P.Party.me in
    let s = c.args.self.now in
    let x = c.args.gate in
    exchange-received i s x
    (record { node = c.deliver_next.new.node; mails = c.add_blocks.new.mails; opened = c.cut.result.1; tapes = c.draw-words.result.1 })
    c.deliver_previous.new.node c.len-previous.result c.len-next.result c.number.result c.value-u.result.now c.draw-words.result.0 c.cut.result.0.now
    c.opens.result c.number.ensures (c.value-u.ensures ∙ ap (λ v. value v x.u) c.values.ensures) c.draw-words.ensures.drawn c.opens.ensures c.cut.ensures.front
    c.in_ok-add_blocks.ensures c.len-previous.ensures c.len-next.ensures c.in_ok-deliver_previous.ensures c.in_ok-deliver_next.ensures
    c.cut.ensures.behind c.draw-words.ensures.left
