use Rattle.view_simulator.proofs.Receiving.{reach-in}
use Rattle.view_simulator.proofs.simulator.Simulator.receive.Goals as goal

pub receive_exchange-requires : goal.receive_exchange-requires
receive_exchange-requires g c =
    reach-in g.P.Party.me c.args.self.now c.args.gate.now c.in-Some.exchanged c.in-Some.ensures.some c.requires
