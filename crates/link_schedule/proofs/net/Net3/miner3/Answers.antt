use Rattle.proto_core.specs.declared.party.Number.TheVariants.{Three}
use Rattle.link_schedule.proofs.Nets.{miner_of_net}
use Rattle.link_schedule.proofs.net.Net3.miner3.Goals as goal

pub returns-clause-miner : goal.returns-clause-miner
returns-clause-miner c = λ s is going.
    let h = is.works going in miner_of_net s c.args.self.now h Three c.args.self.now.miners.three h.are.three
