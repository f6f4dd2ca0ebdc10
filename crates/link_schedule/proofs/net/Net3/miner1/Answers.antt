use Rattle.proto_core.specs.declared.party.Number.TheVariants.{One}
use Rattle.link_schedule.proofs.Nets.{miner_of_net}
use Rattle.link_schedule.proofs.net.Net3.miner1.Goals as goal

pub returns-clause-miner : goal.returns-clause-miner
returns-clause-miner c = λ s is going.
    let h = is.works going in miner_of_net s c.args.self.now h One c.args.self.now.miners.one h.are.one
