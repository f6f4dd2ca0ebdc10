use Rattle.miner_node.proofs.Along.{tape_lost}
use Rattle.miner_node.proofs.serving.lost_its_tape.Goals as goal

pub returns-in-Err-Lost-TapeFault : goal.returns-in-Err-Lost-TapeFault
returns-in-Err-Lost-TapeFault g c = λ so. tape_lost c.args.miner.now.lost c.stands.result c.stands.ensures.of_use c.stands.ensures.lost cc
