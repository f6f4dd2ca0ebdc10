use Rattle.honest_miners.proofs.Fronts.{hellos_come_whole}
use Rattle.honest_miners.proofs.frame_laws.fronts_of_hellos_are_hellos.Goals as goal

pub returns : goal.returns
returns c = hellos_come_whole
