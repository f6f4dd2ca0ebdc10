use Rattle.std.proofs.Common.{[], ap}
use Rattle.shared_gates.specs.Model.{run_gates}
use Rattle.view_simulator.specs.Need.{made_shares}
use Rattle.view_simulator.proofs.InputPieces.{sizes-made}
use Rattle.view_simulator.proofs.share_laws.made_shares_are_sized.Goals as goal

pub returns-clause-sizes : goal.returns-clause-sizes
returns-clause-sizes c = λ miner part words enough. sizes-made miner part words enough

pub returns-clause-gates : goal.returns-clause-gates
returns-clause-gates c =
    λ miner part words gates enough. ap (λ sizes. run_gates (λ k. made_shares miner part words) sizes [] gates) (sizes-made miner part words enough)
