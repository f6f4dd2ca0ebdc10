use Rattle.gather_command.proofs.OneDealing.{gathered_is_dealt, one_can_deal}
use Rattle.gather_command.proofs.apart.dealing_apart_is_one_dealing.Goals as goal

pub returns : goal.returns
returns c = record { dealt = gathered_is_dealt; enough = one_can_deal }
