use Rattle.trio_command.proofs.Launches.{may_launch}
use Rattle.trio_command.proofs.LaunchesBack.{as_launched}
use Rattle.trio_command.proofs.laws.calls_tell_the_launch.Goals as goal

pub returns : goal.returns
returns c = λ words old new. (as_launched words old new, may_launch)
