use Rattle.split_share.specs.SplittingLaws.{split_lawful}
use Rattle.split_share.proofs.gate.split_is_lawful.Goals as goal

pub returns : goal.returns
returns c = split_lawful
