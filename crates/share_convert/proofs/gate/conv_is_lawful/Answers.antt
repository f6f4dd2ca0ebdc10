use Rattle.share_convert.specs.ConvertingLaws.{conv_lawful}
use Rattle.share_convert.proofs.gate.conv_is_lawful.Goals as goal

pub returns : goal.returns
returns c = conv_lawful
