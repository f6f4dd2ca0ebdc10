use Rattle.proto_core.proofs.Strands.{run-more}
use Rattle.protocol_model.proofs.laws.more_mail_extends.Goals as goal

pub returns : goal.returns
returns c = λ s x y h. run-more s x y h
