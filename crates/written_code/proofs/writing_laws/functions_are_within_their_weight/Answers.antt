use Rattle.written_code.proofs.Weights.{within_weight}
use Rattle.written_code.proofs.writing_laws.functions_are_within_their_weight.Goals as goal

pub returns : goal.returns
returns c = within_weight
