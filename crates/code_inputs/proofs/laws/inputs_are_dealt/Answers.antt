use Rattle.code_inputs.proofs.Offering.{are_dealt, are_offered}
use Rattle.code_inputs.proofs.laws.inputs_are_dealt.Goals as goal

pub returns : goal.returns
returns c = record { dealt = are_dealt; offered = are_offered }
