use Rattle.shared_gates.proofs.LocalGates.{laws_of}
use Rattle.client_model.proofs.Told.{told-whole}
use Rattle.client_model.proofs.laws.told_values_keep_a_view.Goals as goal

pub returns : goal.returns
returns c = λ ring. told-whole (laws_of ring)
