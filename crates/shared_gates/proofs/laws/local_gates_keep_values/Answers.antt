use Rattle.shared_gates.proofs.LocalGates.{local-held}
use Rattle.shared_gates.proofs.laws.local_gates_keep_values.Goals as goal

pub returns : goal.returns
returns c =
    λ dealt_kinds kinds inputs values dealt shares gate inputs_held held local kinded suits.
    local-held dealt_kinds kinds inputs values dealt shares inputs_held held gate local kinded suits
