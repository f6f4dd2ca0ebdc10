use Rattle.shared_gates.proofs.Models.{gates-sound, gates-private}
use Rattle.shared_gates.proofs.laws.run_gates_are_sound_and_private.Goals as goal

pub returns-clause-sound : goal.returns-clause-sound
returns-clause-sound c = gates-sound

pub returns-clause-private : goal.returns-clause-private
returns-clause-private c = gates-private
