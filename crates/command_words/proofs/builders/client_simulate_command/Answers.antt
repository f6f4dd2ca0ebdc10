use Rattle.command_words.specs.Shapes.{client_simulate_app}
use Rattle.command_words.specs.inner.Parts.{client_simulate_required}
use Rattle.command_words.proofs.builders.client_simulate_command.Goals as goal

pub returns : goal.returns
unfolding client_simulate_app client_simulate_required
returns c = rw c.client_simulate_required.ensures at c.client_command.ensures
