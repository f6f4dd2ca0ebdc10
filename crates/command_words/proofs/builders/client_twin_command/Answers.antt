use Rattle.command_words.specs.Shapes.{client_twin_app}
use Rattle.command_words.proofs.builders.client_twin_command.Goals as goal

pub returns : goal.returns
unfolding client_twin_app
returns c = rw c.as_slice.ensures at c.client_command.ensures
