use Rattle.command_words.specs.Shapes.{load_app}
use Rattle.command_words.specs.inner.Parts.{loading_app, client_viewing_app}
use Rattle.command_words.proofs.builders.loading_commands.Goals as goal

pub returns : goal.returns
unfolding loading_app
returns c = c.with_command.ensures client_viewing_app load_app c.client_viewing_commands.ensures c.load_command.ensures
