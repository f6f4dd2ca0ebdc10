use Rattle.command_words.specs.Shapes.{gather_app}
use Rattle.command_words.specs.inner.Parts.{gathering_app, loading_app}
use Rattle.command_words.proofs.builders.gathering_commands.Goals as goal

pub returns : goal.returns
unfolding gathering_app
returns c = c.with_command.ensures loading_app gather_app c.loading_commands.ensures c.gather_command.ensures
