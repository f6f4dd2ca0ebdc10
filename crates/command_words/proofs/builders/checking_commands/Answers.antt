use Rattle.command_words.specs.Shapes.{check_app}
use Rattle.command_words.specs.inner.Parts.{checking_app, clear_app}
use Rattle.command_words.proofs.builders.checking_commands.Goals as goal

pub returns : goal.returns
unfolding checking_app
returns c = c.with_command.ensures clear_app check_app c.clear_commands.ensures c.check_command.ensures
