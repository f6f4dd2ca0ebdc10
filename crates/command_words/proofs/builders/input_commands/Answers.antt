use Rattle.clap.specs.Words.{with_subcommand}
use Rattle.command_words.specs.Shapes.{bare_app, run_app, deal_app}
use Rattle.command_words.specs.inner.Parts.{input_app}
use Rattle.command_words.proofs.builders.input_commands.Goals as goal

pub returns : goal.returns
unfolding input_app
returns c =
    c.with_command.ensures (with_subcommand bare_app run_app.top) deal_app
    (c.with_command-run.ensures bare_app run_app c.bare_command.ensures c.run_command.ensures) c.deal_command.ensures
