use Rattle.clap.specs.Words.{with_subcommand}
use Rattle.command_words.specs.Shapes.{compile_app, upgrade_app}
use Rattle.command_words.specs.inner.Parts.{checking_app, program_app}
use Rattle.command_words.proofs.builders.program_commands.Goals as goal

pub returns : goal.returns
unfolding program_app
returns c =
    c.with_command.ensures (with_subcommand checking_app compile_app.top) upgrade_app
    (c.with_command-compiled.ensures checking_app compile_app c.checking_commands.ensures c.compile_command.ensures) c.upgrade_command.ensures
