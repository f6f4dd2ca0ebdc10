use Rattle.clap.specs.Words.{with_subcommand}
use Rattle.command_words.specs.Shapes.{map_app, simulate_app, twin_app}
use Rattle.command_words.specs.inner.Parts.{program_app, viewing_app}
use Rattle.command_words.proofs.builders.viewing_commands.Goals as goal

pub returns : goal.returns
unfolding viewing_app
returns c =
    c.with_command.ensures (with_subcommand (with_subcommand program_app map_app.top) simulate_app.top) twin_app
    (c.with_command-simulated.ensures (with_subcommand program_app map_app.top) simulate_app
    (c.with_command-mapped.ensures program_app map_app c.program_commands.ensures c.map_command.ensures)
    c.simulate_command.ensures)
    c.twin_command.ensures
