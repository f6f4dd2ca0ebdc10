use Rattle.clap.specs.Words.{with_subcommand}
use Rattle.command_words.specs.Shapes.{client_map_app, client_simulate_app, client_twin_app}
use Rattle.command_words.specs.inner.Parts.{viewing_app, client_viewing_app}
use Rattle.command_words.proofs.builders.client_viewing_commands.Goals as goal

pub returns : goal.returns
unfolding client_viewing_app
returns c =
    c.with_command.ensures (with_subcommand (with_subcommand viewing_app client_map_app.top) client_simulate_app.top) client_twin_app
    (c.with_command-simulated.ensures (with_subcommand viewing_app client_map_app.top) client_simulate_app
    (c.with_command-mapped.ensures viewing_app client_map_app c.viewing_commands.ensures c.client_map_command.ensures)
    c.client_simulate_command.ensures)
    c.client_twin_command.ensures
