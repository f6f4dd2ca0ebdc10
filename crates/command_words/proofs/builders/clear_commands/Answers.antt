use Rattle.std.proofs.Common.{codes}
use Rattle.clap.specs.Words.{with_subcommand}
use Rattle.command_words.specs.Shapes.{evaluation_app}
use Rattle.command_words.specs.inner.Parts.{input_app, clear_app}
use Rattle.command_words.proofs.builders.clear_commands.Goals as goal

pub returns : goal.returns
unfolding clear_app
returns c =
    c.with_command.ensures (with_subcommand input_app (evaluation_app (codes "eval")).top) (evaluation_app (codes "need"))
    (c.with_command-eval.ensures input_app (evaluation_app (codes "eval")) c.input_commands.ensures c.evaluation_command.ensures) c.evaluation_command-2.ensures
