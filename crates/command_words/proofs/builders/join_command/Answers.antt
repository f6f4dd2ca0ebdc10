use Rattle.std.proofs.Common.{codes}
use Rattle.clap.specs.Words.{new_app}
use Rattle.command_words.specs.Shapes.{command_app, join_app, with_options}
use Rattle.command_words.proofs.builders.join_command.Goals as goal

pub returns : goal.returns
unfolding join_app command_app with_options
returns c =
    let one = c.with_word-command.ensures (new_app (codes "join")) (record { shape = c.new.ensures.app; local = c.new.ensures.local }) in
    c.with_word.ensures _ (c.with_word-command-2.ensures _ one)
