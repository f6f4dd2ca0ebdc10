use Rattle.std.proofs.Common.{codes}
use Rattle.clap.specs.Words.{new_app}
use Rattle.command_words.specs.Shapes.{check_app, command_app, with_options}
use Rattle.command_words.proofs.builders.check_command.Goals as goal

pub returns : goal.returns
unfolding check_app command_app with_options
returns c =
    c.with_word.ensures (new_app (codes "check")) (record { shape = c.new.ensures.app; local = c.new.ensures.local })
