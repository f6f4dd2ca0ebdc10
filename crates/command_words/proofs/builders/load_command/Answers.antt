use Rattle.std.proofs.Common.{codes}
use Rattle.clap.specs.Words.{new_app}
use Rattle.command_words.specs.Shapes.{command_app, load_app, with_options}
use Rattle.command_words.proofs.builders.load_command.Goals as goal

pub returns : goal.returns
unfolding load_app command_app with_options
returns c =
    rw c.as_slice.ensures at (c.with_options.ensures (new_app (codes "load")) (record { shape = c.new.ensures.app; local = c.new.ensures.local }))
