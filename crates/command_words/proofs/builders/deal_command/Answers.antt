use Rattle.std.proofs.Common.{codes}
use Rattle.clap.specs.Words.{new_app}
use Rattle.command_words.specs.Shapes.{command_app, deal_app, with_options}
use Rattle.command_words.proofs.builders.deal_command.Goals as goal

pub returns : goal.returns
unfolding deal_app command_app with_options
returns c =
    rw c.as_slice.ensures at (c.with_options.ensures (new_app (codes "deal")) (record { shape = c.new.ensures.app; local = c.new.ensures.local }))
