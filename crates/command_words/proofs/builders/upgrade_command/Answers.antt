use Rattle.std.proofs.Common.{codes}
use Rattle.clap.specs.Words.{new_app}
use Rattle.command_words.specs.Shapes.{command_app, upgrade_app, with_options}
use Rattle.command_words.proofs.builders.upgrade_command.Goals as goal

pub returns : goal.returns
unfolding upgrade_app command_app with_options
returns c =
    let worded = c.with_word-command.ensures (new_app (codes "upgrade")) (record { shape = c.new.ensures.app; local = c.new.ensures.local }) in
    rw c.as_slice.ensures at (c.with_options.ensures _ worded)
